-- Bytes that hold no end of a line. Assumes nothing.
use Rattle.std.specs.Prelude.{◌≡◌, List, ℕ, ◌≤◌, ◌<◌, get_or}

-- From i up to e, which is not before i, no byte is 10.
pub record Clear (s : List ℕ) (i e : ℕ) : Type 0 where
  pub ahead : i ≤ e
  pub never : (j : ℕ) → i ≤ j → j < e → get_or s j 0 ≡ 10 → ⊥
