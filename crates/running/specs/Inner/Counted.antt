-- Firings counted rule by rule: no pair is noted before. Assumes nothing.
use Rattle.std.specs.Prelude.{◌≡◌, List, ℕ, ◌+◌, ◌<◌, length, get_or}

-- The chains of the pairs are empty.
pub record NoPairs (index : List ℕ) : Type 0 where
  pub size : length index ≡ 24576
  pub empty : (b : ℕ) → b < 4096 → get_or index (8192 + b) 0 ≡ 0
