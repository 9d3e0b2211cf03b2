-- What rounding to the nearest whole number means, a half to the even neighbour, without a formula for it. Assumes nothing.
use Rattle.std.specs.Prelude.{◌≡◌, ℕ, ◌+◌, ◌*◌, ◌%◌, ◌≤◌}

abbrev pub Even : ℕ → Type 0
Even n = n % 2 ≡ 0

-- s is within a half of 100 × part / whole, and even where it is just a half away: 200 × part and 2 × s × whole differ by at most whole, and by whole only if s is even.
pub record Rounds (part whole s : ℕ) : Type 0 where
  pub not_above : 2 * (s * whole) ≤ 200 * part + whole
  pub not_below : 200 * part ≤ 2 * (s * whole) + whole
  pub half_above : 2 * (s * whole) ≡ 200 * part + whole → Even s
  pub half_below : 200 * part ≡ 2 * (s * whole) + whole → Even s
