-- The order of the sweeps. Assumes nothing.
use Rattle.std.specs.Prelude.{◌≡◌, Bool, false, List, ℕ, ◌≤◌, ◌<◌, length, get_or}
use Rattle.judging.specs.Inner.Noted.{target_at}

-- Note k leads to a shape without a mark.
pub record Opens (notes : List (List ℕ)) (marks : List Bool) (count k : ℕ) : Type 0 where
  pub within : k < length notes
  pub place : target_at notes k < count
  pub bare : get_or marks (target_at notes k) false ≡ false

-- A number stands in a list from place `first` on and before `end`.
pub record Stands (list : List ℕ) (first end x : ℕ) : Type 0 where
  pub place : ℕ
  pub from : first ≤ place
  pub below : place < end
  pub is : get_or list place 0 ≡ x

-- The first `count` entries are the places below `count`, all of them.
pub record Ordered (order : List ℕ) (count : ℕ) : Type 0 where
  pub size : length order ≡ 512
  pub places : (i : ℕ) → i < count → get_or order i 0 < count
  pub covers : (x : ℕ) → x < count → Stands order 0 count x
