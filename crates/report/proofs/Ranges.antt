-- Numbers that have columns. Assumes nothing.
use mathlib.Core.Path.{◌≡◌, refl, ap}
use mathlib.Core.Bool.{Bool, true, ◌&&◌}
use mathlib.Core.List.{List, [], ◌∷◌}
use Prim.Native.Nat.{ℕ, ◌≤◌}
use borrow.Author.Tests.{le-leb}
use Rattle.patterns.specs.Lists.{All}
use Rattle.columns.specs.Column.{largest_number}
use Rattle.sheet.specs.Line.{in_range}
use lib.Dec.{leb}
use Rattle.std.specs.List.{list_all}

pub in_range_all : (ns : List ℕ) → All (λ (n : ℕ). n ≤ largest_number) ns → in_range ns ≡ true
in_range_all [] h = refl
in_range_all (n ∷ ns) h = rw (le-leb n largest_number h.0) (in_range_all ns h.1)

-- What the code tests.
pub all_in_range : (ns : List ℕ) → list_all (λ n. leb n largest_number) ns ≡ in_range ns
all_in_range [] = refl
all_in_range (n ∷ ns) = ap (λ (t : Bool). leb n largest_number && t) (all_in_range ns)
