-- The search for the shapes of the rows. Assumes nothing.
use Rattle.std.specs.Prelude.{◌≡◌, List, ℕ, suc, ◌<◌, Option, Some, None}
use Rattle.std.proofs.Math.Option.{some}
use Rattle.chase.specs.Rules.{Rule, nth}
use Rattle.chase.specs.Making.{Record}
use Rattle.chase.specs.Shape.{shape_of}
use Rattle.chase.specs.Counting.{MoreThan}
use Rattle.chase.specs.Simplification.{Derived}
use Rattle.judging.specs.Inner.Found.{Has, Kept}

-- The first n shapes, among them those of the first `row` rows.
pub record RowsFound (rules : List Rule) (rows : List Record) (codes index : List ℕ) (ways : List (List ℕ)) (n row : ℕ) : Type 0 where
  pub kept : Kept rules rows codes index ways n
  pub rows_in : (k : ℕ) (x : Record) → k < row → nth rows (suc k) ≡ some x → Has codes n (shape_of x)

-- What the search for the shapes of so many rows answers: how many shapes there are, or that there are more than 512.
abbrev pub RowsTried : List Rule → List Record → List ℕ → List ℕ → List (List ℕ) → ℕ → Option ℕ → Type 0
RowsTried rules rows codes index ways row (Some n) = RowsFound rules rows codes index ways n row
RowsTried rules rows codes index ways row None = MoreThan (Derived rules rows) 512
