-- The shape that an H line makes, worked out with the digits of the shape that it is made of. Assumes nothing.
use Rattle.std.specs.Prelude.{List, ℕ, suc, ◌+◌, length}
use Rattle.std.proofs.Math.Decide.{ℕ_discrete}
use Rattle.patterns.specs.Pattern.{pattern}
use Rattle.chase.specs.Rules.{Head, Rule}
use Rattle.chase.specs.Making.{makes}
use Rattle.chase.specs.Shape.{Shape}

-- What stands for the fresh number of a mark among the digits of so many fields: it is above them all.
abbrev pub new_digit : ℕ → ℕ → List ℕ → ℕ
new_digit width m carried = suc (width + m)

-- The shape of what an H line makes, computed from the shape that it is made of.
abbrev pub shape_from : Rule → Shape → Head → Shape
shape_from r s h = record { kind = h.kind; pattern = pattern ℕ_discrete (makes (new_digit (length s.pattern)) r s.pattern h.marks) }
