-- Shapes as numbers. Assumes nothing.
use Rattle.std.specs.Prelude.{◌≡◌, Bool, List, [], map, ℕ, zero, suc, ◌+◌, ◌-◌, ◌*◌, ◌/◌, ◌%◌, ◌≤◌, ◌<◌, length, get_or, take}
use Rattle.std.proofs.Math.Decide.{ℕ_discrete}
use Rattle.patterns.specs.Pattern.{pattern, patterns, number_of}
use Rattle.patterns.specs.Outcome.{padded}
use Rattle.std.proofs.Math.Option.{some}
use Rattle.chase.specs.Rules.{Head, Rule, nth}
use Rattle.chase.specs.Simplification.{Applies}
use Rattle.chase.specs.Shape.{Shape}
pub use Rattle.chase.specs.Inner.Digits.{shape_from}
use Rattle.rules.specs.Table.{KindFits, first_place}
use Rattle.rules.specs.Inner.Tests.{Decides}

-- The shape that a number stands for.
unfoldable pub shape_at : ℕ → Shape
shape_at code = record { kind = code / 278 + 1; pattern = get_or patterns (code % 278) [] }

-- The number of a shape.
unfoldable pub code_of : Shape → ℕ
code_of s = 278 * (s.kind - 1) + (number_of s.pattern - 1)

-- A kind of a sheet, with the pattern of one to six fields.
pub record ShapeFits (s : Shape) : Type 0 where
  pub kind : KindFits s.kind
  pub some : 1 ≤ length s.pattern
  pub few : length s.pattern ≤ 6
  pub own : pattern ℕ_discrete s.pattern ≡ s.pattern

-- The number of the shape with a kind and a pattern.
pub record CodeIs (kind : ℕ) (pattern-is : List ℕ) (code : ℕ) : Type 0 where
  pub is : code ≡ code_of (record { kind = kind; pattern = pattern-is })
  pub small : code < 17792
  pub back : shape_at code ≡ record { kind = kind; pattern = pattern-is }

-- Six places of digits that are none of them above 6.
pub record DigitsFit (digits : List ℕ) : Type 0 where
  pub size : length digits ≡ 6
  pub small : (i : ℕ) → get_or digits i 0 ≤ 6

-- Whether a rule fires on a record of a kind and of digits in six places: for every shape that has them.
pub record FiresOn (r : Rule) (kind : ℕ) (digits : List ℕ) (answer : Bool) : Type 0 where
  pub each : (s : Shape) → ShapeFits s → kind ≡ s.kind → digits ≡ padded 6 s.pattern → Decides (Applies r s) answer

-- The shape that H line h of a rule, from 0, makes of such a record, where the rule fires on it.
pub record MadeOf (r : Rule) (h : ℕ) (digits : List ℕ) (code : ℕ) : Type 0 where
  pub small : code < 17792
  pub each : (s : Shape) (d : Head) → ShapeFits s → digits ≡ padded 6 s.pattern → Applies r s → nth r.heads (suc h) ≡ some d
      → (code ≡ code_of (shape_from r s d)) × (shape_at code ≡ shape_from r s d) × ShapeFits (shape_from r s d)

-- The number in a field of a made record, by its mark's first place in the body: the digit there, or a new one where the body has not the mark.
abbrev pub number_at : ℕ → ℕ → List ℕ → ℕ → ℕ
number_at width m digits zero = suc (width + m)
number_at width m digits (suc k) = get_or digits k 0

abbrev pub made_number : List ℕ → List ℕ → ℕ → ℕ
made_number marks digits m = number_at (length marks) m digits (first_place m marks)

-- The first n shapes.
abbrev pub shapes_in : List ℕ → ℕ → List Shape
shapes_in codes n = map shape_at (take n codes)
