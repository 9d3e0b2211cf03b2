-- `judging::shape::shape_code` meets its contract: `pattern` gives the pattern's number, since there are one to six numbers. Assumes nothing.
use mathlib.Core.Path.{sym, ap, ◌∙◌}
use Prim.Native.Nat.{◌+◌, ◌-◌, ◌*◌, ◌<◌, ◌≤◌}
use native.Mathlib.Omega.{arith}
use Rattle.patterns.specs.Pattern.{numbers_pattern, pattern_says}
use Rattle.judging.specs.Inner.Codes.{CodeIs}
use Rattle.judging.proofs.CodeLaws.{code_is}
use Rattle.judging.proofs.shape.shape_code.Goals as goal
use Rattle.judging.proofs.shape.shape_code.Goals.{In-Some}

-- What the pattern's number makes.
code : (c : In-Some)
    → (278 * (c.args.kind - 1) + c.in-Some.n < 17793)
    × (1 ≤ c.in-Some.n)
    × CodeIs c.args.kind
    (numbers_pattern c.args.numbers.now)
    (278 * (c.args.kind - 1) + c.in-Some.n - 1)
code c =
    code_is c.args.kind c.in-Some.n c.args.numbers.now c.requires.0 c.requires.1 c.requires.2
    (ap pattern_says (sym c.in-Some.is) ∙ c.pattern.ensures)

pub overflow_add-result : goal.overflow_add-result
overflow_add-result c = omega (arith, (code (goal.at.overflow_add-result c).In-Some).0)

pub overflow_sub-result-in-Some : goal.overflow_sub-result-in-Some
overflow_sub-result-in-Some c = omega (arith, (code (goal.at.overflow_sub-result-in-Some c).In-Some).1)

pub returns-in-Some : goal.returns-in-Some
returns-in-Some c = (code (goal.at.returns-in-Some c).In-Some).2
