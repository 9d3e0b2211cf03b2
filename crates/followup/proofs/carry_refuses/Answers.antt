-- `followup::carry_refuses` meets its contract: the refusals' numbers are small. Assumes nothing.
use mathlib.Core.Path.{◌∙◌}
use Prim.Native.Nat.{◌≤◌}
use native.Mathlib.Omega.{arith}
use Rattle.running.specs.Answer.{carry_refusal_number}
use Rattle.running.specs.declared.CarryRefusal.{CarryRefusal}
use Rattle.running.specs.declared.CarryRefusal.TheVariants.{RecordsShort, LineWrong, ShapesOver, Endless, RecordsOver, NumberOver}
use Rattle.followup.proofs.carry_refuses.Goals as goal

small : (r : CarryRefusal) → carry_refusal_number r ≤ 23
small RecordsShort = omega arith
small (LineWrong line) = omega arith
small ShapesOver = omega arith
small Endless = omega arith
small RecordsOver = omega arith
small NumberOver = omega arith

pub overflow_cast-said : goal.overflow_cast-said
overflow_cast-said c = omega (arith, c.refusal_numbers-said.ensures.0, small c.args.refusal)

pub returns : goal.returns
returns c =
    let e = c.not_carried.ensures in
    let numbers = c.refusal_numbers-said.ensures in
    (e.0 ∙ numbers.0, e.1 ∙ numbers.1, e.2, e.3)
