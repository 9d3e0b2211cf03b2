-- `forecasting::values::zeros_of` meets its contract: a value that is 0 counts one more. Assumes nothing.
use native.Mathlib.Omega.{arith}
use native.Mathlib.Numerals.{add-one}
use mathlib.Core.Path.{ap}
use lib.ListN.{take, length-take}
use Rattle.carrying.specs.Carrying.{zeros}
use Rattle.carrying.proofs.FilledLaws.{one_zero, no_zero_there}
use Rattle.forecasting.proofs.ValueLaws.{zeros_few}
use Rattle.forecasting.proofs.values.zeros_of.Goals as goal
use Rattle.forecasting.proofs.values.zeros_of.Goals.{then-x-eq0, else-x-eq0}

pub overflow_add-zeros : goal.overflow_add-zeros
overflow_add-zeros c =
    let passed = take c.loop-x.x-index c.args.row.now in
    omega (arith, c.loop-x.invariant, zeros_few passed, length-take c.loop-x.x-index c.args.row.now, c.loop-x-test.true)

pub loop-x-preserved : goal.loop-x-preserved
loop-x-preserved c =
    let at = c.loop-x.x-index in
    let row = c.args.row.now in
    elim c.if-x-eq0.branch [
      | then-x-eq0 w ↦ omega (arith, w.zeros-is, c.loop-x.invariant, ap (λ n. zeros (take n row)) (add-one at), one_zero row at c.loop-x-test.true w.if-x-eq0.true)
      | else-x-eq0 w ↦ omega (arith, w.zeros-is, c.loop-x.invariant, ap (λ n. zeros (take n row)) (add-one at), no_zero_there row at w.if-x-eq0.false)
    ]
