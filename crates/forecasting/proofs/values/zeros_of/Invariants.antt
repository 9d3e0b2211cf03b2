-- `forecasting::values::zeros_of` meets its contract. The invariant: how many of the values passed are 0. Assumes nothing.
use Rattle.std.specs.Prelude.{◌≡◌, take}
use Rattle.carrying.specs.Carrying.{zeros}
use Rattle.forecasting.proofs.values.zeros_of.Given as goal

abbrev pub invariant-loop-x : goal.invariant-loop-x
invariant-loop-x l = l.zeros ≡ zeros (take l.x-index l.row)
