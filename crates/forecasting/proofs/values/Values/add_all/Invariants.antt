-- `forecasting::values::Values::add_all` meets its contract. The invariant: the values passed are added. Assumes nothing.
use Rattle.std.specs.Prelude.{◌≡◌, take}
use Rattle.std.proofs.Math.Decide.{ℕ_discrete}
use Rattle.patterns.specs.Pattern.{add_all}
use Rattle.forecasting.proofs.values.Values.add_all.Given as goal

abbrev pub invariant-loop-x : goal.invariant-loop-x
invariant-loop-x l = l.self ≡ add_all ℕ_discrete (take l.x-index l.row) l.initial.self
