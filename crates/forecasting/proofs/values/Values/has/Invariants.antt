-- `forecasting::values::Values::has` meets its contract. The loop's invariant: the values that the chain has passed are others. The measure is the place. Assumes nothing.
use Rattle.forecasting.specs.Inner.Values.{bucket_of}
use Rattle.forecasting.proofs.ValueLaws.{Seeks}
use Rattle.forecasting.proofs.values.Values.has.Given as goal

abbrev pub invariant-loop-at : goal.invariant-loop-at
invariant-loop-at l =
    let v = l.self-inside in
    Seeks v.by v.held v.count l.x (bucket_of v.by l.x) l.at

abbrev pub decreases-loop-at : goal.decreases-loop-at
decreases-loop-at l = l.at
