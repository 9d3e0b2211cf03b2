-- `trail::put_way` meets its contract: what is left to put, put before what stands, gives the whole way. Assumes nothing.
use Rattle.judging.proofs.TrailLaws.{PuttingWay}
use Rattle.judging.proofs.trail.put_way.Given as goal

abbrev pub invariant-loop-at : goal.invariant-loop-at
invariant-loop-at l = PuttingWay l.initial.steps l.ways l.count l.s l.k l.steps l.x l.at
