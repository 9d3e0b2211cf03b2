-- `trail::turn_length` meets its contract: the walk has not come back before, so it ends within the turn's period. Assumes nothing.
use Prim.Native.Nat.{◌-◌}
use Rattle.judging.specs.Inner.Nodes.{from_of}
use Rattle.judging.proofs.TrailLaws.{Turning}
use Rattle.judging.proofs.trail.turn_length.Given as goal

abbrev pub invariant-loop-z : goal.invariant-loop-z
invariant-loop-z l = Turning (from_of l.raises) l.y l.z l.k

abbrev pub decreases-loop-z : goal.decreases-loop-z
decreases-loop-z l = l.n - l.k
