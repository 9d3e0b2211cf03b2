-- `trail::line_length` meets its contract: the walk has not met generation 0 before, so it ends within the line's steps. Assumes nothing.
use Prim.Native.Nat.{◌-◌}
use Rattle.judging.specs.Inner.Nodes.{from_of}
use Rattle.judging.proofs.TrailLaws.{Lining}
use Rattle.judging.proofs.trail.line_length.Given as goal

abbrev pub invariant-loop-y : goal.invariant-loop-y
invariant-loop-y l = Lining l.generations (from_of l.raises) l.x l.y l.k

abbrev pub decreases-loop-y : goal.decreases-loop-y
decreases-loop-y l = l.n - l.k
