-- `trail::way_length` meets its contract: each firing back leads to an earlier shape, and the walk ends at a row's. Assumes nothing.
use Rattle.judging.proofs.TrailLaws.{Counting}
use Rattle.judging.proofs.trail.way_length.Given as goal

abbrev pub invariant-loop-x : goal.invariant-loop-x
invariant-loop-x l = Counting l.ways l.count l.s l.x l.k

abbrev pub decreases-loop-x : goal.decreases-loop-x
decreases-loop-x l = l.x
