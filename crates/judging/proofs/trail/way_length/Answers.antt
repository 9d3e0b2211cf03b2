-- `trail::way_length` meets its contract: each firing back leads to an earlier shape, and the walk ends at a row's. Assumes nothing.
use Rattle.judging.proofs.TrailLaws.{counting_next}
use Rattle.judging.proofs.trail.way_length.Goals as goal

pub loop-x-preserved : goal.loop-x-preserved
loop-x-preserved c =
    counting_next c.requires.0 c.loop-x.invariant c.loop-x-test.true
