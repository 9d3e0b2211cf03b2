-- `trail::put_way` meets its contract: what is left to put, put before what stands, gives the whole way. Assumes nothing.
use Rattle.judging.proofs.TrailLaws.{way_next}
use Rattle.judging.proofs.trail.put_way.Goals as goal

pub loop-at-preserved : goal.loop-at-preserved
loop-at-preserved c =
    way_next c.requires.0 c.loop-at.invariant c.loop-at-test.true _ c.put_step.ensures
