-- `trail::put_links` meets its contract: what is left to put, put before what stands, gives the whole line. Assumes nothing.
use Rattle.judging.proofs.TrailLaws.{line_next}
use Rattle.judging.proofs.trail.put_links.Goals as goal

pub loop-left-preserved : goal.loop-left-preserved
loop-left-preserved c =
    line_next c.loop-left.invariant c.loop-left-test.true c.from_of-u.result c.link_of-code.result c.from_of-u.ensures
    c.link_of-code.ensures _ c.put_step.ensures
