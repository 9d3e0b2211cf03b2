-- `trail::line_start` meets its contract: the links that are left lead on to the line's start. Assumes nothing.
use Prim.Native.Nat.{◌+◌, ◌-◌}
use native.Mathlib.Omega.{arith}
use Rattle.judging.proofs.TrailLaws.{start_next}
use Rattle.judging.proofs.trail.line_start.Goals as goal

pub loop-preserved : goal.loop-preserved
loop-preserved c =
    start_next c.loop.invariant (c.args.k - (c.loop.counter + 1)) (omega arith) c.from_of-y.result c.from_of-y.ensures
