-- `trail::line_start` meets its contract: the links that are left lead on to the line's start. Assumes nothing.
use Prim.Native.Nat.{◌-◌}
use Rattle.judging.specs.Inner.Nodes.{from_of}
use Rattle.judging.proofs.TrailLaws.{Starting}
use Rattle.judging.proofs.trail.line_start.Given as goal

abbrev pub invariant-loop : goal.invariant-loop
invariant-loop l = Starting (from_of l.raises) l.k l.x l.y (l.k - l.counter)
