-- `line_end` meets its contract. `skip` passes no byte 10. The loop's invariant: the end as seen from i is the line's end. The measure is what is left of the text. Assumes nothing.
use Prim.Native.Nat.{◌-◌}
use mathlib.Core.Path.{◌≡◌}
use lib.ListN.{length, drop}
use Rattle.walker.specs.Walk.{line_length, line_end}
use Rattle.walker.proofs.Walking.{reach}
use Rattle.walker.proofs.line_end.Given as goal

abbrev pub invariant-loop-i : goal.invariant-loop-i
invariant-loop-i l = line_end l.text l.at ≡ reach l.at l.i (line_length (drop l.i l.text))

abbrev pub decreases-loop-i : goal.decreases-loop-i
decreases-loop-i l = length l.text - l.i
