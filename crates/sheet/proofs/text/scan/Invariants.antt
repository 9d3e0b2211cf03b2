-- `sheet::text::scan` meets its contract. The loop's invariant is `Reading`: the lines so far are right and their numbers put. Each turn and each return is one of its laws.
-- The measure is the text's length less the lines so far. Assumes nothing.
use Prim.Native.Nat.{◌-◌}
use lib.ListN.{length}
use Rattle.sheet.proofs.Reading.{Reading}
use Rattle.sheet.proofs.text.scan.Given as goal

abbrev pub invariant-loop-at : goal.invariant-loop-at
invariant-loop-at l = Reading l.text l.initial.numbers l.seen l.at l.n l.numbers

abbrev pub decreases-loop-at : goal.decreases-loop-at
decreases-loop-at l = length l.text - l.n
