-- `firings_of` meets its contract: the pairs that are noted are those of the rule on the records passed. Assumes nothing.
use Prim.Native.Nat.{◌-◌}
use Rattle.running.proofs.CountLaws.{Counting}
use Rattle.running.proofs.firings.firings_of.Given as goal

abbrev pub invariant-loop-i : goal.invariant-loop-i
invariant-loop-i l = Counting l.table l.rows l.index l.rules l.r l.count l.by l.n l.i

abbrev pub decreases-loop-i : goal.decreases-loop-i
decreases-loop-i l = l.count - l.i
