-- `running::marks::fresh_marks` meets its contract. The invariant: the rules so far have theirs. Assumes nothing.
use Prim.Native.Nat.{◌-◌}
use Rattle.running.proofs.MarkLaws.{PreparedTo}
use Rattle.running.proofs.marks.fresh_marks.Given as goal

abbrev pub invariant-loop-r : goal.invariant-loop-r
invariant-loop-r l = PreparedTo l.table l.least l.fresh l.r

abbrev pub decreases-loop-r : goal.decreases-loop-r
decreases-loop-r l = l.rules - l.r
