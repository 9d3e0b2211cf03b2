-- `same` meets its contract: the values at the first places of the carried marks are compared, place by place. Assumes nothing.
use Prim.Native.Nat.{◌-◌}
use Rattle.running.specs.Inner.Held.{row_at}
use Rattle.running.specs.Inner.Firing.{rule_at}
use Rattle.running.proofs.PairLaws.{SameTo}
use Rattle.running.proofs.pairs.same.Given as goal

abbrev pub invariant-loop-p : goal.invariant-loop-p
invariant-loop-p l = SameTo (rule_at l.table l.r) (row_at l.rows l.i) (row_at l.rows l.j) l.p

abbrev pub decreases-loop-p : goal.decreases-loop-p
decreases-loop-p l = 7 - l.p
