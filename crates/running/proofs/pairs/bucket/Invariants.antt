-- `pairs::bucket` meets its contract: the values at the first places of the carried marks are mixed, place by place. Assumes nothing.
use Prim.Native.Nat.{◌-◌}
use Rattle.running.specs.Inner.Held.{row_at}
use Rattle.running.specs.Inner.Firing.{rule_at}
use Rattle.running.proofs.PairLaws.{Mixing}
use Rattle.running.proofs.pairs.bucket.Given as goal

abbrev pub invariant-loop-p : goal.invariant-loop-p
invariant-loop-p l = Mixing l.by (rule_at l.table l.r) (row_at l.rows l.i) l.r l.h l.p

abbrev pub decreases-loop-p : goal.decreases-loop-p
decreases-loop-p l = 7 - l.p
