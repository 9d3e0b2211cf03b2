-- `fires` meets its contract. The loop's invariant: the numbers before place k are those of their marks' first places. Assumes nothing.
use Prim.Native.Nat.{◌-◌}
use Rattle.running.specs.Inner.Held.{row_at}
use Rattle.running.specs.Inner.Firing.{rule_at}
use Rattle.running.proofs.FiringLaws.{Equal}
use Rattle.running.proofs.firing.fires.Given as goal

abbrev pub invariant-loop-k : goal.invariant-loop-k
invariant-loop-k l = Equal (rule_at l.table l.r).marks (row_at l.rows l.i) l.width l.k

abbrev pub decreases-loop-k : goal.decreases-loop-k
decreases-loop-k l = l.width - l.k
