-- `made` meets its contract. The loop's invariant: the numbers of the first k marks are filled. Assumes nothing.
use Prim.Native.Nat.{ℕ, ◌-◌, ◌≤◌}
use lib.ListN.{get_or}
use Rattle.rules.specs.Table.{row_bytes}
use Rattle.rules.specs.Inner.Bytes.{Part}
use Rattle.carrying.specs.Carrying.{row_made}
use Rattle.running.specs.Inner.Firing.{rule_at, row_no, head_no}
use Rattle.running.proofs.firing.made.Given as goal

abbrev pub invariant-loop-k : goal.invariant-loop-k
invariant-loop-k l =
    (l.k ≤ l.width) × Part l.initial.row 1 l.k (λ (j : ℕ). get_or (row_made l.next (rule_at l.table l.r) (row_no l.rows l.i) (head_no (row_bytes l.table l.r) l.h)).numbers j 0) l.row

abbrev pub decreases-loop-k : goal.decreases-loop-k
decreases-loop-k l = l.width - l.k
