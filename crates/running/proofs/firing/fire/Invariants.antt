-- `fire` meets its contract. The loop's invariant: what the first h H lines make is added, and there is room. Assumes nothing.
use Prim.Native.Nat.{◌≤◌}
use Rattle.carrying.specs.Carrying.{row_made}
use Rattle.running.specs.Inner.Held.{rows_at, Grown}
use Rattle.running.specs.Inner.Firing.{rule_at, row_no}
use Rattle.running.proofs.FiringLaws.{made_to}
use Rattle.running.proofs.firing.fire.Given as goal

abbrev pub invariant-loop-h : goal.invariant-loop-h
invariant-loop-h l =
    (l.h ≤ l.heads) × (l.n ≤ 4096)
    × Grown l.initial.rows l.initial.index l.c.by l.initial.n l.rows l.index l.n (made_to (row_made l.c.next (rule_at l.table l.r) (row_no l.initial.rows l.i)) (rule_at l.table l.r).heads l.h (rows_at l.initial.rows l.initial.n))
