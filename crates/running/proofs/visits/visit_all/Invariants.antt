-- `visit_all` meets its contract. The invariant: where the visits stand, and the others lead to the last state. Assumes nothing.
use Prim.Native.Nat.{◌-◌, ◌≤◌}
use Rattle.running.specs.Inner.Visits.{state_at}
use Rattle.running.proofs.VisitLaws.{Visiting}
use Rattle.running.proofs.visits.visit_all.Given as goal

abbrev pub invariant-loop-i : goal.invariant-loop-i
invariant-loop-i l = (l.i ≤ l.c.rows)
    × Visiting l.fresh l.table l.initial.rows l.rules l.initial.c (state_at l.table l.initial.rows l.initial.index l.initial.c) l.rows l.index l.c l.i

abbrev pub decreases-loop-i : goal.decreases-loop-i
decreases-loop-i l = 4096 - l.i
