-- `visit` meets its contract. The loop's invariant: the first r rules are visited, and the others lead to the last state. Assumes nothing.
use Rattle.running.specs.Inner.Firing.{row_no}
use Rattle.running.specs.Inner.Visits.{state_at, kept_rules, keep_in, rules_from}
use Rattle.running.proofs.VisitLaws.{Going}
use Rattle.running.proofs.visits.visit.Given as goal

abbrev pub invariant-loop-r : goal.invariant-loop-r
invariant-loop-r l =
    Going (keep_in l.fresh) l.table l.initial.rows l.rules l.initial.c (row_no l.initial.rows l.i)
    (kept_rules (keep_in l.fresh) 0 (rules_from l.table 0 l.rules) (row_no l.initial.rows l.i) (state_at l.table l.initial.rows l.initial.index l.initial.c)) l.rows l.index l.c l.r
