-- `rules::table::heads_at` counts the H lines from a line on. The invariant: those passed and those from here on are all. Assumes nothing.
use Rattle.rules.proofs.TableLaws.{HeadsSeen}
use Rattle.rules.proofs.table.heads_at.Given as goal

abbrev pub invariant-loop-i : goal.invariant-loop-i
invariant-loop-i l = HeadsSeen l.lines l.n l.i
