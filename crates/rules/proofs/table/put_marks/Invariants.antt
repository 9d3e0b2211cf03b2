-- `rules::table::put_marks` puts the marks of a line. The invariant: the marks passed are put. Assumes nothing.
use Rattle.rules.proofs.PartLaws.{Marking}
use Rattle.rules.proofs.table.put_marks.Given as goal

abbrev pub invariant-loop-i : goal.invariant-loop-i
invariant-loop-i l = Marking l.initial.table l.at l.lines l.n l.i l.table
