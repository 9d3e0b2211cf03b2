-- `rules::table::put_places` puts the first places of marks. The invariant: those of the marks passed, from the last on. Assumes nothing.
use Rattle.rules.specs.Inner.Bytes.{marks_at}
use Rattle.rules.proofs.PartLaws.{Placing}
use Rattle.rules.proofs.table.put_places.Given as goal

abbrev pub invariant-loop-i : goal.invariant-loop-i
invariant-loop-i l = Placing l.initial.table l.at (marks_at l.lines l.n) l.i l.table
