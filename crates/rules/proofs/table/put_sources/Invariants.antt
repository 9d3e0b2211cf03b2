-- `rules::table::put_sources` puts the sources that the marks of a line show. The invariant: those of the marks passed. Assumes nothing.
use Rattle.rules.specs.Inner.Bytes.{marks_at}
use Rattle.rules.proofs.PartLaws.{Sourcing}
use Rattle.rules.proofs.table.put_sources.Given as goal

abbrev pub invariant-loop-mark : goal.invariant-loop-mark
invariant-loop-mark l = Sourcing l.initial.table l.at (marks_at l.lines l.n) l.mark-index l.table
