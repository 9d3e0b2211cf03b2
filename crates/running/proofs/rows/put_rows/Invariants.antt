-- `running::rows::put_rows` meets its contract. The invariant: where the reading of the lines stands, and the rows so far are put. Assumes nothing.
use Rattle.running.proofs.BeginLaws.{Putting}
use Rattle.running.proofs.rows.put_rows.Given as goal

abbrev pub invariant-loop-line : goal.invariant-loop-line
invariant-loop-line l = Putting l.lines l.initial.rows l.initial.index l.widths l.rows l.index l.by l.first l.count l.next l.line-index
