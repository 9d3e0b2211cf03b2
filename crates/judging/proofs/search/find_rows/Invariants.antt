-- `judging::search::find_rows` meets its contract. The invariant: where the reading of the lines stands, and the shapes of the rows so far. Assumes nothing.
use Rattle.rules.specs.Table.{rules_in, rows_in}
use Rattle.judging.specs.Inner.Rows.{RowsFound}
use Rattle.rules.proofs.RowLaws.{Reading}
use Rattle.judging.proofs.search.find_rows.Given as goal

abbrev pub invariant-loop-n : goal.invariant-loop-n
invariant-loop-n l =
    Reading l.lines l.widths l.row l.n × RowsFound (rules_in l.lines) (rows_in l.lines) l.shapes l.index l.ways l.count l.row
