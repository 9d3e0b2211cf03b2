-- `forecasting::values::add_rows` meets its contract. The invariant: where the reading of the lines stands, and the values of the rows so far are added. Assumes nothing.
use Rattle.forecasting.proofs.ValueLaws.{Counting}
use Rattle.forecasting.proofs.values.add_rows.Given as goal

abbrev pub invariant-loop-line : goal.invariant-loop-line
invariant-loop-line l = Counting l.lines l.widths l.values l.zeros l.line-index
