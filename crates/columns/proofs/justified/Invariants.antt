-- `justified` meets its contract. The loop's invariant: the places before `at` are to show `rest`. Assumes nothing.
use Rattle.columns.proofs.ColumnLaws.{Justifying}
use Rattle.columns.proofs.justified.Given as goal

abbrev pub invariant-loop-at : goal.invariant-loop-at
invariant-loop-at g l = Justifying g.row.N l.fn.n l.at l.rest l.bytes
