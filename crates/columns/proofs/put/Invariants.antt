-- `columns::put` meets its contract. The loop's invariant: the column's first i bytes are pasted in. Assumes nothing.
use Rattle.columns.proofs.ColumnLaws.{Putting}
use Rattle.columns.proofs.put.Given as goal

abbrev pub invariant-loop-i : goal.invariant-loop-i
invariant-loop-i l = Putting l.initial.text l.at l.n l.bytes l.text l.i
