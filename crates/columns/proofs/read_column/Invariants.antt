-- `read_column` meets its contract. The loop's invariant: the places passed are n's. Assumes nothing.
use Prim.Native.Nat.{◌+◌}
use Rattle.columns.proofs.DigitLaws.{Read}
use Rattle.columns.proofs.read_column.Given as goal

abbrev pub invariant-loop-b : goal.invariant-loop-b
invariant-loop-b l = Read l.bytes (l.b-index + 1) l.n
