-- `running::rows::row_at` meets its contract. The invariant: the first numbers stand there, each 0 as the next number, and the rest is as it was. Assumes nothing.
use Prim.Native.Nat.{◌≤◌}
use lib.ListN.{take, drop}
use Rattle.running.proofs.FillLaws.{Filling}
use Rattle.running.proofs.rows.row_at.Given as goal

abbrev pub invariant-loop-k : goal.invariant-loop-k
invariant-loop-k l = (l.k ≤ l.width) × Filling (take l.width (drop 2 l.line)) l.next l.initial.row l.k l.given l.row
