-- `justified` meets its contract. The loop's invariant: the places before `at` are to show `rest`. Assumes nothing.
use Prim.Native.Nat.{ℕ}
use native.Mathlib.Omega.{arith}
use lib.ListN.{length-replicate}
use Rattle.columns.proofs.ColumnLaws.{justifying_begun, justifying_more, justifying_done}
use Rattle.columns.proofs.justified.Goals as goal

pub loop-at-init : goal.loop-at-init
loop-at-init g c = justifying_begun _ _ _ c.requires (length-replicate {A = ℕ} g.row.N 32)

pub loop-at-preserved : goal.loop-at-preserved
loop-at-preserved g c = rw c.place.ensures (justifying_more c.loop-at.invariant c.loop-at-test.true)

pub returns : goal.returns
returns g c = justifying_done c.loop-at.invariant (omega arith)
