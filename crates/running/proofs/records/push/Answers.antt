-- `push` meets its contract. Assumes nothing.
use native.Mathlib.Omega.{arith}
use lib.ListN.{length-set}
use Rattle.running.proofs.records.push.Goals as goal

pub bounds-index-c-3 : goal.bounds-index-c-3
bounds-index-c-3 c = rw length-set (omega arith)
