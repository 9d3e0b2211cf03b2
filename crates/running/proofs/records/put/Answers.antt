-- `put` meets its contract: the copied numbers are the row's. Assumes nothing.
use mathlib.Core.Path.{ap, ◌∙◌}
use mathlib.Core.List.{List}
use Prim.Native.Nat.{ℕ, ◌+◌, ◌-◌, ◌*◌}
use native.Mathlib.Omega.{arith}
use lib.ListN.{length, get_or}
use Rattle.running.proofs.RecordLaws.{part_put}
use Rattle.running.proofs.records.put.Goals as goal

pub returns : goal.returns
returns c =
    let a = c.args in
    let is = c.copy_from_slice.ensures.after in
    part_put a.rows.now c.copy_from_slice.new.self (7 * a.i) (7 * a.i + 7 - 7 * a.i) 7 (λ (k : ℕ). get_or a.row.now k 0) (omega arith) (omega arith) (ap length is ∙ c.requires.2)
    (λ k h. ap (λ (l : List ℕ). get_or l k 0) is)
