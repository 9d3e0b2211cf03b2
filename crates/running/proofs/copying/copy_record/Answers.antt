-- `copy_record` meets its contract: the letter and the kind are put, then the numbers. Assumes nothing.
use Prim.Native.Nat.{◌+◌, ◌-◌, ◌*◌}
use native.Mathlib.Omega.{arith}
use lib.ListN.{length-set}
use Rattle.running.proofs.CopyLaws.{line_put}
use Rattle.running.proofs.copying.copy_record.Goals as goal

pub bounds-records-i-2 : goal.bounds-records-i-2
bounds-records-i-2 c = omega (arith, c.requires.3, length-set c.args.records.now (8 * c.args.i) 82)

pub returns : goal.returns
returns c =
    let a = c.args in
    line_put a.rows.now a.records.now c.copy_from_slice.new.self a.i (8 * a.i + 8 - (8 * a.i + 2)) c.requires.2 c.requires.3 c.requires.1 (omega arith) c.copy_from_slice.ensures.after
