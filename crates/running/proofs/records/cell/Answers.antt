-- `cell` meets its contract. Assumes nothing.
use mathlib.Core.Path.{sym}
use Prim.Native.Nat.{◌+◌, ◌*◌}
use native.Mathlib.Omega.{arith}
use Rattle.running.proofs.RecordLaws.{row_at_cell}
use Rattle.running.proofs.records.cell.Goals as goal

pub returns : goal.returns
returns c =
    (sym (row_at_cell c.args.rows.now c.args.i c.args.k c.requires.1), omega (arith, c.type_inv.rows (7 * c.args.i + c.args.k)))
