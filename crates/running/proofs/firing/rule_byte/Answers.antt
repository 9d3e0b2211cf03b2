-- `rule_byte` meets its contract: it is a byte of the rule's row. Assumes nothing.
use mathlib.Core.Path.{sym, ◌∙◌}
use Prim.Native.Nat.{◌+◌, ◌*◌}
use native.Mathlib.Omega.{arith}
use Rattle.rules.proofs.TableLaws.{row_at}
use Rattle.running.proofs.firing.rule_byte.Goals as goal

pub returns : goal.returns
returns c =
    let a = c.args in
    (c.from.ensures ∙ sym (row_at a.table.now a.r a.i c.requires.2), omega (arith, c.from.ensures, c.fits-table (64 * a.r + a.i)))
