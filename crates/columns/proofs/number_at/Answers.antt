-- `number_at` meets its contract: fewer than nine bytes are no column. Assumes nothing.
use mathlib.Core.Path.{◌≡◌, ap, sym}
use Prim.Native.Nat.{◌+◌, ◌-◌}
use native.Mathlib.Omega.{arith}
use Rattle.columns.specs.Column.{in_form}
use Rattle.columns.proofs.DigitLaws.{too_few}
use Rattle.columns.proofs.number_at.Goals as goal
use Rattle.columns.proofs.number_at.Goals.{then-s-lt9-via-then-s-lt9, then-s-lt9-via-else-s-lt9+then-s-at}

pub returns-then-s-lt9 : goal.returns-then-s-lt9
returns-then-s-lt9 c =
    ap in_form (sym (too_few c.args.s.now c.args.at
    (elim c.then-s-lt9.branch [ then-s-lt9-via-then-s-lt9 w ↦ omega arith | then-s-lt9-via-else-s-lt9+then-s-at w ↦ omega arith ])))

pub returns : goal.returns
returns c = let nine : c.args.at + 9 - c.args.at ≡ 9 = omega arith in rw nine at c.read_column.ensures
