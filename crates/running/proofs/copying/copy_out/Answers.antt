-- `copy_out` meets its contract. The loop's invariant: so many records are copied, and the rest is as it was. Assumes nothing.
use mathlib.Core.Path.{◌≡◌, refl, ap, ◌∙◌}
use mathlib.Core.List.{◌++◌}
use Prim.Native.Nat.{ℕ, ◌*◌}
use native.Mathlib.Omega.{arith}
use lib.ListN.{drop}
use Rattle.running.proofs.CopyLaws.{copied, copied_next, copied_size}
use Rattle.running.proofs.copying.copy_out.Goals as goal

pub loop-i-init : goal.loop-i-init
loop-i-init c = (omega arith, refl)

pub copy_record-requires : goal.copy_record-requires
copy_record-requires c =
    let l = c.loop-i in
    (omega (arith, c.requires.0.few), omega (arith, c.requires.0.few, c.requires.0.room), c.requires.0.each l.i c.loop-i-test.true, omega (arith, c.requires.1, copied_size c.args.rows.now c.args.records.now l.i (omega (arith, c.requires.1)) l.invariant.1))

pub loop-i-preserved : goal.loop-i-preserved
loop-i-preserved c =
    let l = c.loop-i in
    (omega arith, copied_next c.args.rows.now c.args.records.now l.i (omega (arith, c.requires.1)) l.invariant.1 c.copy_record.ensures)

pub shape_of-records : goal.shape_of-records
shape_of-records c =
    let l = c.loop-i in
    copied_size c.args.rows.now c.args.records.now l.i (omega (arith, c.requires.1, l.invariant.0)) l.invariant.1

pub returns : goal.returns
returns c =
    let l = c.loop-i in
    l.invariant.1 ∙ ap (λ (n : ℕ). copied c.args.rows.now n ++ drop (8 * n) c.args.records.now) (let e : l.i ≡ c.args.count = omega arith in e)
