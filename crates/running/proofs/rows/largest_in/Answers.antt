-- `running::rows::largest_in` meets its contract. The invariant: the largest of the numbers so far. Assumes nothing.
use mathlib.Core.Path.{◌≡◌, ap, ◌∙◌}
use Prim.Native.Nat.{ℕ}
use native.Mathlib.Omega.{arith}
use lib.ListN.{take, drop, length-take, length-drop}
use Rattle.sheet.specs.Sheet.{top_mark}
use Rattle.carrying.proofs.SheetMarks.{top_is}
use Rattle.running.proofs.rows.largest_in.Goals as goal

pub returns : goal.returns
returns c =
    let a = c.args in
    let l = c.loop-x in
    let here = drop 2 a.line.now in
    let e : l.x-index ≡ 6 = omega (arith, length-take 6 here, length-drop 2 a.line.now, c.requires, c.loop-x-test.false, l.auto.x-index-end) in
    l.invariant ∙ ap (λ (j : ℕ). top_mark a.m (take j here)) e ∙ top_is a.m (take 6 here)
