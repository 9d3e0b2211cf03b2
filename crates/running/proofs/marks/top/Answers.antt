-- `running::marks::top` meets its contract. The invariant: the largest of the marks so far. Assumes nothing.
use mathlib.Core.Path.{◌≡◌, sym, ap, ◌∙◌}
use Prim.Native.Nat.{ℕ, ◌+◌, ◌*◌, ◌-◌, ◌<◌}
use native.Mathlib.Omega.{arith}
use lib.ListN.{length, get_or, take, drop, length-take}
use lib.Seq.{get_or-take, get_or-drop}
use Rattle.rules.specs.Table.{row_bytes}
use Rattle.rules.proofs.TableLaws.{row_size, row_at}
use Rattle.running.proofs.MarkLaws.{top_more}
use Rattle.running.proofs.marks.top.Goals as goal

pub loop-mark-preserved : goal.loop-mark-preserved
loop-mark-preserved c =
    let a = c.args in
    let l = c.loop-mark in
    let (size, low, fits) = c.requires in
    let from = 64 * a.r + a.at in
    let wide = from + a.count - from in
    let here = drop from a.table.now in
    let inside : l.mark-index < length (take wide here) = c.loop-mark-test.true in
    let few : l.mark-index < wide = omega (arith, length-take wide here) in
    let is : get_or (take wide here) l.mark-index 0 ≡ get_or (row_bytes a.table.now a.r) (a.at + l.mark-index) 0 =
    get_or-take wide here l.mark-index 0 few ∙ get_or-drop from a.table.now l.mark-index 0
    ∙ ap (λ (i : ℕ). get_or a.table.now i 0) (omega arith) ∙ sym (row_at a.table.now a.r (a.at + l.mark-index) (omega arith)) in
    let more = top_more (row_bytes a.table.now a.r) a.at a.m l.t l.mark-index _ (omega (arith, row_size a.table.now a.r size low)) l.invariant is in
    omega (arith, c.max-t.ensures, more)
