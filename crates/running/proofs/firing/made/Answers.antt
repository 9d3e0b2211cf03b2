-- `made` meets its contract. The loop's invariant: the numbers of the first k marks are filled. Assumes nothing.
use mathlib.Core.Path.{sym, subst, ap, ◌∙◌}
use Prim.Native.Nat.{ℕ, ◌<◌}
use native.Mathlib.Omega.{arith}
use borrow.Author.Rules.{rules}
use lib.ListN.{length}
use Rattle.chase.specs.Lists.{In}
use Rattle.rules.specs.Table.{row_bytes}
use Rattle.rules.proofs.PartLaws.{part_more}
use Rattle.rules.proofs.RuleLaws.{Width, Mark, head_width_read, head_mark_read, head_below}
use Rattle.carrying.specs.Carrying.{row_made}
use Rattle.running.specs.Inner.Held.{code_of}
use Rattle.running.specs.Inner.Firing.{rule_at, row_no, head_no}
use Rattle.running.proofs.FiringLaws.{ready_row, mark_above, in_get_or, made_size, made_narrow, made-number, filled_row_lem}
use Rattle.running.proofs.firing.made.Goals as goal
use Rattle.running.proofs.firing.made.Goals.{After-rule_byte-mark, After-rule_byte-width, In-loop-k, Start}

few-heads : (c : Start) → c.args.h < 4
few-heads c = head_below (row_bytes c.args.table.now c.args.r) (ready_row c.requires.1).size (ready_row c.requires.1).fits c.args.h c.requires.2

width : (c : After-rule_byte-width) → Width (head_no (row_bytes c.args.table.now c.args.r) c.args.h).marks c.rule_byte-width.result
width c = head_width_read (ready_row c.requires.1) c.args.h c.requires.2 c.rule_byte-width.result c.rule_byte-width.ensures.0

below : (c : In-loop-k) → c.loop-k.k < length (head_no (row_bytes c.args.table.now c.args.r) c.args.h).marks
below c =
    let w = head_width_read (ready_row c.requires.1) c.args.h c.requires.2 c.rule_byte-width.result c.rule_byte-width.ensures.0 in
    omega (arith, w.is, c.loop-k-test.true)

mark : (c : After-rule_byte-mark) → Mark (head_no (row_bytes c.args.table.now c.args.r) c.args.h).marks c.loop-k.k c.rule_byte-mark.result
mark c =
    let row = ready_row c.requires.1 in
    let w = head_width_read row c.args.h c.requires.2 c.rule_byte-width.result c.rule_byte-width.ensures.0 in
    head_mark_read row c.args.h c.requires.2 c.loop-k.k c.rule_byte-mark.result (omega (arith, w.is, c.loop-k-test.true)) c.rule_byte-mark.ensures.0

pub overflow_mul-at : goal.overflow_mul-at
overflow_mul-at c = omega (arith, few-heads (goal.at.overflow_mul-at c).Start)

pub overflow_add-at : goal.overflow_add-at
overflow_add-at c = omega (arith, few-heads (goal.at.overflow_add-at c).Start)

pub overflow_add-at-2 : goal.overflow_add-at-2
overflow_add-at-2 c = omega (arith, few-heads (goal.at.overflow_add-at-2 c).Start)

pub rule_byte-width-requires : goal.rule_byte-width-requires
rule_byte-width-requires c =
    let p = c.requires.1 in
    (p.fits.size, omega (arith, p.fits.few, p.there), omega (arith, few-heads (goal.at.rule_byte-width-requires c).Start))

pub rule_byte-requires : goal.rule_byte-requires
rule_byte-requires c =
    let p = c.requires.1 in
    (p.fits.size, omega (arith, p.fits.few, p.there), omega (arith, few-heads (goal.at.rule_byte-requires c).Start))

pub overflow_add-at-in-loop-k : goal.overflow_add-at-in-loop-k
overflow_add-at-in-loop-k c = omega (arith, few-heads (goal.at.overflow_add-at-in-loop-k c).Start, (width (goal.at.overflow_add-at-in-loop-k c).After-rule_byte-width).few)

pub overflow_add-at-in-loop-k-2 : goal.overflow_add-at-in-loop-k-2
overflow_add-at-in-loop-k-2 c = omega (arith, few-heads (goal.at.overflow_add-at-in-loop-k-2 c).Start, (width (goal.at.overflow_add-at-in-loop-k-2 c).After-rule_byte-width).few)

pub rule_byte-mark-requires : goal.rule_byte-mark-requires
rule_byte-mark-requires c =
    let p = c.requires.1 in
    (p.fits.size, omega (arith, p.fits.few, p.there), omega (arith, few-heads (goal.at.rule_byte-mark-requires c).Start, (width (goal.at.rule_byte-mark-requires c).After-rule_byte-width).few))

pub number-requires : goal.number-requires
number-requires c =
    let m = mark (goal.at.number-requires c).After-rule_byte-mark in
    let marks = (head_no (row_bytes c.args.table.now c.args.r) c.args.h).marks in (
      c.requires.0,
      c.requires.1.fits,
      c.requires.1.there,
      m.few,
      c.requires.3,
      λ e. mark_above c.requires.1 c.args.h c.requires.2 c.rule_byte-mark.result
          (subst (λ (x : ℕ). In x marks) (sym m.is) (in_get_or marks c.loop-k.k (below (goal.at.number-requires c).In-loop-k))) e,
    )

pub bounds-row-k : goal.bounds-row-k
bounds-row-k c = omega (arith, (width (goal.at.bounds-row-k c).After-rule_byte-width).few, c.loop-k.invariant.1.whole)

pub loop-k-preserved : goal.loop-k-preserved
loop-k-preserved c = (
  search rules,
  part_more c.loop-k.invariant.1 (omega (arith, (width (goal.at.loop-k-preserved c).After-rule_byte-width).few, c.loop-k-test.true))
      (c.number.ensures ∙ made-number c.requires.1 c.args.h c.requires.2 c.requires.0.packed c.requires.4 c.args.next c.loop-k.k c.rule_byte-mark.result
      (below (goal.at.loop-k-preserved c).In-loop-k) (mark (goal.at.loop-k-preserved c).After-rule_byte-mark).is),
)

pub returns : goal.returns
returns c =
    let n = c.rule_byte-width.result in
    filled_row_lem (row_made c.args.next (rule_at c.args.table.now c.args.r) (row_no c.args.rows.now c.args.i) (head_no (row_bytes c.args.table.now c.args.r) c.args.h))
    n (code_of c.rule_byte.result n) c.loop-k.k
    ((width (goal.at.returns c).After-rule_byte-width).is ∙ sym (made_size c.requires.1 c.args.h c.requires.2 c.requires.0.packed c.requires.4 c.args.next))
    (ap (λ (k : ℕ). code_of k n) c.rule_byte.ensures.0)
    (omega (arith, c.loop-k-test.false, c.loop-k.invariant.0)) (made_narrow c.requires.1 c.args.h c.requires.2 c.requires.0.packed c.requires.4 c.args.next) c.loop-k.invariant.1
