-- `listing::kind_widths` meets its contract. The invariant: the widths that the lines so far declare. Assumes nothing.
use mathlib.Core.Path.{◌≡◌, ◌∙◌}
use Prim.Native.Nat.{ℕ, ◌+◌, ◌*◌, ◌/◌, ◌<◌}
use native.Mathlib.Omega.{arith}
use lib.ListN.{length, get_or}
use Rattle.std.proofs.Common.{[], add-zero}
use Rattle.rules.proofs.SheetLaws.{size_held}
use Rattle.rules.proofs.RowLaws.{kind_low}
use Rattle.listing.proofs.WidthLaws.{eight_at, widening_begun, widening_kind, widening_other, widening_done}
use Rattle.listing.proofs.kind_widths.Goals as goal
use Rattle.listing.proofs.kind_widths.Goals.{In-loop-line, then-line-eq-LETTER_K, else-line-eq-LETTER_K}

inside : (i : In-loop-line) → 8 * i.loop-line.line-index < length i.args.lines.now
inside i = omega (arith, i.loop-line-test.true, i.as_chunks.ensures.front_len)

at : (i : In-loop-line) (k : ℕ) → k < 8
    → get_or (get_or i.as_chunks.result.0.now i.loop-line.line-index []) k 0 ≡ get_or i.args.lines.now (8 * i.loop-line.line-index + k) 0
at i k h =
    eight_at i.args.lines.now i.as_chunks.result.0.now i.as_chunks.ensures.front i.loop-line.line-index (omega (arith, i.loop-line-test.true, i.as_chunks.ensures.front_len)) k h

first : (i : In-loop-line) → get_or (get_or i.as_chunks.result.0.now i.loop-line.line-index []) 0 0 ≡ get_or i.args.lines.now (8 * i.loop-line.line-index) 0
first i = rw add-zero at (at i 0 (omega arith))

pub loop-line-init : goal.loop-line-init
loop-line-init c = widening_begun _

pub bounds-widths-line : goal.bounds-widths-line
bounds-widths-line c =
    let here = (goal.at.bounds-widths-line c).In-loop-line in
    omega (arith, at here 1 (omega arith), kind_low _ _ _ _ c.requires c.loop-line.invariant.reading (inside here))

pub loop-line-preserved : goal.loop-line-preserved
loop-line-preserved c =
    let here = (goal.at.loop-line-preserved c).In-loop-line in
    let w = c.loop-line.invariant in
    let more = inside here in
    elim c.if-line-eq-LETTER_K.branch [
      | then-line-eq-LETTER_K u ↦
          rw (u.widths-is, at here 1 (omega arith), at here 2 (omega arith)) (widening_kind c.requires w more (omega (arith, u.if-line-eq-LETTER_K.true, first here)))
      | else-line-eq-LETTER_K u ↦
          rw u.widths-is (widening_other c.requires w more (λ e. u.if-line-eq-LETTER_K.false (first here ∙ e)))
    ]

pub returns : goal.returns
returns c =
    let count : length c.as_chunks.result.0.now ≡ length c.args.lines.now / 8 = c.as_chunks.ensures.front_len in
    widening_done c.requires c.loop-line.invariant (omega (arith, c.loop-line-test.false, count, size_held c.requires))
