-- `forecasting::values::add_rows` meets its contract. The invariant: where the reading of the lines stands, and the values of the rows so far are added. Assumes nothing.
use mathlib.Core.List.{[]}
use native.Mathlib.Omega.{arith}
use borrow.Author.Rules.{rules}
use lib.ListN.{get_or}
use Rattle.sheet.proofs.LentLines.{Eight, eight_at}
use Rattle.forecasting.proofs.TermLaws.{line_over}
use Rattle.forecasting.proofs.ValueLaws.{count_none, count_kind, count_passed, count_row, count_all, kind_small, width_few, row_room, zeros_room}
use Rattle.forecasting.proofs.values.add_rows.Goals as goal
use Rattle.forecasting.proofs.values.add_rows.Goals.{In-loop-line, then-line-eq-LETTER_K, else-line-eq-LETTER_K+then-line-eq-LETTER_R, else-line-eq-LETTER_K+else-line-eq-LETTER_R}

eight : (l : In-loop-line) → Eight l.args.lines.now l.loop-line.line-index (get_or l.as_chunks.result.0.now l.loop-line.line-index [])
eight l = eight_at l.args.lines.now _ l.as_chunks.ensures.front l.as_chunks.ensures.front_len l.loop-line.line-index l.loop-line-test.true

pub loop-line-init : goal.loop-line-init
loop-line-init c = count_none c.args.lines.now c.requires.1

pub bounds-widths-kind : goal.bounds-widths-kind
bounds-widths-kind c = kind_small c.requires.0 c.loop-line.invariant (eight (goal.at.bounds-widths-kind c).In-loop-line)

pub bounds-widths-kind-then-line-eq-LETTER_R : goal.bounds-widths-kind-then-line-eq-LETTER_R
bounds-widths-kind-then-line-eq-LETTER_R c =
    kind_small c.requires.0 c.loop-line.invariant (eight (goal.at.bounds-widths-kind-then-line-eq-LETTER_R c).In-loop-line)

pub slice_bounds-row-end : goal.slice_bounds-row-end
slice_bounds-row-end c =
    let e = eight (goal.at.slice_bounds-row-end c).In-loop-line in
    let size = e.size in
    let few = width_few c.requires.0 c.loop-line.invariant e c.if-line-eq-LETTER_R.true in
    search rules

pub add_all-requires : goal.add_all-requires
add_all-requires c =
    row_room c.requires.0 c.loop-line.invariant (eight (goal.at.add_all-requires c).In-loop-line) c.if-line-eq-LETTER_R.true

pub overflow_add-zeros : goal.overflow_add-zeros
overflow_add-zeros c =
    let e = eight (goal.at.overflow_add-zeros c).In-loop-line in
    omega (arith, zeros_room c.requires.0 c.loop-line.invariant e c.if-line-eq-LETTER_R.true c.zeros_of-zeros.ensures)

pub loop-line-preserved : goal.loop-line-preserved
loop-line-preserved c =
    let e = eight (goal.at.loop-line-preserved c).In-loop-line in
    let p = c.loop-line.invariant in
    let held = c.requires.0 in
    elim c.if-line-eq-LETTER_K.branch [
      | then-line-eq-LETTER_K w ↦ rw (w.values-is, w.widths-is, w.zeros-is) (count_kind held p e w.if-line-eq-LETTER_K.true)
      | else-line-eq-LETTER_K+then-line-eq-LETTER_R w ↦ rw (w.values-is, w.widths-is, w.zeros-is)
          (count_row held p e w.if-line-eq-LETTER_R.true w.add_all.ensures w.zeros_of-zeros.ensures)
      | else-line-eq-LETTER_K+else-line-eq-LETTER_R w ↦ rw (w.values-is, w.widths-is, w.zeros-is)
          (count_passed held p e w.if-line-eq-LETTER_K.false w.if-line-eq-LETTER_R.false)
    ]

pub returns : goal.returns
returns c = count_all c.requires.0 c.loop-line.invariant (line_over c.requires.0 c.as_chunks.ensures.front_len c.loop-line-test.false)
