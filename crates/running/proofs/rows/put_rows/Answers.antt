-- `running::rows::put_rows` meets its contract. The invariant: where the reading of the lines stands, and the rows so far are put. Assumes nothing.
use mathlib.Core.Path.{refl, sym, ◌∙◌}
use mathlib.Core.List.{[]}
use Prim.Native.Nat.{◌≤◌}
use native.Mathlib.Omega.{arith}
use borrow.Author.Rules.{rules}
use lib.ListN.{get_or, take, drop}
use Rattle.sheet.proofs.LentLines.{Eight, eight_at}
use Rattle.running.proofs.LineLaws.{line_there, line_over}
use Rattle.running.proofs.FillLaws.{filled_row}
use Rattle.running.proofs.FiringLaws.{made-packed, room_left, said_of}
use Rattle.running.proofs.BeginLaws.{put-none, put_all, next_low, kind_small, kind_put, passed_put, width_low, fields_narrow, row_put}
use Rattle.running.proofs.rows.put_rows.Goals as goal
use Rattle.running.proofs.rows.put_rows.Goals.{In-loop-line, then-line-eq-LETTER_K, else-line-eq-LETTER_K+then-line-eq-LETTER_R, else-line-eq-LETTER_K+else-line-eq-LETTER_R}

eight : (l : In-loop-line) → Eight l.args.lines.now l.loop-line.line-index (get_or l.as_chunks.result.0.now l.loop-line.line-index [])
eight l = eight_at l.args.lines.now _ l.as_chunks.ensures.front l.as_chunks.ensures.front_len l.loop-line.line-index l.loop-line-test.true

low : (l : In-loop-line) → get_or (get_or l.as_chunks.result.0.now l.loop-line.line-index []) 1 0 ≤ 64
low l = kind_small l.requires.0 l.loop-line.invariant (eight l)

pub loop-line-init : goal.loop-line-init
loop-line-init c = put-none _ _ _ _ _ c.requires.1 c.requires.2 c.requires.3

pub bounds-widths-kind : goal.bounds-widths-kind
bounds-widths-kind c = let k = low (goal.at.bounds-widths-kind c).In-loop-line in let z = c.loop-line.invariant.reading.widths_fit.size in search rules

pub bounds-widths-kind-then-line-eq-LETTER_R : goal.bounds-widths-kind-then-line-eq-LETTER_R
bounds-widths-kind-then-line-eq-LETTER_R c =
    let k = low (goal.at.bounds-widths-kind-then-line-eq-LETTER_R c).In-loop-line in let z = c.loop-line.invariant.reading.widths_fit.size in search rules

pub row_at-filled-requires : goal.row_at-filled-requires
row_at-filled-requires c =
    let p = c.loop-line.invariant in
    let l = (goal.at.row_at-filled-requires c).In-loop-line in
    let e = eight l in
    (e.size, width_low c.requires.0 p e c.if-line-eq-LETTER_R.true _ refl, low l, omega (arith, next_low c.requires.0 p (line_there e), c.requires.4))

pub add-requires : goal.add-requires
add-requires c =
    let p = c.loop-line.invariant in
    let e = eight (goal.at.add-requires c).In-loop-line in
    let line = get_or c.as_chunks.result.0.now c.loop-line.line-index [] in
    let m = made-packed (filled_row _ (record { kind = get_or line 1 0; numbers = take _ (drop 2 line) })) c.row_at-filled.ensures.0
    (fields_narrow c.requires.0 p e c.if-line-eq-LETTER_R.true _ refl _) in
    (p.grown.stored p.few, m.0, m.1)

pub unwrap-count-requires : goal.unwrap-count-requires
unwrap-count-requires c =
    let e = eight (goal.at.unwrap-count-requires c).In-loop-line in
    room_left c.add.result c.add.ensures
    (λ n g. (row_put c.requires.0 c.loop-line.invariant e c.if-line-eq-LETTER_R.true _ refl c.row_at-filled.ensures.0 c.row_at-filled.ensures.1 g).few)

pub loop-line-preserved : goal.loop-line-preserved
loop-line-preserved c =
    let p = c.loop-line.invariant in
    let e = eight (goal.at.loop-line-preserved c).In-loop-line in
    let sheet = c.requires.0 in
    elim c.if-line-eq-LETTER_K.branch [
      | then-line-eq-LETTER_K w ↦ rw (w.widths-is, w.rows-is, w.index-is, w.count-is, w.next-is) (kind_put sheet p e w.if-line-eq-LETTER_K.true)
      | else-line-eq-LETTER_K+then-line-eq-LETTER_R w ↦
          rw (w.widths-is, w.rows-is, w.index-is, w.count-is, w.next-is)
          (row_put sheet p e w.if-line-eq-LETTER_R.true _ refl w.row_at-filled.ensures.0 w.row_at-filled.ensures.1 (said_of _ w.add.result w.unwrap-count.result w.unwrap-count.ensures w.add.ensures))
      | else-line-eq-LETTER_K+else-line-eq-LETTER_R w ↦
          rw (w.widths-is, w.rows-is, w.index-is, w.count-is, w.next-is) (passed_put sheet p e w.if-line-eq-LETTER_K.false w.if-line-eq-LETTER_R.false)
    ]

pub shape_of-rows : goal.shape_of-rows
shape_of-rows c = c.loop-line.invariant.grown.room

pub shape_of-index : goal.shape_of-index
shape_of-index c = c.loop-line.invariant.grown.size ∙ sym c.requires.2.size

pub returns : goal.returns
returns c = put_all c.requires.0 c.requires.2 c.loop-line.invariant (line_over c.requires.0 c.as_chunks.ensures.front_len c.loop-line-test.false)
