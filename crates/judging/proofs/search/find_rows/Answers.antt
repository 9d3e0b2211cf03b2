-- `judging::search::find_rows` meets its contract. The invariant: where the reading of the lines stands, and the shapes of the rows so far. Assumes nothing.
use mathlib.Core.Path.{◌≡◌, sym, ◌∙◌}
use mathlib.Core.List.{List, []}
use Prim.Native.Nat.{ℕ, ◌+◌, ◌*◌, ◌/◌, ◌≤◌, ◌<◌}
use native.Mathlib.Omega.{arith}
use borrow.Author.Rules.{rules}
use lib.ListN.{length, get_or}
use Rattle.sheet.proofs.LentLines.{Eight, eight_at}
use Rattle.rules.specs.Table.{SheetHeld}
use Rattle.rules.specs.Inner.Rows.{RowAt}
use Rattle.rules.proofs.SheetLaws.{size_held}
use Rattle.rules.proofs.RowLaws.{Reading, reading_begun, kind_low, read_kind, read_row, read_other, row_at, read_all}
use Rattle.judging.proofs.RowLaws.{line_there, number_at, letter_at, rows_begun, tried_all}
use Rattle.judging.proofs.search.find_rows.Goals as goal
use Rattle.judging.proofs.search.find_rows.Goals.{In-loop-n, then-line-eq-LETTER_K, else-line-eq-LETTER_K+then-line-eq-LETTER_R+in_ok-count, else-line-eq-LETTER_K+else-line-eq-LETTER_R}

-- All lines of a sheet are passed.
passed : {numbers : List ℕ} {n : ℕ} → SheetHeld numbers → length numbers / 8 ≤ n → length numbers ≤ 8 * n
passed sheet l = let z = size_held sheet in omega arith

eight : (l : In-loop-n) → Eight l.args.lines.now l.loop-n.n (get_or l.as_chunks.result.0.now l.loop-n.n [])
eight l = eight_at l.args.lines.now _ l.as_chunks.ensures.front l.as_chunks.ensures.front_len l.loop-n.n l.loop-n-test.true

-- What is read of a line.
module _ {numbers widths line : List ℕ} {row n : ℕ} (sheet : SheetHeld numbers) (at : Reading numbers widths row n) (e : Eight numbers n line) where
  kind-at : get_or line 1 0 ≡ get_or numbers (8 * n + 1) 0
  kind-at = number_at e 1 (omega arith)

  kind-low : get_or line 1 0 < 65
  kind-low = omega (arith, kind-at, kind_low numbers widths row n sheet at (line_there e))

  row-at : get_or line 0 0 ≡ 82 → RowAt numbers n (get_or widths (get_or line 1 0) 0) (row + 1)
  row-at r = rw kind-at (row_at numbers widths row n sheet at (line_there e) (sym (letter_at e) ∙ r))

pub loop-n-init : goal.loop-n-init
loop-n-init c = (reading_begun _, rows_begun _ _ _ _ _ c.requires.1 c.requires.2 c.requires.3)

pub bounds-widths-kind : goal.bounds-widths-kind
bounds-widths-kind c = kind-low c.requires.0 c.loop-n.invariant.0 (eight (goal.at.bounds-widths-kind c).In-loop-n)

pub bounds-widths-kind-then-line-eq-LETTER_R : goal.bounds-widths-kind-then-line-eq-LETTER_R
bounds-widths-kind-then-line-eq-LETTER_R c = kind-low c.requires.0 c.loop-n.invariant.0 (eight (goal.at.bounds-widths-kind-then-line-eq-LETTER_R c).In-loop-n)

pub find_row-requires : goal.find_row-requires
find_row-requires c = (row-at c.requires.0 c.loop-n.invariant.0 (eight (goal.at.find_row-requires c).In-loop-n) c.if-line-eq-LETTER_R.true, c.loop-n.invariant.1)

pub overflow_add-row : goal.overflow_add-row
overflow_add-row c =
    let r = row-at c.requires.0 c.loop-n.invariant.0 (eight (goal.at.overflow_add-row c).In-loop-n) c.if-line-eq-LETTER_R.true in search rules

pub loop-n-preserved : goal.loop-n-preserved
loop-n-preserved c =
    let v = c.loop-n.invariant in
    let e = eight (goal.at.loop-n-preserved c).In-loop-n in
    elim c.if-line-eq-LETTER_K.branch [
      | then-line-eq-LETTER_K w ↦
          rw (w.shapes-is, w.index-is, w.ways-is, w.widths-is, w.count-is, w.row-is)
          (rw (number_at e 1 (omega arith), number_at e 2 (omega arith)) (read_kind _ _ _ _ c.requires.0 v.0 (line_there e) (sym (letter_at e) ∙ w.if-line-eq-LETTER_K.true)), v.1)
      | else-line-eq-LETTER_K+then-line-eq-LETTER_R+in_ok-count w ↦
          rw (w.shapes-is, w.index-is, w.ways-is, w.widths-is, w.count-is, w.row-is)
          (read_row _ _ _ _ c.requires.0 v.0 (line_there e) (sym (letter_at e) ∙ w.if-line-eq-LETTER_R.true), w.in_ok-count.ensures)
      | else-line-eq-LETTER_K+else-line-eq-LETTER_R w ↦
          rw (w.shapes-is, w.index-is, w.ways-is, w.widths-is, w.count-is, w.row-is)
          (read_other _ _ _ _ c.requires.0 v.0 (line_there e) (λ k. w.if-line-eq-LETTER_K.false (letter_at e ∙ k)) (λ k. w.if-line-eq-LETTER_R.false (letter_at e ∙ k)), v.1)
    ]

pub returns : goal.returns
returns c =
    let v = c.loop-n.invariant in
    tried_all v.1 (read_all _ _ _ _ c.requires.0 v.0 (passed c.requires.0 (omega (arith, c.loop-n-test.false, c.as_chunks.ensures.front_len))))
