-- `running::rows::largest_value` meets its contract. The invariant: the largest value of the lines so far. Assumes nothing.
use mathlib.Core.Path.{sym, ap, ◌∙◌}
use mathlib.Core.List.{List, []}
use Prim.Native.Nat.{ℕ, max}
use native.Mathlib.Omega.{arith}
use lib.ListN.{get_or}
use Rattle.chase.specs.Lists.{largest}
use Rattle.sheet.proofs.LentLines.{Eight, eight_at}
use Rattle.running.proofs.LineLaws.{line_there, letter_at, fields_at, line_over}
use Rattle.running.proofs.BeginLaws.{largest-row, largest_other, largest_all}
use Rattle.running.proofs.rows.largest_value.Goals as goal
use Rattle.running.proofs.rows.largest_value.Goals.{In-loop-line, then-line-eq-LETTER_R, else-line-eq-LETTER_R}

eight : (l : In-loop-line) → Eight l.args.lines.now l.loop-line.line-index (get_or l.as_chunks.result.0.now l.loop-line.line-index [])
eight l = eight_at l.args.lines.now _ l.as_chunks.ensures.front l.as_chunks.ensures.front_len l.loop-line.line-index l.loop-line-test.true

pub loop-line-preserved : goal.loop-line-preserved
loop-line-preserved c =
    let e = eight (goal.at.loop-line-preserved c).In-loop-line in
    let at = c.loop-line.invariant in
    elim c.if-line-eq-LETTER_R.branch [
      | then-line-eq-LETTER_R w ↦
          largest-row c.requires at (line_there e) (sym (letter_at e) ∙ w.if-line-eq-LETTER_R.true) _
          (w.t-is ∙ w.largest_in-t.ensures ∙ ap (λ (ns : List ℕ). max c.loop-line.t (largest ns)) (fields_at e 6 (omega arith)))
      | else-line-eq-LETTER_R w ↦ rw w.t-is (largest_other c.requires at (line_there e) (λ q. w.if-line-eq-LETTER_R.false (letter_at e ∙ q)))
    ]

pub returns : goal.returns
returns c = largest_all c.requires c.loop-line.invariant (line_over c.requires c.as_chunks.ensures.front_len c.loop-line-test.false)
