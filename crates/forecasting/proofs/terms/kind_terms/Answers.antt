-- `terms::kind_terms` meets its contract. The invariant: the kinds of the lines passed are counted by their widths. Assumes nothing.
use mathlib.Core.Path.{sym, subst, ◌∙◌}
use mathlib.Core.List.{List, []}
use Prim.Native.Nat.{ℕ, ◌+◌, ◌<◌}
use native.Mathlib.Omega.{arith}
use borrow.Author.Rules.{rules}
use lib.ListN.{get_or}
use Rattle.sheet.proofs.LentLines.{Eight, eight_at}
use Rattle.growth.proofs.LineLaws.{line_there, number_at, letter_at}
use Rattle.forecasting.proofs.TermLaws.{line_over, KindsSeen, kinds_all, kinds_other, width_small, kinds_fit, kinds_more}
use Rattle.forecasting.proofs.terms.kind_terms.Goals as goal
use Rattle.forecasting.proofs.terms.kind_terms.Goals.{In-loop-line, Then-line-eq-LETTER_K, then-line-eq-LETTER_K, else-line-eq-LETTER_K}

eight : (l : In-loop-line) → Eight l.args.lines.now l.loop-line.line-index (get_or l.as_chunks.result.0.now l.loop-line.line-index [])
eight l = eight_at l.args.lines.now _ l.as_chunks.ensures.front l.as_chunks.ensures.front_len l.loop-line.line-index l.loop-line-test.true

width-here : (c : Then-line-eq-LETTER_K) → get_or (get_or c.as_chunks.result.0.now c.loop-line.line-index []) 2 0 < 7
width-here c =
    let e = eight_at c.args.lines.now _ c.as_chunks.ensures.front c.as_chunks.ensures.front_len c.loop-line.line-index c.loop-line-test.true in
    width_small c.requires c.loop-line.invariant (line_there e) (sym (letter_at e) ∙ c.if-line-eq-LETTER_K.true) _ (number_at e 2 (omega arith))

pub bounds-kinds-line : goal.bounds-kinds-line
bounds-kinds-line c = width-here (goal.at.bounds-kinds-line c).Then-line-eq-LETTER_K

pub overflow_add-kinds : goal.overflow_add-kinds
overflow_add-kinds c =
    let e = eight (goal.at.overflow_add-kinds c).In-loop-line in
    let fits = kinds_fit c.requires c.loop-line.invariant (line_there e) (sym (letter_at e) ∙ c.if-line-eq-LETTER_K.true) _ (number_at e 2 (omega arith)) in
    search rules

pub bounds-kinds-line-then-line-eq-LETTER_K : goal.bounds-kinds-line-then-line-eq-LETTER_K
bounds-kinds-line-then-line-eq-LETTER_K c = width-here (goal.at.bounds-kinds-line-then-line-eq-LETTER_K c).Then-line-eq-LETTER_K

pub loop-line-preserved : goal.loop-line-preserved
loop-line-preserved c =
    let at = c.loop-line in
    let e = eight (goal.at.loop-line-preserved c).In-loop-line in
    let next : List ℕ → Type 0 = λ kinds. KindsSeen c.args.lines.now (at.line-index + 1) kinds in
    elim c.if-line-eq-LETTER_K.branch [
      | then-line-eq-LETTER_K w ↦ subst next (sym w.kinds-is)
          (kinds_more c.requires at.invariant (line_there e) (sym (letter_at e) ∙ w.if-line-eq-LETTER_K.true) _ (number_at e 2 (omega arith)))
      | else-line-eq-LETTER_K w ↦ subst next (sym w.kinds-is)
          (kinds_other c.requires at.invariant (line_there e) (λ k. w.if-line-eq-LETTER_K.false (letter_at e ∙ k)))
    ]

pub returns : goal.returns
returns c = kinds_all c.requires c.loop-line.invariant (line_over c.requires c.as_chunks.ensures.front_len c.loop-line-test.false)
