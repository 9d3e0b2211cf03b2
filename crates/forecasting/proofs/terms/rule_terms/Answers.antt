-- `terms::rule_terms` meets its contract. The invariant: the rules of the lines passed are counted by their carried marks. Assumes nothing.
use mathlib.Core.Path.{sym, subst₂, ◌∙◌}
use mathlib.Core.List.{List, []}
use lib.ListN.{get_or}
use Rattle.sheet.proofs.LentLines.{Eight, eight_at}
use Rattle.growth.proofs.LineLaws.{line_there, letter_at}
use Prim.Native.Nat.{ℕ, ◌+◌}
use borrow.Author.Rules.{rules}
use Rattle.forecasting.proofs.TermLaws.{line_over, RulesSeen, rules_all, rules_other, fresh_fit, pairs_fit, rules_more}
use Rattle.forecasting.proofs.terms.rule_terms.Goals as goal
use Rattle.forecasting.proofs.terms.rule_terms.Goals.{In-loop-n, After-rule_marks-marks, then-line-eq-LETTER_B, else-line-eq-LETTER_B}

eight : (l : In-loop-n) → Eight l.args.lines.now l.loop-n.n (get_or l.as_chunks.result.0.now l.loop-n.n [])
eight l = eight_at l.args.lines.now _ l.as_chunks.ensures.front l.as_chunks.ensures.front_len l.loop-n.n l.loop-n-test.true

pub rule_marks-marks-requires : goal.rule_marks-marks-requires
rule_marks-marks-requires c =
    let e = eight (goal.at.rule_marks-marks-requires c).In-loop-n in
    (c.requires, line_there e, sym (letter_at e) ∙ c.if-line-eq-LETTER_B.true)

pub overflow_add-fresh : goal.overflow_add-fresh
overflow_add-fresh c =
    let e = eight (goal.at.overflow_add-fresh c).In-loop-n in
    let fits = fresh_fit c.requires c.loop-n.invariant (line_there e) (sym (letter_at e) ∙ c.if-line-eq-LETTER_B.true) c.rule_marks-marks.result c.rule_marks-marks.ensures in
    search rules

pub overflow_add-pairs : goal.overflow_add-pairs
overflow_add-pairs c =
    let e = eight (goal.at.overflow_add-pairs c).In-loop-n in
    let fits = pairs_fit c.requires c.loop-n.invariant (line_there e) (sym (letter_at e) ∙ c.if-line-eq-LETTER_B.true) c.rule_marks-marks.result c.rule_marks-marks.ensures in
    search rules

pub loop-n-preserved : goal.loop-n-preserved
loop-n-preserved c =
    let held = c.requires in
    let at = c.loop-n in
    let e = eight (goal.at.loop-n-preserved c).In-loop-n in
    let next : List ℕ → List ℕ → Type 0 = λ fresh pairs. RulesSeen c.args.lines.now (at.n + 1) fresh pairs in
    elim c.if-line-eq-LETTER_B.branch [
      | then-line-eq-LETTER_B w ↦ subst₂ next (sym w.fresh-is) (sym w.pairs-is)
          (rules_more held at.invariant (line_there e) (sym (letter_at e) ∙ w.if-line-eq-LETTER_B.true) w.rule_marks-marks.result w.rule_marks-marks.ensures)
      | else-line-eq-LETTER_B w ↦ subst₂ next (sym w.fresh-is) (sym w.pairs-is)
          (rules_other held at.invariant (line_there e) (λ k. w.if-line-eq-LETTER_B.false (letter_at e ∙ k)))
    ]

pub returns : goal.returns
returns c = rules_all c.requires c.loop-n.invariant (line_over c.requires c.as_chunks.ensures.front_len c.loop-n-test.false)
