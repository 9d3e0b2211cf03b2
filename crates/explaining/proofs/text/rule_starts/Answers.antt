-- `text::rule_starts` meets its contract. The loop's invariant: the rules that begin before line n are found. Assumes nothing.
use mathlib.Core.Path.{sym, subst₂, ◌∙◌}
use mathlib.Core.List.{List, []}
use lib.ListN.{get_or}
use Rattle.sheet.proofs.LentLines.{Eight, eight_at}
use Rattle.growth.proofs.LineLaws.{line_there, letter_at}
use Prim.Native.Nat.{ℕ, ◌+◌, ◌<◌}
use borrow.Author.Rules.{rules}
use Rattle.explaining.proofs.StartLaws.{line_over, StartsTo, other_line, few_so_far, body-line, starts_found}
use Rattle.explaining.proofs.text.rule_starts.Goals as goal
use Rattle.explaining.proofs.text.rule_starts.Goals.{In-loop-n, Then-line-eq-LETTER_B, then-line-eq-LETTER_B, else-line-eq-LETTER_B}

eight : (l : In-loop-n) → Eight l.args.lines.now l.loop-n.n (get_or l.as_chunks.result.0.now l.loop-n.n [])
eight l = eight_at l.args.lines.now _ l.as_chunks.ensures.front l.as_chunks.ensures.front_len l.loop-n.n l.loop-n-test.true

few : (c : Then-line-eq-LETTER_B) → c.loop-n.count < 256
few c =
    let e = eight_at c.args.lines.now _ c.as_chunks.ensures.front c.as_chunks.ensures.front_len c.loop-n.n c.loop-n-test.true in
    few_so_far _ c.requires c.loop-n.invariant (line_there e) (sym (letter_at e) ∙ c.if-line-eq-LETTER_B.true)

pub offset_bounds-starts-count : goal.offset_bounds-starts-count
offset_bounds-starts-count c = let low = few (goal.at.offset_bounds-starts-count c).Then-line-eq-LETTER_B in search rules

pub bounds-starts-count : goal.bounds-starts-count
bounds-starts-count c = let low = few (goal.at.bounds-starts-count c).Then-line-eq-LETTER_B in search rules

pub overflow_add-count : goal.overflow_add-count
overflow_add-count c = let low = few (goal.at.overflow_add-count c).Then-line-eq-LETTER_B in search rules

pub loop-n-preserved : goal.loop-n-preserved
loop-n-preserved c =
    let e = eight (goal.at.loop-n-preserved c).In-loop-n in
    let more = line_there e in
    let next : List ℕ → ℕ → Type 0 = λ starts count. StartsTo c.args.lines.now starts count (c.loop-n.n + 1) in
    elim c.if-line-eq-LETTER_B.branch [
      | then-line-eq-LETTER_B w ↦ subst₂ next (sym w.starts-is) (sym w.count-is) (body-line _ c.requires c.loop-n.invariant more (sym (letter_at e) ∙ w.if-line-eq-LETTER_B.true))
      | else-line-eq-LETTER_B w ↦ subst₂ next (sym w.starts-is) (sym w.count-is) (other_line _ c.requires c.loop-n.invariant more (λ b. w.if-line-eq-LETTER_B.false (letter_at e ∙ b)))
    ]

pub returns : goal.returns
returns c = starts_found _ c.requires c.loop-n.invariant (line_over c.requires c.as_chunks.ensures.front_len c.loop-n-test.false)
