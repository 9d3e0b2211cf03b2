-- The theorems on the contract of explaining: only endless sheets are explained, each refusal but 25 is given on its condition alone, and what is explained leads back to Judge's answer. Assumes nothing.
use mathlib.Core.Path.{◌≡◌, refl, sym, ◌∙◌, ap, subst}
use mathlib.Core.Logic.{◌⊎◌, ◌↔◌}
use mathlib.Core.List.{List}
use mathlib.Core.Option.{some}
use Prim.Native.Nat.{ℕ}
use lib.ListN.{length, take, drop}
use lib.Seq.{take_at}
use Rattle.patterns.specs.Outcome.{good}
use Rattle.sheet.specs.Line.{Line}
use Rattle.sheet.specs.Write.{sheet_held}
use Rattle.chase.specs.Rules.{rules_of}
use Rattle.chase.specs.Run.{rows_of}
use Rattle.chase.specs.Judge.{Unbounded}
use Rattle.growth.specs.Contract.{Taken}
use Rattle.sentences.specs.Reader.{steps_in}
use Rattle.sentences.specs.Explain.{Explained, explained, refuses, Explains, Right, Refuses, wrong, many, settles, short, ExplainMeets}
use Rattle.sentences.proofs.Theorems.{answer_leads_back}
use Rattle.sentences.proofs.OneAnswer.{is_wrong, is_many, is_settled, is_endless, are_wrong, are_many, are_settled, are_endless, explains_answer, explained_endless as only-endless, answer_by_fate}

module _ (limit : ℕ) (numbers : List ℕ) where
  -- Only an endless sheet is explained.
  pub explained_endless : (text : List ℕ) → Explains limit numbers text → (lines : List Line) → sheet_held numbers ≡ good lines
      → Taken limit numbers lines × Unbounded (rules_of lines) (rows_of lines)
  explained_endless = only-endless limit numbers

  module _ (before after : List ℕ) where
    -- An endless sheet is explained, or the lent text is too short.
    pub endless_answers : (lines : List Line) → Taken limit numbers lines → Unbounded (rules_of lines) (rows_of lines)
        → (a : Explained) → ExplainMeets limit numbers before a after → ((n : ℕ) × (a ≡ explained n)) ⊎ (a ≡ refuses 25 0)
    endless_answers lines t u = answer_by_fate limit numbers before after is_endless (are_endless lines t u)

    only_refusal : {number line : ℕ} → Refuses limit numbers before number line → (number ≡ 25 → ⊥)
        → (a : Explained) → ExplainMeets limit numbers before a after → a ≡ refuses number line
    only_refusal (wrong line e) h = answer_by_fate limit numbers before after (is_wrong line) (are_wrong line e)
    only_refusal (many lines e m) h = answer_by_fate limit numbers before after is_many (are_many lines e m)
    only_refusal (settles lines t d b) h = answer_by_fate limit numbers before after is_settled (are_settled lines t d b)
    only_refusal (short text e s) h = absurd (h refl)

    refused_unchanged : (number line : ℕ) (a : Explained) → ExplainMeets limit numbers before a after → a ≡ refuses number line → after ≡ before
    refused_unchanged number line a m e = (subst (λ (b : Explained). ExplainMeets limit numbers before b after) e m).1

    -- 8, 11 and 24 are given just if their conditions hold, and the lent text is then as it was.
    pub refused_just_if : (number line : ℕ) → Refuses limit numbers before number line → (number ≡ 25 → ⊥)
        → (a : Explained) → ExplainMeets limit numbers before a after ↔ ((a ≡ refuses number line) × (after ≡ before))
    refused_just_if number line r h a = (
      λ m. let e = only_refusal r h a m in (e, refused_unchanged number line a m e),
      λ e. subst (λ (b : Explained). ExplainMeets limit numbers before b after) (sym e.0) (r, e.1),
    )

    -- The bytes that are counted are the text,
    pub counted_text : (n : ℕ) (r : Right limit numbers before n after) → take n after ≡ r.text
    counted_text n r = ap (take n) r.stands ∙ take_at r.text (drop (length r.text) before) n (sym r.size)

    -- and they lead back to the steps of that answer of Judge's, with where the trail ends.
    pub leads_back_to_answer : (n : ℕ) (r : Right limit numbers before n after)
        → steps_in (take n after)
        ≡ some (record {
          trail = take r.explains.verdict.trail r.explains.meets.1.steps;
          loop = drop r.explains.verdict.trail r.explains.meets.1.steps;
        })
    leads_back_to_answer n r =
        let e = r.explains in
        let j = e.meets.1 in
        ap steps_in (counted_text n r ∙ e.text_is)
        ∙ answer_leads_back (rules_of j.lines) (rows_of j.lines) e.verdict (take e.verdict.trail j.steps) (drop e.verdict.trail j.steps)
        (explains_answer limit numbers r.text e)
