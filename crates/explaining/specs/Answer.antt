-- The paper's numbers for the answers of explaining. Assumes nothing.
use Rattle.std.specs.Prelude.{◌≡◌, ℕ, Result, Ok, Err}
use Rattle.sentences.specs.Explain.{Explained, explained, refuses}
use Rattle.judging.specs.Answer.{judge_refusal_number, judge_refusal_line}
use Rattle.judging.specs.declared.JudgeRefusal.{JudgeRefusal}
use Rattle.explaining.specs.declared.ExplainRefusal.{ExplainRefusal}
use Rattle.explaining.specs.declared.ExplainRefusal.TheVariants.{LineWrong, ShapesOver, SheetSettles, TextShort}

abbrev pub explain_refusal_number : ExplainRefusal → ℕ
explain_refusal_number (LineWrong line) = 8
explain_refusal_number ShapesOver = 11
explain_refusal_number SheetSettles = 24
explain_refusal_number TextShort = 25

abbrev pub explain_refusal_line : ExplainRefusal → ℕ
explain_refusal_line (LineWrong line) = line
explain_refusal_line ShapesOver = 0
explain_refusal_line SheetSettles = 0
explain_refusal_line TextShort = 0

-- A refusal of explaining that is one of judging.
abbrev pub SameRefusal : JudgeRefusal → ExplainRefusal → Type 0
SameRefusal j r = (judge_refusal_number j ≡ 12 → ⊥) → (explain_refusal_number r ≡ judge_refusal_number j) × (explain_refusal_line r ≡ judge_refusal_line j)

abbrev pub explain_says : Result ℕ ExplainRefusal → Explained
explain_says (Ok n) = explained n
explain_says (Err r) = refuses (explain_refusal_number r) (explain_refusal_line r)
