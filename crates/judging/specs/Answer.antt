-- Document 01's numbers for the answers of judging. Assumes nothing.
use Rattle.std.specs.Prelude.{ℕ, Result, Ok, Err}
use Rattle.chase.specs.Judge.{Verdict, Judgement, judged, refuses}
use Rattle.rules.specs.declared.RulesRefusal.{RulesRefusal}
use Rattle.rules.specs.declared.RulesRefusal.TheVariants.{LineWrong as NoSheet, TableShort}
use Rattle.judging.specs.declared.JudgeRefusal.{JudgeRefusal}
use Rattle.judging.specs.declared.JudgeRefusal.TheVariants.{StepsShort, LineWrong, ShapesOver}
use Rattle.judging.specs.declared.Figures.{Figures}
use Rattle.judging.specs.declared.Verdict.{Verdict as Judged}
use Rattle.judging.specs.declared.Verdict.TheVariants.{Settles, Endless}

-- The verdict is 1 where the sheet settles, 2 where it is endless.
abbrev pub verdict_of : ℕ → Figures → Verdict
verdict_of n f =
    record {
      verdict = n;
      deepest = f.deepest;
      shapes = f.shapes;
      fired = f.fired;
      share = f.share;
      row = f.row;
      trail = f.trail;
      loop = f.turns;
    }

abbrev pub judge_refusal_number : JudgeRefusal → ℕ
judge_refusal_number StepsShort = 12
judge_refusal_number (LineWrong line) = 8
judge_refusal_number ShapesOver = 11

abbrev pub judge_refusal_line : JudgeRefusal → ℕ
judge_refusal_line StepsShort = 0
judge_refusal_line (LineWrong line) = line
judge_refusal_line ShapesOver = 0

-- The refusal of judging that one of the rules becomes.
abbrev pub judge_refusal_of : RulesRefusal → JudgeRefusal
judge_refusal_of (NoSheet line) = LineWrong line
judge_refusal_of TableShort = StepsShort

abbrev pub judge_says : Result Judged JudgeRefusal → Judgement
judge_says (Ok (Settles f)) = judged (verdict_of 1 f)
judge_says (Ok (Endless f)) = judged (verdict_of 2 f)
judge_says (Err r) = refuses (judge_refusal_number r) (judge_refusal_line r)
