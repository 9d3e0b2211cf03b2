-- What Judge's answer says of the forecast. Assumes nothing.
use mathlib.Core.Path.{◌≡◌, refl, sym, ◌∙◌, ap, subst₂}
use mathlib.Core.List.{List}
use Prim.Native.Nat.{ℕ}
use native.Mathlib.Omega.{arith}
use lib.ListN.{length}
use Rattle.std.proofs.Common.{Ok, Err}
use Rattle.patterns.specs.Outcome.{good}
use Rattle.sheet.specs.Write.{sheet_held}
use Rattle.chase.specs.Judge.{shape_limit, JudgeMeets}
use Rattle.judging.specs.Answer.{verdict_of, judge_says}
use Rattle.judging.specs.declared.Figures.{Figures}
use Rattle.judging.specs.declared.JudgeRefusal.{JudgeRefusal}
use Rattle.judging.specs.declared.Verdict.TheVariants.{Settles, Endless}
use Rattle.rules.specs.Table.{good_lines, lines_in}
use Rattle.growth.specs.Contract.{refuses, ForecastMeets}
use Rattle.growth.proofs.Answers.{settled_foretold, endless_refused, refused_foretold, not_twelve}
use Rattle.forecasting.specs.Answer.{forecast_refusal_number, forecast_refusal_line, SameRefusal}
use Rattle.forecasting.specs.Inner.Terms.{DepthSays}
use Rattle.forecasting.specs.declared.ForecastRefusal.{ForecastRefusal}

-- What Judge has answered.
module _ (numbers steps left : List ℕ) (enough : length steps ≡ 20480) where
  pub judged_settles : (f : Figures) → JudgeMeets shape_limit numbers steps (judge_says (Ok (Settles f))) left → DepthSays numbers (Ok f.deepest)
  judged_settles f j =
      let sheet : sheet_held numbers ≡ good (lines_in numbers) = j.1.sheet ∙ ap good (sym (ap good_lines j.1.sheet)) in
      (record { lines = lines_in numbers; holds = sheet }, settled_foretold shape_limit numbers steps left (verdict_of 1 f) j refl (lines_in numbers) sheet)

  pub judged_endless : (f : Figures) → JudgeMeets shape_limit numbers steps (judge_says (Ok (Endless f))) left → ForecastMeets shape_limit numbers (refuses 21 0)
  judged_endless f j = endless_refused shape_limit numbers steps left (verdict_of 2 f) j refl

  pub judged_refused : (j : JudgeRefusal) → JudgeMeets shape_limit numbers steps (judge_says (Err j)) left → (r : ForecastRefusal) → SameRefusal j r
      → ForecastMeets shape_limit numbers (refuses (forecast_refusal_number r) (forecast_refusal_line r))
  judged_refused j m r same =
      let no-twelve = not_twelve shape_limit numbers steps left (omega arith) m.0 in
      let (number, line) = same no-twelve in
      subst₂ (λ (n k : ℕ). ForecastMeets shape_limit numbers (refuses n k)) (sym number) (sym line)
      (refused_foretold shape_limit numbers steps left _ _ m no-twelve)
