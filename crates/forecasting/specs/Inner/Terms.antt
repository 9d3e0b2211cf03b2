-- What is counted of a sheet before its figures are computed: its rules' marks, and the terms of the three sums by their powers. Assumes nothing.
use Rattle.std.specs.Prelude.{◌≡◌, List, ℕ, zero, suc, ◌+◌, ◌≤◌, length, Result, Ok, Err}
use Rattle.sheet.specs.Line.{Line}
use Rattle.chase.specs.Rules.{Rule, rules_of}
use Rattle.chase.specs.Making.{carried_marks}
use Rattle.chase.specs.Judge.{shape_limit}
use Rattle.carrying.specs.Carrying.{fresh_marks}
use Rattle.rules.specs.Table.{SheetHeld, lines_in}
use Rattle.rules.specs.Inner.Bytes.{rule_at, head_count}
use Rattle.arithmetic.specs.Capped.{polynomial}
use Rattle.growth.specs.Forecast.{sum_of, new_with, kind_lines, records_with, pairs_with, forecast}
use Rattle.growth.specs.Contract.{foretold, refuses, ForecastMeets}
use Rattle.forecasting.specs.Answer.{forecast_refusal_number, forecast_refusal_line}
use Rattle.forecasting.specs.declared.ForecastRefusal.{ForecastRefusal}
use Rattle.forecasting.specs.declared.marks.MarkCounts.{MarkCounts}
use Rattle.forecasting.specs.declared.terms.RuleTerms.{RuleTerms}

-- The rule whose B line is line n of lent numbers.
abbrev pub rule_here : List ℕ → ℕ → Rule
rule_here numbers n = rule_at numbers n (head_count numbers (n + 1))

-- How many fresh and carried marks it has.
pub record MarksCounted (numbers : List ℕ) (n : ℕ) (c : MarkCounts) : Type 0 where
  pub fresh : c.fresh ≡ length (fresh_marks (rule_here numbers n))
  pub carried : c.carried ≡ length (carried_marks (rule_here numbers n))
  pub few_fresh : c.fresh ≤ 12
  pub few_carried : c.carried ≤ 6

-- Coefficients by power: with these the polynomial is the sum, whatever t is.
pub record KindsCounted (lines : List Line) (kinds : List ℕ) : Type 0 where
  pub size : length kinds ≡ 7
  pub sum : (t : ℕ) → polynomial kinds t ≡ records_with (kind_lines lines) t

pub record RulesCounted (lines : List Line) (r : RuleTerms) : Type 0 where
  pub fresh_size : length r.fresh ≡ 7
  pub pairs_size : length r.pairs ≡ 7
  pub fresh : (t : ℕ) → polynomial r.fresh t ≡ sum_of (new_with t) (rules_of lines)
  pub pairs : (t : ℕ) → polynomial r.pairs t ≡ pairs_with (rules_of lines) t

-- t after so many generations, where these coefficients say what is made of a t.
abbrev pub grown : List ℕ → ℕ → ℕ → ℕ
grown fresh first zero = first
grown fresh first (suc d) = first + polynomial fresh (grown fresh first d)

-- What Judge's answer says: the lines are a sheet that settles, whose forecast is the one with this deepest generation; or why nothing is foretold.
abbrev pub DepthSays : List ℕ → Result ℕ ForecastRefusal → Type 0
DepthSays numbers (Ok deepest) = SheetHeld numbers × ForecastMeets shape_limit numbers (foretold (forecast (lines_in numbers) deepest))
DepthSays numbers (Err r) = ForecastMeets shape_limit numbers (refuses (forecast_refusal_number r) (forecast_refusal_line r))
