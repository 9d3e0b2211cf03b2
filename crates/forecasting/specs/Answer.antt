-- The paper's numbers for the answers of the forecast. Assumes nothing.
use Rattle.std.specs.Prelude.{◌≡◌, ℕ, Option, Some, None, Result, Ok, Err}
use Rattle.growth.specs.Forecast as Forecast
use Rattle.growth.specs.Forecast.{exactly, beyond}
use Rattle.growth.specs.Contract as Contract
use Rattle.growth.specs.Contract.{foretold, refuses}
use Rattle.judging.specs.Answer.{judge_refusal_number, judge_refusal_line}
use Rattle.judging.specs.declared.JudgeRefusal.{JudgeRefusal}
use Rattle.forecasting.specs.declared.Figures.{Figures}
use Rattle.forecasting.specs.declared.ForecastRefusal.{ForecastRefusal}
use Rattle.forecasting.specs.declared.ForecastRefusal.TheVariants.{LineWrong, ShapesOver, Endless}

abbrev pub figure_of : Option ℕ → Forecast.Figure
figure_of (Some n) = exactly n
figure_of None = beyond

abbrev pub figures_of : Figures → Forecast.Forecast
figures_of f = record { values = figure_of f.values; records = figure_of f.records; pairs = figure_of f.pairs }

abbrev pub forecast_refusal_number : ForecastRefusal → ℕ
forecast_refusal_number (LineWrong line) = 8
forecast_refusal_number ShapesOver = 11
forecast_refusal_number Endless = 21

abbrev pub forecast_refusal_line : ForecastRefusal → ℕ
forecast_refusal_line (LineWrong line) = line
forecast_refusal_line ShapesOver = 0
forecast_refusal_line Endless = 0

-- A refusal of judging and one of the forecast have the same number and line, unless judging has too few steps.
abbrev pub SameRefusal : JudgeRefusal → ForecastRefusal → Type 0
SameRefusal j r = (judge_refusal_number j ≡ 12 → ⊥) → (forecast_refusal_number r ≡ judge_refusal_number j) × (forecast_refusal_line r ≡ judge_refusal_line j)

abbrev pub forecast_says : Result Figures ForecastRefusal → Contract.Foretold
forecast_says (Ok f) = foretold (figures_of f)
forecast_says (Err r) = refuses (forecast_refusal_number r) (forecast_refusal_line r)
