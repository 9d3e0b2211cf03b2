-- `followup::forecast_reply` meets its contract: each case is said by its name, and the refusals' numbers are small. Assumes nothing.
use mathlib.Core.Path.{◌≡◌, refl, sym, subst}
use Prim.Native.Nat.{◌≤◌}
use native.Mathlib.Omega.{arith}
use Rattle.forecasting.specs.Answer.{forecast_says, forecast_refusal_number}
use Rattle.std.proofs.Common.{Result}
use Rattle.forecasting.specs.declared.Figures.{Figures}
use Rattle.forecasting.specs.declared.ForecastRefusal.{ForecastRefusal}
use Rattle.forecasting.specs.declared.ForecastRefusal.TheVariants.{LineWrong, ShapesOver, Endless}
use Rattle.followup.specs.Reply.{ForecastReplies}
use Rattle.followup.specs.declared.ForecastReply.{ForecastReply}
use Rattle.followup.proofs.forecast_reply.Goals as goal

small : (r : ForecastRefusal) → forecast_refusal_number r ≤ 21
small (LineWrong line) = omega arith
small ShapesOver = omega arith
small Endless = omega arith

-- what a case says, said of the answer
said : {case : Result Figures ForecastRefusal} (answer : Result Figures ForecastRefusal) (r : ForecastReply) → answer ≡ case → ForecastReplies (forecast_says case) r → ForecastReplies (forecast_says answer) r
said answer r is says = subst (λ (a : Result Figures ForecastRefusal). ForecastReplies (forecast_says a) r) (sym is) says

pub overflow_cast-result : goal.overflow_cast-result
overflow_cast-result c = omega (arith, c.refusal_numbers-said.ensures.0, small c.in-Err.refusal)

pub returns-in-Ok : goal.returns-in-Ok
returns-in-Ok c =
    said _ _ c.in-Ok.is
    (refl, refl, c.figure_number.ensures, c.figure_number-in-Ok.ensures, c.figure_number-in-Ok-2.ensures)

pub returns-in-Err : goal.returns-in-Err
returns-in-Err c =
    let numbers = c.refusal_numbers-said.ensures in
    said _ _ c.in-Err.is (numbers.0, numbers.1, refl, refl, refl)
