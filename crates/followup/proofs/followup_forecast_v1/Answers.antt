-- `followup::followup_forecast_v1` meets its contract: a law of `ForecastLaws`. Assumes nothing.
use Rattle.followup.proofs.ForecastLaws.{forecasts_truncated}
use Rattle.followup.proofs.followup_forecast_v1.Goals as goal

pub returns : goal.returns
returns c =
    let w = c.with_numbers.ensures in
    forecasts_truncated w.met.0 w.gives w.met.1 w.met.2
