-- `forecast` meets its contract: the figures of a sheet that settles; a refusal is passed on. Assumes nothing.
use Rattle.forecasting.proofs.forecast.Goals as goal

pub returns : goal.returns
returns c = rw c.foretell.ensures c.in_ok-deepest.ensures.1
