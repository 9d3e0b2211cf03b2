-- `figure_of` meets its contract: a number below the cap is its figure, one that has reached it is beyond. Assumes nothing.
use mathlib.Core.Path.{ap, ◌∙◌}
use Rattle.forecasting.specs.Answer.{figure_of}
use Rattle.forecasting.proofs.FigureLaws.{figure_read}
use Rattle.forecasting.proofs.figure_of.Goals as goal

pub returns : goal.returns
returns c = ap figure_of c.ok.ensures.value ∙ figure_read c.args.n c.try_from.result c.try_from.ensures
