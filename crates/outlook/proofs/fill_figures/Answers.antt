-- `outlook::fill_figures` meets its contract: the letter, the three columns, byte 10. Assumes nothing.
use Rattle.forecasting.specs.Answer.{figures_of}
use Rattle.outlook.proofs.OutlookLaws.{figures-filled}
use Rattle.outlook.proofs.fill_figures.Goals as goal

pub returns : goal.returns
returns c =
    figures-filled (figures_of c.args.f) c.args.text.now c.requires _ _ _
    c.put_figure.ensures c.put_figure-2.ensures c.put_figure-3.ensures
