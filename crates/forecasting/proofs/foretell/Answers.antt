-- `foretell` meets its contract: the three figures at the last t. Assumes nothing.
use mathlib.Core.Path.{ap, ◌∙◌}
use Rattle.rules.specs.Table.{lines_in}
use Rattle.growth.specs.Forecast.{figure}
use Rattle.forecasting.proofs.FigureLaws.{figures_are}
use Rattle.forecasting.proofs.foretell.Goals as goal

pub returns : goal.returns
returns c =
    let a = c.args in
    figures_are (lines_in a.lines.now) a.deepest c.count_values-first.result c.last_t-t.result c.kind_terms-kinds.ensures
    c.rule_terms-rules.ensures c.count_values-first.ensures.0 c.last_t-t.ensures _ _ _ c.figure_of.ensures
    (c.figure_of-2.ensures ∙ ap figure c.polynomial.ensures) (c.figure_of-3.ensures ∙ ap figure c.polynomial-2.ensures)
