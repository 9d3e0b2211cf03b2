-- `outlook::figure_column` meets its contract. Assumes nothing.
use mathlib.Core.Path.{sym, ap, ◌∙◌}
use Rattle.forecasting.specs.Answer.{figure_of}
use Rattle.std.proofs.Common.{ℕ, Option}
use Rattle.outlook.specs.Outlook.{figure_column}
use Rattle.outlook.proofs.figure_column.Goals as goal

pub returns-in-Some : goal.returns-in-Some
unfolding figure_column
returns-in-Some c = c.wide_column.ensures ∙ ap (λ (f : Option ℕ). figure_column (figure_of f)) (sym c.in-Some.is)

pub returns-in-None : goal.returns-in-None
unfolding figure_column
returns-in-None c = ap (λ (f : Option ℕ). figure_column (figure_of f)) (sym c.in-None.is)
