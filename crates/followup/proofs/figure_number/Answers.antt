-- `followup::figure_number` meets its contract: beyond is 4,294,967,296. Assumes nothing.
use mathlib.Core.Path.{sym, ap}
use Rattle.forecasting.specs.Answer.{figure_of}
use Rattle.followup.specs.Reply.{figure_number}
use Rattle.std.proofs.Common.{ℕ, Option}
use Rattle.followup.proofs.figure_number.Goals as goal

pub returns-in-None : goal.returns-in-None
returns-in-None c = ap (λ (f : Option ℕ). figure_number (figure_of f)) (sym c.in-None.is)
