-- `report::verdict_numbers` meets its contract. Assumes nothing.
use mathlib.Core.Path.{refl}
use Rattle.report.proofs.verdict_numbers.Goals as goal

pub returns : goal.returns
returns c = refl
