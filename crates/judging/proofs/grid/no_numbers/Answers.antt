-- `grid::no_numbers` meets its contract. Assumes nothing.
use mathlib.Core.Path.{refl}
use Rattle.judging.proofs.Judged.{zeros_are}
use Rattle.judging.proofs.grid.no_numbers.Goals as goal

pub returns : goal.returns
returns c = zeros_are _ refl
