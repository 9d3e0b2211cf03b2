-- `grid::number` meets its contract. Assumes nothing.
use mathlib.Core.Path.{refl}
use Rattle.judging.specs.Inner.Nodes.{at}
use Rattle.judging.proofs.grid.number.Goals as goal

pub returns : goal.returns
unfolding at
returns c = refl
