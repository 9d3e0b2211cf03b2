-- `note` meets its contract. Assumes nothing.
use mathlib.Core.Path.{ap, ◌∙◌}
use native.Mathlib.Omega.{arith}
use lib.ListN.{length, length-set}
use Rattle.running.proofs.pairs.note.Goals as goal

pub bounds-index-count-2 : goal.bounds-index-count-2
bounds-index-count-2 c = rw length-set (omega arith)

pub shape_of-index : goal.shape_of-index
shape_of-index c = ap length c.push.ensures ∙ simp length-set
