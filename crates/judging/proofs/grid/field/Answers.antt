-- `grid::field` meets its contract. Assumes nothing.
use mathlib.Core.Path.{sym}
use Rattle.judging.proofs.NodeLaws.{at_field}
use Rattle.judging.proofs.grid.field.Goals as goal

pub returns : goal.returns
returns c = sym (at_field c.args.g.now c.args.s c.args.p c.requires.2)
