-- `grid::put_field` meets its contract. Assumes nothing.
use mathlib.Core.Path.{sym}
use Rattle.judging.proofs.NodeLaws.{put-field}
use Rattle.judging.proofs.grid.put_field.Goals as goal

pub returns : goal.returns
returns c = sym (put-field c.args.g.now c.args.s c.args.p c.args.x c.requires.2)
