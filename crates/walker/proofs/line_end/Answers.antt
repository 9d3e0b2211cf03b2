-- `line_end` meets its contract. `skip` passes no byte 10. The loop's invariant: the end as seen from i is the line's end. The measure is what is left of the text. Assumes nothing.
use mathlib.Core.Path.{◌∙◌}
use Rattle.walker.proofs.Walking.{reach_start, reach_over}
use Rattle.walker.proofs.line_end.Goals as goal

pub loop-i-init : goal.loop-i-init
loop-i-init c = reach_start c.args.at _ ∙ reach_over _ _ _ _ c.skip-i.ensures
