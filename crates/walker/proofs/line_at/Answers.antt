-- `line_at` meets its contract. What `line_end` ensures says that the part ends within the text, and that it is the line. Assumes nothing.
use Rattle.walker.proofs.Walking.{line_within}
use Rattle.walker.proofs.line_at.Goals as goal

pub slice_bounds-result-end : goal.slice_bounds-result-end
slice_bounds-result-end c = line_within _ _ _ c.line_end-end.ensures c.if-at-end.true
