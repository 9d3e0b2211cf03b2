-- `report::fill_steps` meets its contract. The loop's invariant: the lines of the first k steps are put. Assumes nothing.
use mathlib.Core.Path.{◌≡◌}
use Rattle.columns.specs.Column.{put}
use Rattle.report.specs.Report.{step_lines}
use Rattle.report.proofs.fill_steps.Given as goal

abbrev pub invariant-loop-k : goal.invariant-loop-k
invariant-loop-k l = l.text ≡ put l.initial.text 74 (step_lines l.k l.steps)
