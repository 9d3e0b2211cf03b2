-- The loop's invariant: the first i steps are shown. Assumes nothing.
use Rattle.std.proofs.Common.{◌≡◌}
use Rattle.steps.specs.Showing.{showing}
use Rattle.steps.proofs.fill.Given as goal

abbrev pub invariant-loop-i : goal.invariant-loop-i
invariant-loop-i l = l.record-items ≡ showing l.numbers l.initial.record-items l.i
