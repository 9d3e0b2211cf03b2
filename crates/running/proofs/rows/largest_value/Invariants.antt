-- `running::rows::largest_value` meets its contract. The invariant: the largest value of the lines so far. Assumes nothing.
use Rattle.running.proofs.BeginLaws.{LargestTo}
use Rattle.running.proofs.rows.largest_value.Given as goal

abbrev pub invariant-loop-line : goal.invariant-loop-line
invariant-loop-line l = LargestTo l.lines l.line-index l.t
