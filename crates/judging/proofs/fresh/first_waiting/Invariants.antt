-- `fresh::first_waiting` meets its contract: the shapes passed have what their kinds have. Assumes nothing.
use Rattle.judging.specs.Inner.Fresh.{FirstWaiting}
use Rattle.judging.proofs.fresh.first_waiting.Given as goal

abbrev pub invariant-loop-s : goal.invariant-loop-s
invariant-loop-s l = FirstWaiting l.table l.rules l.shapes l.s l.waiting
