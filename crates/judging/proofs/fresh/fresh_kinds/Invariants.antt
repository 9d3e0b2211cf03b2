-- `fresh::fresh_kinds` meets its contract: the kinds of the rules passed have their 1. Assumes nothing.
use Rattle.judging.specs.Inner.Fresh.{FreshKinds}
use Rattle.judging.proofs.fresh.fresh_kinds.Given as goal

abbrev pub invariant-loop-r : goal.invariant-loop-r
invariant-loop-r l = FreshKinds l.table l.r l.kinds
