-- `find_in` meets its contract. The loop's invariant: the places that the chain has passed are others. Assumes nothing.
use Rattle.running.proofs.ChainedLaws.{Seeking}
use Rattle.running.proofs.chain.find_in.Given as goal

abbrev pub invariant-loop-at : goal.invariant-loop-at
invariant-loop-at g l = Seeking l.index l.c l.b l.count (λ j. goal.F-pre g l.is j) (λ j r. goal.F-post g l.is j r) l.at

abbrev pub decreases-loop-at : goal.decreases-loop-at
decreases-loop-at g l = l.at
