-- `trail::deepest` meets its contract: the best node so far is the deepest of those passed where a fresh link leads. Assumes nothing.
use Rattle.judging.specs.Inner.Nodes.{link_of}
use Rattle.judging.specs.Inner.Written.{Deepest}
use Rattle.judging.proofs.trail.deepest.Given as goal

abbrev pub invariant-loop-v : goal.invariant-loop-v
invariant-loop-v l = Deepest l.generations (link_of l.raises) l.v l.best
