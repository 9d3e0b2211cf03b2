-- `spread::back` meets its contract. Assumes nothing.
use Rattle.judging.specs.Inner.Nodes.{from_of}
use Rattle.judging.proofs.WalkLaws.{Going}
use Rattle.judging.proofs.spread.back.Given as goal

abbrev pub invariant-loop : goal.invariant-loop
invariant-loop l = Going l.n l.generations (from_of l.raises) l.x l.y l.counter
