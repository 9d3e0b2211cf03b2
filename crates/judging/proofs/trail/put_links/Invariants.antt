-- `trail::put_links` meets its contract: what is left to put, put before what stands, gives the whole line. Assumes nothing.
use Rattle.judging.specs.Inner.Nodes.{from_of, link_of}
use Rattle.judging.proofs.TrailLaws.{PuttingLine}
use Rattle.judging.proofs.trail.put_links.Given as goal

abbrev pub invariant-loop-left : goal.invariant-loop-left
invariant-loop-left l = PuttingLine l.initial.steps l.first l.k (from_of l.raises) (link_of l.raises) l.x l.steps l.y l.left
