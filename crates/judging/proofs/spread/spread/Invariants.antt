-- `spread::spread` meets its contract. Assumes nothing.
use Prim.Native.Nat.{◌-◌, ◌*◌}
use Rattle.judging.specs.Inner.Nodes.{at}
use Rattle.judging.specs.Inner.Passes.{sum_to}
use Rattle.judging.proofs.RoundLaws.{Round}
use Rattle.judging.proofs.spread.spread.Given as goal

abbrev pub invariant-loop-waiting : goal.invariant-loop-waiting
invariant-loop-waiting l =
    Round l.basis.table.now l.basis.rules l.basis.shapes.now l.basis.index.now l.basis.count l.generations l.raises l.waiting

abbrev pub decreases-loop-waiting : goal.decreases-loop-waiting
decreases-loop-waiting l =
    7 * l.basis.count * (7 * l.basis.count) - sum_to (7 * l.basis.count) (at l.generations)
