-- `spread::sweep` meets its contract: the shapes so far, in the order, have had their turn. Assumes nothing.
use Prim.Native.Nat.{◌*◌}
use Rattle.judging.specs.Inner.Passes.{EachLink}
use Rattle.judging.proofs.SweepLaws.{Passed}
use Rattle.judging.proofs.spread.sweep.Given as goal

abbrev pub invariant-loop-place : goal.invariant-loop-place
invariant-loop-place l =
    Passed (7 * l.basis.count) (EachLink l.basis.table.now l.basis.rules l.basis.shapes.now l.basis.index.now l.basis.count) l.order l.place-index l.initial.generations l.initial.raises l.generations l.raises l.waiting l.last
