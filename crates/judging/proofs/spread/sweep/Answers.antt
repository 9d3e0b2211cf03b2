-- `spread::sweep` meets its contract: the shapes so far, in the order, have had their turn. Assumes nothing.
use native.Mathlib.Omega.{arith}
use Prim.Native.Nat.{◌<◌}
use Rattle.std.proofs.lemmas.List.{length-take-le, get_or-take}
use Rattle.judging.proofs.GraphLaws.{each_own, each_split}
use Rattle.judging.proofs.SweepLaws.{idle, worked, passed_is, swept_all}
use Rattle.judging.proofs.spread.sweep.Goals as goal
use Rattle.judging.proofs.spread.sweep.Goals.{then-waiting-s, else-waiting-s}

pub loop-place-preserved : goal.loop-place-preserved
loop-place-preserved c =
    let f = c.requires.0.closed.few in
    let o = c.requires.1 in
    let z = o.size in
    let n = length-take-le c.args.basis.now.count c.args.order.now (omega arith) in
    let t : c.loop-place.place-index < c.args.basis.now.count = omega arith in
    let b = o.places c.loop-place.place-index t in
    let e = get_or-take c.args.basis.now.count c.args.order.now c.loop-place.place-index 0 t in
    elim c.if-waiting-s.branch [
      | then-waiting-s w ↦
          passed_is w.generations-is w.raises-is w.waiting-is w.last-is
          (worked c.loop-place.invariant (each_own c.requires.0.table_fits c.requires.0.closed _ b) (each_split c.requires.0.table_fits c.requires.0.closed _) (omega arith) (rw e at w.follow_shape-last.ensures))
      | else-waiting-s w ↦
          passed_is w.generations-is w.raises-is w.waiting-is w.last-is (idle c.loop-place.invariant (rw e at w.if-waiting-s.false))
    ]

pub returns : goal.returns
returns c =
    let f = c.requires.0.closed.few in
    let z = c.requires.1.size in
    let n = length-take-le c.args.basis.now.count c.args.order.now (omega arith) in
    swept_all c.loop-place.invariant c.requires.1 (omega arith)
