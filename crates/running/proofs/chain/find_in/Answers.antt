-- `find_in` meets its contract. The loop's invariant: the places that the chain has passed are others. Assumes nothing.
use Prim.Native.Nat.{◌-◌}
use native.Mathlib.Omega.{arith}
use Rattle.running.proofs.ChainedLaws.{seek_begun, seek_place, seek_small, seek_less, seek_next, seek_nowhere}
use Rattle.running.proofs.chain.find_in.Goals as goal

pub loop-at-init : goal.loop-at-init
loop-at-init g c = seek_begun c.requires c.from-at.result c.from-at.ensures

pub is-requires : goal.is-requires
is-requires g c = c.requires.asks (c.loop-at.at - 1) (seek_place c.loop-at.invariant (omega arith))

pub returns-then-is : goal.returns-then-is
returns-then-is g c =
    (seek_place c.loop-at.invariant (omega arith), c.if-is.ensures)

pub overflow_add-c-in-loop-at-2 : goal.overflow_add-c-in-loop-at-2
overflow_add-c-in-loop-at-2 g c = omega (arith, seek_small c.loop-at.invariant (omega arith), c.requires.low)

pub offset_bounds-index-c-in-loop-at : goal.offset_bounds-index-c-in-loop-at
offset_bounds-index-c-in-loop-at g c = omega (arith, seek_small c.loop-at.invariant (omega arith), c.requires.low)

pub bounds-index-c-in-loop-at : goal.bounds-index-c-in-loop-at
bounds-index-c-in-loop-at g c = omega (arith, seek_small c.loop-at.invariant (omega arith), c.requires.low, c.requires.size)

pub loop-at-smaller : goal.loop-at-smaller
loop-at-smaller g c = seek_less c.loop-at.invariant (omega arith) c.from-at-in-loop-at.result c.from-at-in-loop-at.ensures

pub loop-at-preserved : goal.loop-at-preserved
loop-at-preserved g c =
    seek_next c.loop-at.invariant (omega arith) c.from-at-in-loop-at.result c.from-at-in-loop-at.ensures c.if-is.ensures

pub returns : goal.returns
returns g c = seek_nowhere c.loop-at.invariant (omega arith)
