-- `fresh::first_waiting` meets its contract: the shapes passed have what their kinds have. Assumes nothing.
use Prim.Native.Nat.{◌<◌}
use native.Mathlib.Omega.{arith}
use Rattle.std.proofs.lemmas.List.{length-take-le, get_or-take}
use Rattle.judging.proofs.FreshLaws.{first_more}
use Rattle.judging.proofs.fresh.first_waiting.Goals as goal

pub loop-s-preserved : goal.loop-s-preserved
loop-s-preserved c =
    let s = c.loop-s.s in
    let few = c.requires.2 in
    let size = c.requires.1 in
    let n = length-take-le c.args.count c.args.shapes.now (omega arith) in
    let below : s < c.args.count = omega arith in
    let e = get_or-take c.args.count c.args.shapes.now s 0 below in
    rw e (first_more c.fresh_kinds-kinds.ensures c.loop-s.invariant (omega arith))
