-- `spread::back` meets its contract. Assumes nothing.
use native.Mathlib.Omega.{arith}
use Rattle.judging.proofs.WalkLaws.{going, further}
use Rattle.judging.proofs.spread.back.Goals as goal

pub loop-init : goal.loop-init
loop-init c = going c.requires

pub loop-preserved : goal.loop-preserved
loop-preserved c =
    let e = c.number.ensures in
    let d = c.if-number-eq0.false in
    further c.requires c.loop.invariant c.from_of-y.result (omega arith) (λ z. d (omega arith)) c.from_of-y.ensures
