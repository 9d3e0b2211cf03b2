-- `followup_line_span_v1` meets its contract. The loop's invariant: `end` is where the walker stands after n lines, and `start` where the last of them began. The measure is what is left of `number`. Assumes nothing.
use mathlib.Core.Path.{◌≡◌, refl}
use native.Mathlib.Omega.{arith}
use native.Mathlib.Numerals.{add-one}
use Rattle.walker.proofs.TextLines.{span_stays}
use Rattle.followup.proofs.followup_line_span_v1.Goals as goal

pub loop-n-init : goal.loop-n-init
loop-n-init c = (omega arith, refl, refl)

pub returns-then-end-start : goal.returns-then-end-start
returns-then-end-start c =
    span_stays _ c.loop-n.n _ _ _ c.loop-n-test.true c.loop-n.invariant.2 c.moved_from-end.ensures c.if-end-start.true

pub loop-n-preserved : goal.loop-n-preserved
loop-n-preserved c = let inv = c.loop-n.invariant in (omega arith, rw add-one inv.2, rw (add-one, ← inv.2) c.moved_from-end.ensures)

pub returns : goal.returns
returns c =
    let loop = c.loop-n in
    let all : loop.n ≡ c.args.number = omega arith in
    (rw all at loop.invariant.1, rw all at loop.invariant.2)
