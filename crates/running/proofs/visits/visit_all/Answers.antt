-- `visit_all` meets its contract. The invariant: where the visits stand, and the others lead to the last state. Assumes nothing.
use native.Mathlib.Omega.{arith}
use Rattle.running.proofs.VisitLaws.{visiting_begun, visiting_more, visiting_over, visiting_done}
use Rattle.running.proofs.visits.visit_all.Goals as goal

pub loop-i-init : goal.loop-i-init
loop-i-init c =
    (omega arith, visiting_begun c.requires.0)

pub visit-requires : goal.visit-requires
visit-requires c =
    let v = c.loop-i.invariant.1 in
    (v.left.running v.few, c.requires.1, c.loop-i-test.true, c.requires.2)

pub returns-in_err-c : goal.returns-in_err-c
returns-in_err-c c =
    let over = c.in_err-c.ensures in
    rw c.from_residual.ensures
    (over.0, over.1, visiting_over c.loop-i.invariant.1 c.loop-i-test.true over.2 over.1)

pub overflow_add-i : goal.overflow_add-i
overflow_add-i c =
    let v = c.loop-i.invariant.1 in
    omega (arith, c.loop-i-test.true, v.few)

pub loop-i-smaller : goal.loop-i-smaller
loop-i-smaller c =
    let v = c.loop-i.invariant.1 in
    omega (arith, c.loop-i-test.true, v.few)

pub loop-i-preserved : goal.loop-i-preserved
loop-i-preserved c =
    let left = c.in_ok-c.ensures in
    (omega (arith, left.1.more, c.loop-i-test.true), visiting_more c.loop-i.invariant.1 c.loop-i-test.true left.1 left.0)

pub returns : goal.returns
returns c =
    let v = c.loop-i.invariant.1 in
    (v.few, visiting_done c.loop-i.i v c.loop-i-test.false)
