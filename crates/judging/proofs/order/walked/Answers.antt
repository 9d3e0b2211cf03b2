-- `order::walked` meets its contract. The measures are the shapes left to shelve, the roots left, and twice the shapes without a mark plus the depth. Assumes nothing.
use mathlib.Core.Path.{◌∙◌}
use mathlib.Core.Bool.{Bool, true, false}
use Prim.Native.Nat.{ℕ, ◌-◌}
use native.Mathlib.Omega.{arith}
use lib.ListN.{length-set, length-replicate}
use lib.Seq.{get_or-set_other}
use Rattle.rules.proofs.PartLaws.{zero_at}
use Rattle.judging.proofs.OrderLaws.{unmarked_at, walk_none, depth_left, unmarked_few, more, deeper, entered, enter, shelve, leave, pass, ordered, walk_is}
use Rattle.judging.proofs.order.walked.Goals as goal
use Rattle.judging.proofs.order.walked.Goals.{then-not-marks-root, else-not-marks-root}

pub loop-left-init : goal.loop-left-init
loop-left-init c =
    (c.requires.1, λ x l. unmarked_at 512 x, walk_none c.requires.2 (length-replicate {A = ℕ} 512 0) (length-replicate {A = Bool} 512 false) (length-replicate {A = ℕ} 512 0) (zero_at 512) (unmarked_at 512))

pub loop-left-preserved : goal.loop-left-preserved
loop-left-preserved c =
    let t = c.loop-left-test.true in
    let w = c.loop-left.invariant.2 in
    let l = w.within in (
      c.loop-left.invariant.0,
      λ x b. get_or-set_other c.loop-left.marks (c.loop-left.left - 1) x true false (λ e. omega arith) ∙ c.loop-left.invariant.1 x (omega arith),
      shelve w (c.loop-left.left - 1) (omega arith) (c.loop-left.invariant.1 (c.loop-left.left - 1) (omega arith)),
    )

pub loop-depth-init : goal.loop-depth-init
loop-depth-init c =
    let w = c.loop-root.invariant.2 in
    let t = c.loop-root-test.true in (
      t,
      c.loop-root.invariant.1,
      elim c.if-not-marks-root.branch [
        | then-not-marks-root j ↦
            let bare = j.if-not-marks-root.true in
            walk_is j.marks-is j.stack-is j.depth-is (pass (enter w c.loop-root.root t bare) (entered w c.loop-root.root t bare))
        | else-not-marks-root j ↦ walk_is j.marks-is j.stack-is j.depth-is (pass w j.if-not-marks-root.false)
      ],
    )

pub offset_bounds-stack-depth : goal.offset_bounds-stack-depth
offset_bounds-stack-depth c =
    let w = c.loop-depth.invariant.2 in let l = depth_left w in let few = w.few in let in_all = w.within in omega arith

pub bounds-stack-depth : goal.bounds-stack-depth
bounds-stack-depth c =
    let w = c.loop-depth.invariant.2 in let l = depth_left w in let few = w.few in let in_all = w.within in let t = c.loop-depth-test.true in omega arith

pub offset_bounds-stack-depth-in-Some : goal.offset_bounds-stack-depth-in-Some
offset_bounds-stack-depth-in-Some c =
    let w = c.loop-depth.invariant.2 in
    let p = c.in-Some.ensures.place in
    let b = c.in-Some.ensures.bare in
    let d = deeper w _ p b in omega arith

pub bounds-stack-depth-in-Some : goal.bounds-stack-depth-in-Some
bounds-stack-depth-in-Some c =
    let w = c.loop-depth.invariant.2 in
    let p = c.in-Some.ensures.place in
    let b = c.in-Some.ensures.bare in
    let d = deeper w _ p b in omega arith

pub overflow_add-depth : goal.overflow_add-depth
overflow_add-depth c =
    let w = c.loop-depth.invariant.2 in
    let p = c.in-Some.ensures.place in
    let b = c.in-Some.ensures.bare in
    let d = deeper w _ p b in omega arith

pub loop-depth-smaller-in-Some : goal.loop-depth-smaller-in-Some
loop-depth-smaller-in-Some c =
    let w = c.loop-depth.invariant.2 in
    let p = c.in-Some.ensures.place in
    let b = c.in-Some.ensures.bare in
    let m = more w _ p b in
    let f = unmarked_few (enter w _ p b) in omega arith

pub loop-depth-preserved-in-Some : goal.loop-depth-preserved-in-Some
loop-depth-preserved-in-Some c =
    let w = c.loop-depth.invariant.2 in
    let p = c.in-Some.ensures.place in
    let b = c.in-Some.ensures.bare in
    (c.loop-depth.invariant.0, simp length-set c.loop-depth.invariant.1, enter w _ p b)

pub overflow_sub-left-in_default : goal.overflow_sub-left-in_default
overflow_sub-left-in_default c =
    let w = c.loop-depth.invariant.2 in let l = depth_left w in let few = w.few in let in_all = w.within in let t = c.loop-depth-test.true in omega arith

pub loop-depth-preserved : goal.loop-depth-preserved
loop-depth-preserved c =
    (c.loop-depth.invariant.0, c.loop-depth.invariant.1, leave c.loop-depth.invariant.2 c.loop-depth-test.true)

pub returns : goal.returns
returns c =
    ordered c.loop-root.invariant.2 c.loop-root-test.false (omega arith)
