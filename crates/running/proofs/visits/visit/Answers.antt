-- `visit` meets its contract. The loop's invariant: the first r rules are visited, and the others lead to the last state. Assumes nothing.
use mathlib.Core.Path.{refl, sym, ap, ◌∙◌}
use Prim.Native.Nat.{ℕ, ◌/◌}
use native.Mathlib.Omega.{arith}
use Rattle.running.specs.Inner.Firing.{row_no}
use Rattle.running.proofs.FiringLaws.{stored_record}
use Rattle.running.proofs.VisitLaws.{going_begun, going_idle, going_more, going_over, going_done}
use Rattle.running.proofs.visits.visit.Goals as goal
use Rattle.running.proofs.visits.visit.Goals.{then-from-kind+in_ok-c, else-from-kind}

pub cell-kind-requires : goal.cell-kind-requires
cell-kind-requires c =
    let r = stored_record c.requires.0.stored c.args.i c.requires.2 in
    (r.small, omega arith, r.inside)

pub loop-r-init : goal.loop-r-init
loop-r-init c = going_begun c.requires.0 (row_no c.args.rows.now c.args.i)

pub bounds-fresh-r : goal.bounds-fresh-r
bounds-fresh-r c = omega (arith, c.loop-r-test.true, c.requires.3, c.requires.1.size)

pub visit_rule-requires : goal.visit_rule-requires
visit_rule-requires c =
    let v = c.loop-r.invariant in
    (v.left.running v.few, c.requires.1, c.loop-r-test.true, omega (arith, v.left.more, c.requires.2))

pub returns-in_err-c : goal.returns-in_err-c
returns-in_err-c c =
    let over = c.in_err-c.ensures in
    rw c.from_residual.ensures
    (over.0, over.1, going_over c.loop-r.invariant c.args.i c.requires.2 refl c.loop-r-test.true over.2 over.1)

pub loop-r-preserved : goal.loop-r-preserved
loop-r-preserved c =
    let going = c.loop-r.invariant in
    let more = c.loop-r-test.true in
    elim c.if-from-kind.branch [
      | then-from-kind+in_ok-c w ↦
          let left = w.in_ok-c.ensures in
          rw (w.rows-is, w.index-is, w.c-is) (going_more going c.args.i c.requires.2 refl more left.1 left.0)
      | else-from-kind w ↦
          rw (w.rows-is, w.index-is, w.c-is) (going_idle going c.args.i c.requires.2 refl more
          (λ e. w.if-from-kind.false (c.from.ensures ∙ c.requires.1.kinds c.loop-r.r more ∙ e ∙ sym (ap (λ (n : ℕ). n / 8) c.cell-kind.ensures.0))))
    ]

pub returns : goal.returns
returns c = (c.loop-r.invariant.few, going_done c.loop-r.invariant c.loop-r-test.false)
