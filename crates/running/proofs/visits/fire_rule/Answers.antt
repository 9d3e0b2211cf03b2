-- `fire_rule` meets its contract: with its pairs kept, or else without. Assumes nothing.
use mathlib.Core.Path.{sym, subst, ◌∙◌}
use native.Mathlib.Omega.{arith}
use Rattle.running.specs.Inner.Firing.{Ready}
use Rattle.running.specs.Inner.Visits.{keep_in}
use Rattle.running.proofs.VisitLaws.{over_as, left_once, left_made}
use Rattle.running.proofs.visits.fire_rule.Goals as goal

pub overflow_add-r : goal.overflow_add-r
overflow_add-r c =
    omega (arith, c.requires.2, (c.requires.1.ready c.args.r c.requires.2).fits.few)

pub bounds-fresh-r : goal.bounds-fresh-r
bounds-fresh-r c =
    omega (arith, c.requires.1.size, c.requires.2, (c.requires.1.ready c.args.r c.requires.2).fits.few)

pub returns-then-keep-ne0 : goal.returns-then-keep-ne0
returns-then-keep-ne0 c =
    over_as c.fire_once.result (λ d l. left_once c.requires.0 (keep_in c.args.fresh.now c.args.r) c.args.r c.args.i (λ q. c.if-keep-ne0.true (c.from-keep.ensures ∙ q)) l) c.fire_once.ensures

pub bounds-fresh-r-2 : goal.bounds-fresh-r-2
bounds-fresh-r-2 c =
    omega (arith, c.requires.1.size, c.requires.2, (c.requires.1.ready c.args.r c.requires.2).fits.few)

pub fire-requires : goal.fire-requires
fire-requires c = (
  c.requires.0.stored,
  c.requires.3,
  subst (Ready c.args.table.now c.args.rules c.args.r) (sym c.from-low.ensures) (c.requires.1.ready c.args.r c.requires.2),
  omega (arith, c.requires.0.low, c.requires.0.noted.chain.small),
  c.requires.4,
)

pub returns-in_err-n : goal.returns-in_err-n
returns-in_err-n c =
    let over = c.in_err-n.ensures in
    rw c.from_residual.ensures
    (record { rows = over.0; pairs = c.args.c.pairs; next = c.args.c.next; by = c.args.c.by }, over.1, left_made c.requires.0 (keep_in c.args.fresh.now c.args.r) c.args.r c.args.i (sym c.from-keep.ensures ∙ c.if-keep-ne0.false) over.2)

pub returns : goal.returns
returns c =
    let fired = c.in_ok-n.ensures in
    (fired.0, left_made c.requires.0 (keep_in c.args.fresh.now c.args.r) c.args.r c.args.i (sym c.from-keep.ensures ∙ c.if-keep-ne0.false) fired.1)
