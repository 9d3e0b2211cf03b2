-- `fire_once` meets its contract: the pair is there, has no room, or is noted and the rule fires. Assumes nothing.
use mathlib.Core.Path.{sym, subst, ◌∙◌}
use Prim.Native.Nat.{◌+◌}
use native.Mathlib.Omega.{arith}
use Rattle.running.specs.Inner.Firing.{Ready}
use Rattle.running.proofs.VisitLaws.{record_in, records_in, noted_room, pair_there, pair_nowhere, pair_here, left_there, left_full, left_new, stored_noted}
use Rattle.running.specs.Inner.Pairs.{IsPair, pairs_at}
use Rattle.chase.specs.Lists.{In}
use Rattle.running.proofs.RecordLaws.{found_there, found_nowhere}
use Rattle.running.proofs.visits.fire_once.Goals as goal
use Rattle.running.proofs.visits.fire_once.Goals.{Then-is_some, Else-is_some}

pub bucket-b-requires : goal.bucket-b-requires
bucket-b-requires c =
    (record_in c.requires.0 (c.requires.1.ready c.args.r c.requires.2).fits c.args.r c.args.i c.requires.2 c.requires.3 c.requires.4, (c.requires.1.ready c.args.r c.requires.2).fits, c.requires.2, c.requires.0.stored.mixing)

pub find-requires : goal.find-requires
find-requires c = (
  record_in c.requires.0 (c.requires.1.ready c.args.r c.requires.2).fits c.args.r c.args.i c.requires.2 c.requires.3 c.requires.4,
  records_in c.requires.0 (c.requires.1.ready c.args.r c.requires.2).fits c.args.r c.args.i c.requires.2 c.requires.3 c.requires.4,
  (c.requires.1.ready c.args.r c.requires.2).fits,
  c.requires.2,
  c.bucket-b.ensures.1,
  record { by = c.args.c.by; noted = noted_room c.requires.0 (c.requires.1.ready c.args.r c.requires.2).fits c.args.r c.args.i c.requires.2 c.requires.3 c.requires.4; is = c.bucket-b.ensures.0 },
)

there : (c : Then-is_some) → In (pair_here c.requires.0 c.args.r c.args.i) (pairs_at c.args.table.now c.args.rows.now c.args.index.now c.args.c.pairs)
there c =
    let a = c.args in
    let f = found_there (IsPair a.table.now a.rows.now a.index.now a.r a.i) a.c.pairs c.find.result c.find.ensures (sym c.is_some.ensures ∙ c.if-is_some.true) in
    pair_there c.requires.0 (c.requires.1.ready a.r c.requires.2).fits a.r a.i c.requires.2 c.requires.3 c.requires.4 f.0 f.1 f.2

nowhere : (c : Else-is_some) → In (pair_here c.requires.0 c.args.r c.args.i) (pairs_at c.args.table.now c.args.rows.now c.args.index.now c.args.c.pairs) → ⊥
nowhere c =
    let a = c.args in
    pair_nowhere c.requires.0 (c.requires.1.ready a.r c.requires.2).fits a.r a.i c.requires.2 c.requires.3 c.requires.4
    (found_nowhere (IsPair a.table.now a.rows.now a.index.now a.r a.i) a.c.pairs c.find.result c.find.ensures (sym c.is_some.ensures ∙ c.if-is_some.false))

pub returns-then-is_some : goal.returns-then-is_some
returns-then-is_some c =
    (c.requires.0.stored.few, left_there c.requires.0 c.args.r c.args.i (there (goal.at.returns-then-is_some c).Then-is_some))

pub returns-then-c-eq4096 : goal.returns-then-c-eq4096
returns-then-c-eq4096 c =
    (record { rows = 4097; pairs = c.args.c.pairs; next = c.args.c.next; by = c.args.c.by }, omega arith, left_full c.requires.0 c.args.r c.args.i (nowhere (goal.at.returns-then-c-eq4096 c).Else-is_some) c.if-c-eq4096.true)

pub note-requires : goal.note-requires
note-requires c =
    (c.requires.0.noted.size, omega (arith, c.requires.0.noted.chain.small, c.if-c-eq4096.false), omega (arith, c.requires.2, (c.requires.1.ready c.args.r c.requires.2).fits.few), omega (arith, c.requires.3, c.requires.0.stored.few), c.bucket-b.ensures.1)

pub bounds-fresh-r : goal.bounds-fresh-r
bounds-fresh-r c =
    omega (arith, c.requires.1.size, c.requires.2, (c.requires.1.ready c.args.r c.requires.2).fits.few)

pub overflow_add-r : goal.overflow_add-r
overflow_add-r c =
    omega (arith, c.requires.2, (c.requires.1.ready c.args.r c.requires.2).fits.few)

pub bounds-fresh-r-2 : goal.bounds-fresh-r-2
bounds-fresh-r-2 c =
    omega (arith, c.requires.1.size, c.requires.2, (c.requires.1.ready c.args.r c.requires.2).fits.few)

pub fire-requires : goal.fire-requires
fire-requires c =
    let h = c.bucket-b in (
      stored_noted c.requires.0 c.args.r c.args.i h.result c.requires.2 c.requires.3 c.requires.4 c.if-c-eq4096.false h.ensures.1 h.ensures.0 c.note.ensures,
      c.requires.3,
      subst (Ready c.args.table.now c.args.rules c.args.r) (sym c.from-low.ensures) (c.requires.1.ready c.args.r c.requires.2),
      omega (arith, c.requires.0.low, c.requires.0.noted.chain.small),
      c.requires.4,
    )

pub overflow_add-result : goal.overflow_add-result
overflow_add-result c =
    omega (arith, c.requires.0.noted.chain.small)

pub overflow_add-result-2 : goal.overflow_add-result-2
overflow_add-result-2 c =
    omega (arith, c.requires.0.low, c.requires.0.noted.chain.small, c.from-new.ensures, c.requires.1.few c.args.r c.requires.2)

pub returns-in_err-n : goal.returns-in_err-n
returns-in_err-n c =
    let h = c.bucket-b in
    let a = c.args in
    let over = c.in_err-n.ensures in
    rw c.from_residual.ensures (
      record { rows = over.0; pairs = a.c.pairs + 1; next = a.c.next + c.from-new.result; by = a.c.by },
      over.1,
      left_new c.requires.0 a.r a.i (nowhere (goal.at.returns-in_err-n c).Else-is_some) h.result c.requires.2 c.requires.3 c.requires.4 c.if-c-eq4096.false h.ensures.1 h.ensures.0
          c.from-new.result (c.from-new.ensures ∙ c.requires.1.counted a.r c.requires.2) (omega (arith, c.from-new.ensures, c.requires.1.few a.r c.requires.2))
          c.note.ensures over.2,
    )

pub returns : goal.returns
returns c =
    let h = c.bucket-b in
    let a = c.args in
    let fired = c.in_ok-n.ensures in (
      fired.0,
      left_new c.requires.0 a.r a.i (nowhere (goal.at.returns c).Else-is_some) h.result c.requires.2 c.requires.3 c.requires.4 c.if-c-eq4096.false h.ensures.1 h.ensures.0
          c.from-new.result (c.from-new.ensures ∙ c.requires.1.counted a.r c.requires.2) (omega (arith, c.from-new.ensures, c.requires.1.few a.r c.requires.2))
          c.note.ensures fired.1,
    )
