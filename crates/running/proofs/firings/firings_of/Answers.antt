-- `firings_of` meets its contract: the pairs that are noted are those of the rule on the records passed. Assumes nothing.
use mathlib.Core.Path.{sym, ◌∙◌, subst, ap}
use mathlib.Core.Bool.{not}
use native.Mathlib.Omega.{arith}
use Rattle.rules.specs.Inner.Tests.{Decides}
use Rattle.carrying.specs.Carrying.{FiresOn}
use Rattle.running.specs.Inner.Firing.{rule_at, row_no}
use Rattle.running.proofs.CountLaws.{counting_begun, counting_record, counting_idle, counting_records, counting_bucket, counting_room, counting_there, counting_new, counting_as, counting_done}
use Rattle.running.proofs.firings.firings_of.Goals as goal
use Rattle.running.proofs.firings.firings_of.Goals.{Then-fires, then-fires+then-is_none, then-fires+else-is_none, else-fires}

fires : (c : Then-fires) → FiresOn (rule_at c.args.table.now c.args.r) (row_no c.args.rows.now c.loop-i.i)
fires c =
    let a = c.args in
    subst (Decides (FiresOn (rule_at a.table.now a.r) (row_no a.rows.now c.loop-i.i))) c.if-fires.true c.fires.ensures

pub loop-i-init : goal.loop-i-init
loop-i-init c =
    counting_begun c.args.table.now c.args.rules c.args.r c.requires.0 c.requires.1

pub fires-requires : goal.fires-requires
fires-requires c =
    (counting_record c.loop-i.invariant c.loop-i-test.true, c.requires.2, c.requires.3)

pub bucket-b-requires : goal.bucket-b-requires
bucket-b-requires c =
    (counting_record c.loop-i.invariant c.loop-i-test.true, c.requires.2, c.requires.3, c.requires.0.mixing)

pub find-requires : goal.find-requires
find-requires c =
    let k = c.loop-i.invariant in
    let b = c.bucket-b in (
      counting_record k c.loop-i-test.true,
      counting_records k c.loop-i-test.true c.requires.2 c.requires.3 (fires (goal.at.find-requires c).Then-fires),
      c.requires.2,
      c.requires.3,
      b.ensures.1,
      counting_bucket k c.loop-i-test.true c.requires.2 c.requires.3 (fires (goal.at.find-requires c).Then-fires) b.result b.ensures.0,
    )

pub note-requires : goal.note-requires
note-requires c =
    let k = c.loop-i.invariant in (
      k.running.stored.size,
      counting_room k c.loop-i-test.true c.requires.2 c.requires.3 (fires (goal.at.note-requires c).Then-fires),
      omega (arith, c.requires.2.few, c.requires.3),
      (counting_record k c.loop-i-test.true).small,
      c.bucket-b.ensures.1,
    )

pub loop-i-preserved : goal.loop-i-preserved
loop-i-preserved c =
    let a = c.args in
    let k = c.loop-i.invariant in
    let more = c.loop-i-test.true in
    elim c.if-fires.branch [
      | then-fires+then-is_none w ↦
          counting_as
          (counting_new k more c.requires.2 c.requires.3 (subst (Decides (FiresOn (rule_at a.table.now a.r) (row_no a.rows.now c.loop-i.i))) w.if-fires.true c.fires.ensures) w.find.result w.find.ensures (w.is_none.ensures ∙ ap not w.if-is_none.true) w.bucket-b.result w.bucket-b.ensures.1 w.bucket-b.ensures.0)
          (w.index-is ∙ w.note.ensures) w.n-is
      | then-fires+else-is_none w ↦
          counting_as (counting_there k more c.requires.2 c.requires.3 (subst (Decides (FiresOn (rule_at a.table.now a.r) (row_no a.rows.now c.loop-i.i))) w.if-fires.true c.fires.ensures) w.find.result w.find.ensures (w.is_none.ensures ∙ ap not w.if-is_none.false)) w.index-is w.n-is
      | else-fires w ↦ counting_as (counting_idle k more (subst (Decides (FiresOn (rule_at a.table.now a.r) (row_no a.rows.now c.loop-i.i))) w.if-fires.false c.fires.ensures)) w.index-is w.n-is
    ]

pub shape_of-index : goal.shape_of-index
shape_of-index c = c.loop-i.invariant.running.stored.size ∙ sym c.requires.0.size

pub returns : goal.returns
returns c = counting_done c.loop-i.invariant c.loop-i-test.false
