-- `fire` meets its contract. The loop's invariant: what the first h H lines make is added, and there is room. Assumes nothing.
use mathlib.Core.Path.{sym, subst}
use mathlib.Core.List.{List}
use Prim.Native.Nat.{ℕ, ◌+◌, ◌<◌, ◌≤◌}
use native.Mathlib.Omega.{arith}
use lib.ListN.{length, get_or}
use Rattle.rules.specs.Table.{row_bytes}
use Rattle.rules.proofs.RuleLaws.{head-count}
use Rattle.carrying.specs.Carrying.{FiresOn, row_made}
use Rattle.running.specs.Inner.Held.{unpacked, rows_at}
use Rattle.running.specs.Inner.Firing.{rule_at, row_no, head_no, RecordIn, with_made}
use Rattle.running.proofs.FiringLaws.{ready_row, made_narrow, made_whole, made_all, grown-none, grown_head, made-packed, grown_over_whole, grown_as, stored_record}
use Rattle.running.proofs.firing.fire.Goals as goal
use Rattle.running.proofs.firing.fire.Goals.{In-loop-h}

there : (c : In-loop-h) → c.loop-h.h < get_or (row_bytes c.args.table.now c.args.r) 28 0
there c = omega (arith, c.rule_byte-heads.ensures.0, c.loop-h-test.true)

-- The record is where it was.
now-in : (c : In-loop-h) → RecordIn c.loop-h.rows c.args.i
now-in c =
    let v = c.loop-h.invariant in
    stored_record (v.2.stored v.1) c.args.i (omega (arith, v.2.more, c.requires.1))

now-fires : (c : In-loop-h) → FiresOn (rule_at c.args.table.now c.args.r) (row_no c.loop-h.rows c.args.i)
now-fires c =
    subst (λ (row : List ℕ). FiresOn (rule_at c.args.table.now c.args.r) (unpacked row)) (sym (c.loop-h.invariant.2.same c.args.i c.requires.1)) c.requires.4

narrow : (c : In-loop-h)
    → length (row_made c.args.c.next (rule_at c.args.table.now c.args.r) (row_no c.loop-h.rows c.args.i)
    (head_no (row_bytes c.args.table.now c.args.r) c.loop-h.h)).numbers ≤ 6
narrow c = made_narrow c.requires.2 c.loop-h.h (there c) (now-in c).packed (now-fires c) c.args.c.next

pub loop-h-init : goal.loop-h-init
loop-h-init c = (omega arith, c.requires.0.few, grown-none c.requires.0)

pub made-row-requires : goal.made-row-requires
made-row-requires c =
    (now-in (goal.at.made-row-requires c).In-loop-h, c.requires.2, there (goal.at.made-row-requires c).In-loop-h, c.requires.3, now-fires (goal.at.made-row-requires c).In-loop-h)

pub add-requires : goal.add-requires
add-requires c =
    let loop = c.loop-h in
    let m = made-packed (row_made c.args.c.next (rule_at c.args.table.now c.args.r) (row_no loop.rows c.args.i) (head_no (row_bytes c.args.table.now c.args.r) loop.h))
    c.made-row.ensures (narrow (goal.at.add-requires c).In-loop-h) in
    (loop.invariant.2.stored loop.invariant.1, m.0, m.1)

pub returns-in_err-n : goal.returns-in_err-n
returns-in_err-n c =
    let rule = rule_at c.args.table.now c.args.r in
    let rows = rows_at c.args.rows.now c.args.c.rows in
    let over = c.in_err-n.ensures in
    rw c.from_residual.ensures (
      over.0,
      over.1,
      grown_over_whole (with_made c.args.c.next rule (row_no c.args.rows.now c.args.i) rows)
          (grown_head c.requires.2 c.args.c.next c.args.i c.requires.4 c.requires.1 c.loop-h.invariant.1 c.loop-h.invariant.2 (there (goal.at.returns-in_err-n c).In-loop-h) c.made-row.ensures
          over.2 (c.requires.0.each c.args.i c.requires.1)) over.1
          (made_whole (row_made c.args.c.next rule (row_no c.args.rows.now c.args.i)) rule.heads (c.loop-h.h + 1) rows),
    )

pub loop-h-preserved : goal.loop-h-preserved
loop-h-preserved c = (
  omega (arith, c.loop-h-test.true),
  c.in_ok-n.ensures.0,
  grown_head c.requires.2 c.args.c.next c.args.i c.requires.4 c.requires.1 c.loop-h.invariant.1 c.loop-h.invariant.2 (there (goal.at.loop-h-preserved c).In-loop-h) c.made-row.ensures
      c.in_ok-n.ensures.1 (c.requires.0.each c.args.i c.requires.1),
)

pub returns : goal.returns
returns c =
    let rule = rule_at c.args.table.now c.args.r in
    let rows = rows_at c.args.rows.now c.args.c.rows in
    let row = ready_row c.requires.2 in (
      c.loop-h.invariant.1,
      grown_as (with_made c.args.c.next rule (row_no c.args.rows.now c.args.i) rows) c.loop-h.invariant.2
          (made_all (row_made c.args.c.next rule (row_no c.args.rows.now c.args.i)) rule.heads c.loop-h.h rows
          (omega (arith, head-count (row_bytes c.args.table.now c.args.r) row.size row.fits, c.rule_byte-heads.ensures.0, c.loop-h-test.false))),
    )
