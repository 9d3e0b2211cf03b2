-- `running::marks::top_heads` meets its contract. The invariant: the largest of the marks of the H lines so far. Assumes nothing.
use Prim.Native.Nat.{◌<◌, ◌≤◌}
use native.Mathlib.Omega.{arith}
use borrow.Author.Rules.{rules}
use lib.ListN.{get_or}
use Rattle.rules.specs.Table.{row_bytes}
use Rattle.rules.proofs.RuleLaws.{RowFits, row_fits, head_below, head_width_read}
use Rattle.running.proofs.MarkLaws.{top_head, top-heads}
use Rattle.running.proofs.marks.top_heads.Goals as goal
use Rattle.running.proofs.marks.top_heads.Goals.{After-rule_byte-count, In-loop-h, Start}

row : (c : Start) → RowFits (row_bytes c.args.table.now c.args.r)
row c = row_fits c.args.table.now c.args.rules c.args.r c.requires.0 c.requires.1

there : (c : In-loop-h) → c.loop-h.h < get_or (row_bytes c.args.table.now c.args.r) 28 0
there c = omega (arith, c.loop-h-test.true, c.rule_byte-heads.ensures.0)

few-heads : (c : In-loop-h) → c.loop-h.h < 4
few-heads c =
    let row = row_fits c.args.table.now c.args.rules c.args.r c.requires.0 c.requires.1 in
    head_below (row_bytes c.args.table.now c.args.r) row.size row.fits c.loop-h.h (there c)

width_few : (c : After-rule_byte-count) → c.rule_byte-count.result ≤ 6
width_few c =
    (head_width_read (row_fits c.args.table.now c.args.rules c.args.r c.requires.0 c.requires.1) c.loop-h.h (omega (arith, c.loop-h-test.true, c.rule_byte-heads.ensures.0)) c.rule_byte-count.result c.rule_byte-count.ensures.0).few

pub rule_byte-count-requires : goal.rule_byte-count-requires
rule_byte-count-requires c =
    let p = c.requires in
    (p.0.size, omega (arith, p.0.few, p.1), omega (arith, few-heads (goal.at.rule_byte-count-requires c).In-loop-h))

pub top-t-requires : goal.top-t-requires
top-t-requires c =
    let p = c.requires in
    (p.0.size, omega (arith, p.0.few, p.1), omega (arith, few-heads (goal.at.top-t-requires c).In-loop-h, width_few (goal.at.top-t-requires c).After-rule_byte-count))

pub loop-h-preserved : goal.loop-h-preserved
loop-h-preserved c =
    let l = c.loop-h in (
      search rules,
      top_head (row (goal.at.loop-h-preserved c).Start) c.args.m l.h l.t c.top-t.result c.rule_byte-count.result (there (goal.at.loop-h-preserved c).In-loop-h) l.invariant.1 c.rule_byte-count.ensures.0 c.top-t.ensures,
    )

pub returns : goal.returns
returns c =
    let l = c.loop-h in
    top-heads (row (goal.at.returns c).Start) c.args.m l.h l.t (omega (arith, c.loop-h-test.false, c.rule_byte-heads.ensures.0)) l.invariant.1
