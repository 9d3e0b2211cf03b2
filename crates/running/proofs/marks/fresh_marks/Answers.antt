-- `running::marks::fresh_marks` meets its contract. The invariant: the rules so far have theirs. Assumes nothing.
use mathlib.Core.Path.{◌≡◌, ◌∙◌}
use Prim.Native.Nat.{ℕ, ◌-◌, ◌<◌, ◌≤◌}
use native.Mathlib.Omega.{arith}
use borrow.Author.Rules.{rules}
use lib.ListN.{length-replicate}
use Rattle.chase.specs.Rules.{marks_of}
use Rattle.rules.specs.Table.{row_bytes}
use Rattle.rules.proofs.RuleLaws.{row_fits, width_read, rule_kind}
use Rattle.running.specs.Inner.Firing.{rule_at}
use Rattle.running.proofs.MarkLaws.{prepared_none, prepared_more, prepared_all, low_of, top_of, all_most, top_from, low_read, top_read, keeping_all}
use Rattle.running.proofs.marks.fresh_marks.Goals as goal
use Rattle.running.proofs.marks.fresh_marks.Goals.{After-top_heads}

low : (c : After-top_heads) → c.top-low.result ≡ low_of (rule_at c.args.table.now c.loop-r.r)
low c =
    low_read (row_bytes c.args.table.now c.loop-r.r) c.rule_byte.result c.top-low.result c.rule_byte.ensures.0 c.top-low.ensures

all : (c : After-top_heads) → c.top_heads.result ≡ top_of (rule_at c.args.table.now c.loop-r.r)
all c =
    top_read (rule_at c.args.table.now c.loop-r.r) c.top-low.result c.top_heads.result (low c) c.top_heads.ensures

few : (c : After-top_heads) → (c.top-low.result ≤ c.top_heads.result) × (c.top_heads.result ≤ 12)
few c =
    let rule = rule_at c.args.table.now c.loop-r.r in (
      omega (arith, all c, low c, top_from (low_of rule) (marks_of rule.heads)),
      omega (arith, all c, all_most c.requires.1 c.loop-r.r c.loop-r-test.true),
    )

room : (c : After-top_heads) → c.loop-r.r < 256
room c = omega (arith, c.loop-r-test.true, c.requires.0.few)

pub loop-r-init : goal.loop-r-init
loop-r-init c = prepared_none _ _ _ (length-replicate {A = ℕ} 1024 0)

pub rule_byte-requires : goal.rule_byte-requires
rule_byte-requires c =
    let p = c.requires.0 in
    (p.size, omega (arith, p.few, c.loop-r-test.true), omega arith)

pub top-low-requires : goal.top-low-requires
top-low-requires c =
    let a = c.args in
    let p = c.requires.0 in (
      p.size,
      omega (arith, p.few, c.loop-r-test.true),
      omega (arith, (width_read (row_fits a.table.now a.rules c.loop-r.r p c.loop-r-test.true) c.rule_byte.result c.rule_byte.ensures.0).few),
    )

pub overflow_sub-new : goal.overflow_sub-new
overflow_sub-new c = (few (goal.at.overflow_sub-new c).After-top_heads).0

pub overflow_cast-fresh : goal.overflow_cast-fresh
overflow_cast-fresh c = let f = few (goal.at.overflow_cast-fresh c).After-top_heads in search rules

pub bounds-fresh-r : goal.bounds-fresh-r
bounds-fresh-r c = omega (arith, room (goal.at.bounds-fresh-r c).After-top_heads, c.loop-r.invariant.size)

pub overflow_cast-fresh-in-loop-r : goal.overflow_cast-fresh-in-loop-r
overflow_cast-fresh-in-loop-r c = let f = few (goal.at.overflow_cast-fresh-in-loop-r c).After-top_heads in search rules

pub overflow_add-fresh : goal.overflow_add-fresh
overflow_add-fresh c = let f = room (goal.at.overflow_add-fresh c).After-top_heads in search rules

pub bounds-fresh-r-in-loop-r : goal.bounds-fresh-r-in-loop-r
bounds-fresh-r-in-loop-r c = let f = room (goal.at.bounds-fresh-r-in-loop-r c).After-top_heads in let s = c.loop-r.invariant.size in search rules

pub overflow_cast-fresh-in-loop-r-2 : goal.overflow_cast-fresh-in-loop-r-2
overflow_cast-fresh-in-loop-r-2 c = omega (arith, (few (goal.at.overflow_cast-fresh-in-loop-r-2 c).After-top_heads).1, c.requires.2, c.max.ensures)

pub overflow_add-fresh-in-loop-r : goal.overflow_add-fresh-in-loop-r
overflow_add-fresh-in-loop-r c = let f = room (goal.at.overflow_add-fresh-in-loop-r c).After-top_heads in search rules

pub bounds-fresh-r-in-loop-r-2 : goal.bounds-fresh-r-in-loop-r-2
bounds-fresh-r-in-loop-r-2 c = let f = room (goal.at.bounds-fresh-r-in-loop-r-2 c).After-top_heads in let s = c.loop-r.invariant.size in search rules

pub rule_byte-requires-in-loop-r : goal.rule_byte-requires-in-loop-r
rule_byte-requires-in-loop-r c =
    let p = c.requires.0 in
    (p.size, omega (arith, p.few, c.loop-r-test.true), omega arith)

pub overflow_cast-fresh-in-loop-r-3 : goal.overflow_cast-fresh-in-loop-r-3
overflow_cast-fresh-in-loop-r-3 c = omega (arith, c.rule_byte-in-loop-r.ensures.1)

pub overflow_add-fresh-in-loop-r-2 : goal.overflow_add-fresh-in-loop-r-2
overflow_add-fresh-in-loop-r-2 c = let f = room (goal.at.overflow_add-fresh-in-loop-r-2 c).After-top_heads in search rules

pub bounds-fresh-r-in-loop-r-3 : goal.bounds-fresh-r-in-loop-r-3
bounds-fresh-r-in-loop-r-3 c = let f = room (goal.at.bounds-fresh-r-in-loop-r-3 c).After-top_heads in let s = c.loop-r.invariant.size in search rules

pub loop-r-preserved : goal.loop-r-preserved
loop-r-preserved c =
    prepared_more c.loop-r.invariant (room (goal.at.loop-r-preserved c).After-top_heads) c.top-low.result (c.top_heads.result - c.top-low.result) c.max.result c.rule_byte-in-loop-r.result
    (low (goal.at.loop-r-preserved c).After-top_heads) (omega (arith, all (goal.at.loop-r-preserved c).After-top_heads, low (goal.at.loop-r-preserved c).After-top_heads)) c.max.ensures
    (c.rule_byte-in-loop-r.ensures.0 ∙ rule_kind (row_bytes c.args.table.now c.loop-r.r))

pub returns : goal.returns
returns c = (prepared_all c.requires.1 c.loop-r.invariant c.loop-r-test.false c.requires.0, keeping_all c.requires.1 c.loop-r.invariant c.loop-r-test.false)
