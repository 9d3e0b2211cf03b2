-- `fresh::rule_fresh` meets its contract: the H lines passed have no fresh mark. Assumes nothing.
use native.Mathlib.Omega.{arith}
use borrow.Author.Count.{below_more}
use Rattle.rules.specs.Table.{row_bytes}
use Rattle.judging.specs.Inner.Fresh.{HeadFresh}
use Rattle.rules.proofs.TableLaws.{row_size}
use Rattle.judging.proofs.LinkLaws.{line_bytes}
use Rattle.judging.proofs.fresh.rule_fresh.Goals as goal

pub head_fresh-requires : goal.head_fresh-requires
head_fresh-requires c =
    let table = c.args.table.now in
    let r = c.args.r in
    let e = c.rule_byte-heads.ensures.0 in
    (c.requires.0, c.requires.1, line_bytes (row_bytes table r) c.loop-h.h (row_size table r c.requires.0 c.requires.1) c.requires.2 (omega arith))

pub loop-h-preserved : goal.loop-h-preserved
loop-h-preserved c =
    let a = c.args in
    below_more (λ i. HeadFresh (row_bytes a.table.now a.r) i → ⊥) c.loop-h.h c.loop-h.invariant (rw c.if-head_fresh.false at c.head_fresh.ensures)

pub returns : goal.returns
returns c =
    let e = c.rule_byte-heads.ensures.0 in
    λ f. let b = f.below in c.loop-h.invariant f.h (omega arith) f.head
