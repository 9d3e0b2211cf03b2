-- `fresh::head_fresh` meets its contract: the fields passed have no fresh mark. Assumes nothing.
use mathlib.Core.Path.{◌≡◌, ◌∙◌}
use borrow.Author.Count.{below_more}
use Rattle.rules.specs.Table.{row_bytes}
use Rattle.judging.specs.Inner.Passes.{place_of}
use Rattle.judging.proofs.LinkLaws.{place_read}
use Rattle.judging.proofs.fresh.head_fresh.Goals as goal
use Rattle.judging.proofs.fresh.head_fresh.Goals.{After-rule_byte}

-- The mark's place, as it is read.
place : (c : After-rule_byte)
    → c.rule_byte.result
    ≡ place_of (row_bytes c.args.table.now c.args.r)
    c.args.h c.loop-j.j
place c =
    let a = c.args in
    place_read (row_bytes a.table.now a.r) a.h c.loop-j.j c.rule_byte-mark.ensures.0 c.rule_byte.ensures.0

pub loop-j-preserved : goal.loop-j-preserved
loop-j-preserved c =
    let a = c.args in
    below_more (λ i. place_of (row_bytes a.table.now a.r) a.h i ≡ 0 → ⊥) c.loop-j.j c.loop-j.invariant (λ z. c.if-rule_byte-eq0.false (place (goal.at.loop-j-preserved c).After-rule_byte ∙ z))
