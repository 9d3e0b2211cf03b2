-- `forecasting::marks::rule_marks` counts the marks of a rule. The invariant: the marks of the H lines passed are counted. Assumes nothing.
use native.Mathlib.Omega.{arith}
use Rattle.rules.proofs.SheetLaws.{size_held}
use Rattle.forecasting.proofs.MarkLaws.{body_asks, heads_none, head_asks, heads_next, heads_end, lines_end}
use Rattle.forecasting.proofs.marks.rule_marks.Goals as goal

pub body_marks-met-requires : goal.body_marks-met-requires
body_marks-met-requires c =
    body_asks c.args.n c.requires

pub overflow_sub-h-end : goal.overflow_sub-h-end
overflow_sub-h-end c = omega (arith, size_held c.requires.0)

pub loop-h-init : goal.loop-h-init
loop-h-init c =
    heads_none c.args.n c.requires c.body_marks-met.ensures

pub returns-then-lines-n-ne-LETTER_H : goal.returns-then-lines-n-ne-LETTER_H
returns-then-lines-n-ne-LETTER_H c =
    heads_end c.args.n c.requires c.loop-h.invariant (omega (arith, c.loop-h-test.true)) c.if-lines-n-ne-LETTER_H.true

pub count_head-counts-requires : goal.count_head-counts-requires
count_head-counts-requires c =
    head_asks c.args.n c.requires c.loop-h.invariant (omega (arith, c.loop-h-test.true)) c.if-lines-n-ne-LETTER_H.false

pub loop-h-preserved : goal.loop-h-preserved
loop-h-preserved c =
    heads_next c.args.n c.requires c.loop-h.invariant (omega (arith, c.loop-h-test.true)) c.if-lines-n-ne-LETTER_H.false
    c.count_head-counts.ensures

pub returns : goal.returns
returns c =
    lines_end c.args.n c.requires c.loop-h.invariant (omega (arith, size_held c.requires.0, c.loop-h-test.false))
