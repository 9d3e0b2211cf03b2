-- `forecasting::marks::rule_marks` counts the marks of a rule. The invariant: the marks of the H lines passed are counted. Assumes nothing.
use Rattle.forecasting.proofs.MarkLaws.{HeadsPassed}
use Rattle.forecasting.proofs.marks.rule_marks.Given as goal

abbrev pub invariant-loop-h : goal.invariant-loop-h
invariant-loop-h l = HeadsPassed l.lines l.n l.h l.met l.counts
