-- `terms::kind_terms` meets its contract. The invariant: the kinds of the lines passed are counted by their widths. Assumes nothing.
use Rattle.forecasting.proofs.TermLaws.{KindsSeen}
use Rattle.forecasting.proofs.terms.kind_terms.Given as goal

abbrev pub invariant-loop-line : goal.invariant-loop-line
invariant-loop-line l = KindsSeen l.lines l.line-index l.kinds
