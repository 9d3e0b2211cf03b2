-- `forecasting::marks::count_head` counts the marks of an H line. The invariant: those passed are counted, each once. Assumes nothing.
use Rattle.std.specs.Prelude.{take}
use Rattle.forecasting.specs.Inner.Marks.{HeadsCounted}
use Rattle.forecasting.proofs.marks.count_head.Given as goal

abbrev pub invariant-loop-mark : goal.invariant-loop-mark
invariant-loop-mark l = HeadsCounted l.lines l.n l.h l.met l.counts (take l.mark-index l.marks)
