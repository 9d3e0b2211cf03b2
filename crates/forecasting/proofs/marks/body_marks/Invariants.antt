-- `forecasting::marks::body_marks` marks the marks of the B line. The invariant: what is said of the marks passed is so. Assumes nothing.
use Rattle.std.specs.Prelude.{[], take}
use Rattle.forecasting.specs.Inner.Marks.{Counted}
use Rattle.forecasting.proofs.marks.body_marks.Given as goal

abbrev pub invariant-loop-mark : goal.invariant-loop-mark
invariant-loop-mark l = Counted (take l.mark-index l.marks) [] l.met 0 0
