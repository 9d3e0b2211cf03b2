-- `sheet::order::top_mark` meets its contract. The loop's invariant: the marks passed are right, and `top` is the largest. Assumes nothing.
use Rattle.std.proofs.Common.{◌≡◌, drop}
use Rattle.sheet.specs.Inner.Promises.{marks_top}
use Rattle.sheet.proofs.order.top_mark.Given as goal

abbrev pub invariant-loop-mark : goal.invariant-loop-mark
invariant-loop-mark l = marks_top l.m l.marks ≡ marks_top l.top (drop l.mark-index l.marks)
