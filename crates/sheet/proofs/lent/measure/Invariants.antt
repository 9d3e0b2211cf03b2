-- `sheet::lent::measure` meets its contract. What is known of the lines measured so far decides with the lines that are left. Assumes nothing.
use Rattle.sheet.proofs.Measuring.{Measures}
use Rattle.sheet.proofs.lent.measure.Given as goal

abbrev pub invariant-loop-n : goal.invariant-loop-n
invariant-loop-n l = Measures l.lines l.seen l.size l.n
