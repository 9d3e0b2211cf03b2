-- `polynomial` meets its contract: the value of the coefficients passed, the last first. Assumes nothing.
use Rattle.arithmetic.proofs.CappedLaws.{Valued}
use Rattle.arithmetic.proofs.polynomial.Given as goal

abbrev pub invariant-loop-coefficient : goal.invariant-loop-coefficient
invariant-loop-coefficient l = Valued l.coefficients l.coefficient-iterator.iter.rest.now l.t l.sum
