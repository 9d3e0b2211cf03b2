-- `number::put` meets its contract. The measure is the number: what is left of it, without its last digit, is below it. Assumes nothing.
use Rattle.explaining.proofs.number.+put.Given as goal

abbrev pub decreases-put : goal.decreases-put
decreases-put l = l.n
