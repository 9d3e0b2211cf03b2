-- `answer::counts_of` meets its contract. Assumes nothing.
use native.Mathlib.Omega.{arith}
use Rattle.judging.proofs.Judged.{fired_few}
use Rattle.judging.proofs.answer.counts_of.Goals as goal

pub overflow_cast-fired : goal.overflow_cast-fired
overflow_cast-fired c =
    let few = c.requires.1 in
    let is = c.fired_count-fired.ensures in
    omega (arith, fired_few c.args.rules c.args.marks.now)
