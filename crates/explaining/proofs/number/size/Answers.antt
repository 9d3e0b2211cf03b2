-- `number::size` meets its contract: one digit more than the largest power of 10 in the number. Assumes nothing.
use native.Mathlib.Omega.{arith}
use Rattle.sentences.proofs.DecimalLaws.{length-decimal_one, length-decimal_power}
use Rattle.explaining.proofs.number.size.Goals as goal

pub returns-then-n-eq0 : goal.returns-then-n-eq0
returns-then-n-eq0 c = let one = length-decimal_one c.args.n (omega arith) in (omega arith, omega arith)

pub returns : goal.returns
returns c =
    let log = c.ilog10.ensures in
    let size = length-decimal_power c.ilog10.result c.args.n log.power_le log.next_power_gt in
    let few = log.bound in
    (omega arith, omega arith)
