-- `number::put` meets its contract. Its digits are those of the number without its last one, and the last one. Assumes nothing.
use native.Mathlib.Omega.{arith}
use Rattle.sentences.proofs.DecimalLaws.{length-decimal_one, length-decimal_more}
use Rattle.explaining.proofs.PutLaws.{puts_one, puts_last, puts_length}
use Rattle.explaining.proofs.number.+put.Goals as goal

pub bounds-text-at : goal.bounds-text-at
bounds-text-at t c = omega (arith, length-decimal_one c.args.n (omega arith))

pub returns-then-n-lt10 : goal.returns-then-n-lt10
returns-then-n-lt10 t c =
    puts_one c.args.text.now c.args.at c.args.n (omega (arith, length-decimal_one c.args.n (omega arith))) (omega arith)

pub put-last-requires : goal.put-last-requires
put-last-requires t c = let more = length-decimal_more c.args.n (omega arith) in (omega arith, omega arith)

pub bounds-text-last : goal.bounds-text-last
bounds-text-last t c =
    let more = length-decimal_more c.args.n (omega arith) in
    let end = c.put-last.ensures.end in
    let same = puts_length (omega arith) c.put-last.ensures in
    omega arith

pub returns : goal.returns
returns t c = puts_last c.args.n c.requires (omega arith) c.put-last.ensures
