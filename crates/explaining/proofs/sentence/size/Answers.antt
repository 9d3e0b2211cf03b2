-- `sentence::size` meets its contract. Assumes nothing.
use mathlib.Core.Path.{ap}
use native.Mathlib.Omega.{arith}
use lib.ListN.{length}
use Rattle.explaining.proofs.PutLaws.{length-sentence, manner_few, place_few}
use Rattle.explaining.proofs.sentence.size.Goals as goal

pub returns : goal.returns
returns c =
    let s = c.args.s in
    let e = length-sentence s.in_loop (record { step = record { rule = s.rule; head = s.head; from = s.from; to = s.to; fresh = s.fresh }; body = s.body; made = s.made }) in
    let manner = ap length c.manner.ensures in
    let place = ap length c.place.ensures in
    let few = manner_few s.from s.to s.fresh in
    let short = place_few s.in_loop in
    (omega arith, omega arith)
