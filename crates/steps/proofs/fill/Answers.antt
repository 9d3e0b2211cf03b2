-- `steps::fill` meets its contract: a turn shows one step more. Assumes nothing.
use Rattle.std.proofs.Common.{◌≡◌, take, arith, add-one}
use lib.Seq.{length-take-le}
use Rattle.steps.proofs.ShowingLaws.{showing-suc, showing_front}
use Rattle.steps.proofs.fill.Goals as goal

pub loop-i-preserved : goal.loop-i-preserved
loop-i-preserved c =
    rw (c.loop-i.invariant, c.step_at.ensures, add-one c.loop-i.i)
    (showing-suc c.args.numbers.now (take c.args.n c.args.records.now) c.loop-i.i c.loop-i-test.true)

pub returns : goal.returns
returns c =
    let all : c.loop-i.i ≡ c.args.n = omega (arith, length-take-le c.args.n c.args.records.now c.requires.0) in
    rw (c.loop-i.invariant, all) (showing_front c.args.numbers.now c.args.records.now c.args.n c.requires.0)
