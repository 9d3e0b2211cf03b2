-- `followup::bytes::five_at` meets its contract: two bytes further, four times. Assumes nothing.
use Rattle.followup.proofs.StepAt.{five_numbers}
use Rattle.followup.proofs.bytes.five_at.Goals as goal

pub returns : goal.returns
returns c =
    five_numbers c.args.bytes.now c.args.at c.u16_at.ensures c.u16_at-2.ensures c.u16_at-3.ensures
    c.u16_at-4.ensures c.u16_at-5.ensures
