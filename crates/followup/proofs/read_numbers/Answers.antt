-- `followup::read_numbers` meets its contract: a law of `ReadLaws`. Assumes nothing.
use Rattle.followup.proofs.ReadLaws.{reads_numbers}
use Rattle.followup.proofs.read_numbers.Goals as goal

pub returns : goal.returns
returns c =
    let read = c.read in
    reads_numbers read.result c.count_reply.result read.ensures c.count_reply.ensures.read
