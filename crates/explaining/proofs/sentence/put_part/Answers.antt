-- `put_part` meets its contract. Assumes nothing.
use Rattle.explaining.proofs.PutLaws.{puts_then}
use Rattle.explaining.proofs.sentence.put_part.Goals as goal

pub returns : goal.returns
returns c = puts_then c.requires c.put_word-next.ensures c.put.ensures
