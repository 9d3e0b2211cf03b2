-- `report::put_refusal` meets its contract. Assumes nothing.
use Rattle.report.proofs.put_refusal.Goals as goal

pub put_line-requires : goal.put_line-requires
put_line-requires c = tt

pub returns : goal.returns
returns c = c.put_line.ensures
