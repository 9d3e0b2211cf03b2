-- `sheet::order::Seen::nothing` meets its contract. Assumes nothing.
use Rattle.sheet.proofs.OrderLaws.{nothing_kept}
use Rattle.sheet.proofs.order.Seen.nothing.Goals as goal

pub returns : goal.returns
returns c = nothing_kept
