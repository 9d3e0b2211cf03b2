-- `followup::decode_lines` meets its contract: the numbers that are decoded are those of the first 2,369 lines. Assumes nothing.
use native.Mathlib.Omega.{arith}
use Rattle.followup.proofs.Truncated.{decoded}
use Rattle.followup.proofs.decode_lines.Goals as goal

pub returns : goal.returns
returns c = (omega arith, decoded _ _ _ _ c.count_of-count.ensures c.decode.ensures, c.count_of-count.ensures)
