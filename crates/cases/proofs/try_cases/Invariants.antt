-- The measure is how many bytes are left.
use Rattle.std.proofs.Common.{length}
use Rattle.cases.proofs.try_cases.Given as goal

abbrev pub decreases-loop-left : goal.decreases-loop-left
decreases-loop-left g l = length l.left
