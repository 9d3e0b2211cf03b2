-- `chains::multiplier` meets its contract. The invariant: what is mixed has 32 bits. Assumes nothing.
use Prim.Native.Nat.{◌<◌}
use Rattle.chains.proofs.multiplier.Given as goal

abbrev pub invariant-loop-line : goal.invariant-loop-line
invariant-loop-line l = l.h < 4294967296
