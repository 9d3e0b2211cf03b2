-- `mix` meets its contract: the product fits a usize. Assumes nothing.
use Prim.Native.Nat.{◌+◌}
use native.Mathlib.Omega.{arith}
use Rattle.chains.proofs.ChainLaws.{product_small}
use Rattle.running.proofs.hash.mix.Goals as goal

pub overflow_mul-result : goal.overflow_mul-result
overflow_mul-result c =
    omega (arith, product_small (c.args.h + c.args.x) c.args.by (omega (arith, c.requires.1, c.requires.2)) c.requires.0)
