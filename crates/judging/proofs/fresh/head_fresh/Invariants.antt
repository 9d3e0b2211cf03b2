-- `fresh::head_fresh` meets its contract: the fields passed have no fresh mark. Assumes nothing.
use mathlib.Core.Path.{◌≡◌}
use Prim.Native.Nat.{ℕ, ◌<◌}
use Rattle.rules.specs.Table.{row_bytes}
use Rattle.judging.specs.Inner.Passes.{place_of}
use Rattle.judging.proofs.fresh.head_fresh.Given as goal

abbrev pub invariant-loop-j : goal.invariant-loop-j
invariant-loop-j l = ((i : ℕ) → i < l.j → place_of (row_bytes l.table l.r) l.h i ≡ 0 → ⊥)
