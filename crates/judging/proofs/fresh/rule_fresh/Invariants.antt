-- `fresh::rule_fresh` meets its contract: the H lines passed have no fresh mark. Assumes nothing.
use Prim.Native.Nat.{ℕ, ◌<◌}
use Rattle.rules.specs.Table.{row_bytes}
use Rattle.judging.specs.Inner.Fresh.{HeadFresh}
use Rattle.judging.proofs.fresh.rule_fresh.Given as goal

abbrev pub invariant-loop-h : goal.invariant-loop-h
invariant-loop-h l = ((i : ℕ) → i < l.h → HeadFresh (row_bytes l.table l.r) i → ⊥)
