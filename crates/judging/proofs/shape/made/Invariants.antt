-- `judging::shape::made` meets its contract. The loop's invariant: the numbers below `i` are worked out. Assumes nothing.
use Prim.Native.Nat.{◌+◌, ◌*◌}
use Rattle.rules.specs.Table.{rule_in, row_bytes}
use Rattle.rules.proofs.RuleLaws.{head_at}
use Rattle.judging.proofs.RuleLaws.{Filled}
use Rattle.judging.proofs.shape.made.Given as goal

abbrev pub invariant-loop-i : goal.invariant-loop-i
invariant-loop-i l =
    Filled (rule_in (row_bytes l.table l.r)).marks l.digits (head_at (row_bytes l.table l.r) (32 + 8 * l.h)).marks l.numbers l.i
