-- `running::marks::top_heads` meets its contract. The invariant: the largest of the marks of the H lines so far. Assumes nothing.
use mathlib.Core.Path.{◌≡◌}
use Prim.Native.Nat.{◌-◌, ◌≤◌}
use Rattle.running.specs.Inner.Firing.{rule_at}
use Rattle.running.proofs.MarkLaws.{top_to}
use Rattle.running.proofs.marks.top_heads.Given as goal

abbrev pub invariant-loop-h : goal.invariant-loop-h
invariant-loop-h l = (l.h ≤ l.heads) × (l.t ≡ top_to l.m (rule_at l.table l.r).heads l.h)

abbrev pub decreases-loop-h : goal.decreases-loop-h
decreases-loop-h l = l.heads - l.h
