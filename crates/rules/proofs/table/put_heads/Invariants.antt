-- `rules::table::put_heads` puts H lines and the sources that they show. The invariant: those passed are put. Assumes nothing.
use Prim.Native.Nat.{◌+◌, ◌≤◌}
use Rattle.rules.proofs.PartLaws.{Heading}
use Rattle.rules.proofs.table.put_heads.Given as goal

abbrev pub invariant-loop-h : goal.invariant-loop-h
invariant-loop-h l = (l.h ≤ l.heads) × Heading l.initial.table l.at l.lines (l.n + 1) l.h l.table
