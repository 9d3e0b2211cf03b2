-- `line::parse` meets its contract. The loop's invariant: what was tested before it, and that the first c columns are filled in. The measure is the columns left. Assumes nothing.
use Prim.Native.Nat.{◌-◌, ◌≤◌}
use Rattle.sheet.proofs.Forms.{Whole, Filled}
use Rattle.sheet.proofs.line.parse.Given as goal

abbrev pub invariant-loop-c : goal.invariant-loop-c
invariant-loop-c l = Whole l.line l.columns l.letter l.form × (l.c ≤ l.columns) × Filled l.line l.letter l.numbers l.c

abbrev pub decreases-loop-c : goal.decreases-loop-c
decreases-loop-c l = l.columns - l.c
