-- `sheet::text::copy` meets its contract. The loop's invariant: the first i numbers are copied. Assumes nothing.
use mathlib.Core.Path.{◌≡◌}
use mathlib.Core.List.{◌++◌}
use Prim.Native.Nat.{◌≤◌}
use lib.ListN.{length, take, drop}
use Rattle.sheet.proofs.text.copy.Given as goal

abbrev pub invariant-loop-i : goal.invariant-loop-i
invariant-loop-i l = (l.i ≤ l.count) × (l.lines ≡ take l.i l.numbers ++ drop l.i l.initial.lines) × (length l.lines ≡ length l.initial.lines)
