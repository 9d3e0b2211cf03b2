-- `running::marks::top` meets its contract. The invariant: the largest of the marks so far. Assumes nothing.
use mathlib.Core.Path.{◌≡◌}
use lib.ListN.{take, drop}
use Rattle.rules.specs.Table.{row_bytes}
use Rattle.sheet.specs.Sheet.{top_mark}
use Rattle.running.proofs.marks.top.Given as goal

abbrev pub invariant-loop-mark : goal.invariant-loop-mark
invariant-loop-mark l = l.t ≡ top_mark l.m (take l.mark-index (drop l.at (row_bytes l.table l.r)))
