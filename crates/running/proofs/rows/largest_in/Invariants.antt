-- `running::rows::largest_in` meets its contract. The invariant: the largest of the numbers so far. Assumes nothing.
use mathlib.Core.Path.{◌≡◌}
use lib.ListN.{take, drop}
use Rattle.sheet.specs.Sheet.{top_mark}
use Rattle.running.proofs.rows.largest_in.Given as goal

abbrev pub invariant-loop-x : goal.invariant-loop-x
invariant-loop-x l = l.t ≡ top_mark l.m (take l.x-index (drop 2 l.line))
