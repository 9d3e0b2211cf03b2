-- `report::fill_line` meets its contract. After the letter, the first c columns are put. Assumes nothing.
use mathlib.Core.Path.{◌≡◌}
use Prim.Native.Nat.{◌+◌, ◌≤◌}
use lib.ListN.{length, take}
use Rattle.columns.specs.Column.{put}
use Rattle.sheet.specs.Line.{columns}
use Rattle.report.proofs.fill_line.Given as goal

abbrev pub invariant-loop-c : goal.invariant-loop-c
invariant-loop-c l = (l.c ≤ length l.numbers) × (l.text ≡ put l.initial.text (l.at + 1) (columns (take l.c l.numbers)))
