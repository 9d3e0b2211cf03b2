-- `sheet::lent::put_line` meets its contract. After the letter, the first c columns are put. Assumes nothing.
use Rattle.std.proofs.Common.{◌≡◌, ◌+◌, take, drop}
use Rattle.columns.specs.Column.{put}
use Rattle.sheet.specs.Line.{columns}
use Rattle.sheet.proofs.lent.put_line.Given as goal

abbrev pub invariant-loop-c : goal.invariant-loop-c
invariant-loop-c l = l.text ≡ put l.initial.text (l.at + 1) (columns (take l.c (drop 1 l.numbers)))
