-- Rows among lent lines. Assumes nothing.
use Rattle.std.specs.Prelude.{◌≡◌, List, ℕ, ◌+◌, ◌*◌, ◌≤◌, length, get_or, take, drop}
use Rattle.std.proofs.Math.Option.{some}
use Rattle.sheet.specs.Line.{Line}
use Rattle.chase.specs.Rules.{nth}
use Rattle.chase.specs.Run.{row_record}
use Rattle.rules.specs.Table.{KindFits, rows_in}

-- The values of the row at line n, whose kind has this width.
abbrev pub row_numbers : List ℕ → ℕ → ℕ → List ℕ
row_numbers numbers n width = take width (drop (8 * n + 2) numbers)

-- Line n of lent numbers is a row, by its number, and its kind has this width.
pub record RowAt (numbers : List ℕ) (n width number : ℕ) : Type 0 where
  pub line : Line
  pub size : 8 * n + 8 ≤ length numbers
  pub named : nth (rows_in numbers) number ≡ some (row_record (record { number = number; item = line }))
  pub low : number ≤ 1024
  pub kind : get_or numbers (8 * n + 1) 0 ≡ line.kind
  pub kind_fits : KindFits line.kind
  pub numbers_are : row_numbers numbers n width ≡ line.numbers
  pub some_width : 1 ≤ width
  pub few_width : width ≤ 6
