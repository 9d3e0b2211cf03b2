-- What the inner functions of this crate keep to. Assumes nothing.
use Rattle.std.specs.Prelude.{◌≡◌, Result, Ok, Err, List, ℕ, ◌≤◌, length, take}
use Rattle.patterns.specs.Outcome.{good, refused}
use Rattle.sheet.specs.Line.{Line, lent_of}
use Rattle.sheet.specs.Sheet.{IsSheet}
use Rattle.sheet.specs.Read.{read_of}
use Rattle.sheet.specs.declared.RefusalNumbers.{RefusalNumbers}
use Rattle.report.specs.Report.{line_limit}

-- Lent numbers hold the lines of a sheet, as many as the longest text can have.
pub record SheetLent (numbers : List ℕ) : Type 0 where
  pub lines : List Line
  pub holds : numbers ≡ lent_of lines
  pub sheet : IsSheet lines
  pub few : length lines ≤ line_limit

-- The lines read from a text are so many of the lent numbers, from the first on.
pub record ReadGood (text : List ℕ) (used : ℕ) (after : List ℕ) : Type 0 where
  pub lines : List Line
  pub read : read_of text line_limit ≡ good lines
  pub fits : used ≤ length after
  pub held_is : take used after ≡ lent_of lines

-- Or the text is refused, with a number and a line that have columns.
pub record ReadRefused (text : List ℕ) (said : RefusalNumbers) : Type 0 where
  pub read : read_of text line_limit ≡ refused said.number said.line
  pub number : said.number ≤ 99999999
  pub line : said.line ≤ 99999999

abbrev pub LinesRead : List ℕ → Result ℕ RefusalNumbers → List ℕ → Type 0
LinesRead text (Ok used) after = ReadGood text used after
LinesRead text (Err said) after = ReadRefused text said
