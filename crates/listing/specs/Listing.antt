-- What the carrying program prints for a text. Assumes nothing.
use Rattle.std.specs.Prelude.{◌≡◌, List, [], ◌∷◌, ◌++◌, map, ℕ, length}
use Rattle.patterns.specs.Outcome.{Outcome, good, refused}
use Rattle.sheet.specs.Line.{Line, text_of, lent_of}
use Rattle.sheet.specs.Read.{read_of}
use Rattle.carrying.specs.Carrying.{Row}
use Rattle.carrying.specs.Contract.{Carried, carried, refuses, run, row_line, record_room, CarryMeets}
use Rattle.report.specs.Lines.{line_text}
use Rattle.report.specs.Report.{line_limit, refusal_text, OutputMeets}

-- The letter's byte.
abbrev pub letter_c : ℕ
letter_c = 67

-- C with the count of the records and that of the firings, then every record as an R line; or N.
abbrev pub listing_text : Carried → List Row → List ℕ
listing_text (carried records firings) rows = line_text letter_c (records ∷ firings ∷ []) ++ text_of (map row_line rows)
listing_text (refuses number line) rows = refusal_text number line

-- The records of an answer: the rows of the run that has ended; none with a refusal.
abbrev pub rows_of : (numbers lent : List ℕ) (answer : Carried) (now : List ℕ) → CarryMeets numbers lent answer now → List Row
rows_of numbers lent (carried records firings) now out = (run out.lines out.visits).rows
rows_of numbers lent (refuses number line) now out = []

-- The text of an answer that carrying out may give to these lines, with 4,096 records lent.
pub record Carries (numbers printed : List ℕ) : Type 0 where
  pub lent : List ℕ
  pub lent_size : length lent ≡ record_room
  pub answer : Carried
  pub now : List ℕ
  pub meets : CarryMeets numbers lent answer now
  pub text : printed ≡ listing_text answer (rows_of numbers lent answer now meets)

-- What is printed for a text: Read's refusal, or the text of an answer to the lines read.
pub data Prints (text printed : List ℕ) : Type 0 where
  unread : (number line : ℕ) → read_of text line_limit ≡ refused number line → printed ≡ refusal_text number line → Prints text printed
  read : (lines : List Line) → read_of text line_limit ≡ good lines → Carries (lent_of lines) printed → Prints text printed

-- The longest that can be printed: a C line of 20 bytes and 4,096 R lines of 65.
abbrev pub listing_limit : ℕ
listing_limit = 266260

-- The contract of `carry_text`, for every text and all lent output.
abbrev pub ListMeets : List ℕ → List ℕ → Outcome ℕ → List ℕ → Type 0
ListMeets text = OutputMeets listing_limit (Prints text)
