-- The whole contract of carrying the rules out, for all lent lines and all lent records. Assumes nothing.
use Rattle.std.specs.Prelude.{◌≡◌, List, ◌++◌, map, ℕ, suc, ◌+◌, ◌*◌, ◌≤◌, ◌<◌, length, drop}
use Rattle.patterns.specs.Outcome.{good, refused}
use Rattle.columns.specs.Column.{largest_number}
use Rattle.sheet.specs.Line.{R, Line, line_size, lent_of}
use Rattle.sheet.specs.Write.{sheet_held}
use Rattle.chase.specs.Rules.{rules_of}
use Rattle.chase.specs.Run.{Reachable, rows_of}
use Rattle.chase.specs.Shape.{Reached}
use Rattle.chase.specs.Counting.{Count, MoreThan}
use Rattle.chase.specs.Judge.{Bounded, Unbounded, shape_limit}
use Rattle.carrying.specs.Carrying.{Row, State, after, Finished, last_filled, begins, table_rows}
use Rattle.carrying.specs.Meaning.{Made}

-- At least 4,096 records are lent, and at most so many are made.
abbrev pub record_limit : ℕ
record_limit = 4096

-- A lent record is an R line, eight numbers.
abbrev pub record_room : ℕ
record_room = line_size * record_limit

abbrev pub row_line : Row → Line
row_line w = record { letter = R; kind = w.kind; numbers = w.numbers }

-- What is answered: how many records and how many firings there are; or a refusal's number and line.
pub data Carried : Type 0 where
  carried : ℕ → ℕ → Carried
  refuses : ℕ → ℕ → Carried

module _ (lines : List Line) where
  -- The run of a sheet after k visits.
  abbrev pub run : ℕ → State
  run k = after (rules_of lines) (begins (table_rows lines)) k

  -- It has ended by then.
  abbrev pub Ends : ℕ → Type 0
  Ends k = Finished (rules_of lines) (begins (table_rows lines)) k

  -- The table's largest value, and one more for each 0.
  abbrev pub top : ℕ
  top = last_filled (table_rows lines)

-- What is not refused with 12, 8 or 11: there is room, the lines are a sheet, and at most 512 shapes are reached.
pub record Taken (numbers before : List ℕ) (lines : List Line) : Type 0 where
  pub room : record_room ≤ length before
  pub sheet : sheet_held numbers ≡ good lines
  pub shapes : ℕ
  pub counted : Count (Reached (rules_of lines) (rows_of lines)) shapes
  pub within : shapes ≤ shape_limit

-- The rules are carried out: the run ends with at most 4,096 rows and no number over 99,999,999. The lent records hold its rows, then what they held.
pub record CarriedOut (numbers before : List ℕ) (records firings : ℕ) (now : List ℕ) : Type 0 where
  pub lines : List Line
  pub taken : Taken numbers before lines
  pub visits : ℕ
  pub ends : Ends lines visits
  pub records_are : records ≡ length (run lines visits).rows
  pub few : records ≤ record_limit
  pub small : (run lines visits).next ≤ suc largest_number
  pub firings_are : firings ≡ length (run lines visits).fired
  pub held : now ≡ lent_of (map row_line (run lines visits).rows) ++ drop (line_size * records) before

-- What is refused, in this order: 12, Judge's 8 and 11, then 21, 22 and 23. Each condition speaks of the lent memory or of the chase, and none of the run.
pub data Refuses (numbers before : List ℕ) : ℕ → ℕ → Type 0 where
  -- Room for fewer than 4,096 records.
  short : length before < record_room → Refuses numbers before 12 0
  -- No sheet, with the first wrong line.
  wrong : (line : ℕ) → record_room ≤ length before → sheet_held numbers ≡ refused 8 line → Refuses numbers before 8 line
  -- More than 512 shapes are reached.
  many_shapes : (lines : List Line) → record_room ≤ length before → sheet_held numbers ≡ good lines
      → MoreThan (Reached (rules_of lines) (rows_of lines)) shape_limit → Refuses numbers before 11 0
  -- The sheet is endless.
  endless : (lines : List Line) → Taken numbers before lines → Unbounded (rules_of lines) (rows_of lines) → Refuses numbers before 21 0
  -- It settles, and more than 4,096 records are reachable.
  many_records : (lines : List Line) → Taken numbers before lines → (deepest : ℕ) → Bounded (rules_of lines) (rows_of lines) deepest
      → MoreThan (Reachable (rules_of lines) (rows_of lines)) record_limit → Refuses numbers before 22 0
  -- At most so many are, and the table's zeros and the fresh numbers in them, counted on from the table's largest value, pass 99,999,999.
  large_number : (lines : List Line) → Taken numbers before lines → (n : ℕ) → Count (Reachable (rules_of lines) (rows_of lines)) n → n ≤ record_limit
      → (fresh : ℕ) → Count (Made (rules_of lines) (rows_of lines)) fresh → largest_number < top lines + fresh → Refuses numbers before 23 0

-- The contract: which answer may be given to these lent lines and records, and what the lent records then hold.
abbrev pub CarryMeets : List ℕ → List ℕ → Carried → List ℕ → Type 0
CarryMeets numbers before (carried records firings) now = CarriedOut numbers before records firings now
CarryMeets numbers before (refuses number line) now = Refuses numbers before number line × (now ≡ before)
