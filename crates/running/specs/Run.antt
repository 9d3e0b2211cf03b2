-- The contract of a run, for all lent lines, rows and places: it needs no verdict, since an endless sheet leads past 4,096 records. Assumes nothing.
use Rattle.std.specs.Prelude.{◌≡◌, List, ◌⊎◌, ℕ, suc, ◌+◌, ◌≤◌, ◌<◌, length}
use Rattle.patterns.specs.Outcome.{good, refused}
use Rattle.columns.specs.Column.{largest_number}
use Rattle.sheet.specs.Line.{Line}
use Rattle.sheet.specs.Write.{sheet_held}
use Rattle.chase.specs.Rules.{rules_of}
use Rattle.chase.specs.Run.{Reachable, rows_of}
use Rattle.chase.specs.Counting.{Count, MoreThan}
use Rattle.carrying.specs.Meaning.{Made}
use Rattle.carrying.specs.Contract.{record_limit, top, run, Ends}
use Rattle.running.specs.Held.{records_fit, Holds}

-- What is answered: how many records and how many firings there are; more than 4,096 records; a number over 99,999,999; no sheet, with the first wrong line; not the room that is asked for.
pub data Ran : Type 0 where
  ended : ℕ → ℕ → Ran
  records_over : Ran
  number_over : Ran
  line_wrong : ℕ → Ran
  room_wrong : Ran

-- So many places are lent, in which the run looks records up. What they hold before and afterwards does not matter.
abbrev pub place_room : ℕ
place_room = 24576

module _ (numbers before now : List ℕ) where
  -- The run ends within both limits, and the lent rows begin with its records. What stands after them is the run's choice.
  pub record Ended (records firings : ℕ) : Type 0 where
    pub lines : List Line
    pub sheet : sheet_held numbers ≡ good lines
    pub visits : ℕ
    pub ends : Ends lines visits
    pub records_are : records ≡ length (run lines visits).rows
    pub small : (run lines visits).next ≤ suc largest_number
    pub firings_are : firings ≡ length (run lines visits).fired
    pub held : Holds now records (run lines visits).rows
    pub room : length now ≡ length before

  -- More than 4,096 records are reachable. What the lent rows then hold is the run's choice.
  pub record Passes : Type 0 where
    pub lines : List Line
    pub sheet : sheet_held numbers ≡ good lines
    pub many : MoreThan (Reachable (rules_of lines) (rows_of lines)) record_limit
    pub room : length now ≡ length before

  -- At most so many are, and the table's zeros and the fresh numbers in them, counted on from the table's largest value, pass 99,999,999.
  pub record Outgrows : Type 0 where
    pub lines : List Line
    pub sheet : sheet_held numbers ≡ good lines
    pub records : ℕ
    pub counted : Count (Reachable (rules_of lines) (rows_of lines)) records
    pub few : records ≤ record_limit
    pub fresh : ℕ
    pub made : Count (Made (rules_of lines) (rows_of lines)) fresh
    pub large : largest_number < top lines + fresh
    pub room : length now ≡ length before

  -- The contract: which answer may be given to these lent lines and rows, with so many lent places, and what the lent rows then hold. With another number of places than is asked for, a run may say so or answer; what it answers is right.
  abbrev pub RunMeets : ℕ → Ran → Type 0
  RunMeets places (ended records firings) = records_fit before × Ended records firings
  RunMeets places records_over = records_fit before × Passes
  RunMeets places number_over = records_fit before × Outgrows
  RunMeets places (line_wrong line) = records_fit before × (sheet_held numbers ≡ refused 8 line) × (now ≡ before)
  RunMeets places room_wrong = ((length before < 28672) ⊎ (places ≡ place_room → ⊥)) × (now ≡ before)
