-- A rule of the table on a record that is held. Assumes nothing.
use Rattle.std.specs.Prelude.{◌≡◌, true, List, map, ℕ, zero, suc, ◌+◌, ◌*◌, ◌≤◌, ◌<◌, length, get_or, take, drop}
use Rattle.patterns.specs.Pattern.{add_all}
use Rattle.sheet.specs.Sheet.{top_mark, marks_from}
use Rattle.chase.specs.Rules.{Head, Rule, marks_of}
use Rattle.rules.specs.Table.{rule_in, row_bytes, TableFits}
use Rattle.carrying.specs.Carrying.{Row, Row-discrete, row_made}
use Rattle.running.specs.Inner.Held.{unpacked, PackedRow, row_at}

-- Rule r of the table, from 0.
abbrev pub rule_at : List ℕ → ℕ → Rule
rule_at table r = rule_in (row_bytes table r)

-- Its H line h, from 0.
abbrev pub head_no : List ℕ → ℕ → Head
head_no bytes h = record { kind = get_or bytes (32 + 8 * h) 0; marks = take (get_or bytes (32 + 8 * h + 1) 0) (drop (32 + 8 * h + 2) bytes) }

-- Record i, as it is held.
abbrev pub row_no : List ℕ → ℕ → Row
row_no numbers i = unpacked (row_at numbers i)

pub record RecordIn (numbers : List ℕ) (i : ℕ) : Type 0 where
  pub small : i < 4096
  pub inside : 7 * i + 7 ≤ length numbers
  pub packed : PackedRow (row_at numbers i)

-- The rule is one of a sheet; `low` is the largest mark of its B line.
pub record Ready (table : List ℕ) (rules r low : ℕ) : Type 0 where
  pub fits : TableFits table rules
  pub there : r < rules
  pub low_is : low ≡ top_mark 0 (rule_at table r).marks
  pub body : marks_from 0 (rule_at table r).marks ≡ true
  pub heads : marks_from (top_mark 0 (rule_at table r).marks) (marks_of (rule_at table r).heads) ≡ true

-- The number that a mark gets, by its first place in the B line.
abbrev pub value_from : List ℕ → ℕ → ℕ → ℕ
value_from row fresh zero = fresh
value_from row fresh (suc k) = get_or row (1 + k) 0

-- All rows that a rule makes, added to some.
abbrev pub with_made : ℕ → Rule → Row → List Row → List Row
with_made next r w rows = add_all Row-discrete (map (row_made next r w) r.heads) rows
