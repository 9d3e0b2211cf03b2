-- What the numbers of a run mean: values of the chase, renamed one_to_one. Assumes nothing.
use Rattle.std.specs.Prelude.{◌≡◌, List, [], ◌∷◌, ◌++◌, map, ℕ, suc, ◌-◌, ◌≤◌, ◌<◌, get_or}
use Rattle.std.proofs.Math.Option.{Option, none, some}
use Rattle.std.proofs.Math.Decide.{ℕ_discrete, dec_le}
use Rattle.patterns.specs.Lists.{Numbered, numbered}
use Rattle.patterns.specs.Pattern.{pick}
use Rattle.sheet.specs.Line.{Line}
use Rattle.chase.specs.Lists.{In, largest}
use Rattle.chase.specs.Rules.{Rule, row_lines, nth}
use Rattle.chase.specs.Value.{Value, table, missing, generation}
use Rattle.chase.specs.Making.{Record, Fires, carried_values}
use Rattle.chase.specs.Run.{Firing, Reachable, start}
use Rattle.chase.specs.Counting.{NoTwo}
use Rattle.carrying.specs.Carrying.{Row, Pair, State, numbers_in, table_rows}

-- A row and a pair with each number replaced by its meaning.
abbrev pub meant : (ℕ → Value) → Row → Record
meant f w = record { kind = w.kind; fields = map f w.numbers }

abbrev pub meant_pair : (ℕ → Value) → Pair ℕ → Pair Value
meant_pair f p = record { rule = p.rule; carried = map f p.carried }

-- The values of the carried marks of a rule, if there is one.
abbrev pub carried_by : Option Rule → List Value → List Value
carried_by none fields = []
carried_by (some r) fields = carried_values r fields

module _ (rules : List Rule) where
  -- A firing's rule with the values of its carried marks in the firing's record.
  abbrev pub pair_fired : Firing → Pair Value
  pair_fired f = record { rule = f.rule; carried = carried_by (nth rules f.rule) f.on.fields }

  module _ (rows : List Record) where
    -- A pair of rule and carried values in the chase: the rule fires with them on some reachable record.
    pub record FiredWith (p : Pair Value) : Type 0 where
      pub rule : Rule
      pub named : nth rules p.rule ≡ some rule
      pub on : Record
      pub reachable : Reachable rules rows on
      pub fires : Fires rule on
      pub carried : p.carried ≡ carried_values rule on.fields

    -- A fresh number that some reachable record holds.
    pub record Made (v : Value) : Type 0 where
      pub on : Record
      pub reachable : Reachable rules rows on
      pub holds : In v on.fields
      pub fresh : 0 < generation v

-- The values that are missing at the fields of a row, and in a table: by row and then by field.
abbrev pub missing_at : ℕ → List (Numbered ℕ) → List Value
missing_at row [] = []
missing_at row (n ∷ ns) = pick (ℕ_discrete n.item 0) (missing row n.number ∷ missing_at row ns) (missing_at row ns)

abbrev pub missing_in : List (Numbered Line) → List Value
missing_in [] = []
missing_in (l ∷ ls) = missing_at l.number (numbered l.item.numbers) ++ missing_in ls

-- What a number of the filled table means: up to the table's largest value itself; after that one missing value after the other.
abbrev pub table_meaning : List Line → ℕ → Value
table_meaning lines a =
    pick (dec_le a (largest (numbers_in (table_rows lines)))) (table a)
    (get_or (missing_in (numbered (row_lines lines))) (a - suc (largest (numbers_in (table_rows lines)))) (table a))

-- What the numbers below `first` mean before any rule fires: different values, none of them fresh. The table holds such numbers alone.
pub record Numbering (table : List Row) (first : ℕ) (old : ℕ → Value) : Type 0 where
  pub one_to_one : (a b : ℕ) → a < first → b < first → old a ≡ old b → a ≡ b
  pub not_fresh : (a : ℕ) → a < first → generation (old a) ≡ 0
  pub numbered : (w : Row) (a : ℕ) → In w table → In a w.numbers → a < first

module _ (rules : List Rule) (rows : List Record) where
  -- The numbers below the next one are a one_to_one renaming of values. Renamed, the rows are different reachable records, the table's first, and the pairs are different pairs of the chase.
  pub record Renames (old : ℕ → Value) (first : ℕ) (s : State) (meaning : ℕ → Value) : Type 0 where
    pub begun : (a : ℕ) → a < first → meaning a ≡ old a
    pub one_to_one : (a b : ℕ) → a < s.next → b < s.next → meaning a ≡ meaning b → a ≡ b
    pub numbered : (w : Row) (a : ℕ) → In w s.rows → In a w.numbers → a < s.next
    pub table_first : (more : List Row) × (map (meant meaning) s.rows ≡ start rows ++ map (meant meaning) more)
    pub reachable : (x : Record) → In x (map (meant meaning) s.rows) → Reachable rules rows x
    pub once : NoTwo (map (meant meaning) s.rows)
    pub pairs : (p : Pair Value) → In p (map (meant_pair meaning) s.fired) → FiredWith rules rows p
    pub pairs_once : NoTwo (map (meant_pair meaning) s.fired)

  -- They are all that the chase has: records, pairs and fresh numbers.
  pub record Whole (first : ℕ) (s : State) (meaning : ℕ → Value) : Type 0 where
    pub records : (x : Record) → Reachable rules rows x → In x (map (meant meaning) s.rows)
    pub pairs : (p : Pair Value) → FiredWith rules rows p → In p (map (meant_pair meaning) s.fired)
    pub made : (v : Value) → Made rules rows v → (a : ℕ) × (first ≤ a) × (a < s.next) × (meaning a ≡ v)
