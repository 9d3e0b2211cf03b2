-- What a row means, runs of firings, and the records that can be reached. Assumes nothing.
use Rattle.std.specs.Prelude.{◌≡◌, List, [], ◌∷◌, map, ◌⊎◌, ℕ, zero, suc}
use Rattle.std.proofs.Math.Option.{Option, none, some}
use Rattle.sheet.specs.Line.{Line}
use Rattle.patterns.specs.Lists.{Numbered, numbered}
use Rattle.patterns.specs.Pattern.{pick, add_all}
use Rattle.chase.specs.Lists.{both?, In, in?}
use Rattle.chase.specs.Rules.{Head, Rule, row_lines, nth}
use Rattle.chase.specs.Value.{Value, table, missing}
use Rattle.chase.specs.Making.{Record, Record-discrete, Fires, fires?, made}

-- What the number at a field of a row means (change request 4): 0 is not given, and a value of its own.
abbrev pub row_value : ℕ → ℕ → ℕ → Value
row_value row field zero = missing row field
row_value row field (suc n) = table (suc n)

-- What a row's numbers mean. Rows and fields count from 1.
abbrev pub row_record : Numbered Line → Record
row_record l = record { kind = l.item.kind; fields = map (λ n. row_value l.number n.number n.item) (numbered l.item.numbers) }

-- The table's rows, in sheet order.
abbrev pub rows_of : List Line → List Record
rows_of ls = map row_record (numbered (row_lines ls))

-- A firing names a rule, by its number, and a record, whichever it likes. (A trigger.)
pub record Firing : Type 0 where
  pub rule : ℕ
  pub on : Record

-- A run starts from the table's rows, equal ones once.
abbrev pub start : List Record → List Record
start rows = add_all Record-discrete rows []

-- Firing rule n on a record that is there and on which it fires adds what its H lines make. A record already there is not added again. Any other firing changes nothing.
abbrev pub fire_rule : ℕ → Option Rule → Record → List Record → List Record
fire_rule n none x records = records
fire_rule n (some r) x records =
    pick (both? (in? Record-discrete x records) (fires? r x)) (add_all Record-discrete (map (made n r x) r.heads) records) records

abbrev pub fire : List Rule → Firing → List Record → List Record
fire rules f records = fire_rule f.rule (nth rules f.rule) f.on records

-- What a list of firings leaves of the records: each gets what the last one left.
abbrev pub run : List Rule → List Firing → List Record → List Record
run rules [] records = records
run rules (f ∷ fs) records = run rules fs (fire rules f records)

-- A firing fits: its rule is in the sheet, its record is there, and the rule fires on it.
pub record Fits (rules : List Rule) (f : Firing) (records : List Record) : Type 0 where
  pub rule : Rule
  pub named : nth rules f.rule ≡ some rule
  pub there : In f.on records
  pub fires : Fires rule f.on

-- Every firing of a list fits when it is made.
abbrev pub AllFit : List Rule → List Firing → List Record → Type 0
AllFit rules [] records = Unit {0}
AllFit rules (f ∷ fs) records = Fits rules f records × AllFit rules fs (fire rules f records)

-- A record is reachable if it is a row or is made from a reachable record.
pub data Reachable (rules : List Rule) (rows : List Record) : Record → Type 0 where
  row : {x : Record} → In x rows → Reachable rules rows x
  made_from : {x : Record} (n : ℕ) (r : Rule) (h : Head) → nth rules n ≡ some r → Reachable rules rows x → Fires r x → In h r.heads
      → Reachable rules rows (made n r x h)
