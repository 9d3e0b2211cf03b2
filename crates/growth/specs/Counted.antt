-- What the figures are said of: the records that a run leaves, the values in them, and the pairs of rule and carried values of its firings that fit. Assumes nothing.
use Rattle.std.specs.Prelude.{◌≡◌, ◌⊎◌, List, [], ◌∷◌, ℕ, ◌≤◌, length}
use Rattle.sheet.specs.Line.{Line}
use Rattle.chase.specs.Lists.{In}
use Rattle.chase.specs.Rules.{Rule, rules_of}
use Rattle.chase.specs.Value.{Value}
use Rattle.chase.specs.Making.{Record}
use Rattle.chase.specs.Run.{Firing, start, fire, run, Fits, rows_of}
use Rattle.chase.specs.Counting.{NoTwo}
use Rattle.carrying.specs.Carrying.{Row, Pair}
use Rattle.carrying.specs.Meaning.{pair_fired}
use Rattle.carrying.specs.Contract.{run as carried_to}
use Rattle.growth.specs.Forecast.{Figure, exactly, beyond, Forecast}

-- At most n have P: no list without repeats of such elements is longer.
pub record AtMost {A : Type 0} (P : A → Type 0) (n : ℕ) : Type 0 where
  pub bound : (l : List A) → NoTwo l → ((x : A) → In x l → P x) → length l ≤ n

-- At most as many have P as a figure says; "beyond" says nothing.
abbrev pub Within : {A : Type 0} → (A → Type 0) → Figure → Type 0
Within P (exactly n) = AtMost P n
Within P beyond = Unit {0}

-- A count is at most what a figure says.
abbrev pub UpTo : ℕ → Figure → Type 0
UpTo count (exactly n) = count ≤ n
UpTo count beyond = Unit {0}

-- A value in some records.
pub record Held (records : List Record) (v : Value) : Type 0 where
  pub on : Record
  pub there : In on records
  pub holds : In v on.fields

-- A pair of rule and carried values of one of those firings of a list that fit when they are made.
abbrev pub FittedPair : List Rule → List Firing → List Record → Pair Value → Type 0
FittedPair rules [] records p = ⊥
FittedPair rules (f ∷ fs) records p = (Fits rules f records × (p ≡ pair_fired rules f)) ⊎ FittedPair rules fs (fire rules f records) p

-- What a forecast says of a list of firings, from the table's rows on: of the different values in the records that it leaves, of these records, and of the pairs of its firings that fit.
pub record Promised (lines : List Line) (f : Forecast) (firings : List Firing) : Type 0 where
  pub values : Within (Held (run (rules_of lines) firings (start (rows_of lines)))) f.values
  pub records : UpTo (length (run (rules_of lines) firings (start (rows_of lines)))) f.records
  pub pairs : Within (FittedPair (rules_of lines) firings (start (rows_of lines))) f.pairs

-- A number in some rows.
pub record Written (rows : List Row) (a : ℕ) : Type 0 where
  pub on : Row
  pub there : In on rows
  pub holds : In a on.numbers

-- What it says of the rules carried out (change request 1) after k visits: of the different numbers in the records, of the records, and of the firings, which are counted as they are made.
pub record PromisedRun (lines : List Line) (f : Forecast) (k : ℕ) : Type 0 where
  pub values : Within (Written (carried_to lines k).rows) f.values
  pub records : UpTo (length (carried_to lines k).rows) f.records
  pub firings : UpTo (length (carried_to lines k).fired) f.pairs
