-- No figure is idle: sheets in which a list of firings comes to as many values, records and pairs as the forecast says. Assumes nothing.
use mathlib.Core.Path.{◌≡◌, refl}
use mathlib.Core.Bool.{true}
use mathlib.Core.List.{List, [], ◌∷◌, map}
use Prim.Native.Nat.{ℕ}
use native.Mathlib.Decide.{ℕ_discrete}
use lib.ListN.{length}
use Rattle.patterns.specs.Outcome.{good}
use Rattle.sheet.specs.Line.{K, B, H, R, Line, lent_of}
use Rattle.chase.specs.Lists.{both?}
use Rattle.chase.specs.Rules.{rules_of}
use Rattle.chase.specs.Value.{Value, table}
use Rattle.chase.specs.Making.{Record, fresh_of}
use Rattle.chase.specs.Run.{Firing, rows_of, start, run}
use Rattle.chase.specs.Counting.{Count}
use Rattle.chase.specs.Judge.{shape_limit}
use Rattle.chase.proofs.Decisions.{is_yes, decided}
use Rattle.chase.proofs.CaseCheck.{ends}
use Rattle.growth.specs.Forecast.{values_in, exactly, Forecast}
use Rattle.growth.specs.Counted.{Held, FittedPair}
use Rattle.growth.specs.Contract.{foretold, ForecastMeets}
use Rattle.growth.specs.Sheets.{gives, figures}
use Rattle.growth.proofs.ValueLaws.{values_in_count}
use Rattle.growth.proofs.FittedLaws.{FitOnce, fitted_count, fit_once?}
use Rattle.growth.proofs.AllSheets.{PassesOn, passes_on?}
use Rattle.growth.proofs.SheetTheorem.{settles_right}

-- The records that firings leave of a sheet.
abbrev pub left_of : List Line → List Firing → List Record
left_of lines firings = run (rules_of lines) firings (start (rows_of lines))

-- This forecast is answered, and these firings leave so many different values and so many records, with so many pairs of rule and carried values.
pub record Comes (lines : List Line) (f : Forecast) (firings : List Firing) (values records pairs : ℕ) : Type 0 where
  pub answered : ForecastMeets shape_limit (lent_of lines) (foretold f)
  pub values_are : Count (Held (left_of lines firings)) values
  pub records_are : length (left_of lines firings) ≡ records
  pub pairs_are : Count (FittedPair (rules_of lines) firings (start (rows_of lines))) pairs

module _ (lines : List Line) (f : Forecast) (firings : List Firing) (values records : ℕ) where
  abbrev Computes : Type 0
  Computes =
      PassesOn (gives f) ends (good lines) lines
      × ((length (values_in (left_of lines firings)) ≡ values)
      × ((length (left_of lines firings) ≡ records) × FitOnce (rules_of lines) firings (start (rows_of lines))))

  unfoldable computes? : Dec Computes
  unfolding both? ℕ_discrete values_in passes_on? fit_once?
  computes? =
      both? (passes_on? (gives f) ends (good lines) lines)
      (both? (ℕ_discrete (length (values_in (left_of lines firings))) values)
      (both? (ℕ_discrete (length (left_of lines firings)) records) (fit_once? (rules_of lines) firings (start (rows_of lines)))))

  comes : is_yes computes? ≡ true → Comes lines f firings values records (length firings)
  comes e =
      let c = decided computes? e in
      record {
        answered = settles_right lines c.0.1.0 f c.0.1.1;
        values_are = rw (← c.1.0) (values_in_count (left_of lines firings));
        records_are = c.1.1.0;
        pairs_are = fitted_count (rules_of lines) firings (start (rows_of lines)) c.1.1.1;
      }

-- ---- the sheets

abbrev line : ℕ → ℕ → List ℕ → Line
line letter kind numbers = record { letter = letter; kind = kind; numbers = numbers }

-- A rule on a record of kind 1.
abbrev on : ℕ → List Value → Firing
on rule fields = record { rule = rule; on = record { kind = 1; fields = fields } }

-- The rows 5 7, 7 5, 5 5, 7 7 of kind 1, and a rule on each of them.
abbrev four_rows : List (List ℕ)
four_rows = (5 ∷ 7 ∷ []) ∷ (7 ∷ 5 ∷ []) ∷ (5 ∷ 5 ∷ []) ∷ (7 ∷ 7 ∷ []) ∷ []

abbrev on_four : List Firing
on_four = map (λ ns. on 1 (map table ns)) four_rows

-- P(1)→P(2) and P(1)→P(1), row 5.
abbrev pub fresh_and_carried : List Line
fresh_and_carried = line K 1 (1 ∷ []) ∷ line B 1 (1 ∷ []) ∷ line H 1 (2 ∷ []) ∷ line B 1 (1 ∷ []) ∷ line H 1 (1 ∷ []) ∷ line R 1 (5 ∷ []) ∷ []

-- Both rules on 5, then the second on the number that the first made.
abbrev pub three_firings : List Firing
three_firings = on 1 (table 5 ∷ []) ∷ on 2 (table 5 ∷ []) ∷ on 2 (fresh_of 1 2 [] ∷ []) ∷ []

-- With a fresh number and a carried mark: all three figures are met.
pub all_met : Comes fresh_and_carried (figures (exactly 2) (exactly 2) (exactly 3)) three_firings 2 2 3
unfolding computes?
all_met = comes fresh_and_carried (figures (exactly 2) (exactly 2) (exactly 3)) three_firings 2 2 refl

-- P(1,2)→P(2,1) and the four rows.
abbrev pub turned : List Line
turned = line K 1 (2 ∷ []) ∷ line B 1 (1 ∷ 2 ∷ []) ∷ line H 1 (2 ∷ 1 ∷ []) ∷ map (line R 1) four_rows

-- With two carried marks and two fields: all three are met, records and pairs through 2 to the power of 2.
pub powers_met : Comes turned (figures (exactly 2) (exactly 4) (exactly 4)) on_four 2 4 4
unfolding computes?
powers_met = comes turned (figures (exactly 2) (exactly 4) (exactly 4)) on_four 2 4 refl

-- P(1,2)→Q(1,2,3) and the four rows.
abbrev pub choices : List Line
choices = line K 1 (2 ∷ []) ∷ line K 2 (3 ∷ []) ∷ line B 1 (1 ∷ 2 ∷ []) ∷ line H 2 (1 ∷ 2 ∷ 3 ∷ []) ∷ map (line R 1) four_rows

-- With a fresh number for each choice of two carried values: the values are met, 2 and 2 to the power of 2.
pub values_met : Comes choices (figures (exactly 6) (exactly 252) (exactly 36)) on_four 6 8 4
unfolding computes?
values_met = comes choices (figures (exactly 6) (exactly 252) (exactly 36)) on_four 6 8 refl
