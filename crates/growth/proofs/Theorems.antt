-- The theorems on the forecast that a reader relies on: it holds of the whole chase, of every list of firings and of the rules carried out. Assumes nothing.
use mathlib.Core.Path.{◌≡◌, refl, sym, ◌∙◌, ap}
use mathlib.Core.Logic.{◌↔◌}
use mathlib.Core.List.{List}
use Prim.Native.Nat.{ℕ, ◌+◌, ◌≤◌, ◌<◌}
use native.Mathlib.Decide.{dec_le}
use native.Mathlib.Omega.{arith}
use lib.ListN.{length}
use Rattle.sheet.specs.Line.{Line}
use Rattle.sheet.specs.Sheet.{IsSheet}
use Rattle.chase.specs.Lists.{In}
use Rattle.chase.specs.Rules.{Rule, marks_of, rules_of}
use Rattle.chase.specs.Making.{Record, carried_marks}
use Rattle.chase.specs.Run.{Firing, rows_of, start, run, Reachable}
use Rattle.chase.specs.Counting.{Count}
use Rattle.chase.specs.Judge.{Left, Bounded}
use Rattle.chase.proofs.MakingLaws.{carried_in, in_carried, carried_no_two}
use Rattle.carrying.specs.Carrying.{fresh_marks, State}
use Rattle.carrying.specs.Meaning.{FiredWith}
use Rattle.carrying.specs.Contract.{run as carried_to}
use Rattle.carrying.proofs.MarkLaws.{fresh_in_lem, in_fresh, fresh_no_two}
use Rattle.growth.specs.Forecast.{first_t, last_t, kind_lines, records_with, pairs_with, exactly, beyond, figure_limit, figure, forecast}
use Rattle.growth.specs.Counted.{AtMost, Held, FittedPair, Promised, Written, PromisedRun}
use Rattle.growth.proofs.CountedLaws.{within_figure, up_to_figure}
use Rattle.growth.proofs.ValueLaws.{values_in_count}
use Rattle.growth.proofs.BoundLaws.{at_most_values, at_most_records, at_most_pairs}
use Rattle.growth.proofs.ShareLaws.{held_most, left_most, fitted_most, written_most, rows_most, fired_most}
use Rattle.growth.proofs.GrowthLaws.{values_after_grows, records_with_grows, pairs_with_grows, figure_beyond, figure_exactly, exactly_not_beyond}

-- A sheet whose generations are bounded.
module _ (lines : List Line) (sheet : IsSheet lines) (deepest : ℕ) (bounded : Bounded (rules_of lines) (rows_of lines) deepest) where
  -- THE WHOLE CHASE

  -- The values of the records that lists of firings leave, that is of the reachable records, are at most the last t.
  pub reachable_values : AtMost (Left (rules_of lines) (rows_of lines)) (last_t lines deepest)
  reachable_values = at_most_values lines deepest bounded

  -- The reachable records are at most the sum over kinds of t to the width.
  pub reachable_records : AtMost (Reachable (rules_of lines) (rows_of lines)) (records_with (kind_lines lines) (last_t lines deepest))
  reachable_records = at_most_records lines deepest bounded sheet

  -- The pairs of rule and carried values are at most the sum over rules of t to the carried marks.
  pub fired_pairs : AtMost (FiredWith (rules_of lines) (rows_of lines)) (pairs_with (rules_of lines) (last_t lines deepest))
  fired_pairs = at_most_pairs lines deepest bounded

  -- EVERY LIST OF FIRINGS

  -- Whatever the firings: the figures hold of the different values in the records that they leave, of these records, and of the pairs of those firings that fit.
  pub forecast_holds : (firings : List Firing) → Promised lines (forecast lines deepest) firings
  unfolding forecast
  forecast_holds firings =
      let rules = rules_of lines in
      let rows = rows_of lines in
      let t : ℕ = last_t lines deepest in
      let left : List Record = run rules firings (start rows) in
      record {
        values = within_figure t (Held left) (held_most rules rows firings t reachable_values);
        records =
            up_to_figure (records_with (kind_lines lines) t) (length left) (left_most rules rows firings (records_with (kind_lines lines) t) reachable_records);
        pairs =
            within_figure (pairs_with rules t) (FittedPair rules firings (start rows)) (fitted_most rules rows firings (pairs_with rules t) fired_pairs);
      }

  -- THE RULES CARRIED OUT

  -- After any number of visits the figures hold of the different numbers in the records, of the records, and of the firings.
  pub run_holds : (k : ℕ) → PromisedRun lines (forecast lines deepest) k
  unfolding forecast
  run_holds k =
      let t : ℕ = last_t lines deepest in
      let s : State = carried_to lines k in
      record {
        values = within_figure t (Written s.rows) (written_most lines k t reachable_values);
        records =
            up_to_figure (records_with (kind_lines lines) t) (length s.rows) (rows_most lines k (records_with (kind_lines lines) t) reachable_records);
        firings =
            up_to_figure (pairs_with (rules_of lines) t) (length s.fired) (fired_most lines k (pairs_with (rules_of lines) t) fired_pairs);
      }

-- FIGURES

-- A figure is "beyond" just where the true figure is over 4,294,967,295,
pub beyond_just_over : (n : ℕ) → (figure n ≡ beyond) ↔ (figure_limit < n)
beyond_just_over n = (λ e. over e (dec_le n figure_limit), figure_beyond n)
  where
    over : figure n ≡ beyond → Dec (n ≤ figure_limit) → figure_limit < n
    over e (yes h) = absurd (exactly_not_beyond n (sym (figure_exactly n h) ∙ e))
    over e (no h) = omega arith

-- and a number just where that is the true figure and not over it.
pub exactly_just_within : (n m : ℕ) → (figure n ≡ exactly m) ↔ ((m ≡ n) × (n ≤ figure_limit))
exactly_just_within n m = (λ e. within e (dec_le n figure_limit), λ s. figure_exactly n s.1 ∙ ap exactly (sym s.0))
  where
    within : figure n ≡ exactly m → Dec (n ≤ figure_limit) → (m ≡ n) × (n ≤ figure_limit)
    within e (yes h) = let f : exactly m ≡ exactly n = sym e ∙ figure_exactly n h in (cc, h)
    within e (no h) = absurd (exactly_not_beyond m (sym e ∙ figure_beyond n (omega arith)))

-- So each figure of a forecast is "beyond" just where the last t, the sum over kinds or the sum over rules is over the limit.
pub forecast_beyond : (lines : List Line) (deepest : ℕ)
    → (((forecast lines deepest).values ≡ beyond) ↔ (figure_limit < last_t lines deepest))
    × (((forecast lines deepest).records ≡ beyond) ↔ (figure_limit < records_with (kind_lines lines) (last_t lines deepest)))
    × (((forecast lines deepest).pairs ≡ beyond) ↔ (figure_limit < pairs_with (rules_of lines) (last_t lines deepest)))
unfolding forecast
forecast_beyond lines deepest =
    let t : ℕ = last_t lines deepest in
    (beyond_just_over t, beyond_just_over (records_with (kind_lines lines) t), beyond_just_over (pairs_with (rules_of lines) t))

-- The largest figure, and the first that is beyond.
pub largest-figure : (figure 4294967295 ≡ exactly 4294967295) × (figure 4294967296 ≡ beyond)
unfolding figure
largest-figure = (refl, refl)

-- A later generation has no smaller t, and no fewer records and pairs.
pub later_not_less : (lines : List Line) (d n : ℕ)
    → (last_t lines d ≤ last_t lines (d + n))
    × (records_with (kind_lines lines) (last_t lines d) ≤ records_with (kind_lines lines) (last_t lines (d + n)))
    × (pairs_with (rules_of lines) (last_t lines d) ≤ pairs_with (rules_of lines) (last_t lines (d + n)))
unfolding last_t
later_not_less lines d n =
    let grown = values_after_grows (rules_of lines) (first_t lines) d n in
    (grown, records_with_grows _ _ grown (kind_lines lines), pairs_with_grows _ _ grown (rules_of lines))

-- So where the t of some generation is over the limit, the values of every later one are beyond.
pub beyond_from : (lines : List Line) (d n : ℕ) → figure_limit < last_t lines d → (forecast lines (d + n)).values ≡ beyond
unfolding forecast
beyond_from lines d n h = figure_beyond (last_t lines (d + n)) (omega (arith, (later_not_less lines d n).0))

-- WHAT IS COUNTED

-- The first t is the count of the different values of the rows.
pub first_counts : (lines : List Line) → Count (Held (rows_of lines)) (first_t lines)
unfolding first_t
first_counts lines = values_in_count (rows_of lines)

-- A fresh mark is one that stands in some H line and not in the body,
pub fresh_means : (r : Rule) (m : ℕ) → In m (fresh_marks r) ↔ (In m (marks_of r.heads) × (In m r.marks → ⊥))
fresh_means r m = (fresh_in_lem r m, λ s. in_fresh r m s.0 s.1)

-- and each counts once.
pub fresh_counts : (r : Rule) → Count (λ m. In m (marks_of r.heads) × (In m r.marks → ⊥)) (length (fresh_marks r))
fresh_counts r =
    record { list = fresh_marks r; different = fresh_no_two r; sound = fresh_in_lem r; complete = λ m s. in_fresh r m s.0 s.1; size = refl }

-- A carried mark, which stands in the body and in some H line, counts once.
pub carried_counts : (r : Rule) → Count (λ m. In m r.marks × In m (marks_of r.heads)) (length (carried_marks r))
carried_counts r =
    record { list = carried_marks r; different = carried_no_two r; sound = carried_in r; complete = λ m s. in_carried r m s.0 s.1; size = refl }
