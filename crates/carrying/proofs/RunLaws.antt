-- A run from any table whose numbers have a meaning: at every moment a renaming of a part of the chase, and finished the whole of it. Assumes nothing.
use mathlib.Core.Logic.{◌⊎◌, inl, inr}
use mathlib.Core.List.{List, map}
use Prim.Native.Nat.{ℕ, ◌-◌, ◌≤◌, ◌<◌}
use native.Mathlib.Decide.{dec_le}
use native.Mathlib.Omega.{arith}
use lib.ListN.{length, length-map}
use Rattle.chase.specs.Lists.{In}
use Rattle.chase.specs.Rules.{Rule}
use Rattle.chase.specs.Value.{Value}
use Rattle.chase.specs.Making.{Record}
use Rattle.chase.specs.Run.{Reachable}
use Rattle.chase.specs.Judge.{Bounded}
use Rattle.chase.specs.Counting.{Count, MoreThan}
use Rattle.chase.proofs.CountLaws.{pigeonhole}
use Rattle.chase.proofs.FiniteLaws.{bounded_finite, finite_bounded}
use Rattle.carrying.specs.Carrying.{Row, State, after, Finished, begins_at}
use Rattle.carrying.specs.Meaning.{meant, FiredWith, Made, Renames, Whole, Numbering}
use Rattle.carrying.proofs.FiringLaws.{AsRun, Kept}
use Rattle.carrying.proofs.VisitLaws.{after_good}
use Rattle.carrying.proofs.ResultLaws as Result

module _ (rules : List Rule) (table : List Row) (first : ℕ) (old : ℕ → Value) (N : Numbering table first old) where
  -- The chase of the table's meaning, and the run.
  abbrev rows : List Record
  rows = map (meant old) table

  abbrev begin : State
  begin = begins_at first table

  abbrev at : ℕ → State
  at k = after rules begin k

  -- What the numbers mean after k visits.
  pub meaning_at : ℕ → ℕ → Value
  meaning_at k = (after_good rules table first old N k).0.meaning

  kept_at : (k : ℕ) → Kept rules table first old (at k) (meaning_at k)
  unfolding meaning_at
  kept_at k = (after_good rules table first old N k).0.kept

  -- At every moment.
  pub renaming : (k : ℕ) → Renames rules rows old first (at k) (meaning_at k)
  renaming k = Result.renames rules table first old N (at k) (meaning_at k) (kept_at k)

  pub as_run : (k : ℕ) → AsRun rules table first old (at k) (meaning_at k)
  as_run k = (kept_at k).as_run

  pub first_below : (k : ℕ) → first ≤ (at k).next
  first_below k = (kept_at k).first_below

  -- Finished.
  module _ (k : ℕ) (finished : Finished rules begin k) where
    pub whole : Whole rules rows first (at k) (meaning_at k)
    whole = Result.whole rules table first old N (at k) (meaning_at k) (kept_at k) k (after_good rules table first old N k).1 finished

    pub records_count : Count (Reachable rules rows) (length (at k).rows)
    records_count = Result.records_count rules table first old N (at k) (meaning_at k) (kept_at k) k (after_good rules table first old N k).1 finished

    pub firings_count : Count (FiredWith rules rows) (length (at k).fired)
    firings_count = Result.pairs_count rules table first old N (at k) (meaning_at k) (kept_at k) k (after_good rules table first old N k).1 finished

    pub made_count : Count (Made rules rows) ((at k).next - first)
    made_count = Result.made_count rules table first old N (at k) (meaning_at k) (kept_at k) k (after_good rules table first old N k).1 finished

  -- Rows over a limit, at any moment, are as many reachable records.
  pub over : (k limit : ℕ) → limit < length (at k).rows → MoreThan (Reachable rules rows) limit
  over k limit h =
      record {
        list = map (meant (meaning_at k)) (at k).rows;
        different = (renaming k).once;
        sound = (renaming k).reachable;
        size = omega (arith, length-map (at k).rows (meant (meaning_at k)));
      }

  -- So many visits decide whether there are at most so many records.
  pub decided : (limit : ℕ) → Finished rules begin limit ⊎ MoreThan (Reachable rules rows) limit
  decided limit = go (dec_le (length (at limit).rows) limit)
    where
      go : Dec (length (at limit).rows ≤ limit) → Finished rules begin limit ⊎ MoreThan (Reachable rules rows) limit
      go (yes h) = inl h
      go (no h) = inr (over limit limit (omega arith))

  -- A list that has every reachable record bounds the visits.
  pub finishes_within : (list : List Record) → ((x : Record) → Reachable rules rows x → In x list) → (k : ℕ) → length list ≤ k
      → Finished rules begin k
  finishes_within list all k h =
      omega (
        arith,
        length-map (at k).rows (meant (meaning_at k)),
        pigeonhole (map (meant (meaning_at k)) (at k).rows) list (renaming k).once (λ x i. all x ((renaming k).reachable x i)),
      )

  -- A run finishes just if generations are bounded.
  pub bounded_finishes : (d : ℕ) → Bounded rules rows d → (k : ℕ) × Finished rules begin k
  bounded_finishes d b =
      let t = bounded_finite rules rows d b in
      (length t.0, finishes_within t.0 t.1 (length t.0) (omega arith))

  pub finished_bounded : (k : ℕ) → Finished rules begin k → (d : ℕ) × Bounded rules rows d
  finished_bounded k h = finite_bounded rules rows (map (meant (meaning_at k)) (at k).rows) (whole k h).records
