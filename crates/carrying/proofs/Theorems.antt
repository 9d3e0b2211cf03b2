-- The theorems on the run of a sheet that a reader relies on: it is the chase under a one_to_one renaming. Assumes nothing.
use mathlib.Core.Path.{◌≡◌, sym, ◌∙◌, ap, subst}
use mathlib.Core.Logic.{◌⊎◌, inl, inr}
use mathlib.Core.List.{List, [], map}
use mathlib.Core.Option.{some}
use Prim.Native.Nat.{ℕ, suc, ◌+◌, ◌-◌, ◌≤◌, ◌<◌}
use native.Mathlib.Omega.{arith}
use lib.ListN.{length}
use Rattle.sheet.specs.Line.{Line}
use Rattle.chase.specs.Lists.{In, All2, largest}
use Rattle.chase.specs.Rules.{rules_of, row_lines, nth}
use Rattle.chase.specs.Value.{Value, missing, generation}
use Rattle.chase.specs.Making.{Record}
use Rattle.chase.specs.Run.{Firing, start, run as left_by, AllFit, Reachable, rows_of}
use Rattle.chase.specs.Judge.{Bounded}
use Rattle.chase.specs.Counting.{Count, MoreThan}
use Rattle.chase.specs.Filled.{Filled}
use Rattle.chase.proofs.CountLaws.{count_one, more_than_count}
use Rattle.chase.proofs.ListLaws.{in_map, in_add_all}
use Rattle.chase.proofs.RunLaws.{reachable_left}
use Rattle.carrying.specs.Carrying.{Row, Row-discrete, numbers_in, filled_table, begins, table_rows}
use Rattle.carrying.specs.Contract.{top, run, Ends}
use Rattle.carrying.specs.Meaning.{meant, meant_pair, table_meaning, pair_fired, FiredWith, Made, Renames, Whole, Numbering}
use Rattle.carrying.proofs.MarkLaws.{in_largest}
use Rattle.carrying.proofs.VisitLaws.{finished_same as same_end, nowhere_after}
use Rattle.carrying.proofs.RunLaws as Run
use Rattle.carrying.proofs.FilledLaws as Fill

module _ (lines : List Line) where
  -- Before any rule fires a number up to the table's largest means itself, the next ones the values that are missing, by row and then by field. These are different values, and the run's first rows hold no other number.
  pub numbering : Numbering (filled_table (table_rows lines)) (suc (top lines)) (table_meaning lines)
  numbering = Fill.numbering lines

  -- So the run's first rows, with the zeros filled, mean the sheet's rows.
  pub same_rows : map (meant (table_meaning lines)) (filled_table (table_rows lines)) ≡ rows_of lines
  same_rows = Fill.same_rows lines

  -- The run's first rows are the sheet's with the zeros filled: a number that is not 0 is kept, and each 0 has a number that stands nowhere else in its row.
  pub zeros-filled-in :
      All2 (λ (before after : Row). (before.kind ≡ after.kind) × Filled before.numbers after.numbers) (table_rows lines) (filled_table (table_rows lines))
  zeros-filled-in =
      Fill.filled-rows (suc (largest (numbers_in (table_rows lines)))) (table_rows lines) (omega arith)
      (λ a i. omega (arith, in_largest a (numbers_in (table_rows lines)) i))

  -- What stands there for the 0 at field i of row k means the value that is missing there.
  pub each_zero-has_its_number : (k i : ℕ) (l : Line) → nth (row_lines lines) k ≡ some l → nth l.numbers i ≡ some 0
      → (w : Row) × (nth (filled_table (table_rows lines)) k ≡ some w) × ((a : ℕ) × (nth w.numbers i ≡ some a) × (table_meaning lines a ≡ missing k i))
  each_zero-has_its_number k i l e f = Fill.means_there lines k i 0 l e f

  -- Where no number of the table is 0, the run's first rows are the sheet's, and fresh numbers follow the table's largest.
  pub without_zeros : (In 0 (numbers_in (table_rows lines)) → ⊥)
      → (filled_table (table_rows lines) ≡ table_rows lines) × (top lines ≡ largest (numbers_in (table_rows lines)))
  without_zeros h = (
    Fill.filled_rows-none (suc (largest (numbers_in (table_rows lines)))) (table_rows lines) h,
    omega (arith, Fill.no_zeros (numbers_in (table_rows lines)) h),
  )

  -- No row of the run ever holds a 0.
  pub no_zero : (k : ℕ) (w : Row) → In w (run lines k).rows → In 0 w.numbers → ⊥
  no_zero k = (nowhere_after 0 (rules_of lines) (begins (table_rows lines)) (omega arith, first) k).1
    where
      first : (w : Row) → In w (begins (table_rows lines)).rows → In 0 w.numbers → ⊥
      first w i j =
          elim (in_add_all Row-discrete w (filled_table (table_rows lines)) [] i) [
            | inl m ↦
                elim (Fill.filled_rows_in (suc (largest (numbers_in (table_rows lines)))) (table_rows lines) w 0 m j) [ inl s ↦ omega (arith, s.1) | inr s ↦ omega (arith, s.0) ]
            | inr m ↦ m
          ]

  -- What holds of the chase of the run's rows holds of the sheet's.
  of_sheet : (P : List Record → Type 0) → P (map (meant (table_meaning lines)) (filled_table (table_rows lines))) → P (rows_of lines)
  of_sheet P p = subst P same_rows p

  -- What the run's numbers mean after k visits.
  pub meaning : ℕ → ℕ → Value
  meaning k = Run.meaning_at (rules_of lines) (filled_table (table_rows lines)) (suc (top lines)) (table_meaning lines) numbering k

  -- At every moment the numbers are a one_to_one renaming of values of the chase. A number up to the table's largest means itself, the next ones the values that are missing, by row and then by field. Renamed, the rows are different reachable records that begin with the table's, and the pairs that have fired are different pairs of the chase.
  pub one_to_one_renaming : (k : ℕ) → Renames (rules_of lines) (rows_of lines) (table_meaning lines) (suc (top lines)) (run lines k) (meaning k)
  unfolding meaning
  one_to_one_renaming k =
      of_sheet (λ rows. Renames (rules_of lines) rows (table_meaning lines) (suc (top lines)) (run lines k) (meaning k))
      (Run.renaming (rules_of lines) (filled_table (table_rows lines)) (suc (top lines)) (table_meaning lines) numbering k)

  -- At every moment the rows, renamed, are what a list of firings leaves, each of which fits. The firings are those of the run, in its order: their rules with their carried values are the pairs that have fired, renamed.
  pub as_firings : (k : ℕ)
      → (firings : List Firing) × AllFit (rules_of lines) firings (start (rows_of lines))
      × (map (meant (meaning k)) (run lines k).rows ≡ left_by (rules_of lines) firings (start (rows_of lines)))
      × (map (pair_fired (rules_of lines)) firings ≡ map (meant_pair (meaning k)) (run lines k).fired)
  unfolding meaning
  as_firings k =
      let a = Run.as_run (rules_of lines) (filled_table (table_rows lines)) (suc (top lines)) (table_meaning lines) numbering k in (
        a.firings,
        of_sheet (λ rows. AllFit (rules_of lines) a.firings (start rows)) a.fit,
        a.leaves ∙ ap (λ (rows : List Record). left_by (rules_of lines) a.firings (start rows)) same_rows,
        a.pairs,
      )

  -- There is one end.
  pub one_end : (j k : ℕ) → Ends lines j → Ends lines k → run lines j ≡ run lines k
  one_end j k g h = same_end (rules_of lines) (begins (table_rows lines)) j k g h

  -- At the end the rows, renamed, are just the reachable records; the pairs just those of the chase; the numbers after those of the table and its zeros just the fresh ones.
  module _ (k : ℕ) (ends : Ends lines k) where
    pub whole_chase : Whole (rules_of lines) (rows_of lines) (suc (top lines)) (run lines k) (meaning k)
    unfolding meaning
    whole_chase =
        of_sheet (λ rows. Whole (rules_of lines) rows (suc (top lines)) (run lines k) (meaning k))
        (Run.whole (rules_of lines) (filled_table (table_rows lines)) (suc (top lines)) (table_meaning lines) numbering k ends)

    pub records_count : Count (Reachable (rules_of lines) (rows_of lines)) (length (run lines k).rows)
    records_count =
        of_sheet (λ rows. Count (Reachable (rules_of lines) rows) (length (run lines k).rows))
        (Run.records_count (rules_of lines) (filled_table (table_rows lines)) (suc (top lines)) (table_meaning lines) numbering k ends)

    pub firings_count : Count (FiredWith (rules_of lines) (rows_of lines)) (length (run lines k).fired)
    firings_count =
        of_sheet (λ rows. Count (FiredWith (rules_of lines) rows) (length (run lines k).fired))
        (Run.firings_count (rules_of lines) (filled_table (table_rows lines)) (suc (top lines)) (table_meaning lines) numbering k ends)

    -- The largest number that the run gives is the table's largest, and as many more as there are zeros in the table and fresh numbers.
    pub fresh_count : (fresh : ℕ) × Count (Made (rules_of lines) (rows_of lines)) fresh × ((run lines k).next ≡ suc (top lines + fresh))
    fresh_count = (
      (run lines k).next - suc (top lines),
      of_sheet (λ rows. Count (Made (rules_of lines) rows) ((run lines k).next - suc (top lines)))
          (Run.made_count (rules_of lines) (filled_table (table_rows lines)) (suc (top lines)) (table_meaning lines) numbering k ends),
      omega (arith, Run.first_below (rules_of lines) (filled_table (table_rows lines)) (suc (top lines)) (table_meaning lines) numbering k),
    )

    -- So the run says whether a number over a limit is needed, whatever way the fresh numbers are counted.
    pub largest-number : (fresh : ℕ) → Count (Made (rules_of lines) (rows_of lines)) fresh → (run lines k).next ≡ suc (top lines + fresh)
    largest-number fresh c =
        let t = fresh_count in
        omega (arith, t.2, count_one (Made (rules_of lines) (rows_of lines)) fresh t.0 c t.1)

    -- And it says whether there are more records than a limit.
    pub more_records : (limit : ℕ) → MoreThan (Reachable (rules_of lines) (rows_of lines)) limit → limit < length (run lines k).rows
    more_records limit m = more_than_count (Reachable (rules_of lines) (rows_of lines)) limit (length (run lines k).rows) m records_count

  -- Where generations have a bound, no number of the run ever means a value of a later generation.
  pub stated_generation : (deepest : ℕ) → Bounded (rules_of lines) (rows_of lines) deepest
      → (k : ℕ) (w : Row) (a : ℕ) → In w (run lines k).rows → In a w.numbers → generation (meaning k a) ≤ deepest
  stated_generation deepest bounded k w a i j =
      bounded (meaning k a)
      (reachable_left (rules_of lines) (rows_of lines) (meaning k a) (meant (meaning k) w)
      ((one_to_one_renaming k).reachable (meant (meaning k) w) (in_map (meant (meaning k)) w (run lines k).rows i)) (in_map (meaning k) a w.numbers j))

  -- Rows over a limit, at any moment, are as many reachable records.
  pub over : (k limit : ℕ) → limit < length (run lines k).rows → MoreThan (Reachable (rules_of lines) (rows_of lines)) limit
  over k limit h =
      of_sheet (λ rows. MoreThan (Reachable (rules_of lines) rows) limit)
      (Run.over (rules_of lines) (filled_table (table_rows lines)) (suc (top lines)) (table_meaning lines) numbering k limit h)

  -- So many visits decide whether there are at most so many reachable records.
  pub decided : (limit : ℕ) → Ends lines limit ⊎ MoreThan (Reachable (rules_of lines) (rows_of lines)) limit
  decided limit =
      of_sheet (λ rows. Ends lines limit ⊎ MoreThan (Reachable (rules_of lines) rows) limit)
      (Run.decided (rules_of lines) (filled_table (table_rows lines)) (suc (top lines)) (table_meaning lines) numbering limit)

  -- The run ends within as many visits as a list that has every reachable record is long.
  pub ends_within : (list : List Record) → ((x : Record) → Reachable (rules_of lines) (rows_of lines) x → In x list) → (k : ℕ) → length list ≤ k → Ends lines k
  ends_within list all k h =
      Run.finishes_within (rules_of lines) (filled_table (table_rows lines)) (suc (top lines)) (table_meaning lines) numbering list
      (λ x w. all x (subst (λ (rows : List Record). Reachable (rules_of lines) rows x) same_rows w)) k h

  -- It ends just if the sheet settles.
  pub settles_ends : (deepest : ℕ) → Bounded (rules_of lines) (rows_of lines) deepest → (k : ℕ) × Ends lines k
  settles_ends d b =
      Run.bounded_finishes (rules_of lines) (filled_table (table_rows lines)) (suc (top lines)) (table_meaning lines) numbering d
      (subst (λ (rows : List Record). Bounded (rules_of lines) rows d) (sym same_rows) b)

  pub ends_settles : (k : ℕ) → Ends lines k → (deepest : ℕ) × Bounded (rules_of lines) (rows_of lines) deepest
  ends_settles k h =
      of_sheet (λ rows. (deepest : ℕ) × Bounded (rules_of lines) rows deepest)
      (Run.finished_bounded (rules_of lines) (filled_table (table_rows lines)) (suc (top lines)) (table_meaning lines) numbering k h)
