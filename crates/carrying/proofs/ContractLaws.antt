-- What Judge has answered and the run decide the answer, and a good answer is the only one of its kind. Assumes nothing.
use mathlib.Core.Path.{◌≡◌, refl, sym, ◌∙◌, ap, subst}
use mathlib.Core.Logic.{◌⊎◌, inl, inr}
use mathlib.Core.List.{List, ◌++◌, map}
use Prim.Native.Nat.{ℕ, suc, ◌+◌, ◌*◌, ◌≤◌, ◌<◌}
use native.Mathlib.Decide.{dec_le}
use native.Mathlib.Omega.{arith}
use lib.ListN.{length, take, drop}
use Rattle.patterns.specs.Outcome.{good}
use Rattle.columns.specs.Column.{largest_number}
use Rattle.sheet.specs.Line.{Line, line_size, lent_of}
use Rattle.sheet.specs.Write.{sheet_held}
use Rattle.chase.specs.Rules.{rules_of}
use Rattle.chase.specs.Run.{Reachable, rows_of}
use Rattle.chase.specs.Judge.{Verdict, Bounded, shape_limit, Right, SettlesAtOnce, Settles, Endless}
use Rattle.chase.specs.Counting.{MoreThan}
use Rattle.carrying.specs.Carrying.{Row, State}
use Rattle.carrying.specs.Contract.{record_limit, record_room, Carried, carried, refuses, row_line, run, Ends, Taken, CarriedOut, Refuses, endless, many_records, large_number, CarryMeets}
use Rattle.carrying.proofs.ListLaws.{Begins, begins-length}
use Rattle.carrying.proofs.Theorems.{over, decided, one_end, records_count, fresh_count}

-- Lent lines hold one sheet.
pub one_sheet : (numbers : List ℕ) (ls ms : List Line) → sheet_held numbers ≡ good ls → sheet_held numbers ≡ good ms → ls ≡ ms
one_sheet numbers ls ms p q = let e : good ls ≡ good ms = sym p ∙ q in cc

module _ (numbers before : List ℕ) where
  -- Rows over the limit, at any moment of the run, also in the middle of a firing.
  pub over_refused : (lines : List Line) → Taken numbers before lines → (deepest : ℕ) → Bounded (rules_of lines) (rows_of lines) deepest
      → (k : ℕ) (rows : List Row) → Begins rows (run lines k).rows → record_limit < length rows → Refuses numbers before 22 0
  over_refused lines t d b k rows p h =
      many_records lines t d b (over lines k record_limit (omega (arith, h, begins-length rows (run lines k).rows p)))

  -- A next number over the largest that a column holds, and one more.
  pub large_refused : (lines : List Line) → Taken numbers before lines → (k : ℕ) → Ends lines k → length (run lines k).rows ≤ record_limit
      → suc largest_number < (run lines k).next → Refuses numbers before 23 0
  large_refused lines t k e few h =
      let c = fresh_count lines k e in
      large_number lines t (length (run lines k).rows) (records_count lines k e) (omega (arith, few)) c.0 c.1 (omega (arith, h, c.2))

  pub carried_out : (lines : List Line) → Taken numbers before lines → (k : ℕ) → Ends lines k → length (run lines k).rows ≤ record_limit
      → (run lines k).next ≤ suc largest_number
      → CarriedOut numbers before (length (run lines k).rows) (length (run lines k).fired)
      (lent_of (map row_line (run lines k).rows) ++ drop (line_size * length (run lines k).rows) before)
  carried_out lines t k e few small =
      record {
        lines = lines;
        taken = t;
        visits = k;
        ends = e;
        records_are = refl;
        few = few;
        small = omega (arith, small);
        firings_are = refl;
        held = refl;
      }

  abbrev Answered : Type 0
  Answered = (a : Carried) × ((now : List ℕ) × CarryMeets numbers before a now)

  -- A sheet that settles gets its answer from as many visits as there may be records.
  pub settled_answered : (lines : List Line) → Taken numbers before lines → (deepest : ℕ) → Bounded (rules_of lines) (rows_of lines) deepest → Answered
  settled_answered lines t d b = go (decided lines record_limit)
    where
      small? : Ends lines record_limit → Dec ((run lines record_limit).next ≤ suc largest_number) → Answered
      small? e (yes h) = (
        carried (length (run lines record_limit).rows) (length (run lines record_limit).fired),
        (
          lent_of (map row_line (run lines record_limit).rows) ++ drop (line_size * length (run lines record_limit).rows) before,
          carried_out lines t record_limit e e h,
        ),
      )
      small? e (no h) = (refuses 23 0, (before, (large_refused lines t record_limit e e (omega arith), refl)))

      go : Ends lines record_limit ⊎ MoreThan (Reachable (rules_of lines) (rows_of lines)) record_limit → Answered
      go (inl e) = small? e (dec_le (run lines record_limit).next (suc largest_number))
      go (inr m) = (refuses 22 0, (before, (many_records lines t d b m, refl)))

  -- Judge's good answer to the lines leads to an answer.
  pub judged_answered : (steps left : List ℕ) (v : Verdict) → Right shape_limit numbers steps v left → record_room ≤ length before → Answered
  judged_answered steps left v r room = go r.answer
    where
      taken : Taken numbers before r.lines
      taken = record { room = omega (arith, room); sheet = r.sheet; shapes = v.shapes; counted = r.shapes; within = r.within }

      go : SettlesAtOnce (rules_of r.lines) (rows_of r.lines) v (take v.trail r.steps) (drop v.trail r.steps)
          ⊎ (Settles (rules_of r.lines) (rows_of r.lines) v (take v.trail r.steps) (drop v.trail r.steps)
          ⊎ Endless (rules_of r.lines) (rows_of r.lines) v (take v.trail r.steps) (drop v.trail r.steps)) → Answered
      go (inl s) = settled_answered r.lines taken 0 s.bounded
      go (inr (inl s)) = settled_answered r.lines taken v.deepest s.bounded
      go (inr (inr s)) = (refuses 21 0, (before, (endless r.lines taken s.unbounded, refl)))

  -- Two good answers are the same, and so is what is then held.
  pub carried_one : (m n f g : ℕ) (now then : List ℕ) → CarriedOut numbers before m f now → CarriedOut numbers before n g then
      → (m ≡ n) × (f ≡ g) × (now ≡ then)
  carried_one m n f g now then c d =
      let same = one_sheet numbers c.lines d.lines c.taken.sheet d.taken.sheet in
      let ends : Ends d.lines c.visits = subst (λ (ls : List Line). Ends ls c.visits) same c.ends in
      let state : run c.lines c.visits ≡ run d.lines d.visits
      = ap (λ (ls : List Line). run ls c.visits) same ∙ one_end d.lines c.visits d.visits ends d.ends in
      let size : m ≡ n = c.records_are ∙ ap (λ (s : State). length s.rows) state ∙ sym d.records_are in (
        size,
        c.firings_are ∙ ap (λ (s : State). length s.fired) state ∙ sym d.firings_are,
        c.held ∙ (λ i. lent_of (map row_line (state i).rows) ++ drop (line_size * size i) before) ∙ sym d.held,
      )
