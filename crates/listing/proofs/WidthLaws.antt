-- The widths of a sheet's kinds, from its K lines: after any other line no K line comes. Assumes nothing.
use mathlib.Core.Path.{◌≡◌, refl, sym, subst, ap, ◌∙◌}
use mathlib.Core.Logic.{◌⊎◌, inl, inr, by_cases}
use mathlib.Core.Bool.{true, false≢true}
use mathlib.Core.List.{List, [], ◌∷◌}
use Prim.Native.Nat.{ℕ, zero, suc, ◌+◌, ◌*◌, ◌/◌, ◌≤◌, ◌<◌}
use native.Mathlib.Decide.{ℕ_discrete}
use native.Mathlib.Omega.{arith}
use borrow.Author.Tests.{ne_eqb}
use lib.ListN.{length, get_or, set}
use lib.Seq.{drop-cons, get_or-take, get_or-drop}
use Rattle.std.specs.Simd.{first_chunks}
use Rattle.sheet.specs.Line.{K, B, H, R, Line, well_formed}
use Rattle.sheet.specs.Sheet.{in_place, width_of, refusal, Continues, IsSheet}
use Rattle.sheet.proofs.FormLaws.{letter_cases}
use Rattle.sheet.proofs.Sheets.{refusal_passes}
use Rattle.chase.specs.Lists.{In}
use Rattle.rules.specs.Table.{SheetHeld, lines_in}
use Rattle.rules.proofs.SheetLaws.{no_line, line_no, lines_before, continues_at, line_fits_at, held_lines, size_held}
use Rattle.rules.proofs.PartLaws.{zeros}
use Rattle.rules.proofs.RowLaws.{Reading, reading_begun, read_kind, read_row, read_other}
use Rattle.report.proofs.Filling.{part_at}
use Rattle.listing.specs.Inner.Records.{WidthsOf}

letter_some : (l : Line) → well_formed l ≡ true → l.letter ≡ 0 → ⊥
letter_some l f e = go (letter_cases l f)
  where
    go : (l.letter ≡ K) ⊎ ((l.letter ≡ B) ⊎ ((l.letter ≡ H) ⊎ (l.letter ≡ R))) → ⊥
    go (inl p) = omega arith
    go (inr (inl p)) = omega arith
    go (inr (inr (inl p))) = omega arith
    go (inr (inr (inr p))) = omega arith

module _ (ls : List Line) (sheet : IsSheet ls) where
  taken : (n : ℕ) → n < length ls → (well_formed (line_no ls n) ≡ true) × (refusal (lines_before n ls) (line_no ls n) ≡ 0)
  taken n h =
      let (d, rest) = continues_at ls n sheet (omega arith) in
      let here = subst (λ (r : List Line). Continues (lines_before n ls) r) (drop-cons ls n no_line h) rest in
      (here.0, here.1)

  next_other : (n : ℕ) → suc n < length ls → ((line_no ls n).letter ≡ K → ⊥) → (line_no ls (suc n)).letter ≡ K → ⊥
  unfolding in_place
  next_other n h other k =
      let place = (refusal_passes (lines_before (suc n) ls) (line_no ls (suc n)) (taken (suc n) h).1).place in
      let none = ne_eqb (line_no ls n).letter 0 (letter_some (line_no ls n) (taken n (omega arith)).0) in
      false≢true (rw (k, none, ne_eqb (line_no ls n).letter K other) at place)

  -- From a line that is no K line on there is none.
  others : (n : ℕ) → ((line_no ls n).letter ≡ K → ⊥) → (m : ℕ) → n ≤ m → m < length ls → (line_no ls m).letter ≡ K → ⊥
  others n o zero low h k = let e : 0 ≡ n = omega arith in o (subst (λ (j : ℕ). (line_no ls j).letter ≡ K) e k)
  others n o (suc m) low h k = go (λ q. others n o m q (omega arith)) (ℕ_discrete (suc m) n) k
    where
      go : (n ≤ m → (line_no ls m).letter ≡ K → ⊥) → Dec (suc m ≡ n) → (line_no ls (suc m)).letter ≡ K → ⊥
      go before (yes e) k = o (subst (λ (j : ℕ). (line_no ls j).letter ≡ K) e k)
      go before (no e) k = next_other m h (before (omega arith)) k

  -- So the widths stay.
  stays : (n : ℕ) → ((line_no ls n).letter ≡ K → ⊥) → (k m : ℕ) → n ≤ m → m ≤ length ls → width_of (lines_before m ls) k ≡ width_of (lines_before n ls) k
  stays n o k zero low h = let e : 0 ≡ n = omega arith in ap (λ (j : ℕ). width_of (lines_before j ls) k) e
  stays n o k (suc m) low h = go (λ q. stays n o k m q (omega arith)) (ℕ_discrete (suc m) n)
    where
      go : (n ≤ m → width_of (lines_before m ls) k ≡ width_of (lines_before n ls) k) → Dec (suc m ≡ n) → width_of (lines_before (suc m) ls) k ≡ width_of (lines_before n ls) k
      go before (yes e) = ap (λ (j : ℕ). width_of (lines_before j ls) k) e
      go before (no e) = rw (ne_eqb (line_no ls m).letter K (others n o m (omega arith) (omega arith))) (before (omega arith))

  line_width : (n : ℕ) → n < length ls → ((line_no ls n).letter ≡ K → ⊥)
      → length (line_no ls n).numbers ≡ width_of (lines_before (length ls) ls) (line_no ls n).kind
  line_width n h o = (line_fits_at ls n sheet h).width o ∙ sym (stays n o (line_no ls n).kind (length ls) (omega arith) (omega arith))

place_of : (ls : List Line) (l : Line) → In l ls → (n : ℕ) × (n < length ls) × (line_no ls n ≡ l)
place_of [] l i = absurd i
place_of (k ∷ ls) l (inl p) = (0, omega arith, sym p)
place_of (k ∷ ls) l (inr i) = let (n, h, e) = place_of ls l i in (suc n, omega arith, e)

-- A line of a sheet: its kind and how many numbers it has.
pub line_small : (ls : List Line) → IsSheet ls → (l : Line) → In l ls → (l.kind ≤ 64) × (length l.numbers ≤ 6)
line_small ls sheet l i =
    let (n, h, e) = place_of ls l i in
    let fits = line_fits_at ls n sheet h in
    subst (λ (x : Line). (x.kind ≤ 64) × (length x.numbers ≤ 6)) e (fits.kind.1, fits.few)

-- ---- the table of widths

-- Line n of the lines that are whole, eight numbers each, has its numbers.
pub eight_at : (numbers : List ℕ) (whole : List (List ℕ)) → whole ≡ first_chunks 8 (length numbers / 8) numbers → (n : ℕ) → n < length numbers / 8 → (k : ℕ) → k < 8
    → get_or (get_or whole n []) k 0 ≡ get_or numbers (8 * n + k) 0
eight_at numbers whole are n h k low =
    rw (are, part_at 8 (length numbers / 8) numbers n h, get_or-take, get_or-drop) refl

-- The first n lines are read.
pub record Widening (numbers widths : List ℕ) (n : ℕ) : Type 0 where
  pub row : ℕ
  pub reading : Reading numbers widths row n

pub widening_begun : (numbers : List ℕ) → Widening numbers (zeros 65) 0
widening_begun numbers = record { row = 0; reading = reading_begun numbers }

module _ {numbers widths : List ℕ} {n : ℕ} (sheet : SheetHeld numbers) (w : Widening numbers widths n) where
  pub widening_kind : 8 * n < length numbers → get_or numbers (8 * n) 0 ≡ 75
      → Widening numbers (set widths (get_or numbers (8 * n + 1) 0) (get_or numbers (8 * n + 2) 0)) (n + 1)
  widening_kind more e = record { row = w.row; reading = read_kind numbers widths w.row n sheet w.reading more e }

  pub widening_other : 8 * n < length numbers → (get_or numbers (8 * n) 0 ≡ 75 → ⊥) → Widening numbers widths (n + 1)
  widening_other more e =
      by_cases (ℕ_discrete (get_or numbers (8 * n) 0) 82)
      (λ (r : get_or numbers (8 * n) 0 ≡ 82). record { row = w.row + 1; reading = read_row numbers widths w.row n sheet w.reading more r })
      (λ (r : get_or numbers (8 * n) 0 ≡ 82 → ⊥). record { row = w.row; reading = read_other numbers widths w.row n sheet w.reading more e r })

  pub widening_done : length numbers ≤ 8 * n → WidthsOf (lines_in numbers) widths
  widening_done all =
      let size = size_held sheet in
      let low = w.reading.low in
      let end : n ≡ length (lines_in numbers) = omega arith in
      let is = (held_lines sheet).1 in
      record {
        size = w.reading.widths_fit.size;
        each =
            λ l i o.
            let (m, h, e) = place_of (lines_in numbers) l i in
            let fits = line_small (lines_in numbers) is l i in
            w.reading.widths_fit.each l.kind fits.0
            ∙ ap (λ (j : ℕ). width_of (lines_before j (lines_in numbers)) l.kind) end
            ∙ sym (subst (λ (x : Line). (x.letter ≡ K → ⊥) → length x.numbers ≡ width_of (lines_before (length (lines_in numbers)) (lines_in numbers)) x.kind) e (line_width (lines_in numbers) is m h) o);
      }
