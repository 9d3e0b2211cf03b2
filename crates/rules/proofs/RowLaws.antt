-- Rows among lent lines, as the lines are read one after the other: the widths that K lines declare, and each row by its number. Assumes nothing.
use mathlib.Core.Path.{◌≡◌, refl, sym, subst, ap, ◌∙◌}
use mathlib.Core.Bool.{Bool, true, false, cond}
use mathlib.Core.List.{List, [], ◌∷◌}
use mathlib.Core.Logic.{by_cases}
use mathlib.Core.Option.{some}
use Prim.Native.Nat.{ℕ, zero, suc, ◌+◌, ◌*◌, ◌<◌, ◌≤◌}
use native.Mathlib.Decide.{ℕ_discrete}
use native.Mathlib.Numerals.{add-one}
use native.Mathlib.Omega.{arith}
use lib.Dec.{eqb}
use lib.ListN.{length, get_or, set, take, length-set}
use lib.Seq.{get_or-set_same, get_or-set_other, take_all}
use borrow.Author.Tests.{eq-eqb, ne_eqb}
use Rattle.sheet.specs.Line.{Line}
use Rattle.sheet.specs.Sheet.{width_of}
use Rattle.chase.specs.Rules.{nth, row_lines}
use Rattle.chase.proofs.RowLaws.{row_named, rows_count}
use Rattle.rules.specs.Table.{SheetHeld, lines_in, rows_in}
use Rattle.rules.specs.Inner.Rows.{RowAt}
use Rattle.rules.proofs.SheetLaws.{line_no, lines_before, before_next, LentLine, lent_line, held_lines, size_held, rows_few}
use Rattle.rules.proofs.PartLaws.{zeros, zero_at}
use Rattle.chase.proofs.CountLaws.{element_below}

-- The widths that K lines before a line declare.
pub record WidthsFit (widths : List ℕ) (before : List Line) : Type 0 where
  pub size : length widths ≡ 65
  pub each : (kind : ℕ) → kind ≤ 64 → get_or widths kind 0 ≡ width_of before kind

pub widths_kind : (widths : List ℕ) (before : List Line) (l : Line) → WidthsFit widths before → l.letter ≡ 75 → l.kind ≤ 64
    → WidthsFit (set widths l.kind (get_or l.numbers 0 0)) (l ∷ before)
widths_kind widths before l w letter low =
    let z = w.size in
    record {
      size = simp length-set z;
      each =
          λ kind top.
          by_cases (ℕ_discrete kind l.kind)
          (λ (e : kind ≡ l.kind).
          rw (letter, e, eq-eqb l.kind l.kind refl) (get_or-set_same widths l.kind (get_or l.numbers 0 0) 0 (omega arith)))
          (λ (e : kind ≡ l.kind → ⊥).
          rw (letter, ne_eqb l.kind kind (λ q. e (sym q))) (get_or-set_other widths l.kind kind (get_or l.numbers 0 0) 0 e ∙ w.each kind top));
    }

pub widths_other : (widths : List ℕ) (before : List Line) (l : Line) → WidthsFit widths before → (l.letter ≡ 75 → ⊥) → WidthsFit widths (l ∷ before)
widths_other widths before l w letter = record { size = w.size; each = λ kind top. rw (ne_eqb l.letter 75 letter) (w.each kind top) }

-- Rows by their numbers: line n, from 0, comes after so many rows.
abbrev rows_to : List Line → ℕ → ℕ
rows_to ls n = length (row_lines (take n ls))

row_number : (ls : List Line) (n : ℕ) → n < length ls → (line_no ls n).letter ≡ 82 → nth (row_lines ls) (suc (rows_to ls n)) ≡ some (line_no ls n)
row_number [] n l e = absurd (omega arith)
row_number (k ∷ ls) zero l e = rw e
row_number (k ∷ ls) (suc n) l e = go (eqb k.letter 82) (row_number ls n (omega arith) e)
  where
    go : (b : Bool) → nth (row_lines ls) (suc (rows_to ls n)) ≡ some (line_no ls n)
        → nth (cond b (k ∷ row_lines ls) (row_lines ls)) (suc (length (cond b (k ∷ row_lines (take n ls)) (row_lines (take n ls))))) ≡ some (line_no ls n)
    go true ih = ih
    go false ih = ih

rows_more : (ls : List Line) (n : ℕ) → n < length ls → (line_no ls n).letter ≡ 82 → rows_to ls (suc n) ≡ suc (rows_to ls n)
rows_more [] n l e = absurd (omega arith)
rows_more (k ∷ ls) zero l e = rw e
rows_more (k ∷ ls) (suc n) l e = go (eqb k.letter 82) (rows_more ls n (omega arith) e)
  where
    go : (b : Bool) → rows_to ls (suc n) ≡ suc (rows_to ls n)
        → length (cond b (k ∷ row_lines (take (suc n) ls)) (row_lines (take (suc n) ls))) ≡ suc (length (cond b (k ∷ row_lines (take n ls)) (row_lines (take n ls))))
    go true ih = ap suc ih
    go false ih = ih

rows_same : (ls : List Line) (n : ℕ) → n < length ls → ((line_no ls n).letter ≡ 82 → ⊥) → rows_to ls (suc n) ≡ rows_to ls n
rows_same [] n l e = absurd (omega arith)
rows_same (k ∷ ls) zero l e = rw (ne_eqb k.letter 82 e)
rows_same (k ∷ ls) (suc n) l e = go (eqb k.letter 82) (rows_same ls n (omega arith) e)
  where
    go : (b : Bool) → rows_to ls (suc n) ≡ rows_to ls n
        → length (cond b (k ∷ row_lines (take (suc n) ls)) (row_lines (take (suc n) ls))) ≡ length (cond b (k ∷ row_lines (take n ls)) (row_lines (take n ls)))
    go true ih = ap suc ih
    go false ih = ih

-- Where the reading of the lines stands: at line n, after so many rows.
pub record Reading (numbers widths : List ℕ) (row n : ℕ) : Type 0 where
  pub low : 8 * n ≤ length numbers
  pub widths_fit : WidthsFit widths (lines_before n (lines_in numbers))
  pub rows_are : row ≡ rows_to (lines_in numbers) n

pub reading_begun : (numbers : List ℕ) → Reading numbers (zeros 65) 0 0
reading_begun numbers = record { low = omega arith; widths_fit = record { size = refl; each = λ kind top. zero_at 65 kind }; rows_are = refl }

module _ (numbers widths : List ℕ) (row n : ℕ) (sheet : SheetHeld numbers) (at : Reading numbers widths row n) (more : 8 * n < length numbers) where
  abbrev ls : List Line
  ls = lines_in numbers

  abbrev line : Line
  line = line_no ls n

  held : LentLine numbers n
  held = lent_line sheet n more

  pub whole_line : 8 * n + 8 ≤ length numbers
  whole_line = held.whole

  pub kind_low : get_or numbers (8 * n + 1) 0 ≤ 64
  kind_low = let k = held.kind in let f = held.fits.kind.1 in omega arith

  next_low : 8 * (n + 1) ≤ length numbers
  next_low = let w = held.whole in omega arith

  -- A K line.
  pub read_kind : get_or numbers (8 * n) 0 ≡ 75 → Reading numbers (set widths (get_or numbers (8 * n + 1) 0) (get_or numbers (8 * n + 2) 0)) row (n + 1)
  read_kind e =
      let letter : line.letter ≡ 75 = sym held.letter ∙ e in
      record {
        low = next_low;
        widths_fit =
            subst (WidthsFit (set widths (get_or numbers (8 * n + 1) 0) (get_or numbers (8 * n + 2) 0))) (sym (before_next ls n))
            (rw (held.kind, held.first) (widths_kind widths (lines_before n ls) line at.widths_fit letter held.fits.kind.1));
        rows_are = at.rows_are ∙ sym (ap (rows_to ls) (add-one n) ∙ rows_same ls n held.inside (λ (q : line.letter ≡ 82). omega arith));
      }

  -- An R line.
  pub read_row : get_or numbers (8 * n) 0 ≡ 82 → Reading numbers widths (row + 1) (n + 1)
  read_row e =
      let letter : line.letter ≡ 82 = sym held.letter ∙ e in
      record {
        low = next_low;
        widths_fit =
            subst (WidthsFit widths) (sym (before_next ls n))
            (widths_other widths (lines_before n ls) line at.widths_fit (λ (q : line.letter ≡ 75). omega arith));
        rows_are = add-one row ∙ ap suc at.rows_are ∙ sym (ap (rows_to ls) (add-one n) ∙ rows_more ls n held.inside letter);
      }

  -- Any other line.
  pub read_other : (get_or numbers (8 * n) 0 ≡ 75 → ⊥) → (get_or numbers (8 * n) 0 ≡ 82 → ⊥) → Reading numbers widths row (n + 1)
  read_other e f =
      record {
        low = next_low;
        widths_fit =
            subst (WidthsFit widths) (sym (before_next ls n))
            (widths_other widths (lines_before n ls) line at.widths_fit (λ (q : line.letter ≡ 75). e (held.letter ∙ q)));
        rows_are = at.rows_are ∙ sym (ap (rows_to ls) (add-one n) ∙ rows_same ls n held.inside (λ (q : line.letter ≡ 82). f (held.letter ∙ q)));
      }

  -- An R line has as many numbers as its kind is wide.
  pub row_width : get_or numbers (8 * n) 0 ≡ 82 → get_or widths (get_or numbers (8 * n + 1) 0) 0 ≡ length line.numbers
  row_width e =
      ap (λ (k : ℕ). get_or widths k 0) held.kind ∙ at.widths_fit.each line.kind held.fits.kind.1
      ∙ sym (held.fits.width (λ (q : line.letter ≡ 75). omega (arith, held.letter)))

  -- It is the next row.
  pub row_at : get_or numbers (8 * n) 0 ≡ 82 → RowAt numbers n (get_or widths (get_or numbers (8 * n + 1) 0) 0) (row + 1)
  row_at e =
      let letter : line.letter ≡ 82 = sym held.letter ∙ e in
      let width = row_width e in
      let named : nth (row_lines ls) (suc row) ≡ some line =
      subst (λ (k : ℕ). nth (row_lines ls) (suc k) ≡ some line) (sym at.rows_are) (row_number ls n held.inside letter) in
      let b = element_below (row_lines ls) row line named in
      let t = rows_few ls (held_lines sheet).1 in
      let o = held.fits.some in
      let f = held.fits.few in
      record {
        line = line;
        size = held.whole;
        named = rw add-one (row_named ls (suc row) line named);
        low = omega arith;
        kind = held.kind;
        kind_fits = held.fits.kind;
        numbers_are = rw width held.fields;
        some_width = omega arith;
        few_width = omega arith;
      }

-- All lines are read.
pub read_all : (numbers widths : List ℕ) (row n : ℕ) → SheetHeld numbers → Reading numbers widths row n → length numbers ≤ 8 * n → row ≡ length (rows_in numbers)
read_all numbers widths row n sheet at all =
    let z = size_held sheet in
    let l = at.low in
    at.rows_are
    ∙ ap (λ (ls : List Line). length (row_lines ls)) (take_all n (lines_in numbers) (omega arith))
    ∙ sym (rows_count (lines_in numbers))
