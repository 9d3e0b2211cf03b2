-- How a run begins: the table's largest value, and its rows put in order. Assumes nothing.
use mathlib.Core.Path.{◌≡◌, refl, sym, ◌∙◌, ap, subst}
use mathlib.Core.Bool.{Bool, true, false, cond, and-eq-true_iff}
use mathlib.Core.List.{List, [], ◌∷◌, ◌++◌, map, append-nil}
use Prim.Native.Nat.{ℕ, zero, suc, ◌+◌, ◌*◌, ◌≤◌, ◌<◌, max}
use native.Mathlib.Decide.{dec_le}
use native.Mathlib.Numerals.{add-one}
use native.Mathlib.Omega.{arith}
use borrow.Author.Tests.{eq-eqb, ne_eqb, leb-true}
use lib.Dec.{eqb, leb}
use lib.ListN.{length, get_or, take, drop, set, length-map}
use lib.Seq.{take-suc, take_all, take_at, drop-cons}
use Rattle.patterns.specs.Outcome.{padded}
use Rattle.patterns.specs.Pattern.{add, add_all}
use Rattle.patterns.proofs.ListLaws.{length-padded}
use Rattle.patterns.proofs.PatternLaws.{length-add_all}
use Rattle.sheet.specs.Line.{R, Line, in_range}
use Rattle.sheet.specs.Sheet.{Continues}
use Rattle.sheet.proofs.FormLaws.{formed_range}
use Rattle.chase.specs.Rules.{row_lines}
use Rattle.chase.specs.Lists.{largest}
use Rattle.rules.specs.Table.{SheetHeld, lines_in}
use Rattle.rules.specs.Inner.Bytes.{Clear}
use Rattle.rules.specs.Inner.Rows.{row_numbers}
use Rattle.rules.proofs.SheetLaws.{no_line, line_no, lines_before, LentLine, lent_line, held_lines, size_held, continues_at}
use Rattle.rules.proofs.PartLaws.{zeros as blank}
use Rattle.rules.proofs.RowLaws.{Reading, reading_begun, row_width, row_at, read_row, kind_low, read_kind, read_other}
use Rattle.sheet.proofs.LentLines.{Eight}
use Rattle.running.proofs.LineLaws.{line_there, number_at, kind_at, letter_at, fields_at}
use Rattle.carrying.specs.Carrying.{Row, Row-discrete, numbers_in, filled, zeros, filled_rows, row_of, table_rows}
use Rattle.running.specs.Inner.Held.{packed, unpacked, rows_at, records_fit, Stored, Grown}
use Rattle.running.specs.Inner.Begun.{RowsIn, Begun}
use Rattle.running.specs.declared.visits.Counts.{Counts}
use Rattle.running.proofs.RecordLaws.{section_cell, section-length}
use Rattle.carrying.proofs.FilledLaws.{length-filled, zeros_few}
use Rattle.running.proofs.FillLaws.{filled_row, length-filled_rows, zeros_last, filled_rows_last}
use Rattle.running.proofs.FiringLaws.{add_all_last, grown-none, grown_again}

-- ---- the lines so far

rows_append : (xs ys : List Line) → table_rows (xs ++ ys) ≡ table_rows xs ++ table_rows ys
rows_append [] ys = refl
rows_append (x ∷ xs) ys = go (eqb x.letter R) (rows_append xs ys)
  where
    go : (b : Bool) → table_rows (xs ++ ys) ≡ table_rows xs ++ table_rows ys
        → map row_of (cond b (x ∷ row_lines (xs ++ ys)) (row_lines (xs ++ ys))) ≡ map row_of (cond b (x ∷ row_lines xs) (row_lines xs)) ++ table_rows ys
    go true ih = ap (λ (l : List Row). row_of x ∷ l) ih
    go false ih = ih

-- The rows of the first n lines.
abbrev pub rows_up_to : List ℕ → ℕ → List Row
rows_up_to lines n = table_rows (take n (lines_in lines))

module _ {lines : List ℕ} (sheet : SheetHeld lines) (n : ℕ) (more : 8 * n < length lines) where
  abbrev line : Line
  line = line_no (lines_in lines) n

  held : LentLine lines n
  held = lent_line sheet n more

  pub next_line : 8 * (n + 1) ≤ length lines
  next_line = omega (arith, held.whole)

  rows_next : rows_up_to lines (n + 1) ≡ rows_up_to lines n ++ table_rows (line ∷ [])
  rows_next =
      ap (rows_up_to lines) (add-one n) ∙ ap table_rows (take-suc (lines_in lines) n no_line held.inside) ∙ rows_append (take n (lines_in lines)) (line ∷ [])

  pub rows_row : get_or lines (8 * n) 0 ≡ 82 → rows_up_to lines (n + 1) ≡ rows_up_to lines n ++ (row_of line ∷ [])
  rows_row e =
      rows_next ∙ ap (λ (b : Bool). rows_up_to lines n ++ map row_of (cond b (line ∷ []) [])) (eq-eqb line.letter R (sym held.letter ∙ e))

  pub rows_other : (get_or lines (8 * n) 0 ≡ 82 → ⊥) → rows_up_to lines (n + 1) ≡ rows_up_to lines n
  rows_other e =
      rows_next ∙ ap (λ (b : Bool). rows_up_to lines n ++ map row_of (cond b (line ∷ []) [])) (ne_eqb line.letter R (λ q. e (held.letter ∙ q)))
      ∙ append-nil (rows_up_to lines n)

pub rows_all : {lines : List ℕ} → SheetHeld lines → (n : ℕ) → length lines ≤ 8 * n → rows_up_to lines n ≡ table_rows (lines_in lines)
rows_all {lines} sheet n h = ap table_rows (take_all n (lines_in lines) (omega (arith, size_held sheet)))

-- ---- the largest value

largest-append : (xs ys : List ℕ) → largest (xs ++ ys) ≡ max (largest xs) (largest ys)
largest-append [] ys = omega arith
largest-append (x ∷ xs) ys = omega (arith, largest-append xs ys)

numbers_last : (ws : List Row) (w : Row) → largest (numbers_in (ws ++ (w ∷ []))) ≡ max (largest (numbers_in ws)) (largest w.numbers)
numbers_last [] w = omega (arith, largest-append w.numbers [])
numbers_last (v ∷ ws) w =
    omega (arith, largest-append v.numbers (numbers_in (ws ++ (w ∷ []))), largest-append v.numbers (numbers_in ws), numbers_last ws w)

largest-padded : (k : ℕ) (ns : List ℕ) → length ns ≤ k → largest (padded k ns) ≡ largest ns
largest-padded zero [] h = refl
largest-padded zero (n ∷ ns) h = absurd (omega arith)
largest-padded (suc k) [] h = omega (arith, largest-padded k [] (omega arith))
largest-padded (suc k) (n ∷ ns) h = ap (max n) (largest-padded k ns (omega arith))

largest_range : (ns : List ℕ) → in_range ns ≡ true → largest ns ≤ 99999999
largest_range [] e = omega arith
largest_range (n ∷ ns) e =
    let (u, v) = (and-eq-true_iff (leb n 99999999) (in_range ns)).0 e in
    omega (arith, leb-true n 99999999 u, largest_range ns v)

-- The largest value of the first n lines.
pub record LargestTo (lines : List ℕ) (n t : ℕ) : Type 0 where
  pub low : 8 * n ≤ length lines
  pub is : t ≡ largest (numbers_in (rows_up_to lines n))
  pub few : t ≤ 99999999

pub largest-none : (lines : List ℕ) → LargestTo lines 0 0
largest-none lines = record { low = omega arith; is = refl; few = omega arith }

module _ {lines : List ℕ} (sheet : SheetHeld lines) {n t : ℕ} (at : LargestTo lines n t) (more : 8 * n < length lines) where
  six_numbers : largest (take 6 (drop (8 * n + 2) lines)) ≡ largest (line sheet n more).numbers
  six_numbers =
      let h = held sheet n more in
      let ns = (line sheet n more).numbers in
      ap largest (ap (take 6) h.six.1 ∙ take_at (padded 6 ns) h.six.0 6 (length-padded 6 ns)) ∙ largest-padded 6 ns h.fits.few

  numbers_few : largest (line sheet n more).numbers ≤ 99999999
  numbers_few =
      let h = held sheet n more in
      let ls = lines_in lines in
      let rest = (continues_at ls n (held_lines sheet).1 (omega (arith, h.inside))).1 in
      let here = subst (λ (r : List Line). Continues (lines_before n ls) r) (drop-cons ls n no_line h.inside) rest in
      omega (arith, largest_range ((line sheet n more).kind ∷ (line sheet n more).numbers) (formed_range (line sheet n more) here.0))

  pub largest-row : get_or lines (8 * n) 0 ≡ 82 → (t' : ℕ) → t' ≡ max t (largest (take 6 (drop (8 * n + 2) lines))) → LargestTo lines (n + 1) t'
  largest-row e t' f =
      let last = ap (λ (l : List Row). largest (numbers_in l)) (rows_row sheet n more e) ∙ numbers_last (rows_up_to lines n) (row_of (line sheet n more)) in
      record {
        low = next_line sheet n more;
        is = omega (arith, f, six_numbers, last, at.is);
        few = omega (arith, f, six_numbers, numbers_few, at.few);
      }

  pub largest_other : (get_or lines (8 * n) 0 ≡ 82 → ⊥) → LargestTo lines (n + 1) t
  largest_other e =
      record { low = next_line sheet n more; is = at.is ∙ sym (ap (λ (l : List Row). largest (numbers_in l)) (rows_other sheet n more e)); few = at.few }

pub largest_all : {lines : List ℕ} → SheetHeld lines → {n t : ℕ} → LargestTo lines n t → length lines ≤ 8 * n
    → (t ≡ largest (numbers_in (table_rows (lines_in lines)))) × (t ≤ 99999999)
largest_all sheet {n} at h = (at.is ∙ ap (λ (l : List Row). largest (numbers_in l)) (rows_all sheet n h), at.few)

-- ---- the rows put in order

-- Nothing is held yet.
pub stored_none : (rows index : List ℕ) (by : ℕ) → records_fit rows → Clear index 24576 → by < 2147483648 → Stored rows index by 0
stored_none rows index by fits clear mixing =
    let size = clear.size in
    record {
      room = fits;
      size = size;
      mixing = mixing;
      few = omega arith;
      each = λ i h. absurd (omega arith);
      chain = record {
        small = omega arith;
        heads_room = section-length 0 index (omega arith);
        next_room = section-length 1 index (omega arith);
        heads_are = λ b h. section_cell 0 index b h ∙ clear.zeros (4096 * 0 + b);
        next_are = λ i h. absurd (omega arith);
      };
    }

-- The rows of the first n lines are put, their zeros filled from a first number on.
pub record Putting (lines before index₀ widths rows index : List ℕ) (by first count next n : ℕ) : Type 0 where
  pub row : ℕ
  pub reading : Reading lines widths row n
  pub grown : Grown before index₀ by 0 rows index count (add_all Row-discrete (filled_rows first (rows_up_to lines n)) [])
  pub few : count ≤ 4096
  pub given : next ≡ first + zeros (numbers_in (rows_up_to lines n))
  pub few_rows : row ≤ 1024
  pub low : next ≤ first + 6 * row

pub put-none : (lines rows index : List ℕ) (by first : ℕ) → records_fit rows → Clear index 24576 → by < 2147483648
    → Putting lines rows index (blank 65) rows index by first 0 first 0
put-none lines rows index by first fits clear mixing =
    record {
      row = 0;
      reading = reading_begun lines;
      grown = grown-none (stored_none rows index by fits clear mixing);
      few = omega arith;
      given = omega arith;
      few_rows = omega arith;
      low = omega arith;
    }

module _ {lines before index₀ widths rows index : List ℕ} {by first count next n : ℕ} (sheet : SheetHeld lines)
    (p : Putting lines before index₀ widths rows index by first count next n) (more : 8 * n < length lines) where
  pub put_other : {widths' : List ℕ} → (get_or lines (8 * n) 0 ≡ 82 → ⊥) → Reading lines widths' p.row (n + 1)
      → Putting lines before index₀ widths' rows index by first count next (n + 1)
  put_other e r =
      let same = sym (rows_other sheet n more e) in
      record {
        row = p.row;
        reading = r;
        grown = subst (λ (l : List Row). Grown before index₀ by 0 rows index count (add_all Row-discrete (filled_rows first l) [])) same p.grown;
        few = p.few;
        given = subst (λ (l : List Row). next ≡ first + zeros (numbers_in l)) same p.given;
        few_rows = p.few_rows;
        low = p.low;
      }

  pub next_low : next ≤ first + 6144
  next_low = omega (arith, p.low, p.few_rows)

  -- The row at an R line, whose kind has this width.
  module _ (e : get_or lines (8 * n) 0 ≡ 82) (width : ℕ) (is-width : width ≡ get_or widths (get_or lines (8 * n + 1) 0) 0) where
    width_is : width ≡ length (line sheet n more).numbers
    width_is = is-width ∙ row_width lines widths p.row n sheet p.reading more e

    pub width_few : width ≤ 6
    width_few = omega (arith, width_is, (held sheet n more).fits.few)

    abbrev line_row : Row
    line_row = record { kind = get_or lines (8 * n + 1) 0; numbers = row_numbers lines n width }

    row_is : line_row ≡ row_of (line sheet n more)
    row_is =
        let h = held sheet n more in
        λ i. record { kind = h.kind i; numbers = (ap (λ (w : ℕ). row_numbers lines n w) width_is ∙ h.fields) i }

    row_few : length (row_numbers lines n width) ≤ 6
    row_few = omega (arith, ap (λ (w : Row). length w.numbers) row_is, (held sheet n more).fits.few)

    pub row_narrow : (k : ℕ) → length (filled k (row_numbers lines n width)) ≤ 6
    row_narrow k = omega (arith, length-filled k (row_numbers lines n width), row_few)

    rows-with : rows_up_to lines (n + 1) ≡ rows_up_to lines n ++ (line_row ∷ [])
    rows-with = rows_row sheet n more e ∙ ap (λ (w : Row). rows_up_to lines n ++ (w ∷ [])) (sym row_is)

    filled_with : filled_rows first (rows_up_to lines (n + 1)) ≡ filled_rows first (rows_up_to lines n) ++ (filled_row next line_row ∷ [])
    filled_with =
        ap (filled_rows first) rows-with ∙ filled_rows_last first (rows_up_to lines n) line_row
        ∙ ap (λ (k : ℕ). filled_rows first (rows_up_to lines n) ++ (filled_row k line_row ∷ [])) (sym p.given)

    pub put-row : {row rows' index' : List ℕ} {count' next' : ℕ} → row ≡ packed (filled_row next line_row) → next' ≡ next + zeros (row_numbers lines n width)
        → Grown rows index by count rows' index' count' (add Row-discrete (unpacked row) (rows_at rows count))
        → Putting lines before index₀ widths rows' index' by first count' next' (n + 1)
    put-row {row} {rows'} {index'} {count'} {next'} is next_is g =
        record {
          row = p.row + 1;
          reading = read;
          grown = all;
          few = few;
          given = omega (
            arith,
            next_is,
            p.given,
            ap (λ (l : List Row). zeros (numbers_in l)) rows-with,
            zeros_last (rows_up_to lines n) line_row,
          );
          few_rows = (row_at lines widths p.row n sheet p.reading more e).low;
          low = omega (arith, next_is, p.low, zeros_few (row_numbers lines n width), row_few);
        }
      where
        read : Reading lines widths (p.row + 1) (n + 1)
        read = read_row lines widths p.row n sheet p.reading more e

        all : Grown before index₀ by 0 rows' index' count' (add_all Row-discrete (filled_rows first (rows_up_to lines (n + 1))) [])
        all =
            grown_again p.grown p.few (filled_row next line_row) is (row_narrow next) g (add_all Row-discrete (filled_rows first (rows_up_to lines (n + 1))) [])
            (ap (λ (l : List Row). add_all Row-discrete l []) filled_with ∙ add_all_last Row-discrete (filled_rows first (rows_up_to lines n)) (filled_row next line_row) [])

        few : count' ≤ 4096
        few =
            go (dec_le count' 4096)
            (omega (
              arith,
              length-add_all Row-discrete (filled_rows first (rows_up_to lines (n + 1))) [],
              length-filled_rows first (rows_up_to lines (n + 1)),
              length-map (row_lines (take (n + 1) (lines_in lines))) row_of,
              read.rows_are,
              (row_at lines widths p.row n sheet p.reading more e).low,
            ))
          where
            go : Dec (count' ≤ 4096) → length (add_all Row-discrete (filled_rows first (rows_up_to lines (n + 1))) []) ≤ 1024 → count' ≤ 4096
            go (yes l) m = l
            go (no l) m = absurd (omega (arith, m, all.over (omega arith)))

-- Line n, taken with its eight numbers.
module _ {lines before index₀ widths rows index line : List ℕ} {by first count next n : ℕ} (sheet : SheetHeld lines)
    (p : Putting lines before index₀ widths rows index by first count next n) (e : Eight lines n line) where
  is_letter : {x : ℕ} → get_or line 0 0 ≡ x → get_or lines (8 * n) 0 ≡ x
  is_letter h = sym (letter_at e) ∙ h

  no_letter : {x : ℕ} → (get_or line 0 0 ≡ x → ⊥) → get_or lines (8 * n) 0 ≡ x → ⊥
  no_letter d h = d (letter_at e ∙ h)

  pub kind_small : get_or line 1 0 ≤ 64
  kind_small = omega (arith, kind_at e, kind_low lines widths p.row n sheet p.reading (line_there e))

  pub kind_put : get_or line 0 0 ≡ 75 → Putting lines before index₀ (set widths (get_or line 1 0) (get_or line 2 0)) rows index by first count next (n + 1)
  kind_put h =
      rw (kind_at e, number_at e 2 (omega arith))
      (put_other sheet p (line_there e) (λ q. omega (arith, is_letter h, q)) (read_kind lines widths p.row n sheet p.reading (line_there e) (is_letter h)))

  pub passed_put : (get_or line 0 0 ≡ 75 → ⊥) → (get_or line 0 0 ≡ 82 → ⊥) → Putting lines before index₀ widths rows index by first count next (n + 1)
  passed_put k r =
      put_other sheet p (line_there e) (no_letter r) (read_other lines widths p.row n sheet p.reading (line_there e) (no_letter k) (no_letter r))

  -- A row, whose kind has this width.
  module _ (r : get_or line 0 0 ≡ 82) (width : ℕ) (is-width : width ≡ get_or widths (get_or line 1 0) 0) where
    width_here : width ≡ get_or widths (get_or lines (8 * n + 1) 0) 0
    width_here = is-width ∙ ap (λ (k : ℕ). get_or widths k 0) (kind_at e)

    pub width_low : width ≤ 6
    width_low = width_few sheet p (line_there e) (is_letter r) width width_here

    fields : take width (drop 2 line) ≡ row_numbers lines n width
    fields = fields_at e width width_low

    pub fields_narrow : (k : ℕ) → length (filled k (take width (drop 2 line))) ≤ 6
    fields_narrow k = omega (arith, ap (λ (ns : List ℕ). length (filled k ns)) fields, row_narrow sheet p (line_there e) (is_letter r) width width_here k)

    pub row_put : {row rows' index' : List ℕ} {count' next' : ℕ} → row ≡ packed (record { kind = get_or line 1 0; numbers = filled next (take width (drop 2 line)) })
        → next' ≡ next + zeros (take width (drop 2 line)) → Grown rows index by count rows' index' count' (add Row-discrete (unpacked row) (rows_at rows count))
        → Putting lines before index₀ widths rows' index' by first count' next' (n + 1)
    row_put is next_is g =
        put-row sheet p (line_there e) (is_letter r) width width_here (is ∙ (λ i. packed (record { kind = kind_at e i; numbers = filled next (fields i) })))
        (next_is ∙ ap (λ (ns : List ℕ). next + zeros ns) fields) g

pub put_all : {lines before index₀ widths rows index : List ℕ} {by first count next n : ℕ} → SheetHeld lines → Clear index₀ 24576
    → Putting lines before index₀ widths rows index by first count next n → length lines ≤ 8 * n
    → RowsIn lines before rows index first (record { rows = count; pairs = 0; next = next; by = by })
put_all {first = first} {next = next} {n = n} sheet clear p h =
    let all = rows_all sheet n h in
    record {
      room = p.grown.room;
      stored = p.grown.stored p.few;
      rows_are = p.grown.rows_are p.few ∙ ap (λ (l : List Row). add_all Row-discrete (filled_rows first l) []) all;
      no_pairs = λ j l. p.grown.beyond j l ∙ clear.zeros j;
      pairs = refl;
      next = p.given ∙ ap (λ (l : List Row). first + zeros (numbers_in l)) all;
      low = omega (arith, p.low, p.few_rows);
    }

-- The first number is the one after the table's largest value.
pub begun_so : {lines before rows index : List ℕ} {c : Counts} {first : ℕ} → first ≡ suc (largest (numbers_in (table_rows (lines_in lines)))) → first ≤ 100000000
    → RowsIn lines before rows index first c → Begun lines before rows index c
begun_so {lines} {before} {rows} {index} {c} is few r =
    record { rows_in = subst (λ (k : ℕ). RowsIn lines before rows index k c) is r; next = omega (arith, r.next, is); low = omega (arith, r.low) }
