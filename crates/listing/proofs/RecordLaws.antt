-- The lent records as lines: they are the rows that are held, and each can be printed; where their bytes go. Assumes nothing.
use mathlib.Core.Path.{◌≡◌, refl, sym, subst, ap, ap₂, ◌∙◌}
use mathlib.Core.Bool.{true}
use mathlib.Core.List.{List, [], ◌∷◌, ◌++◌, map, append_assoc, append-nil}
use Prim.Native.Nat.{ℕ, zero, suc, ◌+◌, ◌-◌, ◌*◌, ◌≤◌, ◌<◌}
use native.Mathlib.Numerals.{add-one}
use native.Mathlib.Omega.{arith}
use lib.ListN.{length, get_or, take, drop, length-append, length-map, length-drop}
use lib.Seq.{take_at, drop-append-le, take-suc, take-length, length-take-le, drop-cons, paste-zero}
use Rattle.patterns.specs.Outcome.{padded}
use Rattle.patterns.proofs.ListLaws.{in_get_or}
use Rattle.columns.specs.Column.{put}
use Rattle.sheet.specs.Line.{R, Line, render, text_of, in_range, lent, lent_of}
use Rattle.sheet.proofs.FormLaws.{take-padded}
use Rattle.sheet.proofs.Lines.{length-lent, length-render}
use Rattle.sheet.proofs.PutLaws.{put_more}
use Rattle.sheet.proofs.Sheets.{length-lent_of}
use Rattle.chase.specs.Lists.{In}
use Rattle.chase.proofs.ListLaws.{map_in}
use Rattle.rules.proofs.SheetLaws.{no_line, line_no, lent_from}
use Rattle.carrying.specs.Carrying.{Row}
use Rattle.carrying.specs.Contract.{row_line}
use Rattle.report.specs.Lines.{line_text}
use Rattle.report.proofs.Theorems.{as_a_sheet's_line}
use Rattle.listing.specs.Inner.Records.{width_of, line_of, record_at, records_to, Printable, AllPrintable, RecordsPut}

abbrev r_line : ℕ → List ℕ → Line
r_line kind numbers = record { letter = R; kind = kind; numbers = numbers }

-- A row as a table of widths has it, with numbers that have columns.
pub record RowFits (widths : List ℕ) (w : Row) : Type 0 where
  pub kind : w.kind ≤ 64
  pub width : get_or widths w.kind 0 ≡ length w.numbers
  pub few : length w.numbers ≤ 6
  pub range : in_range (w.kind ∷ w.numbers) ≡ true

-- Lent records hold these rows, then anything.
module _ (widths : List ℕ) (size : length widths ≡ 65) (rows : List Row) (fit : (w : Row) → In w rows → RowFits widths w) (rest records : List ℕ)
    (held : records ≡ lent_of (map row_line rows) ++ rest) where
  abbrev ls : List Line
  ls = map row_line rows

  held_size : length records ≡ 8 * length rows + length rest
  held_size = omega (arith, ap length held, length-append (lent_of ls) rest, length-lent_of ls, length-map rows row_line)

  module _ (i : ℕ) (h : i < length rows) where
    inside : i < length ls
    inside = omega (arith, h, length-map rows row_line)

    -- The row at place i.
    abbrev at_row : (w : Row) × In w rows × (line_no ls i ≡ row_line w)
    at_row = map_in row_line rows (line_no ls i) (in_get_or ls i no_line inside)

    abbrev w : Row
    w = at_row.0

    f : RowFits widths w
    f = fit w at_row.1

    from : drop (8 * i) records ≡ lent (row_line w) ++ (lent_of (drop (suc i) ls) ++ rest)
    from =
        ap (drop (8 * i)) held
        ∙ drop-append-le (8 * i) (lent_of ls) rest (omega (arith, inside, length-lent_of ls))
        ∙ ap (λ (r : List ℕ). r ++ rest) (lent_from ls i inside ∙ ap (λ (l : Line). lent l ++ lent_of (drop (suc i) ls)) at_row.2)
        ∙ append_assoc (lent (row_line w)) (lent_of (drop (suc i) ls)) rest

    held_at : record_at records i ≡ lent (row_line w)
    held_at = ap (take 8) from ∙ take_at (lent (row_line w)) (lent_of (drop (suc i) ls) ++ rest) 8 (length-lent (row_line w))

    row_is : line_of widths (lent (row_line w)) ≡ row_line w
    unfolding lent
    row_is = ap (r_line w.kind) (ap (λ (n : ℕ). take n (padded 6 w.numbers)) f.width ∙ take-padded 6 w.numbers f.few)

    is_line : line_of widths (record_at records i) ≡ line_no ls i
    is_line = ap (line_of widths) held_at ∙ row_is ∙ sym at_row.2

    lent_printable : Printable widths (lent (row_line w))
    unfolding lent
    lent_printable =
        record {
          size = size;
          long = length-lent (row_line w);
          kind = f.kind;
          narrow = omega (arith, f.width, f.few);
          range = subst (λ (l : Line). in_range (l.kind ∷ l.numbers) ≡ true) (sym row_is) f.range;
        }

    printable : Printable widths (record_at records i)
    printable = subst (Printable widths) (sym held_at) lent_printable

  records_are : (n : ℕ) → n ≤ length rows → records_to widths records n ≡ take n ls
  records_are zero h = refl
  records_are (suc n) h =
      ap₂ (λ (a : List Line) (l : Line). a ++ (l ∷ [])) (records_are n (omega arith)) (is_line n (omega arith))
      ∙ sym (take-suc ls n no_line (inside n (omega arith)))

  pub all_records : records_to widths records (length rows) ≡ map row_line rows
  all_records = records_are (length rows) (omega arith) ∙ ap (λ (n : ℕ). take n ls) (sym (length-map rows row_line)) ∙ take-length ls

  pub all_printable : length rows ≤ 4096 → AllPrintable widths records (length rows)
  all_printable few = record { few = few; inside = omega (arith, held_size); each = λ i h. printable i h }

-- ---- one record

module _ {widths numbers : List ℕ} (p : Printable widths numbers) where
  abbrev line : Line
  line = line_of widths numbers

  numbers_long : length line.numbers ≡ width_of widths numbers
  numbers_long = length-take-le (width_of widths numbers) (drop 2 numbers) (omega (arith, p.long, p.narrow, length-drop 2 numbers))

  -- Its columns are the numbers after its letter, as many as its kind has.
  pub record_columns : (ns : List ℕ) → ns ≡ numbers → (used : ℕ) → used ≡ width_of widths numbers + 2 → take (used - 1) (drop 1 ns) ≡ line.kind ∷ line.numbers
  record_columns ns e used u =
      let one : used - 1 ≡ suc (width_of widths numbers) = omega arith in
      ap₂ (λ (n : ℕ) (r : List ℕ). take n (drop 1 r)) one e ∙ ap (take (suc (width_of widths numbers))) (drop-cons numbers 1 0 (omega (arith, p.long)))

  pub columns_fit : (ns : List ℕ) → ns ≡ line.kind ∷ line.numbers → (in_range ns ≡ true) × (9 * length ns + 2 ≤ 65)
  columns_fit ns e = (ap in_range e ∙ p.range, omega (arith, ap length e, numbers_long, p.narrow))

  pub columns_long : (ns : List ℕ) → ns ≡ line.kind ∷ line.numbers → 9 * length ns + 2 ≡ length (render line)
  columns_long ns e = omega (arith, ap length e, length-render line)

  pub record_put : (ns before : List ℕ) (at : ℕ) → ns ≡ line.kind ∷ line.numbers → put before at (line_text R ns) ≡ put before at (render line)
  record_put ns before at e = ap (λ (x : List ℕ). put before at (line_text R x)) e ∙ ap (put before at) (as_a_sheet's_line line)

-- ---- one record after the other

text_last : (ls : List Line) (l : Line) → text_of (ls ++ (l ∷ [])) ≡ text_of ls ++ render l
text_last [] l = append-nil (render l)
text_last (k ∷ ls) l = ap (λ (r : List ℕ). render k ++ r) (text_last ls l) ∙ sym (append_assoc (render k) (text_of ls) (render l))

-- The first i of so many records are put.
pub record Filling (widths records : List ℕ) (count i : ℕ) (before now : List ℕ) (at : ℕ) : Type 0 where
  pub within : i ≤ count
  pub long : length now ≡ length before
  pub put_so : RecordsPut widths records i before now at

pub filling_begun : (widths records : List ℕ) (count : ℕ) (before : List ℕ) → 20 ≤ length before → Filling widths records count 0 before before 20
filling_begun widths records count before room =
    record { within = omega arith; long = refl; put_so = record { ends = refl; short = omega arith; output = paste-zero before 20 [] } }

pub filling_more : {widths records : List ℕ} {count i : ℕ} {before now : List ℕ} {at : ℕ} → Filling widths records count i before now at
    → AllPrintable widths records count → i < count → 266260 ≤ length before → (size : ℕ) (after : List ℕ) → length after ≡ length now
    → size ≡ length (render (line_of widths (record_at records i))) → size ≤ 65 → after ≡ put now at (render (line_of widths (record_at records i)))
    → Filling widths records count (i + 1) before after (at + size)
filling_more {widths} {records} {count} {i} {before} {now} {at} f all more room size after long is low e =
    let text = text_of (records_to widths records i) in
    let line = render (line_of widths (record_at records i)) in
    let next : text_of (records_to widths records (i + 1)) ≡ text ++ line =
    ap (λ (k : ℕ). text_of (records_to widths records k)) (add-one i) ∙ text_last (records_to widths records i) (line_of widths (record_at records i)) in
    record {
      within = omega arith;
      long = long ∙ f.long;
      put_so =
          record {
            ends = omega (arith, ap length next, length-append text line, f.put_so.ends, is);
            short = omega (arith, f.put_so.short, low);
            output =
                e
                ∙ ap₂ (λ (t : List ℕ) (k : ℕ). put t k line) f.put_so.output f.put_so.ends
                ∙ put_more before 20 text line (omega (arith, f.put_so.ends, f.put_so.short, is, low, all.few))
                ∙ ap (put before 20) (sym next);
          };
    }

pub filling_done : {widths records : List ℕ} {count i : ℕ} {before now : List ℕ} {at : ℕ} → Filling widths records count i before now at → count ≤ i
    → RecordsPut widths records count before now at
filling_done {widths} {records} {count} {i} {before} {now} {at} f all =
    let w = f.within in
    let e : i ≡ count = omega arith in
    subst (λ (k : ℕ). RecordsPut widths records k before now at) e f.put_so
