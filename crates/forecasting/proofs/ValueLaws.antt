-- Different values: looked for, added, and counted row by row. Assumes nothing.
use mathlib.Core.Path.{◌≡◌, refl, sym, ◌∙◌, ap}
use mathlib.Core.Logic.{inl, inr}
use mathlib.Core.Bool.{true, false, cond}
use mathlib.Core.List.{List, [], ◌∷◌, ◌++◌, append-nil, append_assoc}
use Prim.Native.Nat.{ℕ, zero, suc, ◌+◌, ◌*◌, ◌-◌, ◌/◌, ◌%◌, ◌≤◌, ◌<◌}
use native.Mathlib.Decide.{ℕ_discrete}
use native.Mathlib.Omega.{arith}
use borrow.Author.Tests.{eq-eqb, ne_eqb}
use lib.ListN.{length, get_or, set, take, drop, length-set, drop_of_length-le}
use lib.Seq.{get_or-set_same, get_or-set_other, take_all}
use Rattle.std.specs.Prelude.{◌==◌, count_by}
use Rattle.std.proofs.lemmas.List.{take_more, take_more_set, length-take-le}
use Rattle.std.proofs.lemmas.List.Recursion.{is_count_by}
use Rattle.std.proofs.lemmas.List.Sums.{count_by-le-length}
use Rattle.sheet.specs.Line.{R, Line}
use Rattle.patterns.specs.Lists.{In}
use Rattle.patterns.specs.Pattern.{pick, add, add_all}
use Rattle.patterns.proofs.PatternLaws.{length-add_all}
use Rattle.chase.specs.Rules.{row_lines}
use Rattle.rules.specs.Table.{SheetHeld, lines_in}
use Rattle.rules.specs.Inner.Bytes.{Clear}
use Rattle.rules.specs.Inner.Rows.{row_numbers}
use Rattle.rules.proofs.SheetLaws.{line_no, LentLine, lent_line, held_lines, size_held, rows_few, rows_where}
use Rattle.rules.proofs.PartLaws.{zeros}
use Rattle.rules.proofs.RowLaws.{Reading, reading_begun, kind_low, row_width, row_at, read_row, read_kind, read_other}
use Rattle.chains.specs.Inner.Chains.{FoundAt}
use Rattle.chains.proofs.ChainLaws.{Searching, search_begin, search_place, search_next, search_less, found_here, found_nowhere, chains_push, chains_alike}
use Rattle.growth.specs.Forecast.{first_t}
use Rattle.carrying.specs.Carrying.{zeros as zeros_in}
use Rattle.carrying.proofs.FilledLaws.{zeros-append}
use Rattle.sheet.proofs.LentLines.{Eight}
use Rattle.growth.proofs.LineLaws.{line_there, number_at, kind_at, letter_at, fields_at}
use Rattle.growth.proofs.LoopLaws.{different, add_all-append, numbers_of, first_by_numbers}
use Rattle.forecasting.specs.Inner.Values.{bucket_of, bucket_at, IsAt, Stored, ValuesAre}

pub bucket_is : (by x : ℕ) → x * by % 4294967296 / 1048576 ≡ bucket_of by x
unfolding bucket_of
bucket_is by x = refl

-- ---- a value looked for

-- `at` is the next place to look at.
abbrev pub Seeks : ℕ → List ℕ → ℕ → ℕ → ℕ → ℕ → Type 0
Seeks by values count x b at = Searching (bucket_at by values) b (IsAt values x) count at

-- The laws of the chains, at the values.
module _ {by : ℕ} {values heads next : List ℕ} {count : ℕ} (s : Stored by values heads next count) (x b : ℕ) (own : b ≡ bucket_of by x) where
  falls : (j : ℕ) → IsAt values x j → bucket_at by values j ≡ b
  falls j e = ap (bucket_of by) e ∙ sym own

  pub seek_begin : (at : ℕ) → b < 4096 → at ≡ get_or heads b 0 → Seeks by values count x b at
  seek_begin at fits e = search_begin (bucket_at by values) b (IsAt values x) s.chain at fits e

  module _ (at : ℕ) (k : Seeks by values count x b at) where
    pub seek_place : 0 < at → at - 1 < count
    seek_place h = search_place (bucket_at by values) b (IsAt values x) s.chain falls at k h

    pub seek_here : 0 < at → IsAt values x (at - 1) → FoundAt (IsAt values x) count (at - 1)
    seek_here h e = found_here (bucket_at by values) b (IsAt values x) s.chain falls at k h e

    pub seek_nowhere : at ≡ 0 → FoundAt (IsAt values x) count count
    seek_nowhere e = found_nowhere (bucket_at by values) b (IsAt values x) s.chain falls at k e

    module _ (h : 0 < at) (after : ℕ) (e : after ≡ get_or next (at - 1) 0) where
      pub seek_less : after < at
      seek_less = search_less (bucket_at by values) b (IsAt values x) s.chain falls at k h after e

      pub seek_next : (IsAt values x (at - 1) → ⊥) → Seeks by values count x b after
      seek_next other = search_next (bucket_at by values) b (IsAt values x) s.chain falls at k h other after e

-- ---- values added

-- Nothing is held yet.
pub stored_none : {by : ℕ} {values heads next : List ℕ} → by < 2147483648 → length values ≡ 6144 → Clear heads 4096 → length next ≡ 6144 → Stored by values heads next 0
stored_none mixing room clear size =
    record {
      room = room;
      mixing = mixing;
      chain = record {
        small = omega arith;
        heads_room = clear.size;
        next_room = size;
        heads_are = λ b h. clear.zeros b;
        next_are = λ i h. absurd (omega arith);
      };
    }

-- What is nowhere is put at the end.
add_last : (x : ℕ) (l : List ℕ) → (In x l → ⊥) → add ℕ_discrete x l ≡ l ++ (x ∷ [])
add_last x [] h = refl
add_last x (y ∷ l) h = go (ℕ_discrete x y) (add_last x l (λ i. h (inr i)))
  where
    go : (p : Dec (x ≡ y)) → add ℕ_discrete x l ≡ l ++ (x ∷ []) → pick p (y ∷ l) (y ∷ add ℕ_discrete x l) ≡ y ∷ (l ++ (x ∷ []))
    go (yes p) later = absurd (h (inl p))
    go (no k) later = ap (λ (m : List ℕ). y ∷ m) later

-- A value at a place is among those held, and one among them is at a place.
pub at_place : (values : List ℕ) (count x i : ℕ) → i < count → count ≤ length values → IsAt values x i → In x (take count values)
at_place [] count x i h room e = absurd (omega arith)
at_place (v ∷ values) zero x i h room e = absurd (omega arith)
at_place (v ∷ values) (suc count) x zero h room e = inl (sym e)
at_place (v ∷ values) (suc count) x (suc i) h room e = inr (at_place values count x i (omega arith) (omega arith) e)

pub some_place : (values : List ℕ) (count x : ℕ) → In x (take count values) → (i : ℕ) × (i < count) × IsAt values x i
some_place values zero x m = absurd m
some_place [] (suc count) x m = absurd m
some_place (v ∷ values) (suc count) x (inl e) = (0, omega arith, sym e)
some_place (v ∷ values) (suc count) x (inr m) = let (i, h, e) = some_place values count x m in (suc i, omega arith, e)

module _ {by : ℕ} {values heads next : List ℕ} {count : ℕ} (s : Stored by values heads next count) where
  pub size_of : length (take count values) ≡ count
  size_of = length-take-le count values (omega (arith, s.room, s.chain.small))

  module _ (x : ℕ) where
    pub found : (at : ℕ) → FoundAt (IsAt values x) count at → at < count → In x (take count values)
    found at f h = at_place values count x at h (omega (arith, s.room, s.chain.small)) (f.there h)

    pub found_none : FoundAt (IsAt values x) count count → In x (take count values) → ⊥
    found_none f m = let (i, h, e) = some_place values count x m in f.nowhere refl i h e

    -- One value more.
    module _ (free : count < 6144) (b : ℕ) (own : b ≡ bucket_of by x) (fits : b < 4096) where
      abbrev put : List ℕ
      put = set values count x

      old : (i : ℕ) → i < count → get_or put i 0 ≡ get_or values i 0
      old i h = get_or-set_other values count i x 0 (λ e. omega arith)

      new : get_or put count 0 ≡ x
      new = get_or-set_same values count x 0 (omega (arith, s.room))

      pub stored_new : Stored by put (set heads b (count + 1)) (set next count (get_or heads b 0)) (count + 1)
      stored_new =
          record {
            room = length-set values count x ∙ s.room;
            mixing = s.mixing;
            chain = chains_push (bucket_at by put) heads next count b
                (chains_alike (bucket_at by values) (bucket_at by put) heads next count (λ j h. ap (bucket_of by) (sym (old j h))) s.chain) free
                (own ∙ ap (bucket_of by) (sym new)) fits;
          }

      pub added_new : (In x (take count values) → ⊥) → take (count + 1) put ≡ add ℕ_discrete x (take count values)
      added_new none = take_more_set values count x (omega (arith, s.room)) ∙ sym (add_last x (take count values) none)

-- One value of a row more.
pub add_all_more : (row : List ℕ) (k : ℕ) (l : List ℕ) → k < length row
    → add_all ℕ_discrete (take (k + 1) row) l ≡ add ℕ_discrete (get_or row k 0) (add_all ℕ_discrete (take k row) l)
add_all_more row k l h = ap (λ (xs : List ℕ). add_all ℕ_discrete xs l) (take_more row k 0 h) ∙ add_all-append ℕ_discrete (take k row) (get_or row k 0 ∷ []) l

-- ---- the zeros of a row

pub zeros_counted : (xs : List ℕ) → zeros_in xs ≡ count_by (λ x. x == 0) xs
zeros_counted xs = is_count_by zeros_in (λ x. x == 0) refl first xs
  where
    first : (x : ℕ) (xs : List ℕ) → zeros_in (x ∷ xs) ≡ cond (x == 0) (1 + zeros_in xs) (zeros_in xs)
    first zero xs = omega arith
    first (suc x) xs = grind arith

pub zeros_few : (xs : List ℕ) → zeros_in xs ≤ length xs
zeros_few xs = omega (arith, zeros_counted xs, count_by-le-length (λ x. x == 0) xs)

-- ---- the rows

-- The part of a line that has the values of a row, whose kind has this width.
abbrev pub row_part : List ℕ → ℕ → List ℕ
row_part numbers width = take (2 + width - 2) (drop 2 numbers)

-- The values of the rows among the first n lines are added.
pub record Counting (lines widths held : List ℕ) (zeroes n : ℕ) : Type 0 where
  pub row : ℕ
  pub reading : Reading lines widths row n
  pub few : length held ≤ 6 * row
  pub few_zeros : zeroes ≤ 6 * row
  pub past : List ℕ
  pub are : held ≡ add_all ℕ_discrete past []
  pub zeros_are : zeroes ≡ zeros_in past
  pub rest : past ++ numbers_of (row_lines (drop n (lines_in lines))) ≡ numbers_of (row_lines (lines_in lines))

pub count_none : (lines : List ℕ) {held : List ℕ} → held ≡ [] → Counting lines (zeros 65) held 0 0
count_none lines e =
    record { row = 0; reading = reading_begun lines; few = omega (arith, ap length e); few_zeros = omega arith; past = []; are = e; zeros_are = refl; rest = refl }

module _ {lines widths held : List ℕ} {zeroes n : ℕ} {numbers : List ℕ} (sheet : SheetHeld lines) (c : Counting lines widths held zeroes n)
    (e : Eight lines n numbers) where
  abbrev line : Line
  line = line_no (lines_in lines) n

  here : LentLine lines n
  here = lent_line sheet n (line_there e)

  is_letter : {v : ℕ} → get_or numbers 0 0 ≡ v → get_or lines (8 * n) 0 ≡ v
  is_letter h = sym (letter_at e) ∙ h

  no_letter : {v : ℕ} → (get_or numbers 0 0 ≡ v → ⊥) → get_or lines (8 * n) 0 ≡ v → ⊥
  no_letter d h = d (letter_at e ∙ h)

  pub kind_small : get_or numbers 1 0 < 65
  kind_small = omega (arith, kind_at e, kind_low lines widths c.row n sheet c.reading (line_there e))

  -- A line that is no row.
  pub count_other : {widths' : List ℕ} → (get_or lines (8 * n) 0 ≡ 82 → ⊥) → Reading lines widths' c.row (n + 1) → Counting lines widths' held zeroes (n + 1)
  count_other d r =
      record {
        row = c.row;
        reading = r;
        few = c.few;
        few_zeros = c.few_zeros;
        past = c.past;
        are = c.are;
        zeros_are = c.zeros_are;
        rest =
            ap (λ (ls : List Line). c.past ++ numbers_of ls)
            (sym (rows_where (lines_in lines) n here.inside false (ne_eqb line.letter R (λ q. d (here.letter ∙ q))))) ∙ c.rest;
      }

  pub count_kind : get_or numbers 0 0 ≡ 75 → Counting lines (set widths (get_or numbers 1 0) (get_or numbers 2 0)) held zeroes (n + 1)
  count_kind h =
      rw (kind_at e, number_at e 2 (omega arith))
      (count_other (λ q. omega (arith, is_letter h, q)) (read_kind lines widths c.row n sheet c.reading (line_there e) (is_letter h)))

  pub count_passed : (get_or numbers 0 0 ≡ 75 → ⊥) → (get_or numbers 0 0 ≡ 82 → ⊥) → Counting lines widths held zeroes (n + 1)
  count_passed k r = count_other (no_letter r) (read_other lines widths c.row n sheet c.reading (line_there e) (no_letter k) (no_letter r))

  -- A row.
  module _ (r : get_or numbers 0 0 ≡ 82) where
    abbrev width : ℕ
    width = get_or widths (get_or numbers 1 0) 0

    width_is : width ≡ length line.numbers
    width_is = ap (λ (k : ℕ). get_or widths k 0) (kind_at e) ∙ row_width lines widths c.row n sheet c.reading (line_there e) (is_letter r)

    pub width_few : width ≤ 6
    width_few = omega (arith, width_is, here.fits.few)

    numbers_are : row_part numbers width ≡ line.numbers
    numbers_are =
        let all : 2 + width - 2 ≡ width = omega arith in
        ap (λ (w : ℕ). take w (drop 2 numbers)) all ∙ fields_at e width width_few ∙ ap (λ (w : ℕ). row_numbers lines n w) width_is ∙ here.fields

    pub row_low : c.row + 1 ≤ 1024
    row_low = (row_at lines widths c.row n sheet c.reading (line_there e) (is_letter r)).low

    -- There is room for its values.
    pub row_room : length held + length (row_part numbers width) ≤ 6144
    row_room = omega (arith, ap length numbers_are, here.fits.few, c.few, row_low)

    pub zeros_room : {zeroes' : ℕ} → zeroes' ≡ zeros_in (row_part numbers width) → zeroes + zeroes' ≤ 6144
    zeros_room is = omega (arith, is, zeros_few (row_part numbers width), ap length numbers_are, here.fits.few, c.few_zeros, row_low)

    pub count_row : {held' : List ℕ} {zeroes' : ℕ} → held' ≡ add_all ℕ_discrete (row_part numbers width) held → zeroes' ≡ zeros_in (row_part numbers width)
        → Counting lines widths held' (zeroes + zeroes') (n + 1)
    count_row {held'} {zeroes'} added is =
        record {
          row = c.row + 1;
          reading = read_row lines widths c.row n sheet c.reading (line_there e) (is_letter r);
          few = omega (arith, ap length added, length-add_all ℕ_discrete (row_part numbers width) held, c.few, ap length numbers_are, here.fits.few);
          few_zeros = omega (arith, is, zeros_few (row_part numbers width), c.few_zeros, ap length numbers_are, here.fits.few);
          past = c.past ++ line.numbers;
          zeros_are = omega (arith, c.zeros_are, is, ap zeros_in numbers_are, zeros-append c.past line.numbers);
          are =
              added ∙ ap (λ (xs : List ℕ). add_all ℕ_discrete xs held) numbers_are
              ∙ ap (λ (l : List ℕ). add_all ℕ_discrete line.numbers l) c.are
              ∙ sym (add_all-append ℕ_discrete c.past line.numbers []);
          rest =
              append_assoc c.past line.numbers (numbers_of (row_lines (drop (n + 1) (lines_in lines))))
              ∙ ap (λ (ls : List Line). c.past ++ numbers_of ls)
              (sym (rows_where (lines_in lines) n here.inside true (eq-eqb line.letter R (sym here.letter ∙ is_letter r)))) ∙ c.rest;
        }

-- All lines are read.
pub count_all : {lines widths held : List ℕ} {zeroes n : ℕ} → SheetHeld lines → Counting lines widths held zeroes n → length lines ≤ 8 * n
    → ValuesAre lines (length held) zeroes
count_all {lines} {n = n} sheet c over =
    record {
      different_are = ap length c.are ∙ ap (different ℕ_discrete) all;
      zeros_are = c.zeros_are ∙ ap zeros_in all;
      few = omega (arith, c.few, rows);
      few_zeros = omega (arith, c.few_zeros, rows);
    }
  where
    whole : length (lines_in lines) ≤ n
    whole = omega (arith, size_held sheet)

    rows : c.row ≤ 1024
    rows = omega (arith, rows_few (lines_in lines) (held_lines sheet).1, ap (λ (ls : List Line). length (row_lines ls)) (take_all n (lines_in lines) whole), c.reading.rows_are)

    all : c.past ≡ numbers_of (row_lines (lines_in lines))
    all =
        sym (append-nil c.past)
        ∙ ap (λ (ls : List Line). c.past ++ numbers_of (row_lines ls)) (sym (drop_of_length-le (lines_in lines) whole)) ∙ c.rest

-- The first t, without a 0 and with some.
module _ {lines : List ℕ} {count zeroes : ℕ} (v : ValuesAre lines count zeroes) where
  pub without_zeros : zeroes ≡ 0 → (count ≡ first_t (lines_in lines)) × (count ≤ 12288)
  without_zeros e = (omega (arith, first_by_numbers (lines_in lines), v.different_are, v.zeros_are, e), omega (arith, v.few))

  pub with_zeros : (zeroes ≡ 0 → ⊥) → (count + zeroes - 1 ≡ first_t (lines_in lines)) × (count + zeroes - 1 ≤ 12288)
  with_zeros h = (omega (arith, first_by_numbers (lines_in lines), v.different_are, v.zeros_are, h), omega (arith, v.few, v.few_zeros))
