-- The laws of reading a line: what the columns that were read say of it. Assumes nothing.
use mathlib.Core.Path.{◌≡◌, refl, sym, ap, subst, ◌∙◌}
use mathlib.Core.Bool.{true, and-false}
use mathlib.Core.List.{List, [], ◌∷◌, ◌++◌}
use mathlib.Core.Option.{Option, none, some}
use Prim.Native.Nat.{ℕ, zero, suc, ◌+◌, ◌-◌, ◌*◌, ◌≤◌, ◌<◌}
use native.Mathlib.Numerals.{add-one}
use native.Mathlib.Omega.{arith}
use Rattle.std.proofs.Common.{Some, None}
use lib.ListN.{length, get_or, take, drop, set, length-append}
use lib.Seq.{drop-drop}
use borrow.Author.Tests.{eq-eqb, ne_eqb}
use Rattle.patterns.proofs.ListLaws.{length-padded}
use Rattle.patterns.specs.Outcome.{padded}
use Rattle.columns.specs.Column.{number_in}
use Rattle.sheet.specs.Line.{form_of, form_says, known, joined, numbers_in, line_with, column_count, line_in, lent}
use Rattle.sheet.specs.Inner.Promises.{ParsedAs}
use Rattle.sheet.specs.declared.Form.{Form}
use Rattle.sheet.proofs.FormLaws.{known_columns}
use Rattle.sheet.proofs.Lines.{joined_is}

joined-none : (x : Option ℕ) → joined x none ≡ none
joined-none none = refl
joined-none (some n) = refl

next_column : (c : ℕ) (bytes : List ℕ) → drop (9 * c) (drop 9 bytes) ≡ drop (9 * suc c) bytes
next_column c bytes =
    let sum : 9 + 9 * c ≡ 9 * suc c = omega arith in
    drop-drop (9 * c) 9 bytes ∙ ap (λ (k : ℕ). drop k bytes) sum

-- One column more.
pub numbers_in_more : (c : ℕ) (bytes ns : List ℕ) (n : ℕ) → numbers_in c bytes ≡ some ns → number_in (take 9 (drop (9 * c) bytes)) ≡ some n
    → numbers_in (suc c) bytes ≡ some (ns ++ (n ∷ []))
numbers_in_more zero bytes ns n e h = rw h (cc)
numbers_in_more (suc c) bytes ns n e h =
    let (first, others, first_is, others-are, all) = joined_is (number_in (take 9 bytes)) (numbers_in c (drop 9 bytes)) ns e in
    let more = numbers_in_more c (drop 9 bytes) others n others-are (rw next_column h) in
    rw (first_is, more) (ap (λ (l : List ℕ). some (l ++ (n ∷ []))) (sym all))

-- A column that is no number's.
pub numbers_in-none : (c k : ℕ) (bytes : List ℕ) → k < c → number_in (take 9 (drop (9 * k) bytes)) ≡ none → numbers_in c bytes ≡ none
numbers_in-none zero k bytes h e = absurd (omega arith)
numbers_in-none (suc c) zero bytes h e = rw e
numbers_in-none (suc c) (suc k) bytes h e =
    rw (numbers_in-none c k (drop 9 bytes) (omega arith) (rw next_column e)) (joined-none (number_in (take 9 bytes)))

pub padded_more : (w : ℕ) (ns : List ℕ) (n : ℕ) → length ns < w → set (padded w ns) (length ns) n ≡ padded w (ns ++ (n ∷ []))
padded_more zero ns n h = absurd (omega arith)
padded_more (suc w) [] n h = refl
padded_more (suc w) (m ∷ ns) n h = ap (λ (l : List ℕ). m ∷ l) (padded_more w ns n (omega arith))

-- What is known of a line before its columns are read.
pub record Whole (line : List ℕ) (columns letter : ℕ) (form : Form) : Type 0 where
  pub count : columns ≡ column_count (length line)
  pub size : length line ≡ 9 * columns + 2
  pub end : get_or line (length line - 1) 0 ≡ 10
  pub letter_is : letter ≡ get_or line 0 0
  pub form_is : Some form ≡ form_of letter columns

pub whole_columns : (line : List ℕ) (columns letter : ℕ) (form : Form) → Whole line columns letter form → (2 ≤ columns) × (columns ≤ 7)
whole_columns line columns letter form w = known_columns letter columns (ap known (sym w.form_is))

-- What the first c columns say, as lent numbers.
pub record Filled (line : List ℕ) (letter : ℕ) (numbers : List ℕ) (c : ℕ) : Type 0 where
  pub read : List ℕ
  pub read_is : numbers_in c (drop 1 line) ≡ some read
  pub count : length read ≡ c
  pub numbers_are : numbers ≡ letter ∷ padded 7 read

pub filled_size : {line numbers : List ℕ} {letter c : ℕ} → Filled line letter numbers c → length numbers ≡ 8
filled_size f = ap length f.numbers_are ∙ ap suc (length-padded 7 f.read)

column_at : (line : List ℕ) (c : ℕ) → drop (9 * c) (drop 1 line) ≡ drop (9 * c + 1) line
column_at line c =
    let sum : 1 + 9 * c ≡ 9 * c + 1 = omega arith in
    drop-drop (9 * c) 1 line ∙ ap (λ (k : ℕ). drop k line) sum

pub one_more_filled : (line : List ℕ) (letter : ℕ) (numbers : List ℕ) (c n : ℕ) → Filled line letter numbers c → c < 7
    → number_in (take 9 (drop (9 * c + 1) line)) ≡ some n → Filled line letter (set numbers (c + 1) n) (c + 1)
one_more_filled line letter numbers c n f h e =
    let size = f.count in
    record {
      read = f.read ++ (n ∷ []);
      read_is = rw add-one (numbers_in_more c (drop 1 line) f.read n f.read_is (rw column_at e));
      count = length-append f.read (n ∷ []) ∙ omega arith;
      numbers_are =
          rw (f.numbers_are, add-one)
          (ap (λ (l : List ℕ). letter ∷ l) (rw size at (padded_more 7 f.read n (omega arith))));
    }

-- Where a line is none.
pub size_wrong : (line : List ℕ) → (length line ≡ 9 * column_count (length line) + 2 → ⊥) → line_in line ≡ none
unfolding line_in
size_wrong line h = simp (ne_eqb _ _ h)

pub end_wrong : (line : List ℕ) → (get_or line (length line - 1) 0 ≡ 10 → ⊥) → line_in line ≡ none
unfolding line_in
end_wrong line h = simp (ne_eqb _ _ h, and-false)

pub form_wrong : (line : List ℕ) → form_of (get_or line 0 0) (column_count (length line)) ≡ None → line_in line ≡ none
unfolding line_in
form_wrong line h = simp (h, and-false)

whole_line : (line : List ℕ) (columns letter : ℕ) (form : Form) → Whole line columns letter form
    → line_in line ≡ line_with letter (numbers_in columns (drop 1 line))
unfolding line_in
whole_line line columns letter form w =
    let form_known : known (form_of (get_or line 0 0) (column_count (length line))) ≡ true = rw (← w.letter_is, ← w.count, ← w.form_is) in
    let size : length line ≡ 9 * column_count (length line) + 2 = cc (w.size, w.count) in
    rw (eq-eqb (length line) (9 * column_count (length line) + 2) size, eq-eqb (get_or line (length line - 1) 0) 10 w.end, form_known, ← w.count, ← w.letter_is)

pub column_wrong : (line : List ℕ) (columns letter c : ℕ) (form : Form) → Whole line columns letter form → c < columns
    → number_in (take 9 (drop (9 * c + 1) line)) ≡ none → line_in line ≡ none
column_wrong line columns letter c form w h e =
    whole_line line columns letter form w
    ∙ rw (numbers_in-none columns c (drop 1 line) h (rw column_at e))

pub parsed_none : (line numbers : List ℕ) → line_in line ≡ none → ParsedAs (line_in line) None numbers
parsed_none line numbers e = rw e

parsed_read : (line : List ℕ) (columns letter : ℕ) (form : Form) (numbers read : List ℕ) → 1 ≤ columns → length read ≡ columns → Some form ≡ form_of letter columns
    → line_in line ≡ line_with letter (some read) → numbers ≡ letter ∷ padded 7 read → ParsedAs (line_in line) (Some form) numbers
unfolding lent
parsed_read line columns letter form numbers [] low count form_is line_is numbers_are = absurd (omega arith)
parsed_read line columns letter form numbers (n ∷ ns) low count form_is line_is numbers_are =
    rw line_is (ap form_says (form_is ∙ ap (form_of letter) (sym count)), numbers_are)

pub parsed_whole : (line : List ℕ) (columns letter c : ℕ) (form : Form) (numbers : List ℕ) → Whole line columns letter form → columns ≤ c → c ≤ columns
    → Filled line letter numbers c → ParsedAs (line_in line) (Some form) numbers
parsed_whole line columns letter c form numbers w high low f =
    let all : c ≡ columns = omega arith in
    parsed_read line columns letter form numbers f.read
    (omega (arith, whole_columns line columns letter form w))
    (f.count ∙ all)
    w.form_is
    (whole_line line columns letter form w ∙ ap (line_with letter) (subst (λ (k : ℕ). numbers_in k (drop 1 line) ≡ some f.read) all f.read_is))
    f.numbers_are
