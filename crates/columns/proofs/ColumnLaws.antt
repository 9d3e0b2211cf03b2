-- The laws of columns: a column has nine bytes, a number's column is read as the number, and nothing else is read as it. Assumes nothing.
use mathlib.Core.Path.{◌≡◌, refl, sym, ap, ◌∙◌}
use mathlib.Core.Bool.{Bool, true, false, cond, ◌&&◌, and-eq-true_iff, false≢true}
use mathlib.Core.List.{List, [], ◌∷◌, ◌++◌, append_assoc}
use mathlib.Core.Option.{Option, none, some}
use Prim.Native.Nat.{ℕ, zero, suc, ◌+◌, ◌-◌, ◌*◌, ◌/◌, ◌%◌, ◌^◌, ◌≤◌, ◌<◌}
use native.Mathlib.Nat.{add-sub_cancel_left, div-add-mod, pow-suc}
use native.Mathlib.Numerals.{add-one}
use native.Mathlib.Omega.{arith}
use lib.Dec.{eqb, leb}
use lib.ListN.{length, get_or, set, replicate, drop, length-append, length-set, drop_of_length-le}
use Rattle.std.proofs.lemmas.List.{drop-set}
use lib.Seq.{take_all, paste, paste-zero, paste-suc}
use borrow.Author.Tests.{le-leb, lt-leb, eq-eqb, eqb-true, leb-true}
use Rattle.patterns.specs.Outcome.{good, refused}
use Rattle.columns.specs.Column.{largest_number, place_byte, places, justified, column, column_for, put, column_put, decimal, same, number_in, in_form}

pub length-places : (w n : ℕ) → length (places w n) ≡ w
length-places zero n = refl
length-places (suc w) n = simp (length-append, length-places w) (omega arith)

pub length-column : (n : ℕ) → length (column n) ≡ 9
unfolding column
length-column n = refl

decimal-append : (m : ℕ) (xs ys : List ℕ) → decimal m (xs ++ ys) ≡ decimal (decimal m xs) ys
decimal-append m [] ys = refl
decimal-append m (x ∷ xs) ys = decimal-append (10 * m + (x - 48)) xs ys

place_byte_shows_digit : (n : ℕ) → place_byte n - 48 ≡ n % 10
place_byte_shows_digit zero = refl
place_byte_shows_digit (suc n) = add-sub_cancel_left 48 (suc n % 10)

-- The bytes of a number's places show the number.
pub decimal-places : (w n : ℕ) → n < 10 ^ w → decimal 0 (places w n) ≡ n
decimal-places zero n h = omega arith
decimal-places (suc w) n h =
    let small : n / 10 < 10 ^ w = omega (arith, pow-suc 10 w) in
    decimal-append 0 (places w (n / 10)) (place_byte n ∷ [])
    ∙ rw (decimal-places w (n / 10) small, place_byte_shows_digit) (div-add-mod n 10)

decimal-column : (n : ℕ) → n ≤ largest_number → decimal 0 (column n) ≡ n
unfolding column
decimal-column n h =
    let small : n / 10 < 10 ^ 8 = omega arith in
    decimal-append 0 (places 8 (n / 10)) ((48 + (n % 10)) ∷ [])
    ∙ rw (decimal-places 8 (n / 10) small, add-sub_cancel_left) (div-add-mod n 10)

-- A list is the same as itself alone.
pub same_refl : (xs : List ℕ) → same xs xs ≡ true
same_refl [] = refl
same_refl (x ∷ xs) = rw (eq-eqb x x refl) (same_refl xs)

pub same_true : (xs ys : List ℕ) → same xs ys ≡ true → xs ≡ ys
same_true [] [] e = refl
same_true [] (y ∷ ys) e = cc
same_true (x ∷ xs) [] e = cc
same_true (x ∷ xs) (y ∷ ys) e =
    let both = (and-eq-true_iff (eqb x y) (same xs ys)).0 e in
    let head = eqb-true x y both.0 in
    let tail = same_true xs ys both.1 in
    cc

pub number_in-column : (n : ℕ) → n ≤ largest_number → number_in (column n) ≡ some n
unfolding number_in
number_in-column n h = rw (decimal-column n h) (rw (le-leb n largest_number h) (rw (same_refl (column n))))

chosen : (a b : Bool) (m n : ℕ) → cond (a && b) (some m) none ≡ some n → (a ≡ true) × (b ≡ true) × (m ≡ n)
chosen true true m n e = (refl, refl, cc)
chosen true false m n e = (refl, cc, cc)
chosen false b m n e = (cc, cc, cc)

pub number_in_is : (bytes : List ℕ) (n : ℕ) → number_in bytes ≡ some n → (bytes ≡ column n) × (n ≤ largest_number)
unfolding number_in
number_in_is bytes n e =
    let all = chosen (leb (decimal 0 bytes) largest_number) (same (column (decimal 0 bytes)) bytes) (decimal 0 bytes) n e in
    let is = same_true (column (decimal 0 bytes)) bytes all.1 in
    let shown = all.2 in
    let fits = leb-true (decimal 0 bytes) largest_number all.0 in
    (cc, omega arith)

none_or_some : (x : Option ℕ) → ((n : ℕ) → x ≡ some n → ⊥) → x ≡ none
none_or_some none h = refl
none_or_some (some n) h = absurd (h n refl)

pub number_in-none : (bytes : List ℕ) → ((n : ℕ) → n ≤ largest_number → bytes ≡ column n → ⊥) → number_in bytes ≡ none
number_in-none bytes h = none_or_some (number_in bytes) (λ n e. let is = number_in_is bytes n e in h n is.1 is.0)

pub place_byte_nonzero : (n : ℕ) → (n ≡ 0 → ⊥) → 48 + n % 10 ≡ place_byte n
place_byte_nonzero zero h = absurd (h refl)
place_byte_nonzero (suc n) h = refl

-- What was read, from what is said of it.
pub in_form-some : {A : Type 0} (o : Option A) (a : A) → in_form o ≡ good a → o ≡ some a
in_form-some none a e = absurd (false≢true cc)
in_form-some (some b) a e = cc

pub in_form-none : {A : Type 0} (o : Option A) → in_form o ≡ refused 2 0 → o ≡ none
in_form-none none e = refl
in_form-none (some a) e = absurd (false≢true cc)

pub column_for-fits : (n : ℕ) → n ≤ largest_number → column_for n ≡ column n
column_for-fits n h = rw (le-leb n largest_number h)

pub length-column_for : (n : ℕ) → length (column_for n) ≡ 9
length-column_for n = by_size (leb n largest_number)
  where
    by_size : (t : Bool) → length (cond t (column n) (replicate 9 32)) ≡ 9
    by_size true = length-column n
    by_size false = refl

-- Nine blanks are no number's column.
blanks_read : number_in (replicate 9 32) ≡ none
unfolding number_in column
blanks_read = refl

-- What `column` answers is read as the number; for a number over the largest there is nothing to read.
pub column_for_read : (n : ℕ) → in_form (number_in (column_for n)) ≡ cond (leb n largest_number) (good n) (refused 2 0)
column_for_read n = by_size (leb n largest_number) refl
  where
    by_size : (t : Bool) → leb n largest_number ≡ t → in_form (number_in (cond t (column n) (replicate 9 32))) ≡ cond t (good n) (refused 2 0)
    by_size true e = ap in_form (number_in-column n (leb-true n largest_number e))
    by_size false e = ap in_form blanks_read

-- ---- a number right-justified

-- Right-justifying n: the places before `at` are to show `rest`; those from it on show the other digits.
pub record Justifying (w n at rest : ℕ) (bytes : List ℕ) : Type 0 where
  pub upto : at < w
  pub size : length bytes ≡ w
  pub shown : places at rest ++ drop at bytes ≡ justified w n

pub length-justified : (w n : ℕ) → length (justified w n) ≡ w
length-justified zero n = refl
length-justified (suc w) n = simp (length-append, length-places w) (omega arith)

pub justifying_begun : (w n : ℕ) (bytes : List ℕ) → 1 ≤ w → length bytes ≡ w → Justifying w n (w - 1) (n / 10) (set bytes (w - 1) (48 + n % 10))
justifying_begun w n bytes h long =
    let least : suc (w - 1) ≡ w = omega arith in
    let last : drop (w - 1 + 1) bytes ≡ [] = drop_of_length-le bytes {i = w - 1 + 1} (omega arith) in
    record {
      upto = omega arith;
      size = length-set bytes (w - 1) (48 + n % 10) ∙ long;
      shown =
          ap (λ (l : List ℕ). places (w - 1) (n / 10) ++ l) (drop-set bytes (w - 1) (48 + n % 10) (omega arith) ∙ ap (λ (l : List ℕ). (48 + n % 10) ∷ l) last)
          ∙ ap (λ (v : ℕ). justified v n) least;
    }

pub justifying_more : {w n at rest : ℕ} {bytes : List ℕ} → Justifying w n at rest bytes → 0 < at
    → Justifying w n (at - 1) (rest / 10) (set bytes (at - 1) (place_byte rest))
justifying_more {w} {n} {at} {rest} {bytes} j h =
    let here : at - 1 < length bytes = omega (arith, j.size, j.upto) in
    let least : at ≡ suc (at - 1) = omega arith in
    let next : at - 1 + 1 ≡ at = omega arith in
    record {
      upto = omega (arith, j.upto);
      size = length-set bytes (at - 1) (place_byte rest) ∙ j.size;
      shown =
          ap (λ (l : List ℕ). places (at - 1) (rest / 10) ++ l) (drop-set bytes (at - 1) (place_byte rest) here ∙ ap (λ (k : ℕ). place_byte rest ∷ drop k bytes) next)
          ∙ sym (append_assoc (places (at - 1) (rest / 10)) (place_byte rest ∷ []) (drop at bytes))
          ∙ ap (λ (k : ℕ). places k rest ++ drop at bytes) (sym least)
          ∙ j.shown;
    }

pub justifying_done : {w n at rest : ℕ} {bytes : List ℕ} → Justifying w n at rest bytes → at ≡ 0 → bytes ≡ justified w n
justifying_done {rest = rest} {bytes = bytes} j e = ap (λ (k : ℕ). places k rest ++ drop k bytes) (sym e) ∙ j.shown

-- ---- a column put into a text

pub column_put_short : (text : List ℕ) (at n : ℕ) → length text < at + 9 → text ≡ column_put text at n
unfolding column_put
column_put_short text at n h = rw (lt-leb (at + 9) (length text) h)

-- For a number that has a column.
pub column_put-fits : (text : List ℕ) (at n : ℕ) → at + 9 ≤ length text → n ≤ largest_number → column_put text at n ≡ put text at (column n)
unfolding column_put
column_put-fits text at n h fits = rw (le-leb (at + 9) (length text) h, column_for-fits n fits)

column_put_nine : (text : List ℕ) (at n : ℕ) → at + 9 ≤ length text → column_put text at n ≡ paste text at (column_for n) 9
unfolding column_put
column_put_nine text at n h = rw (le-leb (at + 9) (length text) h, take_all 9 (column_for n) (omega (arith, length-column_for n)), length-column_for n)

-- Putting it: i of the nine bytes are in.
pub record Putting (text : List ℕ) (at n : ℕ) (bytes after : List ℕ) (i : ℕ) : Type 0 where
  pub upto : i ≤ 9
  pub room : at + 9 ≤ length text
  pub right : bytes ≡ column_for n
  pub size : length after ≡ length text
  pub pasted : after ≡ paste text at bytes i

module _ {text : List ℕ} {at n : ℕ} {bytes : List ℕ} where
  pub putting_begun : at + 9 ≤ length text → bytes ≡ column_for n → Putting text at n bytes text 0
  putting_begun room right = record { upto = omega arith; room = room; right = right; size = refl; pasted = paste-zero text at bytes }

  pub putting_more : {after : List ℕ} {i : ℕ} → i < 9 → Putting text at n bytes after i → Putting text at n bytes (set after (at + i) (get_or bytes i 0)) (i + 1)
  putting_more {after} {i} h p =
      let nine : length bytes ≡ 9 = ap length p.right ∙ length-column_for n in
      record {
        upto = omega arith;
        room = p.room;
        right = p.right;
        size = length-set after (at + i) (get_or bytes i 0) ∙ p.size;
        pasted = rw (p.pasted, add-one i) (paste-suc text at bytes i 0 (omega arith) (omega arith));
      }

  pub putting_done : {after : List ℕ} {i : ℕ} → 9 ≤ i → Putting text at n bytes after i → after ≡ column_put text at n
  putting_done {after} {i} h p =
      let all : i ≡ 9 = omega arith in
      p.pasted ∙ rw (all, p.right) (sym (column_put_nine text at n p.room))
