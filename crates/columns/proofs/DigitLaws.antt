-- The laws of reading a column place by place: what the places that were read show, and which byte refuses the column. Assumes nothing.
use mathlib.Core.Path.{◌≡◌, refl, sym, ap, subst, ◌∙◌}
use mathlib.Core.Logic.{◌⊎◌, inl, inr, ⊎_elim}
use mathlib.Core.List.{List, [], ◌∷◌, ◌++◌}
use mathlib.Core.Option.{none, some}
use Prim.Native.Nat.{ℕ, zero, suc, ◌+◌, ◌-◌, ◌*◌, ◌/◌, ◌%◌, ◌^◌, ◌≤◌, ◌<◌}
use native.Mathlib.Nat.{pow-suc, pow-le-pow_right, eq-or-lt_of_le}
use native.Mathlib.Numerals.{add-one}
use native.Mathlib.Omega.{arith}
use lib.ListN.{length, get_or, take, drop, length-take, length-drop, get_or-append}
use lib.Seq.{take_all, take-suc, take_at, take-append-le, get_or_at, get_or-take, get_or-drop}
use Rattle.columns.specs.Column.{largest_number, place_byte, places, column, decimal, number_in}
use Rattle.columns.proofs.ColumnLaws.{length-places, length-column, decimal-places, place_byte_nonzero, number_in-column, number_in-none}

-- The byte at i in bytes that show a number's places: the number without the digits to its right, and what it shows.
record Place (bytes : List ℕ) (i : ℕ) : Type 0 where
  rest : ℕ
  front : take i bytes ≡ places i (rest / 10)
  next : get_or bytes i 0 ≡ place_byte rest
  small : rest / 10 < 10 ^ i

last_place : (w n : ℕ) → n < 10 ^ suc w → Place (places (suc w) n) w
last_place w n h = record {
  rest = n;
  front = take_at (places w (n / 10)) (place_byte n ∷ []) w (length-places w (n / 10));
  next = get_or_at (places w (n / 10)) (place_byte n) [] 0 w (length-places w (n / 10));
  small = omega (arith, pow-suc 10 w);
}

place_before : (xs ys : List ℕ) (i : ℕ) → i < length xs → Place xs i → Place (xs ++ ys) i
place_before xs ys i h p = record {
  rest = p.rest;
  front = take-append-le i xs ys (omega arith) ∙ p.front;
  next = get_or-append xs ys 0 i h ∙ p.next;
  small = p.small;
}

place_in : (w n i : ℕ) → n < 10 ^ w → i < w → Place (places w n) i
place_in zero n i small h = absurd (omega arith)
place_in (suc w) n i small h =
    let low : i ≤ w = omega arith in
    ⊎_elim
    (λ e. subst (λ (k : ℕ). Place (places (suc w) n) k) (sym e) (last_place w n small))
    (λ less.
    place_before (places w (n / 10)) (place_byte n ∷ []) i (omega (arith, length-places w (n / 10)))
    (place_in w (n / 10) i (omega (arith, pow-suc 10 w)) less))
    (eq-or-lt_of_le low)

place_in_column : (m i : ℕ) → m ≤ largest_number → i < 8 → Place (column m) i
unfolding column
place_in_column m i fits h = place_before (places 8 (m / 10)) ((48 + (m % 10)) ∷ []) i h (place_in 8 (m / 10) i (omega arith) h)

first_blank : (w n : ℕ) → n < 10 ^ w → get_or (places (suc w) n) 0 0 ≡ 32
first_blank zero zero h = refl
first_blank zero (suc n) h = absurd (omega arith)
first_blank (suc w) n h =
    get_or-append (places (suc w) (n / 10)) (place_byte n ∷ []) 0 0 (omega (arith, length-places (suc w) (n / 10)))
    ∙ first_blank w (n / 10) (omega (arith, pow-suc 10 w))

first_of_column : (m : ℕ) → m ≤ largest_number → get_or (column m) 0 0 ≡ 32
unfolding column
first_of_column m fits = first_blank 7 (m / 10) (omega arith)

places_one_to_one : (w m n : ℕ) → m < 10 ^ w → n < 10 ^ w → places w m ≡ places w n → m ≡ n
places_one_to_one w m n hm hn e = sym (decimal-places w m hm) ∙ ap (decimal 0) e ∙ decimal-places w n hn

-- Fewer than nine bytes are no column.
pub too_few : (s : List ℕ) (at : ℕ) → length s < at + 9 → number_in (take 9 (drop at s)) ≡ none
too_few s at h =
    number_in-none (take 9 (drop at s)) (λ m fits e.
    let size : length (take 9 (drop at s)) ≡ 9 = ap length e ∙ length-column m in
    omega (arith, length-take 9 (drop at s), length-drop at s))

-- The first i of nine bytes are n's places.
pub record Read (s : List ℕ) (i n : ℕ) : Type 0 where
  pub room : length s ≡ 9
  pub low : 1 ≤ i
  pub high : i ≤ 8
  pub front : take i s ≡ places i n
  pub small : 10 * n + 10 ≤ 10 ^ i

-- The byte after the first k of the seven that stand between the first and the last.
module _ {s : List ℕ} {k n : ℕ} (r : Read s (k + 1) n) (h : k < length (take 7 (drop 1 s))) where
  pub inside : k + 1 < 8
  inside = omega (arith, h, length-take 7 (drop 1 s))

  pub here : get_or (take 7 (drop 1 s)) k 0 ≡ get_or s (k + 1) 0
  here = get_or-take 7 (drop 1 s) k 0 (omega (arith, inside)) ∙ get_or-drop 1 s k 0 ∙ ap (λ (i : ℕ). get_or s i 0) (omega arith)

-- Where there is no such byte, eight places are passed.
pub passed : {s : List ℕ} {k n : ℕ} → Read s (k + 1) n → length (take 7 (drop 1 s)) ≤ k → 8 ≤ k + 1
passed {s} r h = omega (arith, h, r.room, length-take 7 (drop 1 s), length-drop 1 s)

-- One more digit fits.
pub read_fits : (s : List ℕ) (i n : ℕ) → Read s i n → 10 * n + 10 ≤ 100000000
read_fits s i n r =
    let most : 10 ^ i ≤ 10 ^ 8 = pow-le-pow_right (omega arith) r.high in
    let small = r.small in
    omega arith

-- A place that shows a number whose front digits are n's.
shows : (s : List ℕ) (i n more : ℕ) → Read s i n → i < 8 → more / 10 ≡ n → get_or s i 0 ≡ place_byte more → Read s (i + 1) more
shows s i n more r h front next =
    let size = r.room in
    let before = r.front in
    let small = r.small in
    record {
      room = r.room;
      low = omega arith;
      high = omega arith;
      front = rw (add-one, take-suc s i 0 (omega arith)) (cc);
      small = rw (add-one, pow-suc 10 i) (omega arith);
    }

-- The column is refused where no number with the front digits of n shows the byte at i.
refused_at : (s : List ℕ) (i n : ℕ) → Read s i n → i < 8
    → ((more : ℕ) → more / 10 ≡ n → get_or s i 0 ≡ place_byte more → ⊥) → number_in s ≡ none
refused_at s i n r h never =
    number_in-none s (λ m fits e.
    let p : Place s i = subst (λ (bytes : List ℕ). Place bytes i) (sym e) (place_in_column m i fits h) in
    let small = r.small in
    never p.rest
    (places_one_to_one i (p.rest / 10) n p.small (omega arith) (sym p.front ∙ r.front))
    p.next)

-- What a place's byte is.
place_byte-cases : (n : ℕ) → ((n ≡ 0) × (place_byte n ≡ 32)) ⊎ ((0 < n) × (place_byte n ≡ 48 + n % 10))
place_byte-cases zero = inl (refl, refl)
place_byte-cases (suc n) = inr (omega arith, refl)

pub begins_blank : (s : List ℕ) → length s ≡ 9 → get_or s 0 0 ≡ 32 → Read s 1 0
begins_blank s room e =
    record {
      room = room;
      low = omega arith;
      high = omega arith;
      front = rw (take-suc s 0 0 (omega arith), e);
      small = omega arith;
    }

pub begins-otherwise : (s : List ℕ) → length s ≡ 9 → (get_or s 0 0 ≡ 32 → ⊥) → number_in s ≡ none
begins-otherwise s room other =
    number_in-none s (λ m fits e. other (ap (λ (bytes : List ℕ). get_or bytes 0 0) e ∙ first_of_column m fits))

pub blank_again : (s : List ℕ) (i n : ℕ) → Read s i n → i < 8 → get_or s i 0 ≡ 32 → n ≡ 0 → Read s (i + 1) n
blank_again s i n r h e none_yet = shows s i n n r h (omega arith) (e ∙ sym (ap place_byte none_yet))

pub blank_after_digit : (s : List ℕ) (i n : ℕ) → Read s i n → i < 8 → get_or s i 0 ≡ 32 → (n ≡ 0 → ⊥) → number_in s ≡ none
blank_after_digit s i n r h e some-yet =
    refused_at s i n r h (λ more front next.
    ⊎_elim (λ w. some-yet (omega arith)) (λ w. omega arith) (place_byte-cases more))

pub digit : (s : List ℕ) (i n d : ℕ) → Read s i n → i < 8 → 48 ≤ get_or s i 0 → get_or s i 0 ≤ 57 → d ≡ get_or s i 0 - 48
    → (10 * n + d ≡ 0 → ⊥) → Read s (i + 1) (10 * n + d)
digit s i n d r h low high e positive =
    shows s i n (10 * n + d) r h (omega arith) (sym (sym (place_byte_nonzero (10 * n + d) positive) ∙ omega arith))

pub leading_zero : (s : List ℕ) (i n d : ℕ) → Read s i n → i < 8 → 48 ≤ get_or s i 0 → d ≡ get_or s i 0 - 48
    → 10 * n + d ≡ 0 → number_in s ≡ none
leading_zero s i n d r h low e nothing =
    refused_at s i n r h (λ more front next. ⊎_elim (λ w. omega arith) (λ w. omega arith) (place_byte-cases more))

pub below_digits : (s : List ℕ) (i n : ℕ) → Read s i n → i < 8 → (get_or s i 0 ≡ 32 → ⊥) → get_or s i 0 < 48 → number_in s ≡ none
below_digits s i n r h other low =
    refused_at s i n r h (λ more front next. ⊎_elim (λ w. other (omega arith)) (λ w. omega arith) (place_byte-cases more))

pub above_digits : (s : List ℕ) (i n : ℕ) → Read s i n → i < 8 → 57 < get_or s i 0 → number_in s ≡ none
above_digits s i n r h high =
    refused_at s i n r h (λ more front next. ⊎_elim (λ w. omega arith) (λ w. omega arith) (place_byte-cases more))

-- The last place holds a digit.
last_of_column : (m : ℕ) → get_or (column m) 8 0 ≡ 48 + m % 10
unfolding column
last_of_column m = refl

last_of_nine : (s : List ℕ) (m : ℕ) → s ≡ column m → get_or s 8 0 ≡ 48 + m % 10
last_of_nine s m e = ap (λ (bytes : List ℕ). get_or bytes 8 0) e ∙ last_of_column m

pub last_below_digits : (s : List ℕ) → get_or s 8 0 < 48 → number_in s ≡ none
last_below_digits s low = number_in-none s (λ m fits e. omega (arith, last_of_nine s m e))

pub last_above_digits : (s : List ℕ) → 57 < get_or s 8 0 → number_in s ≡ none
last_above_digits s high = number_in-none s (λ m fits e. omega (arith, last_of_nine s m e))

column_of_digits : (n d : ℕ) → d < 10 → column (10 * n + d) ≡ places 8 n ++ ((48 + d) ∷ [])
unfolding column
column_of_digits n d h =
    let front : (10 * n + d) / 10 ≡ n = omega arith in
    let last : (10 * n + d) % 10 ≡ d = omega arith in
    rw (front, last)

pub last_digit : (s : List ℕ) (i n d : ℕ) → Read s i n → 8 ≤ i → 48 ≤ get_or s 8 0 → get_or s 8 0 ≤ 57 → d ≡ get_or s 8 0 - 48
    → some (10 * n + d) ≡ number_in s
last_digit s i n d r h low high e =
    let size = r.room in
    let eight : i ≡ 8 = omega (arith, r.high) in
    let front : take 8 s ≡ places 8 n = subst (λ (k : ℕ). take k s ≡ places k n) eight r.front in
    let byte : get_or s 8 0 ≡ 48 + d = omega arith in
    let whole : s ≡ column (10 * n + d) = sym (take_all 9 s (omega arith)) ∙ take-suc s 8 0 (omega arith) ∙ rw (front, byte, column_of_digits n d (omega arith)) in
    let small = read_fits s i n r in
    sym (ap number_in whole ∙ number_in-column (10 * n + d) (omega arith))
