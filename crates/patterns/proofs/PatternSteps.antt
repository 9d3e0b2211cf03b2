-- What the loops of `patterns` keep, and one law for each event. Assumes nothing.
use mathlib.Core.Path.{◌≡◌, refl, sym, ◌∙◌, ap, subst}
use mathlib.Core.Bool.{Bool, true, false, cond, not}
use borrow.Author.Tests.{eq-eqb, ne_eqb, ltb-false}
use lib.Dec.{ltb}
use mathlib.Core.List.{List, [], ◌∷◌}
use Prim.Native.Nat.{ℕ, zero, suc, ◌+◌, ◌-◌, ◌*◌, ◌<◌, ◌≤◌, max}
use native.Mathlib.Decide.{ℕ_discrete}
use native.Mathlib.Numerals.{add-one}
use native.Mathlib.Omega.{arith}
use borrow.Author.Count.{below_none, below_more}
use lib.ListN.{length, get_or, take, drop, set, replicate, length-set, length-drop, drop_of_length-le}
use lib.Seq.{length-take-le, drop-cons, get_or-set_same, get_or-set_other}
use Rattle.std.specs.Prelude.{◌==◌, Some, None}
use Rattle.std.specs.List.{position, position_or_len}
use Rattle.std.specs.Option.{unwrap_or}
use Rattle.patterns.specs.Pattern.{pick, index, add, pattern, none_at, Label-discrete, labels, number_of}
use Rattle.patterns.proofs.ListLaws.{in_get_or}
use Rattle.patterns.proofs.PatternLaws.{index-le, index_first, get_or-index, length-add, index-add_other, digits_from, pattern_from, length-pattern, get_or-pattern}
use Rattle.patterns.proofs.LabelLaws.{given_place}
use Rattle.patterns.proofs.PatternRank.{ways, first, rank_from, rank_from_grows, placed, has-pattern}

-- THE SEARCH for the first field that equals field i, a label: among those before it, and it itself where none of them does.
passed_over : (x i : ℕ) (xs : List ℕ) → i < length xs → get_or xs i 0 ≡ x → position_or_len (λ y. y == x) (take i xs) ≡ index ℕ_discrete x xs
passed_over x i [] h e = absurd (omega arith)
passed_over x zero (y ∷ xs) h e = go (ℕ_discrete x y)
  where
    go : (t : Dec (x ≡ y)) → 0 ≡ pick t zero (suc (index ℕ_discrete x xs))
    go (yes p) = refl
    go (no n) = absurd (n (sym e))
passed_over x (suc i) (y ∷ xs) h e = go (ℕ_discrete x y) (passed_over x i xs (omega arith) e)
  where
    go : (t : Dec (x ≡ y)) → position_or_len (λ z. z == x) (take i xs) ≡ index ℕ_discrete x xs
        → cond (not (y == x)) (1 + position_or_len (λ z. z == x) (take i xs)) 0 ≡ pick t zero (suc (index ℕ_discrete x xs))
    go (yes p) ih = rw (eq-eqb y x (sym p))
    go (no n) ih = rw (ne_eqb y x (λ q. n (sym q))) (omega arith)

found_or_last : (i p : ℕ) (t : Bool) → ltb p i ≡ t → p ≤ i → unwrap_or (cond t (Some p) None) i ≡ p
found_or_last i p true f h = refl
found_or_last i p false f h = let least = ltb-false p i f in omega arith

position_place : (x i : ℕ) (xs : List ℕ) → i < length xs → get_or xs i 0 ≡ x → unwrap_or (position (λ y. y == x) (take i xs)) i ≡ index ℕ_discrete x xs
position_place x i xs h e =
    let over = passed_over x i xs h e in
    let most : index ℕ_discrete x xs ≤ i = subst (λ (y : ℕ). index ℕ_discrete y xs ≤ i) e (index_first ℕ_discrete xs i 0 h) in
    rw (over, length-take-le i xs (omega arith)) (found_or_last i (index ℕ_discrete x xs) (ltb (index ℕ_discrete x xs) i) refl most)

pub place_found : (xs : List ℕ) (i : ℕ) → i < length xs → (get_or xs i 0 ≡ 0 → ⊥)
    → unwrap_or (position (λ y. y == get_or xs i 0) (take i xs)) i ≡ index Label-discrete (get_or (labels xs) i (none_at 0)) (labels xs)
place_found xs i h n = position_place (get_or xs i 0) i xs h refl ∙ omega (arith, given_place xs i h n)

-- THE NUMBERING of the first i fields of a record over any type whose equality is decided; z is any element.
pub record FieldsNumbered {A : Type 0} (d : Discrete A) (z : A) (xs : List A) (i largest number : ℕ) (digits : List ℕ) : Type 0 where
  pub some : 1 ≤ length xs
  pub most : length xs ≤ 6
  pub within : i ≤ length xs
  pub room : length digits ≡ 6
  -- The different fields so far: the digits to come go on after them, and what is no field so far is not among them.
  pub seen : List A
  pub different : largest ≡ length seen
  pub least : largest ≤ i
  pub rest : digits_from d seen (drop i xs) ≡ drop i (pattern d xs)
  pub strange : (y : A) → ((k : ℕ) → k < i → get_or xs k z ≡ y → ⊥) → index d y seen ≡ largest
  -- The digits so far.
  pub known : (k : ℕ) → k < i → get_or digits k 0 ≡ get_or (pattern d xs) k 0
  pub low : (k : ℕ) → k < i → get_or (pattern d xs) k 0 ≤ largest
  -- With what the digits to come add, the number is the pattern's.
  pub counted : rank_from largest number (drop i (pattern d xs)) ≡ number_of (pattern d xs)

pub numbering_starts : {A : Type 0} (d : Discrete A) (z : A) (xs : List A) → 1 ≤ length xs → length xs ≤ 6
    → FieldsNumbered d z xs 0 0 (first (length xs)) (replicate 6 0)
numbering_starts d z xs lo hi =
    let p = placed (pattern d xs) (has-pattern d xs lo hi) in
    record {
      some = lo;
      most = hi;
      within = omega arith;
      room = refl;
      seen = [];
      different = refl;
      least = omega arith;
      rest = sym (pattern_from d xs);
      strange = λ y h. refl;
      known = below_none _;
      low = below_none _;
      counted =
          subst (λ (n : ℕ). rank_from 0 (first n) (pattern d xs) ≡ number_of (pattern d xs)) (length-pattern d xs)
          (p.counted ∙ sym p.number);
    }

-- One digit more is counted.
rank_next : (m count d : ℕ) (ds : List ℕ) (digit top w n : ℕ) → digit ≡ d → top ≡ max m digit → w ≡ ways n m → length ds ≡ n
    → rank_from top (count + (digit - 1) * w) ds ≡ rank_from m count (d ∷ ds)
rank_next m count d ds digit top w n e t u l = cc

pub number_small : {A : Type 0} {d : Discrete A} {z : A} {xs : List A} {i largest number : ℕ} {digits : List ℕ}
    → FieldsNumbered d z xs i largest number digits → number ≤ 278
number_small {d = d} {xs = xs} {i} {largest} {number} s =
    let p = placed (pattern d xs) (has-pattern d xs s.some s.most) in
    omega (arith, rank_from_grows largest number (drop i (pattern d xs)), s.counted, p.number, p.below)

-- One field more, with its digit.
pub record Stepped {A : Type 0} (d : Discrete A) (z : A) (xs : List A) (i number : ℕ) (digits : List ℕ) (digit top w : ℕ) : Type 0 where
  pub positive : 1 ≤ digit
  pub small : number + (digit - 1) * w ≤ 278
  pub next : FieldsNumbered d z xs (i + 1) top (number + (digit - 1) * w) (set digits i digit)

module _ {A : Type 0} {d : Discrete A} {z : A} {xs : List A} {i largest number : ℕ} {digits : List ℕ}
    (s : FieldsNumbered d z xs i largest number digits) where
  module _ (h : i < length xs) where
    next_field : drop i xs ≡ get_or xs i z ∷ drop (suc i) xs
    next_field = drop-cons xs i z h

    next_digit : drop i (pattern d xs) ≡ get_or (pattern d xs) i 0 ∷ drop (suc i) (pattern d xs)
    next_digit = drop-cons (pattern d xs) i 0 (omega (arith, length-pattern d xs))

    both_next : suc (index d (get_or xs i z) s.seen) ∷ digits_from d (add d (get_or xs i z) s.seen) (drop (suc i) xs)
        ≡ get_or (pattern d xs) i 0 ∷ drop (suc i) (pattern d xs)
    both_next = sym (ap (digits_from d s.seen) next_field) ∙ s.rest ∙ next_digit

    digit_is : get_or (pattern d xs) i 0 ≡ suc (index d (get_or xs i z) s.seen)
    digit_is = let e = both_next in cc

    digit_before : (place : ℕ) → place ≡ index d (get_or xs i z) xs → place < i
        → get_or digits place 0 ≡ get_or (pattern d xs) i 0
    digit_before place e b =
        let l : place < length xs = omega arith in
        let f = ap (λ (k : ℕ). get_or xs k z) e ∙ get_or-index d (get_or xs i z) xs z (in_get_or xs i z h) in
        s.known place b ∙ get_or-pattern d xs place z l ∙ rw f (sym (get_or-pattern d xs i z h))

    none_before : i ≤ index d (get_or xs i z) xs → (k : ℕ) → k < i → get_or xs k z ≡ get_or xs i z → ⊥
    none_before b k l f = omega (arith, index_first d xs k z (omega arith), ap (λ (x : A). index d x xs) f)

    digit_new : (place : ℕ) → place ≡ index d (get_or xs i z) xs → i ≤ place → largest + 1 ≡ get_or (pattern d xs) i 0
    digit_new place e b = omega (arith, s.strange (get_or xs i z) (none_before (omega arith)), digit_is)

    goes_on : (digit top w : ℕ) → digit ≡ get_or (pattern d xs) i 0 → top ≡ max largest digit
        → w ≡ ways (length xs - 1 - i) largest
        → FieldsNumbered d z xs (i + 1) top (number + (digit - 1) * w) (set digits i digit)
    goes_on digit top w e t u =
        let x = get_or xs i z in
        let q = digit_is in
        let a = length-add d x s.seen in
        let b = index-le d x s.seen in
        let size : top ≡ length (add d x s.seen) = omega arith in
        record {
          some = s.some;
          most = s.most;
          within = omega arith;
          room = length-set digits i digit ∙ s.room;
          seen = add d x s.seen;
          different = size;
          least = omega arith;
          rest = rw add-one (let n = both_next in cc);
          strange =
              λ y n.
              index-add_other d x y s.seen (λ f. n i (omega arith) (sym f)) (s.strange y (λ k l. n k (omega arith)) ∙ s.different) ∙ sym size;
          known =
              below_more (λ k. get_or (set digits i digit) k 0 ≡ get_or (pattern d xs) k 0) i
              (λ k l. get_or-set_other digits i k digit 0 (λ f. omega arith) ∙ s.known k l)
              (get_or-set_same digits i digit 0 (omega arith) ∙ e);
          low = below_more (λ k. get_or (pattern d xs) k 0 ≤ top) i (λ k l. omega (arith, s.low k l)) (omega arith);
          counted =
              rw add-one
              (rank_next largest number (get_or (pattern d xs) i 0) (drop (suc i) (pattern d xs)) digit top w (length xs - 1 - i) e t u
              (length-drop (suc i) (pattern d xs) ∙ omega (arith, length-pattern d xs))
              ∙ ap (rank_from largest number) (sym next_digit)
              ∙ s.counted);
        }

    step : (digit top w : ℕ) → digit ≡ get_or (pattern d xs) i 0 → top ≡ max largest digit → w ≡ ways (length xs - 1 - i) largest
        → Stepped d z xs i number digits digit top w
    step digit top w e t u =
        let next = goes_on digit top w e t u in
        let q = digit_is in
        record { positive = omega arith; small = number_small next; next = next }

    -- A field that stood before has its digit.
    pub known_field : (place digit top w : ℕ) → place ≡ index d (get_or xs i z) xs → w ≡ ways (length xs - 1 - i) largest
        → place < i → top ≡ largest → digit ≡ get_or digits place 0 → Stepped d z xs i number digits digit top w
    known_field place digit top w p u b t e =
        let q = digit_before place p b in
        let l = s.low place b in
        let k = s.known place b in
        step digit top w (e ∙ q) (omega arith) u

    -- A new one has the next.
    pub new_field : (place digit top w : ℕ) → place ≡ index d (get_or xs i z) xs → w ≡ ways (length xs - 1 - i) largest
        → i ≤ place → top ≡ largest + 1 → digit ≡ largest + 1 → Stepped d z xs i number digits digit top w
    new_field place digit top w p u b t e = step digit top w (e ∙ digit_new place p b) (omega arith) u

  pub numbering_ends : length xs ≤ i → number ≡ number_of (pattern d xs)
  numbering_ends h =
      let none = drop_of_length-le (pattern d xs) {i = i} (omega (arith, length-pattern d xs)) in
      sym (ap (rank_from largest number) none) ∙ s.counted
