-- The ranges of a lent line's numbers. Assumes nothing.
use Rattle.std.proofs.Common.{◌≡◌, ℕ, zero, suc, ◌+◌, ◌-◌, ◌<◌, ◌≤◌, Bool, true, false, ◌&&◌, List, [], ◌∷◌, length, get_or, take, drop, MatchBool, HoldsAt, refl, sym, subst, ap, ◌∙◌, arith}
use Rattle.std.specs.List.{AllWithin}
use mathlib.Core.Bool.{and-eq-true_iff}
use Prim.Native.Nat.{zero-le}
use borrow.Author.Tests.{le-leb, lt-leb, eq-eqb, ne_eqb, leb-true}
use lib.Dec.{eqb, leb}
use lib.ListN.{length-take, length-drop}
use lib.Seq.{get_or-take, get_or-drop, take_all}
use Rattle.columns.specs.Column.{largest_number}
use Rattle.sheet.specs.Line.{in_range}
use Rattle.sheet.specs.Inner.Promises.{zeros, ranges_right}

-- A test that all of some numbers pass, or that one of them fails.
module _ (test : ℕ → Bool) (all : List ℕ → Bool) (none : all [] ≡ true) (more : (n : ℕ) (ns : List ℕ) → all (n ∷ ns) ≡ (test n && all ns)) where
  each_passes : (ns : List ℕ) → ((k : ℕ) → k < length ns → test (get_or ns k 0) ≡ true) → all ns ≡ true
  each_passes [] h = none
  each_passes (n ∷ ns) h = more n ns ∙ rw (h 0 (omega arith), each_passes ns (λ k l. h (suc k) (omega arith)))

  one_fails : (ns : List ℕ) (k : ℕ) → k < length ns → test (get_or ns k 0) ≡ false → all ns ≡ false
  one_fails [] k l h = absurd (omega arith)
  one_fails (n ∷ ns) zero l h = more n ns ∙ rw h
  one_fails (n ∷ ns) (suc k) l h = more n ns ∙ rw (one_fails ns k (omega arith) h) (and_false (test n))
    where
      and_false : (b : Bool) → (b && false) ≡ false
      and_false true = refl
      and_false false = refl

pub all_in_range : (r : Bool) (ns : List ℕ)
    → MatchBool r (AllWithin (λ n. n ≤ 99999999) ns 0 (length ns)) ((k : ℕ) × (k < length ns) × HoldsAt (λ n. 99999999 < n) ns k) → r ≡ in_range ns
all_in_range true ns h =
    sym (each_passes (λ n. leb n largest_number) in_range refl (λ n ns. refl) ns (λ k l. le-leb (get_or ns k 0) 99999999 (h k 0 zero-le l)))
all_in_range false ns h =
    let (k, l, large) = h in
    sym (one_fails (λ n. leb n largest_number) in_range refl (λ n ns. refl) ns k l (lt-leb (get_or ns k 0) 99999999 (large 0)))

pub all_zero : (r : Bool) (ns : List ℕ)
    → MatchBool r (AllWithin (λ n. n ≡ 0) ns 0 (length ns)) ((k : ℕ) × (k < length ns) × HoldsAt (λ n. n ≡ 0 → ⊥) ns k) → r ≡ zeros ns
all_zero true ns h =
    sym (each_passes (λ n. eqb n 0) zeros refl (λ n ns. refl) ns (λ k l. eq-eqb (get_or ns k 0) 0 (h k 0 zero-le l)))
all_zero false ns h =
    let (k, l, other) = h in
    sym (one_fails (λ n. eqb n 0) zeros refl (λ n ns. refl) ns k l (ne_eqb (get_or ns k 0) 0 (other 0)))

-- The used numbers, and then the unused ones.
module _ (numbers : List ℕ) (fields : ℕ) where
  used_numbers : take (fields + 2 - 1) (drop 1 numbers) ≡ take (suc fields) (drop 1 numbers)
  used_numbers = let e : fields + 2 - 1 ≡ suc fields = omega arith in rw e

  pub ranges_wrong : (a : Bool) → a ≡ in_range (take (fields + 2 - 1) (drop 1 numbers)) → a ≡ false → a ≡ ranges_right numbers fields
  ranges_wrong a is wrong =
      let e : in_range (take (suc fields) (drop 1 numbers)) ≡ false = ap in_range (sym used_numbers) ∙ sym is ∙ wrong in
      wrong ∙ rw e

  pub ranges_left : (a b : Bool) → length numbers ≡ 8 → a ≡ in_range (take (fields + 2 - 1) (drop 1 numbers)) → a ≡ true
      → b ≡ zeros (take (8 - (fields + 2)) (drop (fields + 2) numbers)) → b ≡ ranges_right numbers fields
  ranges_left a b size is right rest =
      let e : in_range (take (suc fields) (drop 1 numbers)) ≡ true = ap in_range (sym used_numbers) ∙ sym is ∙ right in
      let d : take (8 - (fields + 2)) (drop (fields + 2) numbers) ≡ drop (fields + 2) numbers =
      take_all (8 - (fields + 2)) (drop (fields + 2) numbers) (omega (arith, length-drop (fields + 2) numbers)) in
      rest ∙ ap zeros d ∙ rw e

pub in_range_at : (ns : List ℕ) (i : ℕ) → in_range ns ≡ true → i < length ns → get_or ns i 0 ≤ largest_number
in_range_at [] i e h = absurd (omega arith)
in_range_at (n ∷ ns) zero e h = leb-true n largest_number ((and-eq-true_iff (leb n largest_number) (in_range ns)).0 e).0
in_range_at (n ∷ ns) (suc i) e h = in_range_at ns i ((and-eq-true_iff (leb n largest_number) (in_range ns)).0 e).1 (omega arith)

-- The kind and the used numbers of a lent line that is in range fit in columns.
pub number_fits : (numbers : List ℕ) (fields : ℕ) → length numbers ≡ 8 → fields ≤ 6 → in_range (take (suc fields) (drop 1 numbers)) ≡ true
    → (c : ℕ) → c < fields + 1 → get_or numbers (c + 1) 0 ≤ largest_number
number_fits numbers fields eight few e c h =
    let place : 1 + c ≡ c + 1 = omega arith in
    let used = take (suc fields) (drop 1 numbers) in
    let inside : c < length used = omega (arith, eight, length-take (suc fields) (drop 1 numbers), length-drop 1 numbers) in
    let same : get_or used c 0 ≡ get_or numbers (c + 1) 0 =
    get_or-take (suc fields) (drop 1 numbers) c 0 (omega arith) ∙ get_or-drop 1 numbers c 0 ∙ ap (λ (k : ℕ). get_or numbers k 0) place in
    subst (λ (n : ℕ). n ≤ largest_number) same (in_range_at used c e inside)
