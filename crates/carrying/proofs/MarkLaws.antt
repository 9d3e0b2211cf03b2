-- Laws of the fresh marks. Assumes nothing.
use mathlib.Core.Path.{◌≡◌, refl, sym, ◌∙◌, ap}
use mathlib.Core.Bool.{Bool, true, false, not, ◌&&◌, false≢true}
use mathlib.Core.Logic.{◌⊎◌, inl, inr}
use mathlib.Core.List.{List, [], ◌∷◌}
use mathlib.Core.Option.{none, none-ne-some}
use Prim.Native.Nat.{ℕ, zero, suc, ◌+◌, ◌≤◌, ◌<◌}
use native.Mathlib.Decide.{ℕ_discrete}
use native.Mathlib.Omega.{arith}
use lib.ListN.{length}
use Rattle.chase.specs.Lists.{In, largest}
use Rattle.chase.specs.Rules.{Head, Rule, marks_of}
use Rattle.chase.specs.Making.{value_of, Agree, has}
use Rattle.chase.specs.Counting.{NoTwo}
use Rattle.chase.proofs.MakingLaws.{has_in, in_has, keep-in, in_keep, no_two_keep, in_marks_of, agree_has_value, no_mark_no_value}
use Rattle.carrying.specs.Carrying.{rising, fresh_marks}

pub in_largest : (a : ℕ) (l : List ℕ) → In a l → a ≤ largest l
in_largest a [] i = absurd i
in_largest a (n ∷ l) (inl p) = omega arith
in_largest a (n ∷ l) (inr i) = omega (arith, in_largest a l i)

pub rising_in : (k n a : ℕ) → In a (rising k n) → k ≤ a
rising_in k zero a i = absurd i
rising_in k (suc n) a (inl p) = omega arith
rising_in k (suc n) a (inr i) = omega (arith, rising_in (suc k) n a i)

pub in_rising : (k n a : ℕ) → k ≤ a → a < k + n → In a (rising k n)
in_rising k zero a l h = absurd (omega arith)
in_rising k (suc n) a l h = go (ℕ_discrete a k) (λ p q. in_rising (suc k) n a p q)
  where
    go : Dec (a ≡ k) → (suc k ≤ a → a < suc k + n → In a (rising (suc k) n)) → (a ≡ k) ⊎ In a (rising (suc k) n)
    go (yes p) ih = inl p
    go (no q) ih = inr (ih (omega arith) (omega arith))

pub no_two_rising : (k n : ℕ) → NoTwo (rising k n)
no_two_rising k zero = tt
no_two_rising k (suc n) = ((λ i. let l = rising_in (suc k) n k i in omega arith), no_two_rising (suc k) n)

pub rising_below : (k n a : ℕ) → In a (rising k n) → a < k + n
rising_below k zero a i = absurd i
rising_below k (suc n) a (inl p) = omega arith
rising_below k (suc n) a (inr i) = omega (arith, rising_below (suc k) n a i)

pub length-rising : (k n : ℕ) → length (rising k n) ≡ n
length-rising k zero = refl
length-rising k (suc n) = ap suc (length-rising (suc k) n)

pub and_left : (a b : Bool) → (a && b) ≡ true → a ≡ true
and_left true b e = refl
and_left false b e = absurd (false≢true e)

pub and_right : (a b : Bool) → (a && b) ≡ true → b ≡ true
and_right true b e = e
and_right false b e = absurd (false≢true e)

pub not-true : (b : Bool) → not b ≡ true → b ≡ true → ⊥
not-true true p q = false≢true p
not-true false p q = false≢true q

pub true_not : (b : Bool) → (b ≡ true → ⊥) → not b ≡ true
true_not true h = absurd (h refl)
true_not false h = refl

pub both : (a b : Bool) → a ≡ true → b ≡ true → (a && b) ≡ true
both true b p q = q
both false b p q = absurd (false≢true p)

module _ (r : Rule) where
  abbrev pub is_fresh : ℕ → Bool
  is_fresh m = has m (marks_of r.heads) && not (has m r.marks)

  abbrev pub marks_to : List ℕ
  marks_to = rising 0 (suc (largest (marks_of r.heads)))

  pub fresh_in_lem : (m : ℕ) → In m (fresh_marks r) → In m (marks_of r.heads) × (In m r.marks → ⊥)
  unfolding fresh_marks
  fresh_in_lem m i =
      let s = keep-in is_fresh m marks_to i in (
        has_in m (marks_of r.heads) (and_left (has m (marks_of r.heads)) (not (has m r.marks)) s.1),
        λ j. not-true (has m r.marks) (and_right (has m (marks_of r.heads)) (not (has m r.marks)) s.1) (in_has m r.marks j),
      )

  pub in_fresh : (m : ℕ) → In m (marks_of r.heads) → (In m r.marks → ⊥) → In m (fresh_marks r)
  unfolding fresh_marks
  in_fresh m i h =
      in_keep is_fresh m marks_to (in_rising 0 (suc (largest (marks_of r.heads))) m (omega arith) (omega (arith, in_largest m (marks_of r.heads) i)))
      (both (has m (marks_of r.heads)) (not (has m r.marks)) (in_has m (marks_of r.heads) i)
      (true_not (has m r.marks) (λ q. h (has_in m r.marks q))))

  pub fresh_no_two : NoTwo (fresh_marks r)
  unfolding fresh_marks
  fresh_no_two = no_two_keep is_fresh marks_to (no_two_rising 0 (suc (largest (marks_of r.heads))))

  -- A mark of an H line that has no value in fields with which the rule agrees is fresh.
  pub no_value_fresh : {A : Type 0} (xs : List A) → Agree r.marks xs → (h : Head) (m : ℕ) → In h r.heads → In m h.marks
      → value_of r.marks xs m ≡ none → In m (fresh_marks r)
  no_value_fresh xs a h m i j e =
      in_fresh m (in_marks_of r.heads h m i j)
      (λ k. let s = agree_has_value r.marks xs m a k in none-ne-some s.0 (sym e ∙ s.1))

  pub fresh_no_value : {A : Type 0} (xs : List A) (m : ℕ) → In m (fresh_marks r) → value_of r.marks xs m ≡ none
  fresh_no_value xs m i = no_mark_no_value r.marks xs m (fresh_in_lem m i).1
