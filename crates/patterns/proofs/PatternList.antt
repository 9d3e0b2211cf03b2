-- Laws of the generated patterns: they are the lists of one to six digits by first appearance, and they rise in document 01's order.
-- Assumes nothing.
use mathlib.Core.Path.{◌≡◌, refl, sym, ◌∙◌, ap, subst, subst₂}
use mathlib.Core.Bool.{◌&&◌}
use mathlib.Core.Logic.{⊎_elim, inl, inr}
use mathlib.Core.List.{List, [], ◌∷◌, map}
use Prim.Native.Nat.{ℕ, zero, suc, ◌+◌, ◌<◌, ◌≤◌, max}
use native.Mathlib.Nat.{eq-or-lt_of_le}
use native.Mathlib.Omega.{arith}
use lib.Dec.{T, leb, leb→le, le→leb}
use lib.ListN.{length}
use Rattle.patterns.specs.Lists.{In}
use Rattle.patterns.specs.Pattern.{led, going_on, patterns_to, patterns}
use Rattle.patterns.specs.PatternTable.{appears, earlier, Pattern}
use Rattle.patterns.proofs.BoolLaws.{both_left, both_right, both}
use Rattle.patterns.proofs.ListLaws.{in_left, in_right, in_map, in_append, map_in}
use Rattle.patterns.proofs.PatternOrder.{Before, Up, up_append, up_cons, shorter_earlier, lower-earlier}

-- DIGITS BY FIRST APPEARANCE, one digit at a time.
pub appears-cons : (m d : ℕ) (ds : List ℕ) → 1 ≤ d → d ≤ suc m → T (appears (max m d) ds) → T (appears m (d ∷ ds))
unfolding appears
appears-cons m d ds lo hi t =
    both (leb 1 d && leb d (suc m)) (appears (max m d) ds) (both (leb 1 d) (leb d (suc m)) (le→leb 1 d lo) (le→leb d (suc m) hi)) t

pub appears_parts : (m d : ℕ) (ds : List ℕ) → T (appears m (d ∷ ds)) → (1 ≤ d) × (d ≤ suc m) × T (appears (max m d) ds)
unfolding appears
appears_parts m d ds t =
    let u = both_left (leb 1 d && leb d (suc m)) (appears (max m d) ds) t in (
      leb→le 1 d (both_left (leb 1 d) (leb d (suc m)) u),
      leb→le d (suc m) (both_right (leb 1 d) (leb d (suc m)) u),
      both_right (leb 1 d && leb d (suc m)) (appears (max m d) ds) t,
    )

-- EVERY SUCH LIST IS GENERATED.
pub in_led : (rest : ℕ → List (List ℕ)) (n d j : ℕ) (p : List ℕ) → d ≤ j → j < d + n → In p (rest j) → In (j ∷ p) (led rest d n)
unfolding led
in_led rest zero d j p lo hi m = let z : ⊥ = omega arith in absurd z
in_led rest (suc n) d j p lo hi m =
    ⊎_elim
    (λ (e : d ≡ j).
    in_left (j ∷ p) (map (λ (q : List ℕ). d ∷ q) (rest d)) (led rest (suc d) n)
    (subst (λ (k : ℕ). In (j ∷ p) (map (λ (q : List ℕ). k ∷ q) (rest k))) (sym e) (in_map (λ (q : List ℕ). j ∷ q) p (rest j) m)))
    (λ (l : d < j).
    in_right (j ∷ p) (map (λ (q : List ℕ). d ∷ q) (rest d)) (led rest (suc d) n) (in_led rest n (suc d) j p l (omega arith) m))
    (eq-or-lt_of_le lo)

pub in_going_on : (p : List ℕ) (m : ℕ) → T (appears m p) → In p (going_on (length p) m)
unfolding going_on
in_going_on [] m t = inl refl
in_going_on (d ∷ ds) m t =
    let s = appears_parts m d ds t in
    in_led (λ (k : ℕ). going_on (length ds) (max m k)) (suc m) 1 d ds s.0 (omega (arith, s.1)) (in_going_on ds (max m d) s.2)

pub in_patterns_to : (p : List ℕ) (n k : ℕ) → 1 ≤ n → n ≤ k → In p (going_on n 0) → In p (patterns_to k)
unfolding patterns_to
in_patterns_to p n zero lo hi m = let z : ⊥ = omega arith in absurd z
in_patterns_to p n (suc k) lo hi m =
    ⊎_elim
    (λ (e : n ≡ suc k). in_right p (patterns_to k) (going_on (suc k) 0) (subst (λ (j : ℕ). In p (going_on j 0)) e m))
    (λ (l : n < suc k). in_left p (patterns_to k) (going_on (suc k) 0) (in_patterns_to p n k lo (omega arith) m))
    (eq-or-lt_of_le hi)

pub listed : (p : List ℕ) → Pattern p → In p patterns
unfolding patterns
listed p h = in_patterns_to p (length p) 6 h.some h.most (in_going_on p 0 h.digits)

-- NOTHING ELSE IS.
record Led (rest : ℕ → List (List ℕ)) (d n : ℕ) (q : List ℕ) : Type 0 where
  head : ℕ
  tail : List ℕ
  is : q ≡ head ∷ tail
  lowest : d ≤ head
  highest : head < d + n
  there : In tail (rest head)

led_in : (rest : ℕ → List (List ℕ)) (d n : ℕ) (q : List ℕ) → In q (led rest d n) → Led rest d n q
unfolding led
led_in rest d zero q i = absurd i
led_in rest d (suc n) q i =
    elim (in_append q (map (λ (p : List ℕ). d ∷ p) (rest d)) (led rest (suc d) n) i) [
      | inl j ↦
          let s = map_in (λ (p : List ℕ). d ∷ p) (rest d) q j in
          record { head = d; tail = s.0; is = s.2; lowest = omega arith; highest = omega arith; there = s.1 }
      | inr j ↦
          let s = led_in rest (suc d) n q j in
          record {
            head = s.head;
            tail = s.tail;
            is = s.is;
            lowest = omega (arith, s.lowest);
            highest = omega (arith, s.highest);
            there = s.there;
          }
    ]

pub record GoesOn (n m : ℕ) (q : List ℕ) : Type 0 where
  pub size : length q ≡ n
  pub digits : T (appears m q)

pub going_on_in : (n m : ℕ) (q : List ℕ) → In q (going_on n m) → GoesOn n m q
unfolding going_on appears
going_on_in zero m q i = elim i [ inl e ↦ subst (GoesOn zero m) (sym e) (record { size = refl; digits = tt }) | inr j ↦ absurd j ]
going_on_in (suc n) m q i =
    let s = led_in (λ (d : ℕ). going_on n (max m d)) 1 (suc m) q i in
    let t = going_on_in n (max m s.head) s.tail s.there in
    subst (GoesOn (suc n) m) (sym s.is)
    (record {
      size = ap suc t.size;
      digits = appears-cons m s.head s.tail s.lowest (omega (arith, s.highest)) t.digits;
    })

pub patterns_to_in : (n : ℕ) (q : List ℕ) → In q (patterns_to n) → (1 ≤ length q) × (length q ≤ n) × T (appears 0 q)
unfolding patterns_to
patterns_to_in zero q i = absurd i
patterns_to_in (suc n) q i =
    elim (in_append q (patterns_to n) (going_on (suc n) 0) i) [
      | inl j ↦ let s = patterns_to_in n q j in (s.0, omega (arith, s.1), s.2)
      | inr j ↦ let s = going_on_in (suc n) 0 q j in (omega (arith, s.size), omega (arith, s.size), s.digits)
    ]

pub patterns_in : (q : List ℕ) → In q patterns → Pattern q
unfolding patterns
patterns_in q i = let s = patterns_to_in 6 q i in record { some = s.0; most = s.1; digits = s.2 }

-- THEY RISE.
led_up : (rest : ℕ → List (List ℕ)) (n : ℕ) → ((d : ℕ) → Up (rest d)) → ((d : ℕ) (p : List ℕ) → In p (rest d) → length p ≡ n)
    → (d k : ℕ) → Up (led rest d k)
unfolding led
led_up rest n u size d zero = tt
led_up rest n u size d (suc k) =
    up_append (map (λ (p : List ℕ). d ∷ p) (rest d)) (led rest (suc d) k) (up_cons d (rest d) (u d)) (led_up rest n u size (suc d) k) low
  where
    low : (p : List ℕ) → In p (map (λ (r : List ℕ). d ∷ r) (rest d)) → Before p (led rest (suc d) k)
    low p i q j =
        let s = map_in (λ (r : List ℕ). d ∷ r) (rest d) p i in
        let t = led_in rest (suc d) k q j in
        subst₂ (λ (x y : List ℕ). T (earlier x y)) (sym s.2) (sym t.is)
        (lower-earlier d t.head s.0 t.tail (size d s.0 s.1 ∙ sym (size t.head t.tail t.there)) (omega (arith, t.lowest)))

going_on_up : (n m : ℕ) → Up (going_on n m)
unfolding going_on
going_on_up zero m = (λ q i. absurd i, tt)
going_on_up (suc n) m =
    led_up (λ (d : ℕ). going_on n (max m d)) n (λ d. going_on_up n (max m d)) (λ d p i. (going_on_in n (max m d) p i).size) 1 (suc m)

patterns_to_up : (n : ℕ) → Up (patterns_to n)
unfolding patterns_to
patterns_to_up zero = tt
patterns_to_up (suc n) =
    up_append (patterns_to n) (going_on (suc n) 0) (patterns_to_up n) (going_on_up (suc n) 0)
    (λ p i q j. shorter_earlier p q (omega (arith, (patterns_to_in n p i).1, (going_on_in (suc n) 0 q j).size)))

pub patterns_up : Up patterns
unfolding patterns
patterns_up = patterns_to_up 6
