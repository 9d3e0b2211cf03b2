-- Laws of document 01's order, and of lists that rise by it. Assumes nothing.
use mathlib.Core.Path.{◌≡◌, refl, sym, ◌∙◌, ap, ap₂, subst}
use mathlib.Core.Bool.{Bool, ◌&&◌, ◌||◌}
use mathlib.Core.Logic.{◌⊎◌, inl, inr}
use mathlib.Core.List.{List, [], ◌∷◌, ◌++◌, map}
use Prim.Native.Nat.{ℕ, zero, suc, ◌<◌}
use native.Mathlib.Omega.{arith}
use lib.Dec.{T, ltb, eqb, ltb→lt, lt→ltb, eqb→eq, eqb_refl}
use lib.ListN.{length, get_or}
use Rattle.patterns.specs.Lists.{In}
use Rattle.patterns.specs.Pattern.{index}
use Rattle.patterns.specs.PatternTable.{lower, earlier, rising}
use Rattle.patterns.proofs.BoolLaws.{both_left, both_right, both, either_cases, either_left, either_right}
use Rattle.patterns.proofs.ListLaws.{in_get_or, in_append, map_in}
use Rattle.patterns.proofs.PatternLaws.{pick_yes, pick_no}

-- First by a number, then by a test.
abbrev Less : ℕ → ℕ → Bool → Type 0
Less a b c = T (ltb a b || (eqb a b && c))

less_cases : (a b : ℕ) (c : Bool) → Less a b c → (a < b) ⊎ ((a ≡ b) × T c)
less_cases a b c t =
    elim (either_cases (ltb a b) (eqb a b && c) t) [
      | inl s ↦ inl (ltb→lt a b s)
      | inr s ↦ inr (eqb→eq a b (both_left (eqb a b) c s), both_right (eqb a b) c s)
    ]

less_number : (a b : ℕ) (c : Bool) → a < b → Less a b c
less_number a b c l = either_left (ltb a b) (eqb a b && c) (lt→ltb a b l)

less_test : (a b : ℕ) (c : Bool) → a ≡ b → T c → Less a b c
less_test a b c e t =
    either_right (ltb a b) (eqb a b && c) (both (eqb a b) c (subst (λ (n : ℕ). T (eqb a n)) e (eqb_refl a)) t)

less_irrefl : (a : ℕ) (c : Bool) → (T c → ⊥) → Less a a c → ⊥
less_irrefl a c h t = elim (less_cases a a c t) [ inl l ↦ omega arith | inr s ↦ h s.1 ]

less_trans : (a b c : ℕ) (p q r : Bool) → (T p → T q → T r) → Less a b p → Less b c q → Less a c r
less_trans a b c p q r h s t = go (less_cases a b p s) (less_cases b c q t)
  where
    go : (a < b) ⊎ ((a ≡ b) × T p) → (b < c) ⊎ ((b ≡ c) × T q) → Less a c r
    go (inl l) (inl k) = less_number a c r (omega arith)
    go (inl l) (inr k) = let e = k.0 in less_number a c r (omega arith)
    go (inr l) (inl k) = let e = l.0 in less_number a c r (omega arith)
    go (inr l) (inr k) = less_test a c r (l.0 ∙ k.0) (h l.1 k.1)

lower_irrefl : (xs : List ℕ) → T (lower xs xs) → ⊥
unfolding lower
lower_irrefl [] t = t
lower_irrefl (x ∷ xs) t = less_irrefl x (lower xs xs) (lower_irrefl xs) t

lower_trans : (xs ys zs : List ℕ) → T (lower xs ys) → T (lower ys zs) → T (lower xs zs)
unfolding lower
lower_trans [] ys zs s t = absurd s
lower_trans (x ∷ xs) [] zs s t = absurd s
lower_trans (x ∷ xs) (y ∷ ys) [] s t = absurd t
lower_trans (x ∷ xs) (y ∷ ys) (z ∷ zs) s t = less_trans x y z (lower xs ys) (lower ys zs) (lower xs zs) (lower_trans xs ys zs) s t

-- THE ORDER is strict.
pub earlier_irrefl : (xs : List ℕ) → T (earlier xs xs) → ⊥
unfolding earlier
earlier_irrefl xs t = less_irrefl (length xs) (lower xs xs) (lower_irrefl xs) t

pub earlier_trans : (xs ys zs : List ℕ) → T (earlier xs ys) → T (earlier ys zs) → T (earlier xs zs)
unfolding earlier
earlier_trans xs ys zs s t =
    less_trans (length xs) (length ys) (length zs) (lower xs ys) (lower ys zs) (lower xs zs) (lower_trans xs ys zs) s t

-- A shorter list; a lower first digit; one more digit in front of both.
pub shorter_earlier : (xs ys : List ℕ) → length xs < length ys → T (earlier xs ys)
unfolding earlier
shorter_earlier xs ys l = less_number (length xs) (length ys) (lower xs ys) l

pub lower-earlier : (x y : ℕ) (xs ys : List ℕ) → length xs ≡ length ys → x < y → T (earlier (x ∷ xs) (y ∷ ys))
unfolding earlier lower
lower-earlier x y xs ys e l =
    less_test (suc (length xs)) (suc (length ys)) (lower (x ∷ xs) (y ∷ ys)) (ap suc e) (less_number x y (lower xs ys) l)

pub cons-earlier : (d : ℕ) (xs ys : List ℕ) → T (earlier xs ys) → T (earlier (d ∷ xs) (d ∷ ys))
unfolding earlier lower
cons-earlier d xs ys t =
    elim (less_cases (length xs) (length ys) (lower xs ys) t) [
      | inl l ↦ less_number (suc (length xs)) (suc (length ys)) (lower (d ∷ xs) (d ∷ ys)) (omega arith)
      | inr s ↦
          less_test (suc (length xs)) (suc (length ys)) (lower (d ∷ xs) (d ∷ ys)) (ap suc s.0) (less_test d d (lower xs ys) refl s.1)
    ]

-- RISING LISTS: each stands before all that follow.
abbrev pub Before : List ℕ → List (List ℕ) → Type 0
Before p l = (q : List ℕ) → In q l → T (earlier p q)

abbrev pub Up : List (List ℕ) → Type 0
Up [] = Unit {0}
Up (p ∷ l) = Before p l × Up l

pub rising_before : (p : List ℕ) (l : List (List ℕ)) → T (rising p l) → Before p l
unfolding rising
rising_before p [] t q i = absurd i
rising_before p (r ∷ l) t q (inl e) = subst (λ (x : List ℕ). T (earlier p x)) (sym e) (both_left (earlier p r) (rising r l) t)
rising_before p (r ∷ l) t q (inr i) =
    earlier_trans p r q (both_left (earlier p r) (rising r l) t) (rising_before r l (both_right (earlier p r) (rising r l) t) q i)

pub rising_up : (p : List ℕ) (l : List (List ℕ)) → T (rising p l) → Up l
unfolding rising
rising_up p [] t = tt
rising_up p (r ∷ l) t = let s = both_right (earlier p r) (rising r l) t in (rising_before r l s, rising_up r l s)

pub up_append : (l m : List (List ℕ)) → Up l → Up m → ((p : List ℕ) → In p l → Before p m) → Up (l ++ m)
up_append [] m u v h = v
up_append (p ∷ l) m u v h =
    (λ q i. elim (in_append q l m i) [ inl j ↦ u.0 q j | inr j ↦ h p (inl refl) q j ], up_append l m u.1 v (λ r i. h r (inr i)))

pub up_cons : (d : ℕ) (l : List (List ℕ)) → Up l → Up (map (λ (p : List ℕ). d ∷ p) l)
up_cons d [] u = tt
up_cons d (p ∷ l) u = (
  λ q i.
      let s = map_in (λ (r : List ℕ). d ∷ r) l q i in
      subst (λ (x : List ℕ). T (earlier (d ∷ p) x)) (sym s.2) (cons-earlier d p s.0 (u.0 s.0 s.1)),
  up_cons d l u.1,
)

-- Each stands before the next, and has its place once.
pub up_next : (l : List (List ℕ)) (k : ℕ) → Up l → suc k < length l → T (earlier (get_or l k []) (get_or l (suc k) []))
up_next [] k u h = let z : ⊥ = omega arith in absurd z
up_next (p ∷ l) zero u h = u.0 (get_or l 0 []) (in_get_or l 0 [] (omega arith))
up_next (p ∷ l) (suc k) u h = up_next l k u.1 (omega arith)

pub up_index : (d : Discrete (List ℕ)) (l : List (List ℕ)) (k : ℕ) → Up l → k < length l → index d (get_or l k []) l ≡ k
up_index d [] k u h = let z : ⊥ = omega arith in absurd z
up_index d (p ∷ l) zero u h = pick_yes _ _ (d p p) refl
up_index d (p ∷ l) (suc k) u h =
    let q = get_or l k [] in
    let b = u.0 q (in_get_or l k [] (omega arith)) in
    pick_no _ _ (d q p) (λ e. earlier_irrefl p (subst (λ (x : List ℕ). T (earlier p x)) e b)) ∙ ap suc (up_index d l k u.1 (omega arith))

-- Rising lists with the same members are equal.
abbrev pub Within : List (List ℕ) → List (List ℕ) → Type 0
Within l m = (p : List ℕ) → In p l → In p m

same_first : (p q : List ℕ) (l m : List (List ℕ)) → Before p l → Before q m → In p (q ∷ m) → In q (p ∷ l) → p ≡ q
same_first p q l m u v (inl e) j = e
same_first p q l m u v (inr i) (inl e) = sym e
same_first p q l m u v (inr i) (inr j) = absurd (earlier_irrefl p (earlier_trans p q p (u q j) (v p i)))

rest_within : (p q : List ℕ) (l m : List (List ℕ)) → p ≡ q → Before p l → Within (p ∷ l) (q ∷ m) → Within l m
rest_within p q l m e u w r i =
    elim (w r (inr i)) [
      | inl f ↦ absurd (earlier_irrefl p (subst (λ (x : List ℕ). T (earlier p x)) (f ∙ sym e) (u r i)))
      | inr j ↦ j
    ]

pub up_unique : (l m : List (List ℕ)) → Up l → Up m → Within l m → Within m l → l ≡ m
up_unique [] [] u v f g = refl
up_unique [] (q ∷ m) u v f g = absurd (g q (inl refl))
up_unique (p ∷ l) [] u v f g = absurd (f p (inl refl))
up_unique (p ∷ l) (q ∷ m) u v f g =
    let e = same_first p q l m u.0 v.0 (f p (inl refl)) (g q (inl refl)) in
    ap₂ ◌∷◌ e (up_unique l m u.1 v.1 (rest_within p q l m e u.0 f) (rest_within q p m l (sym e) v.0 g))
