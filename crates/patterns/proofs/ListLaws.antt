-- Laws of membership, and of numbers in so many places. Assumes nothing.
use mathlib.Core.Path.{◌≡◌, refl, sym, ap, ◌∙◌}
use mathlib.Core.Logic.{◌⊎◌, inl, inr}
use mathlib.Core.List.{List, [], ◌∷◌, ◌++◌, map}
use Prim.Native.Nat.{ℕ, zero, suc, ◌+◌, ◌≤◌, ◌<◌}
use native.Mathlib.Numerals.{add-one}
use native.Mathlib.Omega.{arith}
use lib.ListN.{length, get_or, take, drop}
use lib.Seq.{drop-cons}
use Rattle.patterns.specs.Lists.{In, All}
use Rattle.patterns.specs.Outcome.{padded}

-- Membership in joined and mapped lists.
pub in_left : {A : Type 0} (x : A) (xs ys : List A) → In x xs → In x (xs ++ ys)
in_left x [] ys i = absurd i
in_left x (z ∷ xs) ys (inl p) = inl p
in_left x (z ∷ xs) ys (inr i) = inr (in_left x xs ys i)

pub in_right : {A : Type 0} (x : A) (xs ys : List A) → In x ys → In x (xs ++ ys)
in_right x [] ys i = i
in_right x (z ∷ xs) ys i = inr (in_right x xs ys i)

pub in_map : {A B : Type 0} (f : A → B) (x : A) (l : List A) → In x l → In (f x) (map f l)
in_map f x [] i = absurd i
in_map f x (y ∷ l) (inl p) = inl (ap f p)
in_map f x (y ∷ l) (inr i) = inr (in_map f x l i)

pub in_append : {A : Type 0} (x : A) (xs ys : List A) → In x (xs ++ ys) → In x xs ⊎ In x ys
in_append x [] ys i = inr i
in_append x (z ∷ xs) ys (inl p) = inl (inl p)
in_append x (z ∷ xs) ys (inr i) = elim (in_append x xs ys i) [ inl j ↦ inl (inr j) | inr j ↦ inr j ]

pub map_in : {A B : Type 0} (f : A → B) (l : List A) (y : B) → In y (map f l) → (x : A) × In x l × (y ≡ f x)
map_in f [] y i = absurd i
map_in f (x ∷ l) y (inl p) = (x, inl refl, p)
map_in f (x ∷ l) y (inr i) =
    let s = map_in f l y i in
    (s.0, inr s.1, s.2)

-- What holds of each element.
pub all_of : {A : Type 0} (P : A → Type 0) (l : List A) → ((x : A) → In x l → P x) → All P l
all_of P [] f = tt
all_of P (x ∷ l) f = (f x (inl refl), all_of P l (λ y i. f y (inr i)))

-- What stands at a place of a list is in it.
pub in_get_or : {A : Type 0} (l : List A) (k : ℕ) (e : A) → k < length l → In (get_or l k e) l
in_get_or [] k e h = absurd (omega arith)
in_get_or (x ∷ l) zero e h = inl refl
in_get_or (x ∷ l) (suc k) e h = inr (in_get_or l k e (omega arith))

-- What stands at a place of a mapped list.
pub map_at : {A B : Type 0} (f : A → B) (l : List A) (k : ℕ) (e : A) (o : B) → k < length l → get_or (map f l) k o ≡ f (get_or l k e)
map_at f [] k e o h = let z : ⊥ = omega arith in absurd z
map_at f (x ∷ l) zero e o h = refl
map_at f (x ∷ l) (suc k) e o h = map_at f l k e o (omega arith)

pub length-padded : (w : ℕ) (ns : List ℕ) → length (padded w ns) ≡ w
length-padded zero ns = refl
length-padded (suc w) [] = ap suc (length-padded w [])
length-padded (suc w) (n ∷ ns) = ap suc (length-padded w ns)

pub padded_at : (n : ℕ) (p : List ℕ) (i : ℕ) → i < n → get_or (padded n p) i 0 ≡ get_or p i 0
padded_at zero p i h = absurd (omega arith)
padded_at (suc n) [] zero h = refl
padded_at (suc n) [] (suc i) h = padded_at n [] i (omega arith)
padded_at (suc n) (d ∷ p) zero h = refl
padded_at (suc n) (d ∷ p) (suc i) h = padded_at n p i (omega arith)

-- The n numbers from a place on, each by its place.
abbrev pub up_from : List ℕ → ℕ → ℕ → List ℕ
up_from l at zero = []
up_from l at (suc n) = get_or l at 0 ∷ up_from l (at + 1) n

pub numbers-from : (l : List ℕ) (at n : ℕ) → at + n ≤ length l → take n (drop at l) ≡ up_from l at n
numbers-from l at zero h = refl
numbers-from l at (suc n) h =
    let k : at < length l = omega arith in
    let e : at + 1 ≡ suc at = add-one at in
    ap (take (suc n)) (drop-cons l at 0 k) ∙ ap (λ (r : List ℕ). get_or l at 0 ∷ r) (ap (λ (i : ℕ). take n (drop i l)) (sym e) ∙ numbers-from l (at + 1) n (omega arith))
