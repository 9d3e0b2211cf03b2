-- Laws of lists: what `add` and `add_all` append, places of elements, and lists with no element twice. Assumes nothing.
use mathlib.Core.Path.{◌≡◌, refl, sym, ◌∙◌, ap, subst}
use mathlib.Core.Bool.{false≢true}
use mathlib.Core.Logic.{inl, inr}
use mathlib.Core.List.{List, [], ◌∷◌, ◌++◌, map, append-nil, append_assoc}
use mathlib.Core.Option.{none, some}
use Prim.Native.Nat.{ℕ, zero, suc, ◌+◌, ◌≤◌, ◌<◌}
use native.Mathlib.Omega.{arith}
use lib.ListN.{length, get_or, get_elem?, length-append}
use Rattle.patterns.specs.Pattern.{pick, index, add, add_all}
use Rattle.patterns.proofs.ListLaws.{in_get_or}
use Rattle.patterns.proofs.PatternLaws.{pick_yes, pick_no}
use Rattle.chase.specs.Lists.{In}
use Rattle.chase.specs.Counting.{NoTwo}
use Rattle.chase.proofs.ListLaws.{in_left, map_in, in_append, in_place_lem, in_add}
use Rattle.chase.proofs.CountLaws.{element_below}

-- What begins with a list.
pub record Begins {A : Type 0} (l more : List A) : Type 0 where
  pub rest : List A
  pub joined : more ≡ l ++ rest

module _ {A : Type 0} where
  pub begins_self : (l : List A) → Begins l l
  begins_self l = record { rest = []; joined = sym (append-nil l) }

  pub begins_trans : (l m n : List A) → Begins l m → Begins m n → Begins l n
  begins_trans l m n p q =
      record {
        rest = p.rest ++ q.rest;
        joined = q.joined ∙ ap (λ (k : List A). k ++ q.rest) p.joined ∙ append_assoc l p.rest q.rest;
      }

  pub begins-length : (l m : List A) → Begins l m → length l ≤ length m
  begins-length l m p = omega (arith, ap length p.joined, length-append l p.rest)

  pub begins_in : (l m : List A) → Begins l m → (x : A) → In x l → In x m
  begins_in l m p x i = rw p.joined (in_left x l p.rest i)

  element_left : (l m : List A) (i : ℕ) → i < length l → get_elem? (l ++ m) i ≡ get_elem? l i
  element_left [] m i h = absurd (omega arith)
  element_left (x ∷ l) m zero h = refl
  element_left (x ∷ l) m (suc i) h = element_left l m i (omega arith)

  -- What begins with a list has its elements at their places.
  pub begins_element : (l m : List A) → Begins l m → (i : ℕ) → i < length l → get_elem? m i ≡ get_elem? l i
  begins_element l m p i h = ap (λ (k : List A). get_elem? k i) p.joined ∙ element_left l p.rest i h

  -- An element of a list has a place in it.
  pub in_element : (l : List A) (x : A) → In x l → (i : ℕ) × (i < length l) × (get_elem? l i ≡ some x)
  in_element l x i = let (k, e) = in_place_lem x l i in (k, element_below l k x e, e)

  pub element_past : (l : List A) (i : ℕ) → length l ≤ i → get_elem? l i ≡ none
  element_past [] i h = refl
  element_past (x ∷ l) zero h = absurd (omega arith)
  element_past (x ∷ l) (suc i) h = element_past l i (omega arith)

  pub no_two_append : (xs ys : List A) → NoTwo xs → NoTwo ys → ((x : A) → In x xs → In x ys → ⊥) → NoTwo (xs ++ ys)
  no_two_append [] ys n m h = m
  no_two_append (x ∷ xs) ys n m h = (
    (λ i. elim (in_append x xs ys i) [ inl j ↦ n.0 j | inr j ↦ h x (inl refl) j ]),
    no_two_append xs ys n.1 m (λ y i j. h y (inr i) j),
  )

  pub no_two_last : (l : List A) (x : A) → NoTwo l → (In x l → ⊥) → NoTwo (l ++ (x ∷ []))
  no_two_last l x n h = no_two_append l (x ∷ []) n ((λ i. i), tt) (λ y i j. elim j [ inl q ↦ h (subst (λ (z : A). In z l) q i) | inr k ↦ k ])

-- A map that keeps different elements of a list different leaves none twice.
pub no_two_map : {A B : Type 0} (f : A → B) (l : List A) → ((x y : A) → In x l → In y l → f x ≡ f y → x ≡ y) → NoTwo l → NoTwo (map f l)
no_two_map f [] h n = tt
no_two_map {A = A} f (x ∷ l) h n = (
  (λ i. let s = map_in f l (f x) i in n.0 (subst (λ (y : A). In y l) (sym (h x s.0 (inl refl) (inr s.1) s.2)) s.1)),
  no_two_map f l (λ y z i j e. h y z (inr i) (inr j) e) n.1,
)

-- Such a map is one_to_one on lists of such elements.
pub map_injective : {A B : Type 0} (f : A → B) (xs ys : List A) → ((x y : A) → In x xs → In y ys → f x ≡ f y → x ≡ y) → map f xs ≡ map f ys → xs ≡ ys
map_injective f [] [] h e = refl
map_injective f [] (y ∷ ys) h e = absurd (false≢true cc)
map_injective f (x ∷ xs) [] h e = absurd (false≢true cc)
map_injective f (x ∷ xs) (y ∷ ys) h e =
    let p : x ≡ y = h x y (inl refl) (inl refl) cc in
    let q : xs ≡ ys = map_injective f xs ys (λ u v i j k. h u v (inr i) (inr j) k) cc in
    cc

module _ {A : Type 0} (d : Discrete A) where
  pub begins-add : (x : A) (l : List A) → Begins l (add d x l)
  begins-add x [] = record { rest = x ∷ []; joined = refl }
  begins-add x (y ∷ l) = go (d x y) (begins-add x l)
    where
      go : (p : Dec (x ≡ y)) → Begins l (add d x l) → Begins (y ∷ l) (pick p (y ∷ l) (y ∷ add d x l))
      go (yes p) b = begins_self (y ∷ l)
      go (no h) b = record { rest = b.rest; joined = ap (λ (k : List A). y ∷ k) b.joined }

  pub begins-add_all : (xs l : List A) → Begins l (add_all d xs l)
  begins-add_all [] l = begins_self l
  begins-add_all (x ∷ xs) l = begins_trans l (add d x l) (add_all d xs (add d x l)) (begins-add x l) (begins-add_all xs (add d x l))

  -- The place of an element of a list with none twice.
  pub index-get_or : (l : List A) (i : ℕ) (e : A) → NoTwo l → i < length l → index d (get_or l i e) l ≡ i
  index-get_or [] i e n h = absurd (omega arith)
  index-get_or (x ∷ l) zero e n h = pick_yes _ _ (d x x) refl
  index-get_or (x ∷ l) (suc i) e n h =
      pick_no _ _ (d (get_or l i e) x) (λ q. n.0 (subst (λ (y : A). In y l) q (in_get_or l i e (omega arith))))
      ∙ ap suc (index-get_or l i e n.1 (omega arith))

-- Adding goes through a map that keeps different elements different.
module _ {A B : Type 0} (d_a : Discrete A) (d_b : Discrete B) (f : A → B) (P : A → Type 0)
    (one_to_one : (x y : A) → P x → P y → f x ≡ f y → x ≡ y) where
  map-add : (x : A) (l : List A) → P x → ((y : A) → In y l → P y) → map f (add d_a x l) ≡ add d_b (f x) (map f l)
  map-add x [] p h = refl
  map-add x (y ∷ l) p h = go (d_a x y) (d_b (f x) (f y)) (map-add x l p (λ z i. h z (inr i)))
    where
      go : (u : Dec (x ≡ y)) (v : Dec (f x ≡ f y)) → map f (add d_a x l) ≡ add d_b (f x) (map f l)
          → map f (pick u (y ∷ l) (y ∷ add d_a x l)) ≡ pick v (map f (y ∷ l)) (f y ∷ add d_b (f x) (map f l))
      go (yes u) (yes v) ih = refl
      go (yes u) (no v) ih = absurd (v (ap f u))
      go (no u) (yes v) ih = absurd (u (one_to_one x y p (h y (inl refl)) v))
      go (no u) (no v) ih = ap (λ (k : List B). f y ∷ k) ih

  pub map-add_all : (xs l : List A) → ((y : A) → In y xs → P y) → ((y : A) → In y l → P y) → map f (add_all d_a xs l) ≡ add_all d_b (map f xs) (map f l)
  map-add_all [] l g h = refl
  map-add_all (x ∷ xs) l g h =
      map-add_all xs (add d_a x l) (λ y i. g y (inr i)) (λ y i. elim (in_add d_a x y l i) [ inl q ↦ subst P (sym q) (g x (inl refl)) | inr k ↦ h y k ])
      ∙ ap (λ (k : List B). add_all d_b (map f xs) k) (map-add x l (g x (inl refl)) h)
