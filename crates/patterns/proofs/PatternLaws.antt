-- Laws of `index`, `add`, `add_all` and `pattern`, over any type whose equality is decided. Assumes nothing.
use mathlib.Core.Path.{◌≡◌, refl, sym, ◌∙◌, ap, ap₂, subst, subst₂}
use mathlib.Core.Logic.{◌⊎◌, inl, inr, ◌↔◌}
use mathlib.Core.List.{List, [], ◌∷◌, ◌++◌, map}
use Prim.Native.Nat.{ℕ, zero, suc, ◌+◌, ◌≤◌, ◌<◌, max}
use native.Mathlib.Nat.{add-zero, zero-add, add-suc, suc-add}
use native.Mathlib.Omega.{arith}
use lib.ListN.{length, get_or, drop, length-map}
use lib.Seq.{drop-cons}
use Rattle.patterns.specs.Lists.{In, All}
use Rattle.patterns.specs.Pattern.{pick, index, add, add_all, pattern}
use Rattle.patterns.proofs.ListLaws.{in_get_or, map_at}

pub pick_iff : {P Q A : Type 0} (a b : A) → (P → Q) → (Q → P) → (p : Dec P) (q : Dec Q) → pick p a b ≡ pick q a b
pick_iff a b f g (yes p) (yes q) = refl
pick_iff a b f g (yes p) (no h) = absurd (h (f p))
pick_iff a b f g (no h) (yes q) = absurd (h (g q))
pick_iff a b f g (no h) (no k) = refl

pub pick_yes : {P A : Type 0} (a b : A) (p : Dec P) → P → pick p a b ≡ a
pick_yes a b (yes p) q = refl
pick_yes a b (no h) q = absurd (h q)

pub pick_no : {P A : Type 0} (a b : A) (p : Dec P) → (P → ⊥) → pick p a b ≡ b
pick_no a b (yes p) k = absurd (k p)
pick_no a b (no h) k = refl

-- The places k, k + 1, and so on, n of them.
abbrev pub places : ℕ → ℕ → List ℕ
places k zero = []
places k (suc n) = k ∷ places (suc k) n

pub all_places : (P : ℕ → Type 0) (k n : ℕ) → ((j : ℕ) → j < n → P (k + j)) → All P (places k n)
all_places P k zero h = tt
all_places P k (suc n) h =
    (rw add-zero at (h 0 (omega arith)), all_places P (suc k) n (λ j l. subst P (add-suc k j ∙ sym (suc-add k j)) (h (suc j) (omega arith))))

-- A list is what stands at its places.
pub map-places : {A : Type 0} (f : ℕ → A) (e : A) (l : List A) (k : ℕ) → ((j : ℕ) → j < length l → f (k + j) ≡ get_or l j e)
    → map f (places k (length l)) ≡ l
map-places f e [] k h = refl
map-places f e (x ∷ l) k h =
    ap₂ ◌∷◌ (rw add-zero at (h 0 (omega arith)))
    (map-places f e l (suc k) (λ j m. ap f (suc-add k j ∙ sym (add-suc k j)) ∙ h (suc j) (omega arith)))

module _ {A : Type 0} (d : Discrete A) where
  -- The place tells the element.
  pub index_inj : (x y : A) (l : List A) → In x l → index d x l ≡ index d y l → x ≡ y
  index_inj x y [] m e = absurd m
  index_inj x y (z ∷ l) m e = go (d x z) (d y z) (λ k. index_inj x y l k) m e
    where
      go : (p : Dec (x ≡ z)) (q : Dec (y ≡ z)) → (In x l → index d x l ≡ index d y l → x ≡ y)
          → (x ≡ z) ⊎ In x l → pick p zero (suc (index d x l)) ≡ pick q zero (suc (index d y l)) → x ≡ y
      go (yes p) (yes q) ih m e = cc
      go (yes p) (no k) ih m e = absurd (omega arith)
      go (no h) (yes q) ih m e = absurd (omega arith)
      go (no h) (no k) ih (inl p) e = absurd (h p)
      go (no h) (no k) ih (inr m) e = ih m (omega arith)

  pub index-lt : (x : A) (l : List A) → In x l → index d x l < length l
  index-lt x [] m = absurd m
  index-lt x (z ∷ l) m = go (d x z) (λ k. index-lt x l k) m
    where
      go : (p : Dec (x ≡ z)) → (In x l → index d x l < length l) → (x ≡ z) ⊎ In x l → pick p zero (suc (index d x l)) < suc (length l)
      go (yes p) ih m = omega arith
      go (no h) ih (inl p) = absurd (h p)
      go (no h) ih (inr m) = let k = ih m in omega arith

  pub in_index : (x : A) (l : List A) → index d x l < length l → In x l
  in_index x [] h = absurd (omega arith)
  in_index x (z ∷ l) h = go (d x z) (λ k. in_index x l k) h
    where
      go : (p : Dec (x ≡ z)) → (index d x l < length l → In x l) → pick p zero (suc (index d x l)) < suc (length l) → (x ≡ z) ⊎ In x l
      go (yes p) ih h = inl p
      go (no n) ih h = inr (ih (omega arith))

  pub index-le : (x : A) (l : List A) → index d x l ≤ length l
  index-le x [] = omega arith
  index-le x (z ∷ l) = go (d x z) (index-le x l)
    where
      go : (p : Dec (x ≡ z)) → index d x l ≤ length l → pick p zero (suc (index d x l)) ≤ suc (length l)
      go (yes p) ih = omega arith
      go (no h) ih = omega arith

  -- The place in joined lists.
  pub index_left : (x : A) (xs ys : List A) → In x xs → index d x (xs ++ ys) ≡ index d x xs
  index_left x [] ys m = absurd m
  index_left x (z ∷ xs) ys m = go (d x z) (λ k. index_left x xs ys k) m
    where
      go : (p : Dec (x ≡ z)) → (In x xs → index d x (xs ++ ys) ≡ index d x xs) → (x ≡ z) ⊎ In x xs
          → pick p zero (suc (index d x (xs ++ ys))) ≡ pick p zero (suc (index d x xs))
      go (yes p) ih m = refl
      go (no h) ih (inl p) = absurd (h p)
      go (no h) ih (inr m) = ap suc (ih m)

  pub index_right : (x : A) (xs ys : List A) → (In x xs → ⊥) → index d x (xs ++ ys) ≡ length xs + index d x ys
  index_right x [] ys n = sym (zero-add (index d x ys))
  index_right x (z ∷ xs) ys n =
      pick_no _ _ (d x z) (λ e. n (inl e)) ∙ ap suc (index_right x xs ys (λ m. n (inr m))) ∙ sym (suc-add (length xs) (index d x ys))

  -- What stands at an element's place is the element.
  pub get_or-index : (x : A) (l : List A) (e : A) → In x l → get_or l (index d x l) e ≡ x
  get_or-index x [] e m = absurd m
  get_or-index x (z ∷ l) e m = go (d x z) (λ k. get_or-index x l e k) m
    where
      go : (p : Dec (x ≡ z)) → (In x l → get_or l (index d x l) e ≡ x) → (x ≡ z) ⊎ In x l
          → get_or (z ∷ l) (pick p zero (suc (index d x l))) e ≡ x
      go (yes p) ih m = sym p
      go (no h) ih (inl p) = absurd (h p)
      go (no h) ih (inr m) = ih m

  -- The place is the first.
  pub index_first : (l : List A) (k : ℕ) (e : A) → k < length l → index d (get_or l k e) l ≤ k
  index_first [] k e h = let z : ⊥ = omega arith in absurd z
  index_first (z ∷ l) zero e h = go (d z z)
    where
      go : (p : Dec (z ≡ z)) → pick p zero (suc (index d z l)) ≤ 0
      go (yes p) = omega arith
      go (no h) = absurd (h refl)
  index_first (z ∷ l) (suc k) e h = go (d (get_or l k e) z) (index_first l k e (omega arith))
    where
      go : (p : Dec (get_or l k e ≡ z)) → index d (get_or l k e) l ≤ k → pick p zero (suc (index d (get_or l k e) l)) ≤ suc k
      go (yes p) ih = omega arith
      go (no h) ih = omega arith

  -- What stands at k, and nowhere before, has the place k.
  pub index_is : (x : A) (l : List A) (k : ℕ) (e : A) → k < length l → get_or l k e ≡ x → ((j : ℕ) → j < k → get_or l j e ≡ x → ⊥)
      → index d x l ≡ k
  index_is x l k e h q n =
      let m : In x l = subst (λ (y : A). In y l) q (in_get_or l k e h) in
      let f : index d x l ≤ k = subst (λ (y : A). index d y l ≤ k) q (index_first l k e h) in
      let g : index d x l < k → ⊥ = λ b. n (index d x l) b (get_or-index x l e m) in
      omega arith

  pub index_here : (x : A) (l : List A) (k : ℕ) (e : A) → k < length l → get_or l k e ≡ x → index d x (drop k l) ≡ 0
  index_here x l k e h q = rw (drop-cons l k e h) (pick_yes _ _ (d x (get_or l k e)) (sym q))

  pub index_next : (x : A) (l : List A) (k : ℕ) (e : A) → k < length l → (get_or l k e ≡ x → ⊥)
      → index d x (drop k l) ≡ suc (index d x (drop (suc k) l))
  index_next x l k e h n = rw (drop-cons l k e h) (pick_no _ _ (d x (get_or l k e)) (λ q. n (sym q)))

  pub add_self : (x : A) (l : List A) → In x (add d x l)
  add_self x [] = inl refl
  add_self x (z ∷ l) = go (d x z) (add_self x l)
    where
      go : (p : Dec (x ≡ z)) → In x (add d x l) → In x (pick p (z ∷ l) (z ∷ add d x l))
      go (yes p) ih = inl p
      go (no h) ih = inr ih

  pub add_keeps : (x y : A) (l : List A) → In y l → In y (add d x l)
  add_keeps x y [] m = absurd m
  add_keeps x y (z ∷ l) m = go (d x z) (λ k. add_keeps x y l k) m
    where
      go : (p : Dec (x ≡ z)) → (In y l → In y (add d x l)) → (y ≡ z) ⊎ In y l → In y (pick p (z ∷ l) (z ∷ add d x l))
      go (yes p) ih m = m
      go (no h) ih (inl q) = inl q
      go (no h) ih (inr m) = inr (ih m)

  -- One element more, or none: the length is the larger of the old one and the element's place from 1.
  pub length-add : (x : A) (l : List A) → length (add d x l) ≡ max (length l) (suc (index d x l))
  length-add x [] = refl
  length-add x (z ∷ l) = go (d x z) (length-add x l) (index-le x l)
    where
      go : (p : Dec (x ≡ z)) → length (add d x l) ≡ max (length l) (suc (index d x l)) → index d x l ≤ length l
          → length (pick p (z ∷ l) (z ∷ add d x l)) ≡ max (suc (length l)) (suc (pick p zero (suc (index d x l))))
      go (yes p) ih b = omega arith
      go (no h) ih b = omega arith

  pub length-add-le : (x : A) (l : List A) → length (add d x l) ≤ suc (length l)
  length-add-le x l = omega (arith, length-add x l, index-le x l)

  pub add_all_keeps : (y : A) (xs l : List A) → In y l → In y (add_all d xs l)
  add_all_keeps y [] l m = m
  add_all_keeps y (x ∷ xs) l m = add_all_keeps y xs (add d x l) (add_keeps x y l m)

  pub add_all-has : (y : A) (xs l : List A) → In y xs → In y (add_all d xs l)
  add_all-has y [] l m = absurd m
  add_all-has y (x ∷ xs) l (inl p) = add_all_keeps y xs (add d x l) (subst (λ (z : A). In y (add d z l)) p (add_self y l))
  add_all-has y (x ∷ xs) l (inr m) = add_all-has y xs (add d x l) m

  pub length-add_all : (xs l : List A) → length (add_all d xs l) ≤ length xs + length l
  length-add_all [] l = omega arith
  length-add_all (x ∷ xs) l = omega (arith, length-add_all xs (add d x l), length-add-le x l)

  -- An element has the place that it gets where it is added, and keeps it.
  pub index-add_self : (x : A) (l : List A) → index d x (add d x l) ≡ index d x l
  index-add_self x [] = pick_yes _ _ (d x x) refl
  index-add_self x (z ∷ l) = go (d x z) (index-add_self x l)
    where
      go : (p : Dec (x ≡ z)) → index d x (add d x l) ≡ index d x l
          → index d x (pick p (z ∷ l) (z ∷ add d x l)) ≡ pick p zero (suc (index d x l))
      go (yes p) ih = pick_yes _ _ (d x z) p
      go (no h) ih = pick_no _ _ (d x z) h ∙ ap suc ih

  pub index-add : (x y : A) (l : List A) → In y l → index d y (add d x l) ≡ index d y l
  index-add x y [] m = absurd m
  index-add x y (z ∷ l) m = go (d x z) (d y z) (λ k. index-add x y l k) m
    where
      go : (p : Dec (x ≡ z)) (q : Dec (y ≡ z)) → (In y l → index d y (add d x l) ≡ index d y l) → (y ≡ z) ⊎ In y l
          → index d y (pick p (z ∷ l) (z ∷ add d x l)) ≡ index d y (z ∷ l)
      go (yes p) q ih m = refl
      go (no h) (yes q) ih m = pick_yes _ _ (d y z) q ∙ sym (pick_yes _ _ (d y z) q)
      go (no h) (no k) ih (inl e) = absurd (k e)
      go (no h) (no k) ih (inr m) = rw (ih m)

  pub index-add_all : (y : A) (xs l : List A) → In y l → index d y (add_all d xs l) ≡ index d y l
  index-add_all y [] l m = refl
  index-add_all y (x ∷ xs) l m = index-add_all y xs (add d x l) (add_keeps x y l m) ∙ index-add x y l m

  -- What is in no place stays out where another is added.
  pub index-add_other : (x y : A) (l : List A) → (y ≡ x → ⊥) → index d y l ≡ length l → index d y (add d x l) ≡ length (add d x l)
  index-add_other x y [] n e = pick_no _ _ (d y x) n
  index-add_other x y (z ∷ l) n e = go (d x z) (d y z) (λ k. index-add_other x y l n k) e
    where
      go : (p : Dec (x ≡ z)) (q : Dec (y ≡ z)) → (index d y l ≡ length l → index d y (add d x l) ≡ length (add d x l))
          → pick q zero (suc (index d y l)) ≡ suc (length l)
          → index d y (pick p (z ∷ l) (z ∷ add d x l)) ≡ length (pick p (z ∷ l) (z ∷ add d x l))
      go p (yes q) ih e = absurd (omega arith)
      go (yes p) (no k) ih e = pick_no _ _ (d y z) k ∙ e
      go (no h) (no k) ih e = pick_no _ _ (d y z) k ∙ ap suc (ih (omega arith))

  -- The digits, one after the other: each field's place among those seen before, from 1.
  abbrev pub digits_from : List A → List A → List ℕ
  digits_from seen [] = []
  digits_from seen (x ∷ xs) = suc (index d x seen) ∷ digits_from (add d x seen) xs

  pub digits_from_lem : (seen xs : List A) → map (λ x. suc (index d x (add_all d xs seen))) xs ≡ digits_from seen xs
  digits_from_lem seen [] = refl
  digits_from_lem seen (x ∷ xs) =
      ap₂ ◌∷◌ (ap suc (index-add_all x xs (add d x seen) (add_self x seen) ∙ index-add_self x seen)) (digits_from_lem (add d x seen) xs)

  pub pattern_from : (xs : List A) → pattern d xs ≡ digits_from [] xs
  pattern_from xs = digits_from_lem [] xs

  -- The digit of a field.
  abbrev pub digit : List A → A → ℕ
  digit xs x = suc (index d x (add_all d xs []))

  pub length-pattern : (xs : List A) → length (pattern d xs) ≡ length xs
  length-pattern xs = length-map xs (digit xs)

  pub digit_inj : (xs : List A) (x y : A) → In x xs → digit xs x ≡ digit xs y → x ≡ y
  digit_inj xs x y m e = index_inj x y (add_all d xs []) (add_all-has x xs [] m) (omega arith)

  pub digit_le : (xs : List A) (x : A) → In x xs → digit xs x ≤ length xs
  digit_le xs x m = omega (arith, index-lt x (add_all d xs []) (add_all-has x xs [] m), length-add_all xs [])

  pub get_or-pattern : (xs : List A) (k : ℕ) (e : A) → k < length xs → get_or (pattern d xs) k 0 ≡ digit xs (get_or xs k e)
  get_or-pattern xs k e h = map_at (digit xs) xs k e 0 h

  -- The digits of two places are equal exactly when the fields are.
  pub digits_same : (xs : List A) (i j : ℕ) (e : A) → i < length xs → j < length xs
      → (get_or (pattern d xs) i 0 ≡ get_or (pattern d xs) j 0) ↔ (get_or xs i e ≡ get_or xs j e)
  digits_same xs i j e l m =
      let p = get_or-pattern xs i e l in
      let q = get_or-pattern xs j e m in
      (λ s. digit_inj xs (get_or xs i e) (get_or xs j e) (in_get_or xs i e l) (sym p ∙ s ∙ q), λ f. p ∙ ap (digit xs) f ∙ sym q)

-- A map that keeps different elements different keeps places.
pub index-map : {A B : Type 0} (d_a : Discrete A) (d_b : Discrete B) (f : A → B) → ((x y : A) → f x ≡ f y → x ≡ y) → (x : A) (l : List A)
    → index d_b (f x) (map f l) ≡ index d_a x l
index-map d_a d_b f inj x [] = refl
index-map d_a d_b f inj x (y ∷ l) =
    rw (index-map d_a d_b f inj x l) (pick_iff zero (suc (index d_a x l)) (inj x y) (ap f) (d_b (f x) (f y)) (d_a x y))

-- A pattern depends on nothing but which places are equal.
module _ {I A B : Type 0} (d_a : Discrete A) (d_b : Discrete B) (g : I → A) (h : I → B) (P : I → Type 0)
    (to : (i j : I) → P i → P j → g i ≡ g j → h i ≡ h j) (from : (i j : I) → P i → P j → h i ≡ h j → g i ≡ g j) where
  same_index : (i : I) → P i → (l : List I) → All P l → index d_a (g i) (map g l) ≡ index d_b (h i) (map h l)
  same_index i p [] a = refl
  same_index i p (j ∷ l) a =
      rw (same_index i p l a.1)
      (pick_iff zero (suc (index d_b (h i) (map h l))) (to i j p a.0) (from i j p a.0) (d_a (g i) (g j)) (d_b (h i) (h j)))

  -- What both sides have seen is seen through one list.
  abbrev Added : List A → List B → Type 0
  Added us bs = (r : List I) × All P r × (us ≡ map g r) × (bs ≡ map h r)

  same_add : (i : I) → P i → (l : List I) → All P l → Added (add d_a (g i) (map g l)) (add d_b (h i) (map h l))
  same_add i p [] a = (i ∷ [], (p, tt), refl, refl)
  same_add i p (j ∷ l) a = go (d_a (g i) (g j)) (d_b (h i) (h j)) (same_add i p l a.1)
    where
      go : (u : Dec (g i ≡ g j)) (v : Dec (h i ≡ h j)) → Added (add d_a (g i) (map g l)) (add d_b (h i) (map h l))
          → Added (pick u (map g (j ∷ l)) (g j ∷ add d_a (g i) (map g l))) (pick v (map h (j ∷ l)) (h j ∷ add d_b (h i) (map h l)))
      go (yes u) (yes v) s = (j ∷ l, a, refl, refl)
      go (yes u) (no v) s = absurd (v (to i j p a.0 u))
      go (no u) (yes v) s = absurd (u (from i j p a.0 v))
      go (no u) (no v) s = (j ∷ s.0, (a.0, s.1), rw s.2, rw s.3)

  same_add_all : (is l : List I) → All P is → All P l → Added (add_all d_a (map g is) (map g l)) (add_all d_b (map h is) (map h l))
  same_add_all [] l a b = (l, b, refl, refl)
  same_add_all (i ∷ is) l a b =
      let s = same_add i a.0 l b in
      subst₂ (λ (us : List A) (vs : List B). Added (add_all d_a (map g is) us) (add_all d_b (map h is) vs)) (sym s.2) (sym s.3)
      (same_add_all is s.0 a.1 s.1)

  same_digits : (r is : List I) → All P r → All P is
      → map (λ x. suc (index d_a x (map g r))) (map g is) ≡ map (λ x. suc (index d_b x (map h r))) (map h is)
  same_digits r [] a b = refl
  same_digits r (i ∷ is) a b = rw (same_index i b.0 r a, same_digits r is a b.1)

  pub same_pattern : (is : List I) → All P is → pattern d_a (map g is) ≡ pattern d_b (map h is)
  same_pattern is a =
      let s = same_add_all is [] a tt in
      rw (s.2, s.3) (same_digits s.0 is s.1 a)

-- Two records have the same pattern exactly when the same places are equal.
module _ {A B : Type 0} (d_a : Discrete A) (d_b : Discrete B) (xs : List A) (ys : List B) (a : A) (b : B) (e : length xs ≡ length ys) where
  pub same_places : ((i j : ℕ) → i < length xs → j < length xs → (get_or xs i a ≡ get_or xs j a) ↔ (get_or ys i b ≡ get_or ys j b))
      → pattern d_a xs ≡ pattern d_b ys
  same_places h =
      let n = length xs in
      let f : map (λ i. get_or xs i a) (places 0 n) ≡ xs = map-places (λ i. get_or xs i a) a xs 0 (λ j l. ap (λ k. get_or xs k a) (zero-add j)) in
      let g : map (λ i. get_or ys i b) (places 0 n) ≡ ys
      = ap (λ k. map (λ i. get_or ys i b) (places 0 k)) e ∙ map-places (λ i. get_or ys i b) b ys 0 (λ j l. ap (λ k. get_or ys k b) (zero-add j)) in
      sym (ap (pattern d_a) f)
      ∙ same_pattern d_a d_b (λ i. get_or xs i a) (λ i. get_or ys i b) (λ i. i < n) (λ i j p q. (h i j p q).0) (λ i j p q. (h i j p q).1) (places 0 n)
      (all_places (λ i. i < n) 0 n (λ j l. subst (λ k. k < n) (sym (zero-add j)) l))
      ∙ ap (pattern d_b) g

  pub pattern-places : pattern d_a xs ≡ pattern d_b ys → (i j : ℕ) → i < length xs → j < length xs
      → (get_or xs i a ≡ get_or xs j a) ↔ (get_or ys i b ≡ get_or ys j b)
  pattern-places h i j l m =
      let p = digits_same d_a xs i j a l m in
      let q = digits_same d_b ys i j b (omega arith) (omega arith) in
      let hi = ap (λ t. get_or t i 0) h in
      let hj = ap (λ t. get_or t j 0) h in
      (λ u. q.0 (sym hi ∙ p.1 u ∙ hj), λ v. p.0 (hi ∙ q.1 v ∙ sym hj))
