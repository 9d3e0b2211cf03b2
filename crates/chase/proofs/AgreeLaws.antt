-- Fields agree with marks just if there are as many and they are equal wherever the marks are. Assumes nothing.
use mathlib.Core.Path.{◌≡◌, refl, sym, subst}
use mathlib.Core.List.{List, [], ◌∷◌}
use mathlib.Core.Option.{Option, none, some, none-ne-some}
use Prim.Native.Nat.{ℕ, suc}
use native.Mathlib.Decide.{ℕ_discrete}
use native.Mathlib.Omega.{arith}
use lib.ListN.{length, get_elem?}
use Rattle.patterns.specs.Pattern.{pick}
use Rattle.chase.specs.Lists.{All2}
use Rattle.chase.specs.Rules.{nth}
use Rattle.chase.specs.Making.{value_of, Agree}
use Rattle.chase.proofs.ListLaws.{maps_each, each_maps}
use Rattle.chase.proofs.MakingLaws.{OptR, mark_has_value}
use Rattle.chase.proofs.StepLaws.{nth_in, nth_rel}

-- What holds of the elements at each place holds place by place.
places_each : {A B : Type 0} (R : A → B → Type 0) (xs : List A) (ys : List B) → length xs ≡ length ys
    → ((i : ℕ) (x : A) (y : B) → get_elem? xs i ≡ some x → get_elem? ys i ≡ some y → R x y) → All2 R xs ys
places_each R [] [] e f = tt
places_each R [] (y ∷ ys) e f = omega arith
places_each R (x ∷ xs) [] e f = omega arith
places_each R (x ∷ xs) (y ∷ ys) e f = (f 0 x y refl refl, places_each R xs ys (omega arith) (λ i u v p q. f (suc i) u v p q))

module _ {A : Type 0} where
  -- The value of a mark stands at a place of this mark.
  value_of-place : (marks : List ℕ) (fields : List A) (m : ℕ) (x : A) → value_of marks fields m ≡ some x
      → (i : ℕ) × (get_elem? marks i ≡ some m) × (get_elem? fields i ≡ some x)
  value_of-place [] fields m x e = absurd (none-ne-some x e)
  value_of-place (b ∷ bs) [] m x e = absurd (none-ne-some x e)
  value_of-place (b ∷ bs) (y ∷ ys) m x e = go (ℕ_discrete m b) e (λ k. value_of-place bs ys m x k)
    where
      go : (p : Dec (m ≡ b)) → pick p (some y) (value_of bs ys m) ≡ some x
          → (value_of bs ys m ≡ some x → (i : ℕ) × (get_elem? bs i ≡ some m) × (get_elem? ys i ≡ some x))
          → (i : ℕ) × (get_elem? (b ∷ bs) i ≡ some m) × (get_elem? (y ∷ ys) i ≡ some x)
      go (yes p) e ih = (0, cc, cc)
      go (no h) e ih = let s = ih e in (suc s.0, s.1, s.2)

module _ {A : Type 0} (marks : List ℕ) (fields : List A) where
  -- A field is the value of its mark.
  abbrev Is : ℕ → A → Type 0
  Is m x = value_of marks fields m ≡ some x

  pub agree_places : Agree marks fields → (i j : ℕ) → nth marks i ≡ nth marks j → nth fields i ≡ nth fields j
  agree_places a i j e =
      let each = maps_each (value_of marks fields) some marks fields a in
      go (nth marks i) (nth fields i) (nth fields j) (nth_rel Is marks fields i each)
      (subst (λ (o : Option ℕ). OptR Is o (nth fields j)) (sym e) (nth_rel Is marks fields j each))
    where
      go : (o : Option ℕ) (p q : Option A) → OptR Is o p → OptR Is o q → p ≡ q
      go none none none r s = refl
      go none none (some y) r s = absurd s
      go none (some x) q r s = absurd r
      go (some m) none q r s = absurd r
      go (some m) (some x) none r s = absurd s
      go (some m) (some x) (some y) r s = cc

  pub places_agree : length marks ≡ length fields → ((i j : ℕ) → nth marks i ≡ nth marks j → nth fields i ≡ nth fields j) → Agree marks fields
  places_agree l f =
      each_maps (value_of marks fields) some marks fields
      (places_each Is marks fields l
      (λ i m x p q.
      let v = mark_has_value marks fields m l (nth_in marks (suc i) m p) in
      let s = value_of-place marks fields m v.0 v.1 in
      let e = f (suc i) (suc s.0) cc in
      cc))
