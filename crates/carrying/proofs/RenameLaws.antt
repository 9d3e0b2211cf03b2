-- What a rule carries and makes goes through a renaming of the values. Assumes nothing.
use mathlib.Core.Path.{◌≡◌, refl, sym, ◌∙◌}
use mathlib.Core.List.{List, [], ◌∷◌, map, map-map}
use mathlib.Core.Option.{Option, none, some}
use Prim.Native.Nat.{ℕ}
use Rattle.chase.specs.Lists.{In, All2}
use Rattle.chase.specs.Rules.{Rule}
use Rattle.chase.specs.Making.{value_of, or_else, carried_values, makes}
use Rattle.chase.proofs.ListLaws.{map_same}
use Rattle.chase.proofs.MakingLaws.{OptR, value_of-map, carried_values_rel}

module _ {A B : Type 0} (f : A → B) where
  -- A list that is renamed place by place.
  abbrev Renamed : A → B → Type 0
  Renamed x y = y ≡ f x

  renamed : (xs : List A) → All2 Renamed xs (map f xs)
  renamed [] = tt
  renamed (x ∷ xs) = (refl, renamed xs)

  renamed_is : (xs : List A) (ys : List B) → All2 Renamed xs ys → ys ≡ map f xs
  renamed_is [] [] a = refl
  renamed_is [] (y ∷ ys) a = absurd a
  renamed_is (x ∷ xs) [] a = absurd a
  renamed_is (x ∷ xs) (y ∷ ys) a = cc (a.0, renamed_is xs ys a.1)

  pub carried_values-map : (r : Rule) (xs : List A) → carried_values r (map f xs) ≡ map f (carried_values r xs)
  carried_values-map r xs =
      renamed_is (carried_values r xs) (carried_values r (map f xs)) (carried_values_rel Renamed r xs (map f xs) (renamed xs))

  -- What is made of renamed fields is what is made, renamed, if new numbers are.
  pub makes-map : (new : ℕ → List A → A) (other : ℕ → List B → B) (r : Rule) (xs : List A) (marks : List ℕ)
      → ((m : ℕ) → In m marks → value_of r.marks xs m ≡ none → f (new m (carried_values r xs)) ≡ other m (carried_values r (map f xs)))
      → map f (makes new r xs marks) ≡ makes other r (map f xs) marks
  makes-map new other r xs marks h =
      map-map f (λ m. or_else (new m (carried_values r xs)) (value_of r.marks xs m)) marks
      ∙ map_same (λ m. f (or_else (new m (carried_values r xs)) (value_of r.marks xs m)))
      (λ m. or_else (other m (carried_values r (map f xs))) (value_of r.marks (map f xs) m)) marks
      (λ m i. go m i (value_of r.marks xs m) (value_of r.marks (map f xs) m) refl (value_of-map f r.marks xs m))
    where
      go : (m : ℕ) → In m marks → (o : Option A) (p : Option B) → value_of r.marks xs m ≡ o → OptR Renamed o p
          → f (or_else (new m (carried_values r xs)) o) ≡ or_else (other m (carried_values r (map f xs))) p
      go m i none none e q = h m i e
      go m i none (some y) e q = absurd q
      go m i (some x) none e q = absurd q
      go m i (some x) (some y) e q = sym q
