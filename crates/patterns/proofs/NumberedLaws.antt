-- Laws of elements with their numbers. Assumes nothing.
use mathlib.Core.Path.{◌≡◌, refl, ◌∙◌, ap, subst}
use mathlib.Core.List.{List, [], ◌∷◌, map, map-map}
use Prim.Native.Nat.{ℕ, zero, suc, ◌<◌}
use native.Mathlib.Omega.{arith}
use lib.ListN.{length, get_or, length-map}
use Rattle.patterns.specs.Lists.{In, Numbered, next, numbered}
use Rattle.patterns.proofs.ListLaws.{in_map, map_at}

module _ {A : Type 0} where
  pub numbered_items : (l : List A) → map (λ (p : Numbered A). p.item) (numbered l) ≡ l
  numbered_items [] = refl
  numbered_items (x ∷ l) = ap (λ (k : List A). x ∷ k) (map-map (λ (p : Numbered A). p.item) next (numbered l) ∙ numbered_items l)

  pub numbered-length : (l : List A) → length (numbered l) ≡ length l
  numbered-length [] = refl
  numbered-length (x ∷ l) = omega (arith, length-map (numbered l) next, numbered-length l)

  pub item_in : (l : List A) (p : Numbered A) → In p (numbered l) → In p.item l
  item_in l p i = subst (In p.item) (numbered_items l) (in_map (λ (q : Numbered A). q.item) p (numbered l) i)

  pub numbered_at : (l : List A) (i : ℕ) (e : A) (o : Numbered A) → i < length l
      → get_or (numbered l) i o ≡ record { number = suc i; item = get_or l i e }
  numbered_at [] i e o h = let z : ⊥ = omega arith in absurd z
  numbered_at (x ∷ l) zero e o h = refl
  numbered_at (x ∷ l) (suc i) e o h =
      map_at next (numbered l) i o o (omega (arith, numbered-length l)) ∙ ap next (numbered_at l i e o (omega arith))
