-- More numbers than there is room for: two are the same. Assumes nothing.
use mathlib.Core.Path.{◌≡◌, sym, ap, subst, ◌∙◌}
use mathlib.Core.List.{map}
use mathlib.Core.Logic.{◌⊎◌, inl, inr}
use Prim.Native.Nat.{ℕ, zero, suc, ◌<◌}
use native.Mathlib.Omega.{arith}
use native.Mathlib.Decide.{ℕ_discrete}
use Rattle.chase.specs.Lists.{In, in?}
use Rattle.chase.proofs.ListLaws.{in_map, map_in}
use Rattle.judging.proofs.Places.{below, below_in, in_below, few_below}

pub record Twice (f : ℕ → ℕ) (k : ℕ) : Type 0 where
  pub one : ℕ
  pub two : ℕ
  pub less : one < two
  pub below : two < k
  pub same : f one ≡ f two

-- The first k values are different.
abbrev Apart : (ℕ → ℕ) → ℕ → Type 0
Apart f k = (i j : ℕ) → i < j → j < k → f i ≡ f j → ⊥

twice_or : (f : ℕ → ℕ) (k : ℕ) → Twice f k ⊎ Apart f k
twice_or f zero = inr (λ i j l m e. omega arith)
twice_or f (suc k) = go (in? ℕ_discrete (f k) (map f (below k))) (twice_or f k)
  where
    last : (In (f k) (map f (below k)) → ⊥) → Apart f k → Apart f (suc k)
    last h apart i j l m e =
        elim (ℕ_discrete j k) [
          | yes q ↦ h (subst (λ (x : ℕ). In x (map f (below k))) (e ∙ ap f q) (in_map f i (below k) (in_below k i (omega arith))))
          | no d ↦ apart i j l (omega arith) e
        ]

    go : Dec (In (f k) (map f (below k))) → Twice f k ⊎ Apart f k → Twice f (suc k) ⊎ Apart f (suc k)
    go (yes i) s =
        let r = map_in f (below k) (f k) i in
        inl (record { one = r.0; two = k; less = below_in k r.0 r.1; below = omega arith; same = sym r.2 })
    go (no h) (inl t) = let l = t.below in inl (record { one = t.one; two = t.two; less = t.less; below = omega arith; same = t.same })
    go (no h) (inr apart) = inr (last h apart)

pub twice : (f : ℕ → ℕ) (n k : ℕ) → n < k → ((j : ℕ) → j < k → f j < n) → Twice f k
twice f n k more low = elim (twice_or f k) [ inl t ↦ t | inr apart ↦ absurd (omega (arith, few_below f k n low apart)) ]
