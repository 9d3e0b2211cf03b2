-- t grows with the generations, and what a figure is. Assumes nothing.
use mathlib.Core.Path.{◌≡◌, refl}
use mathlib.Core.Bool.{Bool, true, false, cond, false≢true}
use mathlib.Core.List.{List}
use Prim.Native.Nat.{ℕ, zero, suc, ◌+◌, ◌≤◌, ◌<◌}
use native.Mathlib.Nat.{mul-le-mul_left, mul-le-mul, le_trans}
use native.Mathlib.Omega.{arith}
use lib.Dec.{leb}
use lib.ListN.{length}
use borrow.Author.Tests.{leb-true, leb-false}
use Rattle.sheet.specs.Line.{Line}
use Rattle.chase.specs.Rules.{Rule}
use Rattle.chase.specs.Making.{carried_marks}
use Rattle.carrying.specs.Carrying.{fresh_marks}
use Rattle.growth.specs.Forecast.{power, new_with, next, values_after, width_in, records_with, pairs_with, exactly, beyond, figure_limit, figure}
use Rattle.growth.proofs.CountedLaws.{sum-le}

-- ---- more values, more of everything

module _ (t u : ℕ) (h : t ≤ u) where
  pub power_grows : (n : ℕ) → power t n ≤ power u n
  power_grows zero = omega arith
  power_grows (suc n) = mul-le-mul h (power_grows n)

  pub next_grows : (rules : List Rule) (first : ℕ) → next rules first t ≤ next rules first u
  next_grows rules first =
      omega (arith, sum-le (new_with t) (new_with u) (λ r. mul-le-mul_left (length (fresh_marks r)) (power_grows (length (carried_marks r)))) rules)

  pub pairs_with_grows : (rules : List Rule) → pairs_with rules t ≤ pairs_with rules u
  pairs_with_grows rules =
      sum-le (λ r. power t (length (carried_marks r))) (λ r. power u (length (carried_marks r))) (λ r. power_grows (length (carried_marks r))) rules

  pub records_with_grows : (kinds : List Line) → records_with kinds t ≤ records_with kinds u
  records_with_grows kinds = sum-le (λ k. power t (width_in k)) (λ k. power u (width_in k)) (λ k. power_grows (width_in k)) kinds

module _ (rules : List Rule) (first : ℕ) where
  one_more : (d : ℕ) → values_after rules first d ≤ values_after rules first (suc d)
  one_more zero = omega arith
  one_more (suc d) = next_grows (values_after rules first d) (values_after rules first (suc d)) (one_more d) rules first

  -- A later t is not smaller.
  pub values_after_grows : (d n : ℕ) → values_after rules first d ≤ values_after rules first (d + n)
  values_after_grows d zero = let e : d + 0 ≡ d = omega arith in rw e (omega arith)
  values_after_grows d (suc n) =
      let e : d + suc n ≡ suc (d + n) = omega arith in
      rw e (le_trans (values_after_grows d n) (one_more (d + n)))

-- ---- figures

module _ (n : ℕ) where
  pub figure_beyond : figure_limit < n → figure n ≡ beyond
  unfolding figure
  figure_beyond h = go (leb n figure_limit) refl
    where
      go : (b : Bool) → leb n figure_limit ≡ b → cond b (exactly n) beyond ≡ beyond
      go true e = absurd (omega (arith, leb-true n figure_limit e))
      go false e = refl

  pub figure_exactly : n ≤ figure_limit → figure n ≡ exactly n
  unfolding figure
  figure_exactly h = go (leb n figure_limit) refl
    where
      go : (b : Bool) → leb n figure_limit ≡ b → cond b (exactly n) beyond ≡ exactly n
      go true e = refl
      go false e = absurd (omega (arith, leb-false n figure_limit e))

pub exactly_not_beyond : (m : ℕ) → exactly m ≡ beyond → ⊥
exactly_not_beyond m e = false≢true cc
