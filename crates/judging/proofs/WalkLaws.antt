-- Walks back from node to node: how many links they are, and one law for each event of a walk. Assumes nothing.
use mathlib.Core.Path.{◌≡◌, refl, ap, ◌∙◌}
use mathlib.Core.List.{List}
use Prim.Native.Nat.{ℕ, zero, suc, ◌+◌, ◌≤◌, ◌<◌}
use native.Mathlib.Omega.{arith}
use native.Mathlib.Numerals.{add-one}
use borrow.Author.Count.{below_more}
use Rattle.judging.specs.Inner.Nodes.{at, back}
use Rattle.judging.specs.Inner.Passes.{Long, Inside, Walked}

module _ (F : ℕ → ℕ) where
  pub back_after : (k x : ℕ) → back F k (F x) ≡ F (back F k x)
  back_after zero x = refl
  back_after (suc k) x = ap F (back_after k x)

  pub back_add : (a b x : ℕ) → back F (a + b) x ≡ back F a (back F b x)
  back_add zero b x = ap (λ (k : ℕ). back F k x) (let q : 0 + b ≡ b = omega arith in q)
  back_add (suc a) b x = ap (λ (k : ℕ). back F k x) (let q : suc a + b ≡ suc (a + b) = omega arith in q) ∙ ap F (back_add a b x)

-- The walk is k links back from x, at y.
pub record Going (n : ℕ) (g : List (List ℕ)) (from : ℕ → ℕ) (x y k : ℕ) : Type 0 where
  pub few : k ≤ n
  pub node : y < n
  pub here : y ≡ back from k x
  pub long : Long (at g) from k x

pub going : {n : ℕ} {g : List (List ℕ)} {from : ℕ → ℕ} {x : ℕ} → Inside n g from x → Going n g from x x 0
unfolding Long
going i = record { few = omega arith; node = i.node; here = refl; long = λ j l. let y : ⊥ = omega arith in absurd y }

module _ {n : ℕ} {g : List (List ℕ)} {from : ℕ → ℕ} {x y k : ℕ} (i : Inside n g from x) (o : Going n g from x y k) where
  pub further : (z : ℕ) → k < n → (at g y ≡ 0 → ⊥) → z ≡ from y → Going n g from x z (k + 1)
  unfolding Long
  further z l d e =
      let h : z ≡ back from (k + 1) x = rw add-one (e ∙ ap from o.here) in
      let m : Long (at g) from (k + 1) x = below_more _ k o.long (rw (← o.here) (omega arith)) in
      record { few = omega arith; node = rw h (i.below (k + 1) m); here = h; long = m }

  pub met : k < n → at g y ≡ 0 → Walked n g from x 0
  met l z =
      record {
        short = λ _. (k, l, o.long, rw (← o.here) z);
        long = λ p. let y : ⊥ = omega arith in absurd y;
      }
