-- Numbers at nodes after one was put, and their sum. Assumes nothing.
use mathlib.Core.Path.{◌≡◌, refl, sym, ap, ◌∙◌}
use mathlib.Core.List.{List, [], ◌∷◌}
use mathlib.Core.Logic.{by_cases}
use Prim.Native.Nat.{ℕ, zero, suc, ◌+◌, ◌*◌, ◌/◌, ◌%◌, ◌≤◌, ◌<◌}
use native.Mathlib.Omega.{arith}
use native.Mathlib.Decide.{ℕ_discrete}
use lib.ListN.{length, get_or, set, length-set}
use lib.Seq.{get_or-set_same, get_or-set_other}
use Rattle.judging.specs.Inner.Nodes.{at, put, Grid, from_of, link_of, put_raise}
use Rattle.judging.specs.Inner.Passes.{sum_to}

-- The node of field p of shape s.
module _ (s p : ℕ) (low : p < 7) where
  node_shape : (7 * s + p) / 7 ≡ s
  node_shape = omega arith

  node_field : (7 * s + p) % 7 ≡ p
  node_field = omega arith

pub at_field : (g : List (List ℕ)) (s p : ℕ) → p < 7 → at g (7 * s + p) ≡ get_or (get_or g s []) p 0
unfolding at
at_field g s p l = rw (node_shape s p l, node_field s p l) refl

pub put-field : (g : List (List ℕ)) (s p x : ℕ) → p < 7 → put g (7 * s + p) x ≡ set g s (set (get_or g s []) p x)
unfolding put
put-field g s p x l = rw (node_shape s p l, node_field s p l) refl

-- One value changed.
pub record Change (f g : ℕ → ℕ) (v a : ℕ) : Type 0 where
  pub same : g v ≡ a
  pub other : (x : ℕ) → (x ≡ v → ⊥) → g x ≡ f x

module _ {g : List (List ℕ)} (grid : Grid g) (v x : ℕ) (low : v < 3584) where
  row-length : length (get_or g (v / 7) []) ≡ 7
  row-length = grid.rows (v / 7) (omega arith)

  at_put_same : at (put g v x) v ≡ x
  unfolding at put
  at_put_same =
      ap (λ (row : List ℕ). get_or row (v % 7) 0)
      (get_or-set_same g (v / 7) (set (get_or g (v / 7) []) (v % 7) x) [] (let s = grid.size in omega arith))
      ∙ get_or-set_same (get_or g (v / 7) []) (v % 7) x 0 (let s = row-length in omega arith)

  at_put_other : (y : ℕ) → (y ≡ v → ⊥) → at (put g v x) y ≡ at g y
  unfolding at put
  at_put_other y d =
      by_cases (ℕ_discrete (y / 7) (v / 7))
      (λ (e : y / 7 ≡ v / 7).
      rw e
      (ap (λ (row : List ℕ). get_or row (y % 7) 0)
      (get_or-set_same g (v / 7) (set (get_or g (v / 7) []) (v % 7) x) [] (let s = grid.size in omega arith))
      ∙ get_or-set_other (get_or g (v / 7) []) (v % 7) (y % 7) x 0 (λ q. d (omega arith))))
      (λ (e : y / 7 ≡ v / 7 → ⊥).
      ap (λ (row : List ℕ). get_or row (y % 7) 0)
      (get_or-set_other g (v / 7) (y / 7) (set (get_or g (v / 7) []) (v % 7) x) [] e))

  pub put_change : Change (at g) (at (put g v x)) v x
  put_change = record { same = at_put_same; other = at_put_other }

  pub put_grid : Grid (put g v x)
  unfolding put
  put_grid =
      record {
        size = length-set g (v / 7) (set (get_or g (v / 7) []) (v % 7) x) ∙ grid.size;
        rows = λ s l.
            by_cases (ℕ_discrete s (v / 7))
            (λ (e : s ≡ v / 7).
            rw e
            (ap length (get_or-set_same g (v / 7) (set (get_or g (v / 7) []) (v % 7) x) [] (let s = grid.size in omega arith))
            ∙ length-set (get_or g (v / 7) []) (v % 7) x
            ∙ row-length))
            (λ (e : s ≡ v / 7 → ⊥).
            ap length (get_or-set_other g (v / 7) s (set (get_or g (v / 7) []) (v % 7) x) [] e) ∙ grid.rows s l);
      }

-- ---- how nodes were raised

module _ (raises : List (List ℕ)) (v u link : ℕ) (low : v < length raises) where
  row_same : get_or (put_raise raises v u link) v [] ≡ u ∷ link ∷ []
  row_same = get_or-set_same raises v (u ∷ link ∷ []) [] low

  row_other : (x : ℕ) → (x ≡ v → ⊥) → get_or (put_raise raises v u link) x [] ≡ get_or raises x []
  row_other x d = get_or-set_other raises v x (u ∷ link ∷ []) [] d

  pub from_put : Change (from_of raises) (from_of (put_raise raises v u link)) v u
  from_put =
      record {
        same = ap (λ (row : List ℕ). get_or row 0 0) row_same;
        other = λ x d. ap (λ (row : List ℕ). get_or row 0 0) (row_other x d);
      }

  pub link_put : Change (link_of raises) (link_of (put_raise raises v u link)) v link
  link_put =
      record {
        same = ap (λ (row : List ℕ). get_or row 1 0) row_same;
        other = λ x d. ap (λ (row : List ℕ). get_or row 1 0) (row_other x d);
      }

pub length-put_raise : (raises : List (List ℕ)) (v u link : ℕ) → length (put_raise raises v u link) ≡ length raises
length-put_raise raises v u link = length-set raises v (u ∷ link ∷ [])

-- ---- sums

sum_same : (n : ℕ) (f g : ℕ → ℕ) → ((x : ℕ) → x < n → g x ≡ f x) → sum_to n g ≡ sum_to n f
unfolding sum_to
sum_same zero f g e = refl
sum_same (suc n) f g e = omega (arith, sum_same n f g (λ x l. e x (omega arith)), e n (omega arith))

pub sum_change : {f g : ℕ → ℕ} {v a : ℕ} → Change f g v a → (n : ℕ) → v < n → sum_to n g + f v ≡ sum_to n f + a
unfolding sum_to
sum_change c zero l = absurd (omega arith)
sum_change {f} {g} {v} {a} c (suc n) l =
    by_cases (ℕ_discrete v n)
    (λ (e : v ≡ n).
    omega (arith, sum_same n f g (λ x h. c.other x (λ q. omega arith)), c.same, ap f e, ap g e))
    (λ (e : v ≡ n → ⊥). omega (arith, sum_change c n (omega arith), c.other n (λ q. e (sym q))))

pub sum_low : (n m : ℕ) (f : ℕ → ℕ) → ((v : ℕ) → f v ≤ m) → sum_to n f ≤ n * m
unfolding sum_to
sum_low zero m f h = omega arith
sum_low (suc n) m f h = omega (arith, sum_low n m f h, h n)
