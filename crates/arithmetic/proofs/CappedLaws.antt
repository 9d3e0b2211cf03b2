-- Numbers that are equal up to the cap give sums, products and polynomials that are equal up to the cap: a cap may be put in anywhere. Assumes nothing.
use mathlib.Core.Path.{◌≡◌, refl, sym, ◌∙◌, ap}
use mathlib.Core.List.{List, [], ◌∷◌, ◌++◌, append-nil, append_assoc}
use Prim.Native.Nat.{ℕ, zero, suc, ◌+◌, ◌*◌, ◌≤◌}
use native.Mathlib.Nat.{mul-zero, mul_comm, le-mul_of_pos_right}
use native.Mathlib.Decide.{ℕ_discrete}
use native.Mathlib.Omega.{arith}
use lib.ListN.{length}
use Rattle.arithmetic.specs.Capped.{capped, polynomial}

-- A cap over a cap.
pub capped_once : (a : ℕ) → capped (capped a) ≡ capped a
capped_once a = omega arith

pub plus_alike : (a b x y : ℕ) → capped a ≡ capped b → capped x ≡ capped y → capped (a + x) ≡ capped (b + y)
plus_alike a b x y g h = omega arith

times_left : (a b x : ℕ) → capped a ≡ capped b → capped (a * x) ≡ capped (b * x)
times_left a b zero h = ap capped (mul-zero a ∙ sym (mul-zero b))
times_left a b (suc x) h = go (ℕ_discrete a b)
  where
    go : Dec (a ≡ b) → capped (a * suc x) ≡ capped (b * suc x)
    go (yes e) = ap (λ (n : ℕ). capped (n * suc x)) e
    go (no k) =
        let p : a ≤ a * suc x = le-mul_of_pos_right a (omega arith) in
        let q : b ≤ b * suc x = le-mul_of_pos_right b (omega arith) in
        omega arith

pub times_alike : (a b x y : ℕ) → capped a ≡ capped b → capped x ≡ capped y → capped (a * x) ≡ capped (b * y)
times_alike a b x y g h =
    times_left a b x g ∙ ap capped (mul_comm b x) ∙ times_left x y b h ∙ ap capped (mul_comm y b)

pub polynomial_alike : (cs : List ℕ) (t u : ℕ) → capped t ≡ capped u → capped (polynomial cs t) ≡ capped (polynomial cs u)
polynomial_alike [] t u h = refl
polynomial_alike (c ∷ cs) t u h =
    plus_alike c c (t * polynomial cs t) (u * polynomial cs u) refl
    (times_alike t u (polynomial cs t) (polynomial cs u) h (polynomial_alike cs t u h))

-- The value at t of the last coefficients, where the ones before them are left.
pub record Valued (cs left : List ℕ) (t sum : ℕ) : Type 0 where
  pub passed : List ℕ
  pub whole : left ++ passed ≡ cs
  pub value : sum ≡ capped (polynomial passed t)

pub valued_none : (cs left : List ℕ) (t : ℕ) → left ≡ cs → Valued cs left t 0
valued_none cs left t e = record { passed = []; whole = append-nil left ∙ e; value = refl }

-- One coefficient more.
pub valued_more : {cs left less : List ℕ} (x t sum : ℕ) {more : ℕ} → Valued cs left t sum → left ≡ less ++ (x ∷ []) → more ≡ capped (x + capped (t * sum)) → Valued cs less t more
valued_more {less = less} x t sum v e m =
    let rest : ℕ = polynomial v.passed t in
    record {
      passed = x ∷ v.passed;
      whole = sym (append_assoc less (x ∷ []) v.passed) ∙ ap (λ (l : List ℕ). l ++ v.passed) (sym e) ∙ v.whole;
      value =
          m ∙ plus_alike x x (capped (t * sum)) (t * rest) refl
          (capped_once (t * sum) ∙ times_alike t t sum rest refl (ap capped v.value ∙ capped_once rest));
    }

pub valued_all : {cs left : List ℕ} {t sum : ℕ} → Valued cs left t sum → length left ≡ 0 → sum ≡ capped (polynomial cs t)
valued_all {left = []} {t = t} v e = v.value ∙ ap (λ (l : List ℕ). capped (polynomial l t)) v.whole
valued_all {left = y ∷ left} v e = absurd (omega arith)
