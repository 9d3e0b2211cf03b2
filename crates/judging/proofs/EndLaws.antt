-- Where walks back end: at a node of generation 0, or in a loop with a fresh link. Assumes nothing.
use mathlib.Core.Path.{◌≡◌, refl, sym, subst, ap, ◌∙◌}
use mathlib.Core.Logic.{◌⊎◌, inl, inr, ⊎_elim, by_cases}
use Prim.Native.Nat.{ℕ, zero, suc, ◌+◌, ◌-◌, ◌≤◌, ◌<◌}
use native.Mathlib.Omega.{arith}
use native.Mathlib.Nat.{eq-or-lt_of_le}
use native.Mathlib.Decide.{ℕ_discrete}
use Rattle.judging.specs.Inner.Nodes.{back, weight, fresh_back, Stable, Turn, Line}
use Rattle.judging.specs.Inner.Passes.{Timed, Long}
use Rattle.judging.proofs.WalkLaws.{back_add}
use Rattle.judging.proofs.PigeonLaws.{Twice, twice}

-- Links join nodes below n.
pub record Sane (E : ℕ → ℕ → ℕ → Type 0) (n : ℕ) : Type 0 where
  pub from : (u v code : ℕ) → E u v code → u < n
  pub to : (u v code : ℕ) → E u v code → v < n

-- Raised nodes were raised by links, in some order.
pub record Kept (E : ℕ → ℕ → ℕ → Type 0) (G F K : ℕ → ℕ) : Type 0 where
  pub edge : (v : ℕ) → 0 < G v → E (F v) v (K v)
  pub timed : Timed G F K

module _ (F : ℕ → ℕ) where
  -- Two nodes of a walk are the same: the walk goes round.
  pub round : (i j x : ℕ) → i < j → back F i x ≡ back F j x → back F (j - i) (back F i x) ≡ back F i x
  round i j x l e = sym (back_add F (j - i) i x) ∙ ap (λ (k : ℕ). back F k x) (let q : (j - i) + i ≡ j = omega arith in q) ∙ sym e

  -- From two equal nodes, k links on.
  pub on : (k a b x : ℕ) → back F a x ≡ back F b x → back F (k + a) x ≡ back F (k + b) x
  on k a b x e = back_add F k a x ∙ ap (back F k) e ∙ sym (back_add F k b x)

module _ {E : ℕ → ℕ → ℕ → Type 0} {G F K : ℕ → ℕ} (kept : Kept E G F K) where
  -- A walk back loses as much height as it has fresh links, at the most.
  pub climb : (k x : ℕ) → Long G F k x → G x ≤ G (back F k x) + fresh_back F K k x
  unfolding Long
  climb zero x l = omega arith
  climb (suc k) x l = omega (arith, climb k x (λ j h. l j (omega arith)), kept.timed.rise (back F k x) (l k (omega arith)))

  -- With no fresh link, it comes to a node that is higher or older.
  calm : (k x : ℕ) → Long G F k x → fresh_back F K k x ≡ 0 → G (back F k x) ≤ G x → kept.timed.stamp (back F k x) + k ≤ kept.timed.stamp x
  unfolding Long
  calm zero x l z le = omega arith
  calm (suc k) x l z le =
      let lk : Long G F k x = λ j h. l j (omega arith) in
      let p = l k (omega arith) in
      let r = kept.timed.rise (back F k x) p in
      let z1 : weight (K (back F k x)) ≡ 0 = omega arith in
      let z2 : fresh_back F K k x ≡ 0 = omega arith in
      let c = climb k x lk in
      omega (arith, calm k x lk z2 (omega arith), kept.timed.older (back F k x) p z1 (omega arith))

  -- LOOP: a walk back that closes has a fresh link.
  pub renews : (k x : ℕ) → 0 < k → Long G F k x → back F k x ≡ x → 0 < fresh_back F K k x
  renews k x s l e =
      by_cases (ℕ_discrete (fresh_back F K k x) 0)
      (λ (z : fresh_back F K k x ≡ 0). absurd (omega (arith, ap kept.timed.stamp e, calm k x l z (omega (arith, ap G e)))))
      (λ (d : fresh_back F K k x ≡ 0 → ⊥). omega arith)

  pub edges : (k x : ℕ) → Long G F k x → (j : ℕ) → j < k → E (back F (suc j) x) (back F j x) (K (back F j x))
  unfolding Long
  edges k x l j h = kept.edge (back F j x) (l j h)

  first_return : (x m : ℕ)
      → ((k : ℕ) × (0 < k) × (k ≤ m) × (back F k x ≡ x) × ((j : ℕ) → 0 < j → j < k → back F j x ≡ x → ⊥))
      ⊎ ((j : ℕ) → 0 < j → j ≤ m → back F j x ≡ x → ⊥)
  first_return x zero = inr (λ j a b e. omega arith)
  first_return x (suc m) = go (first_return x m) (ℕ_discrete (back F (suc m) x) x)
    where
      go : ((k : ℕ) × (0 < k) × (k ≤ m) × (back F k x ≡ x) × ((j : ℕ) → 0 < j → j < k → back F j x ≡ x → ⊥))
          ⊎ ((j : ℕ) → 0 < j → j ≤ m → back F j x ≡ x → ⊥)
          → Dec (back F (suc m) x ≡ x)
          → ((k : ℕ) × (0 < k) × (k ≤ suc m) × (back F k x ≡ x) × ((j : ℕ) → 0 < j → j < k → back F j x ≡ x → ⊥))
          ⊎ ((j : ℕ) → 0 < j → j ≤ suc m → back F j x ≡ x → ⊥)
      go (inl (k, a, b, e, f)) d = inl (k, a, omega arith, e, f)
      go (inr f) (yes e) = inl (suc m, omega arith, omega arith, e, λ j a b. f j a (omega arith))
      go (inr f) (no h) = inr (λ j a b e.
          by_cases (ℕ_discrete j (suc m))
          (λ (q : j ≡ suc m). h (subst (λ (i : ℕ). back F i x ≡ x) q e))
          (λ (q : j ≡ suc m → ⊥). f j a (omega arith) e))

  -- The first return to x makes a simple loop.
  pub loop : (k x : ℕ) → 0 < k → Long G F k x → back F k x ≡ x → ((j : ℕ) → 0 < j → j < k → back F j x ≡ x → ⊥) → Turn E F K k x
  loop k x s l e first =
      record {
        some = s;
        links = edges k x l;
        closes = e;
        apart = λ (i j : ℕ) (a : i < j) (b : j < k) (q : back F i x ≡ back F j x).
            first ((k - j) + i) (omega arith) (omega arith)
            (on F (k - j) i j x q ∙ ap (λ (m : ℕ). back F m x) (let t : (k - j) + j ≡ k = omega arith in t) ∙ e);
        renews = renews k x s l e;
      }

  -- A walk back that closes goes round in a loop.
  pub turn : (x p m : ℕ) → 0 < p → p ≤ m → ((k : ℕ) → Long G F k x) → back F p x ≡ x → (k : ℕ) × (k ≤ m) × Turn E F K k x
  turn x p m s few long e = go (first_return x p)
    where
      go : ((k : ℕ) × (0 < k) × (k ≤ p) × (back F k x ≡ x) × ((j : ℕ) → 0 < j → j < k → back F j x ≡ x → ⊥))
          ⊎ ((j : ℕ) → 0 < j → j ≤ p → back F j x ≡ x → ⊥)
          → (k : ℕ) × (k ≤ m) × Turn E F K k x
      go (inl (k, a, b, c, f)) = (k, omega arith, loop k x a (long k) c f)
      go (inr f) = absurd (f p s (omega arith) e)

  module _ {n : ℕ} (sane : Sane E n) where
    pub fresh_le : (k x : ℕ) → Long G F k x → fresh_back F K k x ≤ k
    unfolding Long
    fresh_le zero x l = omega arith
    fresh_le (suc k) x l =
        omega (arith, fresh_le k x (λ j h. l j (omega arith)), (let q : weight (K (back F k x)) ≤ 1 = omega arith in q))

    pub below : (k x : ℕ) → x < n → Long G F k x → back F k x < n
    unfolding Long
    below zero x s l = s
    below (suc k) x s l = sane.from _ _ _ (kept.edge (back F k x) (l k (omega arith)))

    module _ (x : ℕ) (s : x < n) (long : Long G F n x) where
      lows : (j : ℕ) → j < n + 1 → back F j x < n
      unfolding Long
      lows j h = below j x s (λ i l. long i (omega arith))

      pair : Twice (λ j. back F j x) (n + 1)
      pair = twice (λ j. back F j x) n (n + 1) (omega arith) lows

      -- Every node of the walk, however long, is one of the first n.
      pub fold : (m : ℕ) → (j : ℕ) × (j < n) × (back F m x ≡ back F j x)
      fold zero = (0, omega arith, refl)
      fold (suc m) = go (fold m)
        where
          go : (j : ℕ) × (j < n) × (back F m x ≡ back F j x) → (j : ℕ) × (j < n) × (F (back F m x) ≡ back F j x)
          go (j, l, e) =
              by_cases (ℕ_discrete (suc j) n)
              (λ (q : suc j ≡ n).
              let a = pair.less in
              let b = pair.below in (
                (n - pair.two) + pair.one,
                omega arith,
                ap F e
                    ∙ ap (λ (m : ℕ). back F m x) (let t : suc j ≡ (n - pair.two) + pair.two = omega arith in t)
                    ∙ sym (on F (n - pair.two) pair.one pair.two x pair.same),
              ))
              (λ (d : suc j ≡ n → ⊥). (suc j, omega arith, ap F e))

      -- So no node of generation 0 is ever met.
      pub forever : (m k : ℕ) → Long G F k (back F m x)
      unfolding Long
      forever m k j l =
          let f = fold (j + m) in
          subst (λ (y : ℕ). 0 < G y) (sym f.2 ∙ back_add F j m x) (long f.0 f.1)

      -- And after n links the walk is in the loop.
      pub back_again : (p : ℕ) × (0 < p) × (p ≤ n) × (back F p (back F n x) ≡ back F n x)
      back_again =
          let a = pair.less in
          let b = pair.below in
          let i = pair.one in
          let j = pair.two in (
            j - i,
            omega arith,
            omega arith,
            sym (back_add F (j - i) n x)
                ∙ ap (λ (m : ℕ). back F m x) (let t : (j - i) + n ≡ (n - i) + j = omega arith in t)
                ∙ sym (on F (n - i) i j x pair.same)
                ∙ ap (λ (m : ℕ). back F m x) (let t : (n - i) + i ≡ n = omega arith in t),
          )

    -- SETTLED.
    module _ (stable : Stable E G) where
      pub exact : (k x : ℕ) → Long G F k x → G x ≡ G (back F k x) + fresh_back F K k x
      unfolding Long Stable
      exact zero x l = omega arith
      exact (suc k) x l =
          let p = l k (omega arith) in
          omega (arith, exact k x (λ j h. l j (omega arith)), kept.timed.rise (back F k x) p, stable _ _ _ (kept.edge (back F k x) p))

      open_ended : (k x : ℕ) → 0 < k → Long G F k x → back F k x ≡ x → ⊥
      open_ended k x s l e = omega (arith, renews k x s l e, exact k x l, ap G e)

      -- A walk back of n links from a raised node meets a node of generation 0.
      pub ends : (x : ℕ) → x < n → Long G F n x → ⊥
      ends x s l = let b = back_again x s l in open_ended b.0 (back F n x) b.1 (forever x s l n b.0) b.3

      first_or : (x k : ℕ) → ((m : ℕ) × (m ≤ k) × Long G F m x × (G (back F m x) ≡ 0)) ⊎ Long G F k x
      unfolding Long
      first_or x zero = inr (λ j l. let y : ⊥ = omega arith in absurd y)
      first_or x (suc k) = go (first_or x k) (ℕ_discrete (G (back F k x)) 0)
        where
          go : ((m : ℕ) × (m ≤ k) × Long G F m x × (G (back F m x) ≡ 0)) ⊎ Long G F k x → Dec (G (back F k x) ≡ 0)
              → ((m : ℕ) × (m ≤ suc k) × Long G F m x × (G (back F m x) ≡ 0)) ⊎ Long G F (suc k) x
          go (inl (m, a, l, z)) d = inl (m, omega arith, l, z)
          go (inr l) (yes z) = inl (k, omega arith, l, z)
          go (inr l) (no h) = inr (λ j a.
              ⊎_elim (λ (q : j ≡ k). rw q (omega arith)) (λ (q : j < k). l j q) (eq-or-lt_of_le (let t : j ≤ k = omega arith in t)))

      -- A line back from x to where a node of generation 0 is met first.
      pub line : (x : ℕ) → x < n → (k : ℕ) × (k < n) × Line E G F K k x (G x)
      unfolding Long
      line x s = go (first_or x n)
        where
          is : (k : ℕ) → Long G F k x → G (back F k x) ≡ 0 → Line E G F K k x (G x)
          is k l z = record { links = edges k x l; starts = z; high = l; renews = omega (arith, exact k x l) }

          go : ((m : ℕ) × (m ≤ n) × Long G F m x × (G (back F m x) ≡ 0)) ⊎ Long G F n x → (k : ℕ) × (k < n) × Line E G F K k x (G x)
          go (inl (m, a, l, z)) =
              by_cases (ℕ_discrete m n)
              (λ (q : m ≡ n). absurd (ends x s (subst (λ (k : ℕ). Long G F k x) q l)))
              (λ (q : m ≡ n → ⊥). (m, omega arith, is m l z))
          go (inr l) = absurd (ends x s l)
