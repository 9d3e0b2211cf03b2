-- The waiting shapes' links followed, shape by shape: one law for each event. Assumes nothing.
use mathlib.Core.Path.{◌≡◌, refl, sym, subst, ap, ◌∙◌}
use mathlib.Core.Bool.{Bool, true, false, false≢true}
use mathlib.Core.List.{List}
use mathlib.Core.Logic.{◌⊎◌, inl, inr, ⊎_elim, by_cases}
use Prim.Native.Nat.{ℕ, ◌+◌, ◌/◌, ◌≤◌, ◌<◌}
use native.Mathlib.Omega.{arith}
use native.Mathlib.Decide.{ℕ_discrete}
use lib.ListN.{get_or, set, length-set}
use lib.Seq.{get_or-set_same, get_or-set_other}
use Rattle.judging.specs.Inner.Nodes.{from_of, link_of}
use Rattle.judging.specs.Inner.Order.{Ordered}
use Rattle.judging.specs.Inner.Passes.{changes, Live, Done, Swept, Same, Rests}
use Rattle.judging.specs.declared.spread.Raised.{Raised}
use Rattle.judging.specs.declared.spread.Raised.TheVariants.{Nothing}

-- The shapes at the first i places of the order have had their turn.
pub record Passed (n : ℕ) (E : ℕ → ℕ → ℕ → Type 0) (order : List ℕ) (i : ℕ) (g₀ f₀ g f : List (List ℕ)) (w : List Bool) (r : Raised) : Type 0 where
  pub swept : Swept n E 0 g₀ f₀ g f w r
  pub idle_at : changes r ≡ 0 → (j : ℕ) → j < i → get_or w (get_or order j 0) false ≡ true → ⊥

pub begin :
    {n : ℕ} {E : ℕ → ℕ → ℕ → Type 0} {order : List ℕ} {g raises : List (List ℕ)} {waiting : List Bool} → Live n g raises waiting Nothing
    → ((u v code : ℕ) → E u v code → Rests g waiting u v code) → Passed n E order 0 g raises g raises waiting Nothing
begin l rests =
    record {
      swept =
          record {
            live = l;
            rests = λ q. rests;
            clear = λ z x b. let y : ⊥ = omega arith in absurd y;
            grown = omega arith;
            more = λ p. let y : ⊥ = omega arith in absurd y;
            edges = λ v. inl (record { high = refl; from_is = refl; link_is = refl });
          };
      idle_at = λ z j b. let y : ⊥ = omega arith in absurd y;
    }

-- A shape's mark is taken away.
pub unmarked :
    {n : ℕ} {g raises : List (List ℕ)} {waiting : List Bool} {last : Raised} (s : ℕ) → Live n g raises waiting last
    → Live n g raises (set waiting s false) last
unmarked {waiting = waiting} s l =
    record {
      grid = l.grid;
      raise_size = l.raise_size;
      size = length-set waiting s false ∙ l.size;
      small = l.small;
      timed = l.timed;
      node = l.node;
      low = l.low;
      high = l.high;
    }

module _ {n : ℕ} {E : ℕ → ℕ → ℕ → Type 0} {order : List ℕ} {i : ℕ} {g₀ g f₀ f : List (List ℕ)} {w : List Bool} {r : Raised}
    (q : Passed n E order i g₀ f₀ g f w r) where
  -- The shape is not waiting.
  pub idle : get_or w (get_or order i 0) false ≡ false → Passed n E order (i + 1) g₀ f₀ g f w r
  idle d =
      record {
        swept = q.swept;
        idle_at = λ z j b e.
            by_cases (ℕ_discrete j i)
            (λ (q : j ≡ i). absurd (false≢true (sym d ∙ subst (λ (j : ℕ). get_or w (get_or order j 0) false ≡ true) q e)))
            (λ (d : j ≡ i → ⊥). q.idle_at z j (omega arith) e);
      }

  module _ {P : ℕ → ℕ → ℕ → Type 0} (own : (u v code : ℕ) → P u v code → E u v code)
      (split : (u v code : ℕ) → E u v code → P u v code ⊎ (u / 7 ≡ get_or order i 0 → ⊥)) (below : get_or order i 0 < 512)
      {g₁ f₁ : List (List ℕ)} {w₁ : List Bool} {r₁ : Raised} (d : Done n P g f (set w (get_or order i 0) false) r g₁ f₁ w₁ r₁) where
    -- The links of other shapes rest as they did.
    others : (u v code : ℕ) → (u / 7 ≡ get_or order i 0 → ⊥) → Rests g w u v code → Rests g (set w (get_or order i 0) false) u v code
    others u v code q (inl e) = inl (get_or-set_other w (get_or order i 0) (u / 7) false false q ∙ e)
    others u v code q (inr h) = inr h

    first : (v : ℕ) → Same g f g₁ f₁ v → Same g₀ f₀ g f v ⊎ E (from_of f v) v (link_of f v)
        → Same g₀ f₀ g₁ f₁ v ⊎ E (from_of f₁ v) v (link_of f₁ v)
    first v y (inl x) =
        inl (record { high = y.high ∙ x.high; from_is = y.from_is ∙ x.from_is; link_is = y.link_is ∙ x.link_is })
    first v y (inr x) = inr (rw (y.from_is, y.link_is) x)

    second : (v : ℕ) → Same g f g₁ f₁ v ⊎ P (from_of f₁ v) v (link_of f₁ v) → Same g₀ f₀ g₁ f₁ v ⊎ E (from_of f₁ v) v (link_of f₁ v)
    second v (inl y) = first v y (q.swept.edges v)
    second v (inr y) = inr (own (from_of f₁ v) v (link_of f₁ v) y)

    -- The shape's links were followed.
    pub worked : Passed n E order (i + 1) g₀ f₀ g₁ f₁ w₁ r₁
    worked =
        let a = q.swept in
        let ga = a.grown in
        let gd = d.grown in
        record {
          swept =
              record {
                live = d.live;
                rests = λ l u v code e.
                    ⊎_elim
                    (λ (p : P u v code). d.rests l u v code p)
                    (λ (o : u / 7 ≡ get_or order i 0 → ⊥). d.keeps u v code (others u v code o (a.rests (d.going l) u v code e)))
                    (split u v code e);
                clear = λ z x b. let y : ⊥ = omega arith in absurd y;
                grown = omega arith;
                more = λ p.
                    by_cases (ℕ_discrete (changes r) 0)
                    (λ (e : changes r ≡ 0). omega (arith, d.more e p))
                    (λ (e : changes r ≡ 0 → ⊥). omega (arith, a.more (omega arith)));
                edges = λ v. second v (d.edges v);
              };
          idle_at = λ z j b e.
              let c : get_or (set w (get_or order i 0) false) (get_or order j 0) false ≡ true = subst (λ (l : List Bool). get_or l (get_or order j 0) false ≡ true) (d.still z) e in
              by_cases (ℕ_discrete (get_or order j 0) (get_or order i 0))
              (λ (o : get_or order j 0 ≡ get_or order i 0).
              let y = get_or-set_same w (get_or order i 0) false false (let t = a.live.size in omega arith) in
              let c' : get_or (set w (get_or order i 0) false) (get_or order i 0) false ≡ true = subst (λ (x : ℕ). get_or (set w (get_or order i 0) false) x false ≡ true) o c in
              absurd (false≢true (sym y ∙ c')))
              (λ (o : get_or order j 0 ≡ get_or order i 0 → ⊥).
              by_cases (ℕ_discrete j i)
              (λ (m : j ≡ i). o (ap (λ (x : ℕ). get_or order x 0) m))
              (λ (m : j ≡ i → ⊥).
              q.idle_at (d.begun z) j (omega arith) (sym (get_or-set_other w (get_or order i 0) (get_or order j 0) false false o) ∙ c)));
        }

-- What was left is known by equations.
pub passed_is :
    {n : ℕ} {E : ℕ → ℕ → ℕ → Type 0} {order : List ℕ} {i : ℕ} {g₀ g g₁ f₀ f f₁ : List (List ℕ)} {w w₁ : List Bool} {r r₁ : Raised}
    → g ≡ g₁ → f ≡ f₁ → w ≡ w₁ → r ≡ r₁ → Passed n E order i g₀ f₀ g₁ f₁ w₁ r₁ → Passed n E order i g₀ f₀ g f w r
passed_is eg ef ew er d = rw (eg, ef, ew, er) d

-- All shapes.
pub swept_all :
    {n : ℕ} {E : ℕ → ℕ → ℕ → Type 0} {order : List ℕ} {i m : ℕ} {g₀ g f₀ f : List (List ℕ)} {w : List Bool} {r : Raised}
    → Passed n E order i g₀ f₀ g f w r → Ordered order m → m ≤ i → Swept n E m g₀ f₀ g f w r
swept_all {w = w} q o b =
    let a = q.swept in
    record {
      live = a.live;
      rests = a.rests;
      clear = λ z x l e.
          let p = o.covers x l in
          q.idle_at z p.place (let y = p.below in omega arith) (subst (λ (s : ℕ). get_or w s false ≡ true) (sym p.is) e);
      grown = a.grown;
      more = a.more;
      edges = a.edges;
    }
