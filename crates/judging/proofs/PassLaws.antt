-- The laws of following links: the same few for each level of loops, and one for each event. Assumes nothing.
use mathlib.Core.Path.{◌≡◌, refl, sym, subst, ap, ◌∙◌}
use mathlib.Core.Bool.{Bool, true, false, false≢true}
use mathlib.Core.List.{List}
use mathlib.Core.Logic.{◌⊎◌, inl, inr, ⊎_elim, by_cases}
use Prim.Native.Nat.{ℕ, ◌+◌, ◌*◌, ◌/◌, ◌≤◌, ◌<◌}
use native.Mathlib.Omega.{arith}
use native.Mathlib.Decide.{ℕ_discrete}
use lib.ListN.{get_or, set, length-set}
use lib.Seq.{get_or-set_same, get_or-set_other}
use Rattle.judging.specs.Inner.Nodes.{at, put, from_of, link_of, put_raise, weight}
use Rattle.judging.specs.Inner.Passes.{changes, overs, is_calm, is_over, node_of, Live, Done, Same, Rests, Just, Upto, FreshLink, NoSource, BestPlace, BestFrom, sum_to}
use Rattle.judging.specs.declared.spread.Raised.{Raised}
use Rattle.judging.specs.declared.spread.Raised.TheVariants.{Nothing, Node, Over}
use Rattle.std.specs.Prelude.{Option, None, Some}
use Rattle.judging.proofs.NodeLaws.{Change, put_change, put_grid, from_put, link_put, length-put_raise, sum_change}
use Rattle.judging.proofs.BackLaws.{raise}

-- Nothing raised is nothing raised too high; what was raised last is too high or not.
pub calm_goes : (r : Raised) → changes r ≡ 0 → overs r ≡ 0
calm_goes Nothing z = refl
calm_goes (Node v) z = refl
calm_goes (Over v) z = let y : ⊥ = omega arith in absurd y

pub calm_is : (r : Raised) → is_calm r ≡ true → changes r ≡ 0
calm_is Nothing e = refl
calm_is (Node v) e = absurd (false≢true e)
calm_is (Over v) e = absurd (false≢true e)

pub not_calm : (r : Raised) → is_calm r ≡ false → changes r ≡ 1
not_calm Nothing e = absurd (false≢true (sym e))
not_calm (Node v) e = refl
not_calm (Over v) e = refl

pub not_over : (r : Raised) → is_over r ≡ false → overs r ≡ 0
not_over Nothing e = refl
not_over (Node v) e = refl
not_over (Over v) e = absurd (false≢true (sym e))

pub over_or_not : (r : Raised) → (overs r ≡ 0) ⊎ (overs r ≡ 1)
over_or_not Nothing = inl refl
over_or_not (Node v) = inl refl
over_or_not (Over v) = inr refl

-- Nothing was done, and every link of P rests where the following goes on.
pub stay :
    {n : ℕ} {P : ℕ → ℕ → ℕ → Type 0} {g raises : List (List ℕ)} {waiting : List Bool} {last : Raised} → Live n g raises waiting last
    → (overs last ≡ 0 → (u v code : ℕ) → P u v code → Rests g waiting u v code)
    → Done n P g raises waiting last g raises waiting last
stay l rests =
    record {
      live = l;
      begun = λ z. z;
      still = λ z. refl;
      rests = rests;
      keeps = λ u v code r. r;
      grown = omega arith;
      more = λ z p. let y : ⊥ = omega arith in absurd y;
      going = λ z. z;
      edges = λ v. inl (record { high = refl; from_is = refl; link_is = refl });
    }

pub skip :
    {n : ℕ} {P : ℕ → ℕ → ℕ → Type 0} {g raises : List (List ℕ)} {waiting : List Bool} {last : Raised} → Live n g raises waiting last
    → ((u v code : ℕ) → P u v code → ⊥) → Done n P g raises waiting last g raises waiting last
skip l none = stay l (λ q u v code p. absurd (none u v code p))

pub none :
    {n : ℕ} {P : ℕ → ℕ → ℕ → ℕ → Type 0} {g raises : List (List ℕ)} {waiting : List Bool} {last : Raised} → Live n g raises waiting last
    → Done n (Upto 0 P) g raises waiting last g raises waiting last
none l = skip l (λ u v code p. let b = p.below in omega arith)

-- First the links of P, then those of Q.
pub both :
    {n : ℕ} {P Q R : ℕ → ℕ → ℕ → Type 0} {g₀ g₁ g₂ f₀ f₁ f₂ : List (List ℕ)} {w₀ w₁ w₂ : List Bool} {r₀ r₁ r₂ : Raised}
    → ((u v code : ℕ) → P u v code → R u v code) → ((u v code : ℕ) → Q u v code → R u v code)
    → ((u v code : ℕ) → R u v code → P u v code ⊎ Q u v code)
    → Done n P g₀ f₀ w₀ r₀ g₁ f₁ w₁ r₁ → Done n Q g₁ f₁ w₁ r₁ g₂ f₂ w₂ r₂ → Done n R g₀ f₀ w₀ r₀ g₂ f₂ w₂ r₂
both {P = P} {Q = Q} {R = R} {g₀ = g₀} {g₁ = g₁} {g₂ = g₂} {f₀ = f₀} {f₁ = f₁} {f₂ = f₂} {r₁ = r₁} p q s a b =
    let ga = a.grown in
    let gb = b.grown in
    record {
      live = b.live;
      begun = λ z. a.begun (b.begun z);
      still = λ z. b.still z ∙ a.still (b.begun z);
      rests = λ l u v code e.
          ⊎_elim (λ (x : P u v code). b.keeps u v code (a.rests (b.going l) u v code x)) (λ (x : Q u v code). b.rests l u v code x) (s u v code e);
      keeps = λ u v code r. b.keeps u v code (a.keeps u v code r);
      grown = omega arith;
      more = λ z l.
          by_cases (ℕ_discrete (changes r₁) 0)
          (λ (e : changes r₁ ≡ 0). omega (arith, b.more e l))
          (λ (e : changes r₁ ≡ 0 → ⊥). omega (arith, a.more z (omega arith)));
      going = λ l. a.going (b.going l);
      edges = λ v. second v (b.edges v);
    }
  where
    first : (v : ℕ) → Same g₁ f₁ g₂ f₂ v → Same g₀ f₀ g₁ f₁ v ⊎ P (from_of f₁ v) v (link_of f₁ v)
        → Same g₀ f₀ g₂ f₂ v ⊎ R (from_of f₂ v) v (link_of f₂ v)
    first v y (inl x) =
        inl (record { high = y.high ∙ x.high; from_is = y.from_is ∙ x.from_is; link_is = y.link_is ∙ x.link_is })
    first v y (inr x) = inr (rw (y.from_is, y.link_is) (p (from_of f₁ v) v (link_of f₁ v) x))

    second : (v : ℕ) → Same g₁ f₁ g₂ f₂ v ⊎ Q (from_of f₂ v) v (link_of f₂ v) → Same g₀ f₀ g₂ f₂ v ⊎ R (from_of f₂ v) v (link_of f₂ v)
    second v (inl y) = first v y (a.edges v)
    second v (inr y) = inr (q (from_of f₂ v) v (link_of f₂ v) y)

-- The followed links are some of R, and all of R rest.
pub wider :
    {n : ℕ} {P R : ℕ → ℕ → ℕ → Type 0} {g₀ g f₀ f : List (List ℕ)} {w₀ w : List Bool} {r₀ r : Raised} → ((u v code : ℕ) → P u v code → R u v code)
    → Done n P g₀ f₀ w₀ r₀ g f w r → (overs r ≡ 0 → (u v code : ℕ) → R u v code → Rests g w u v code) → Done n R g₀ f₀ w₀ r₀ g f w r
wider p a rests =
    record {
      live = a.live;
      begun = a.begun;
      still = a.still;
      rests = rests;
      keeps = a.keeps;
      grown = a.grown;
      more = a.more;
      going = a.going;
      edges = λ v. ⊎_elim (λ y. inl y) (λ y. inr (p _ _ _ y)) (a.edges v);
    }

-- The same links, named otherwise.
pub alike :
    {n : ℕ} {P R : ℕ → ℕ → ℕ → Type 0} {g₀ g f₀ f : List (List ℕ)} {w₀ w : List Bool} {r₀ r : Raised}
    → ((u v code : ℕ) → P u v code → R u v code) → ((u v code : ℕ) → R u v code → P u v code)
    → Done n P g₀ f₀ w₀ r₀ g f w r → Done n R g₀ f₀ w₀ r₀ g f w r
alike p s a = wider p a (λ l u v code e. a.rests l u v code (s u v code e))

-- One level more.
pub next :
    {n : ℕ} {P : ℕ → ℕ → ℕ → ℕ → Type 0} {k : ℕ} {g₀ g₁ g₂ f₀ f₁ f₂ : List (List ℕ)} {w₀ w₁ w₂ : List Bool} {r₀ r₁ r₂ : Raised}
    → Done n (Upto k P) g₀ f₀ w₀ r₀ g₁ f₁ w₁ r₁ → Done n (P k) g₁ f₁ w₁ r₁ g₂ f₂ w₂ r₂
    → Done n (Upto (k + 1) P) g₀ f₀ w₀ r₀ g₂ f₂ w₂ r₂
next {P = P} {k = k} a b =
    both
    (λ u v code e. record { number = e.number; below = (let l = e.below in omega arith); here = e.here })
    (λ u v code e. record { number = k; below = omega arith; here = e })
    (λ u v code e.
    by_cases (ℕ_discrete e.number k)
    (λ (q : e.number ≡ k). inr (subst (λ (i : ℕ). P i u v code) q e.here))
    (λ (q : e.number ≡ k → ⊥). inl (record { number = e.number; below = (let l = e.below in omega arith); here = e.here })))
    a b

-- All levels.
pub whole :
    {n : ℕ} {P : ℕ → ℕ → ℕ → ℕ → Type 0} {k m : ℕ} {g₀ g f₀ f : List (List ℕ)} {w₀ w : List Bool} {r₀ r : Raised}
    → Done n (Upto k P) g₀ f₀ w₀ r₀ g f w r → k ≤ m → m ≤ k → Done n (Upto m P) g₀ f₀ w₀ r₀ g f w r
whole {n} {P} {k} {m} {g₀} {g} {f₀} {f} {w₀} {w} {r₀} {r} d a b =
    let q : k ≡ m = omega arith in subst (λ (j : ℕ). Done n (Upto j P) g₀ f₀ w₀ r₀ g f w r) q d

module _ {n : ℕ} {g raises : List (List ℕ)} {waiting : List Bool} {last : Raised} (l : Live n g raises waiting last) (u v code : ℕ) where
  -- There is nothing to raise.
  pub calm : at g u + weight code ≤ at g v → Done n (Just u v code) g raises waiting last g raises waiting last
  calm h = stay l (λ q x y z e. inr (rw (e.from_is, e.to_is, e.code_is) h))

  module _ (to : v < n) (up : at g v < at g u + weight code) (last₁ : Raised) (some : changes last₁ ≡ 1) (node : node_of last₁ ≡ v)
      (named : ((at g u + weight code ≤ n) × (overs last₁ ≡ 0)) ⊎ ((n < at g u + weight code) × (overs last₁ ≡ 1))) (go : overs last ≡ 0) where
    low_node : v < 3584
    low_node = let m = l.small in omega arith

    pg : Change (at g) (at (put g v (at g u + weight code))) v (at g u + weight code)
    pg = put_change l.grid v (at g u + weight code) low_node

    larger : sum_to n (at g) < sum_to n (at (put g v (at g u + weight code)))
    larger = omega (arith, sum_change pg n to)

    from_change : Change (from_of raises) (from_of (put_raise raises v u code)) v u
    from_change = from_put raises v u code (let s = l.raise_size in let m = low_node in omega arith)

    link_change : Change (link_of raises) (link_of (put_raise raises v u code)) v code
    link_change = link_put raises v u code (let s = l.raise_size in let m = low_node in omega arith)

    raised_live : Live n (put g v (at g u + weight code)) (put_raise raises v u code) (set waiting (v / 7) true) last₁
    raised_live =
        record {
          grid = put_grid l.grid v (at g u + weight code) low_node;
          raise_size = length-put_raise raises v u code ∙ l.raise_size;
          size = length-set waiting (v / 7) true ∙ l.size;
          small = l.small;
          timed = raise l.timed up pg from_change link_change;
          node = λ b. omega arith;
          low = λ x d.
              by_cases (ℕ_discrete x v)
              (λ (q : x ≡ v).
              ⊎_elim
              (λ a. rw q (let b = a.0 in omega (arith, pg.same)))
              (λ a. absurd (d a.1 (node ∙ sym q)))
              named)
              (λ (q : x ≡ v → ⊥). omega (arith, pg.other x q, l.low x (λ (o : overs last ≡ 1) p. omega arith)));
          high = λ e.
              ⊎_elim
              (λ a. let y : ⊥ = (let b = a.1 in omega arith) in absurd y)
              (λ a. rw node (let b = a.0 in omega (arith, pg.same)))
              named;
        }

    set_mark : (s : ℕ) → get_or waiting s false ≡ true → get_or (set waiting (v / 7) true) s false ≡ true
    set_mark s e =
        by_cases (ℕ_discrete s (v / 7))
        (λ (q : s ≡ v / 7). rw q (get_or-set_same waiting (v / 7) true false (let z = l.size in let m = low_node in omega arith)))
        (λ (q : s ≡ v / 7 → ⊥). get_or-set_other waiting (v / 7) s true false q ∙ e)

    -- A link from another shape than v's rests as it did.
    kept : (x y z : ℕ) → at g x + weight z ≤ at g y → Rests (put g v (at g u + weight code)) (set waiting (v / 7) true) x y z
    kept x y z h =
        by_cases (ℕ_discrete (x / 7) (v / 7))
        (λ (q : x / 7 ≡ v / 7).
        inl (rw q (get_or-set_same waiting (v / 7) true false (let z = l.size in let m = low_node in omega arith))))
        (λ (q : x / 7 ≡ v / 7 → ⊥).
        inr (omega (arith, pg.other x (λ e. q (ap (λ (i : ℕ). i / 7) e)), grown y)))
      where
        grown : (y : ℕ) → at g y ≤ at (put g v (at g u + weight code)) y
        grown y =
            by_cases (ℕ_discrete y v)
            (λ (q : y ≡ v). rw q (omega (arith, pg.same)))
            (λ (q : y ≡ v → ⊥). omega (arith, pg.other y q))

    -- The link itself rests now.
    itself : Rests (put g v (at g u + weight code)) (set waiting (v / 7) true) u v code
    itself =
        by_cases (ℕ_discrete (u / 7) (v / 7))
        (λ (q : u / 7 ≡ v / 7).
        inl (rw q (get_or-set_same waiting (v / 7) true false (let z = l.size in let m = low_node in omega arith))))
        (λ (q : u / 7 ≡ v / 7 → ⊥). inr (omega (arith, pg.other u (λ e. q (ap (λ (i : ℕ). i / 7) e)), pg.same)))

    -- The node is raised.
    pub lift :
        Done n (Just u v code) g raises waiting last (put g v (at g u + weight code)) (put_raise raises v u code) (set waiting (v / 7) true) last₁
    lift =
        record {
          live = raised_live;
          begun = λ z. let y : ⊥ = omega arith in absurd y;
          still = λ z. let y : ⊥ = omega arith in absurd y;
          rests = λ q x y z e. rw (e.from_is, e.to_is, e.code_is) itself;
          keeps = λ x y z r. ⊎_elim (λ e. inl (set_mark (x / 7) e)) (λ h. kept x y z h) r;
          grown = omega (arith, larger);
          more = λ z p. larger;
          going = λ q. go;
          edges = λ x.
              by_cases (ℕ_discrete x v)
              (λ (q : x ≡ v).
              inr (record {
                from_is = rw q from_change.same;
                to_is = q;
                code_is = rw q link_change.same;
              }))
              (λ (q : x ≡ v → ⊥).
              inl (record {
                high = pg.other x q;
                from_is = from_change.other x q;
                link_is = link_change.other x q;
              }));
        }

    -- The same, of numbers that are known by equations.
    pub lifted :
        {x t : ℕ} {g₁ f₁ : List (List ℕ)} → x ≡ at g u + weight code → g₁ ≡ put g v x → f₁ ≡ put_raise raises v u code → t ≡ v / 7
        → Done n (Just u v code) g raises waiting last g₁ f₁ (set waiting t true) last₁
    lifted e eg ef et = rw (eg, ef, e, et) lift

-- What was left is known by equations.
pub arrived :
    {n : ℕ} {P : ℕ → ℕ → ℕ → Type 0} {g₀ g g₁ f₀ f f₁ : List (List ℕ)} {w₀ w w₁ : List Bool} {r₀ r r₁ : Raised}
    → g ≡ g₁ → f ≡ f₁ → w ≡ w₁ → r ≡ r₁ → Done n P g₀ f₀ w₀ r₀ g₁ f₁ w₁ r₁ → Done n P g₀ f₀ w₀ r₀ g f w r
arrived eg ef ew er d = rw (eg, ef, ew, er) d

-- The best source among the fields from k on, and its generation; 0 where none of them is a source.
abbrev GenerationOf : List (List ℕ) → ℕ → Option ℕ → ℕ → Type 0
GenerationOf g s (Some p) x = at g (7 * s + p) ≡ x
GenerationOf g s None x = x ≡ 0

pub record Among (bytes : List ℕ) (g : List (List ℕ)) (s k : ℕ) (source : Option ℕ) (x : ℕ) : Type 0 where
  pub best : BestFrom bytes g s k source
  pub is : GenerationOf g s source x

module _ {bytes : List ℕ} {g : List (List ℕ)} {s : ℕ} where
  -- Field i is no source, or a lower one.
  pub among_same : {k i x : ℕ} (source : Option ℕ) → Among bytes g s k source x → k ≤ i + 1 → (get_or bytes (21 + i) 0 ≡ 1 → at g (7 * s + i) < x) → Among bytes g s i source x
  among_same {k} {i} {x} None a b low =
      record {
        best = λ q l m o.
            by_cases (ℕ_discrete q i)
            (λ (z : q ≡ i). let y = low (subst (λ (j : ℕ). get_or bytes (21 + j) 0 ≡ 1) z o) in omega (arith, a.is))
            (λ (z : q ≡ i → ⊥). a.best q (omega arith) m o);
        is = a.is;
      }
  among_same {k} {i} {x} (Some p) a b low =
      record {
        best =
            record {
              place = a.best.place;
              source = a.best.source;
              most = λ q l m o.
                  by_cases (ℕ_discrete q i)
                  (λ (z : q ≡ i). let y = low (subst (λ (j : ℕ). get_or bytes (21 + j) 0 ≡ 1) z o) in rw z (omega (arith, a.is)))
                  (λ (z : q ≡ i → ⊥). a.best.most q (omega arith) m o);
            };
        is = a.is;
      }

-- A rule without sources has no fresh links.
pub fresh-none :
    {n : ℕ} {bytes : List ℕ} {s y z : ℕ} {g raises : List (List ℕ)} {waiting : List Bool} {last : Raised} → Live n g raises waiting last → NoSource bytes 0
    → Done n (Upto 7 (FreshLink bytes s y z)) g raises waiting last g raises waiting last
fresh-none l none = skip l (λ u v code f. none f.number (omega arith) f.below f.here.source)

-- After the fresh link from the best source the others rest.
pub fresh-best :
    {n : ℕ} {bytes : List ℕ} {s y z p : ℕ} {g₀ g f₀ f : List (List ℕ)} {w₀ w : List Bool} {r₀ r : Raised} → BestPlace bytes g₀ s 0 p
    → Done n (Just (7 * s + p) y z) g₀ f₀ w₀ r₀ g f w r → Done n (Upto 7 (FreshLink bytes s y z)) g₀ f₀ w₀ r₀ g f w r
fresh-best {s = s} {y} {z} {p} {g = g} {w = w} b a =
    wider
    (λ u v code e. record { number = p; below = b.place; here = record { source = b.source; just = e } })
    a
    (λ h u v code e.
    rw (e.here.just.from_is, e.here.just.to_is, e.here.just.code_is)
    (other e.number e.below (a.rests h (7 * s + p) y z (record { from_is = refl; to_is = refl; code_is = refl }))
    (a.keeps (7 * s + e.number) (7 * s + p) 0 (inr (omega (arith, b.most e.number (omega arith) e.below e.here.source))))))
  where
    other : (q : ℕ) → q < 7 → Rests g w (7 * s + p) y z → Rests g w (7 * s + q) (7 * s + p) 0 → Rests g w (7 * s + q) y z
    other q m (inl c) d = inl (subst (λ (i : ℕ). get_or w i false ≡ true) (let e : (7 * s + p) / 7 ≡ (7 * s + q) / 7 = omega arith in e) c)
    other q m (inr c) (inl d) = inl d
    other q m (inr c) (inr d) = inr (omega arith)
