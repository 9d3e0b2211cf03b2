-- Walks along links: the steps of the links that lead to a node, shape by shape; lines from generation 0, and loops. Assumes nothing.
use mathlib.Core.Path.{◌≡◌, refl, sym, ◌∙◌, ap, subst}
use mathlib.Core.Logic.{inl, inr}
use mathlib.Core.List.{List, [], ◌∷◌, ◌++◌}
use Prim.Native.Nat.{ℕ, zero, suc, ◌+◌, ◌-◌, ◌*◌, ◌/◌, ◌%◌, ◌≤◌, ◌<◌}
use native.Mathlib.Decide.{ℕ_discrete}
use native.Mathlib.Omega.{arith}
use lib.ListN.{length}
use Rattle.chase.specs.Lists.{In, All}
use Rattle.chase.specs.Rules.{Rule}
use Rattle.chase.specs.Shape.{Shape}
use Rattle.chase.specs.Counting.{NoTwo}
use Rattle.chase.specs.Steps.{Step, Moves, Follow, last_to, last_fresh, Place}
use Rattle.chase.specs.Certificate.{shape_after, EachShape, last_shape, places_on, LoopOn, fresh_steps}
use Rattle.rules.specs.Table.{RuleFits}
use Rattle.judging.specs.Inner.Codes.{ShapeFits}
use Rattle.judging.specs.Inner.Found.{shape_no}
use Rattle.judging.specs.Inner.Nodes.{back, weight, fresh_back, Stable, Turn}
use Rattle.judging.specs.Inner.Links.{Link}
use Rattle.judging.specs.Inner.Written.{link_step, line_to}
use Rattle.judging.proofs.Places.{few_below}
use Rattle.judging.proofs.WalkLaws.{back_after, back_add}
use Rattle.judging.proofs.LinkSteps.{link_numbers, link_moves, link_to, link_begins, link_ends}

module _ (F K : ℕ → ℕ) where
  -- The link that lies k links back from node x.
  abbrev pub step_at : ℕ → ℕ → Step
  step_at k x = link_step (back F (suc k) x) (K (back F k x)) (back F k x)

  -- The k links that lead to node x, the first one first.
  abbrev pub walk : ℕ → ℕ → List Step
  walk zero x = []
  walk (suc k) x = step_at k x ∷ walk k x

  walk_snoc : (k x : ℕ) → walk k (F x) ++ (link_step (F x) (K x) x ∷ []) ≡ walk (suc k) x
  walk_snoc zero x = refl
  walk_snoc (suc k) x = rw (walk_snoc k x, back_after F k x)

  pub line_walk : (k x : ℕ) → line_to F K k x ≡ walk k x
  line_walk zero x = refl
  line_walk (suc k) x = ap (λ (l : List Step). l ++ (link_step (F x) (K x) x ∷ [])) (line_walk k (F x)) ∙ walk_snoc k x

  pub walk_length : (k x : ℕ) → length (walk k x) ≡ k
  walk_length zero x = refl
  walk_length (suc k) x = ap suc (walk_length k x)

  pub walk_follow : (k x : ℕ) → Follow (back F k x % 7) (walk k x)
  walk_follow zero x = tt
  walk_follow (suc k) x = (refl, walk_follow k x)

  pub walk_last_to : (k x : ℕ) → last_to (back F k x % 7) (walk k x) ≡ x % 7
  walk_last_to zero x = refl
  walk_last_to (suc k) x = walk_last_to k x

  pub walk_last_fresh : (fresh k x : ℕ) → last_fresh fresh (walk (suc k) x) ≡ weight (K x)
  walk_last_fresh fresh zero x = refl
  walk_last_fresh fresh (suc k) x = walk_last_fresh (step_at (suc k) x).fresh k x

  -- The fresh links back from x: its own, and those back from where it begins.
  fresh_back_first : (k x : ℕ) → fresh_back F K (suc k) x ≡ weight (K x) + fresh_back F K k (F x)
  fresh_back_first zero x = omega arith
  fresh_back_first (suc k) x = omega (arith, fresh_back_first k x, ap (λ (u : ℕ). weight (K u)) (back_after F k x))

  pub walk_fresh : (rules : List Rule) (k x : ℕ) → fresh_steps rules (walk k x) ≡ fresh_back F K k x
  walk_fresh rules zero x = refl
  walk_fresh rules (suc k) x = omega (arith, walk_fresh rules k x)

  -- One of them is fresh where they are counted.
  pub some_fresh_step : (k x : ℕ) → 0 < fresh_back F K k x → (st : Step) × In st (walk k x) × (st.fresh ≡ 1)
  some_fresh_step zero x l = absurd (omega arith)
  some_fresh_step (suc k) x l = go (ℕ_discrete (K (back F k x) % 2) 1) (λ h. some_fresh_step k x h)
    where
      go : Dec (K (back F k x) % 2 ≡ 1) → (0 < fresh_back F K k x → (st : Step) × In st (walk k x) × (st.fresh ≡ 1))
          → (st : Step) × In st (walk (suc k) x) × (st.fresh ≡ 1)
      go (yes e) ih = (step_at k x, inl refl, e)
      go (no h) ih =
          let s = ih (omega arith) in
          (s.0, inr s.1, s.2)

  -- A walk that comes to a node twice never leaves its circle.
  pub meets : (i j n x : ℕ) → back F i x ≡ back F j x → back F (n + i) x ≡ back F (n + j) x
  meets i j n x e = back_add F n i x ∙ ap (back F n) e ∙ sym (back_add F n j x)

-- Walks along links of a sheet.
module _ (rules : List Rule) (codes : List ℕ) (count : ℕ) (fit : All RuleFits rules) (fits : (k : ℕ) → k < count → ShapeFits (shape_no codes k))
    (F K : ℕ → ℕ) where
  -- Each of the k links back from x is a link of the sheet.
  abbrev pub AreLinks : ℕ → ℕ → Type 0
  AreLinks k x = (j : ℕ) → j < k → Link rules codes count (back F (suc j) x) (back F j x) (K (back F j x))

  fewer : (k x : ℕ) → AreLinks (suc k) x → AreLinks k x
  fewer k x links j l = links j (omega arith)

  node_field : (k x : ℕ) → AreLinks k x → (j : ℕ) → j < k → back F j x % 7 ≡ 0 → ⊥
  node_field k x links j l =
      link_ends rules codes count fit fits (back F (suc j) x) (back F j x) (K (back F j x)) (links j l)

  pub node_below : (k x : ℕ) → AreLinks k x → (j : ℕ) → j < k → back F j x < 7 * count
  node_below k x links j l =
      (link_numbers rules codes count fit fits (back F (suc j) x) (back F j x) (K (back F j x)) (links j l)).to_below

  pub start_node : (k x : ℕ) → AreLinks k x → 0 < k → back F k x < 7 * count
  start_node zero x links l = absurd (omega arith)
  start_node (suc k) x links l =
      (link_numbers rules codes count fit fits (back F (suc k) x) (back F k x) (K (back F k x)) (links k (omega arith))).from_below

  pub start_below : (k x : ℕ) → AreLinks k x → 0 < k → back F k x / 7 < count
  start_below zero x links l = absurd (omega arith)
  start_below (suc k) x links l =
      link_begins rules codes count fit fits (back F (suc k) x) (back F k x) (K (back F k x)) (links k (omega arith))

  pub step_to : (k x : ℕ) → AreLinks (suc k) x
      → shape_after rules (step_at F K k x) (shape_no codes (back F (suc k) x / 7)) ≡ shape_no codes (back F k x / 7)
  step_to k x links =
      link_to rules codes count fit fits (back F (suc k) x) (back F k x) (K (back F k x)) (links k (omega arith))

  -- It begins at a field: then each step is a carried or a fresh one.
  pub walk_moves : (k x : ℕ) → AreLinks k x → (back F k x % 7 ≡ 0 → ⊥) → EachShape rules (Moves rules) (shape_no codes (back F k x / 7)) (walk F K k x)
  walk_moves zero x links away = tt
  walk_moves (suc k) x links away = (
    link_moves rules codes count fit fits (back F (suc k) x) (back F k x) (K (back F k x)) (links k (omega arith)) away,
    rw (step_to k x links) (walk_moves k x (fewer k x links) (node_field (suc k) x links k (omega arith))),
  )

  pub walk_last : (k x : ℕ) → AreLinks k x → last_shape rules (shape_no codes (back F k x / 7)) (walk F K k x) ≡ shape_no codes (x / 7)
  walk_last zero x links = refl
  walk_last (suc k) x links = ap (λ (s : Shape). last_shape rules s (walk F K k x)) (step_to k x links) ∙ walk_last k x (fewer k x links)

  -- The place of a node.
  abbrev place_of : ℕ → Place
  place_of u = record { shape = shape_no codes (u / 7); field = u % 7 }

  places_in : (k x : ℕ) → AreLinks k x → (p : Place) → In p (places_on rules (shape_no codes (back F k x / 7)) (walk F K k x))
      → (j : ℕ) × (0 < j) × (j ≤ k) × (p ≡ place_of (back F j x))
  places_in zero x links p i = absurd i
  places_in (suc k) x links p (inl e) = (suc k, omega arith, omega arith, e)
  places_in (suc k) x links p (inr i) =
      let s = places_in k x (fewer k x links) p (rw (step_to k x links) at i) in
      (s.0, s.1, omega (arith, s.2), s.3)

  module _ (one : (i j : ℕ) → i < count → j < count → shape_no codes i ≡ shape_no codes j → i ≡ j) where
    same_node : (u v : ℕ) → u / 7 < count → v / 7 < count → place_of u ≡ place_of v → u ≡ v
    same_node u v a b e =
        let p : u / 7 ≡ v / 7 = one (u / 7) (v / 7) a b (ap (λ (p : Place). p.shape) e) in
        let q : u % 7 ≡ v % 7 = ap (λ (p : Place). p.field) e in
        omega arith

    pub places_apart : (k x : ℕ) → AreLinks k x → ((i j : ℕ) → 0 < i → i < j → j ≤ k → back F i x ≡ back F j x → ⊥)
        → NoTwo (places_on rules (shape_no codes (back F k x / 7)) (walk F K k x))
    places_apart zero x links apart = tt
    places_apart (suc k) x links apart = (
      (λ i.
          let s = places_in k x (fewer k x links) (place_of (back F (suc k) x)) (rw (step_to k x links) at i) in
          let below = start_below s.0 x (λ j l. links j (omega (arith, l, s.2))) s.1 in
          apart s.0 (suc k) s.1 (omega (arith, s.2)) (omega arith)
          (sym (same_node (back F (suc k) x) (back F s.0 x) (start_below (suc k) x links (omega arith)) below s.3))),
      rw (step_to k x links) (places_apart k x (fewer k x links) (λ i j p l m e. apart i j p l (omega arith) e)),
    )

    -- A loop.
    pub loop_on : (k y : ℕ) → Turn (Link rules codes count) F K k y → LoopOn rules (shape_no codes (y / 7)) (line_to F K k y)
    loop_on zero y t = absurd (omega (arith, t.some))
    loop_on (suc k) y t =
        let again : back F (suc k) y / 7 ≡ y / 7 = ap (λ (n : ℕ). n / 7) t.closes in
        let away : back F (suc k) y % 7 ≡ 0 → ⊥ = λ z. node_field (suc k) y t.links 0 (omega arith) (ap (λ (n : ℕ). n % 7) (sym t.closes) ∙ z) in
        let f = some_fresh_step F K (suc k) y t.renews in
        let on : LoopOn rules (shape_no codes (back F (suc k) y / 7)) (walk F K (suc k) y) =
        record {
          first = step_at F K k y;
          others = walk F K k y;
          steps_are = refl;
          moves = walk_moves (suc k) y t.links away;
          follow = walk_follow F K k y;
          one_fresh = f.0;
          among = f.1;
          fresh = f.2;
          shape_again = walk_last (suc k) y t.links ∙ ap (shape_no codes) (sym again);
          field_again = walk_last_to F K k y ∙ ap (λ (n : ℕ). n % 7) (sym t.closes);
          different = places_apart (suc k) y t.links (apart t);
        } in
        rw (line_walk F K (suc k) y) (subst (λ (n : ℕ). LoopOn rules (shape_no codes n) (walk F K (suc k) y)) again on)
      where
        apart : Turn (Link rules codes count) F K (suc k) y → (i j : ℕ) → 0 < i → i < j → j ≤ suc k → back F i y ≡ back F j y → ⊥
        apart t i j p l m e = go (ℕ_discrete j (suc k))
          where
            go : Dec (j ≡ suc k) → ⊥
            go (yes q) = t.apart 0 i p (omega arith) (sym (e ∙ ap (λ (n : ℕ). back F n y) q ∙ t.closes))
            go (no h) = t.apart i j l (omega arith) e

  -- A walk through different nodes has at most six for each shape.
  pub walk_short : (k x : ℕ) → AreLinks k x → ((i j : ℕ) → i < j → j < k → back F i x ≡ back F j x → ⊥) → k ≤ 6 * count
  walk_short k x links apart =
      few_below (λ j. 6 * (back F j x / 7) + (back F j x % 7 - 1)) k (6 * count)
      (λ j l. small (back F j x) (node_field k x links j l) (node_below k x links j l))
      (λ i j l m e. apart i j l m (same (back F i x) (back F j x) (node_field k x links i (omega arith)) (node_field k x links j m) e))
    where
      field_positive : (u : ℕ) → (u % 7 ≡ 0 → ⊥) → 0 < u % 7
      field_positive u h = go (u % 7) h
        where
          go : (n : ℕ) → (n ≡ 0 → ⊥) → 0 < n
          go zero h = absurd (h refl)
          go (suc n) h = omega arith

      small : (u : ℕ) → (u % 7 ≡ 0 → ⊥) → u < 7 * count → 6 * (u / 7) + (u % 7 - 1) < 6 * count
      small u a b = let n : 0 < u % 7 = field_positive u a in omega arith

      same : (u v : ℕ) → (u % 7 ≡ 0 → ⊥) → (v % 7 ≡ 0 → ⊥) → 6 * (u / 7) + (u % 7 - 1) ≡ 6 * (v / 7) + (v % 7 - 1) → u ≡ v
      same u v a b e = let n : 0 < u % 7 = field_positive u a in let m : 0 < v % 7 = field_positive v b in omega arith

  -- Along stable links the generation rises with each fresh one.
  pub rises_along : (G : ℕ → ℕ) → Stable (Link rules codes count) G → (k x : ℕ) → AreLinks k x → G (back F k x) + fresh_back F K k x ≤ G x
  unfolding Stable
  rises_along G stable zero x links = omega arith
  rises_along G stable (suc k) x links =
      omega (
        arith,
        rises_along G stable k x (fewer k x links),
        stable (back F (suc k) x) (back F k x) (K (back F k x)) (links k (omega arith)),
      )

  -- So the number at the end of a line is made at a node of it, by a fresh link.
  pub made_along : (G : ℕ → ℕ) → Stable (Link rules codes count) G → (k x : ℕ) → AreLinks k x → 0 < fresh_back F K k x
      → (y : ℕ) × (y < 7 * count) × (weight (K y) ≡ 1) × (fresh_back F K k x ≤ G y)
  made_along G stable zero x links some = absurd (omega arith)
  made_along G stable (suc k) x links some =
      go (ℕ_discrete (weight (K x)) 1) (made_along G stable k (F x) (λ j l. rw (back_after F j x) (links (suc j) (omega arith))))
    where
      go : Dec (weight (K x) ≡ 1)
          → (0 < fresh_back F K k (F x) → (y : ℕ) × (y < 7 * count) × (weight (K y) ≡ 1) × (fresh_back F K k (F x) ≤ G y))
          → (y : ℕ) × (y < 7 * count) × (weight (K y) ≡ 1) × (fresh_back F K (suc k) x ≤ G y)
      go (yes e) ih = (x, node_below (suc k) x links 0 (omega arith), e, omega (arith, rises_along G stable (suc k) x links))
      go (no h) ih =
          let first : fresh_back F K (suc k) x ≡ weight (K x) + fresh_back F K k (F x) = fresh_back_first F K k x in
          let s = ih (omega arith) in
          (s.0, s.1, s.2, omega (arith, s.3))
