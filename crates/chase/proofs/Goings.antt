-- All steps that go from a record, listed: each rule that fires on it with each of its H lines; then the reaching steps, and the carried and fresh ones. Assumes nothing.
use mathlib.Core.Path.{◌≡◌, refl, ap}
use mathlib.Core.Logic.{◌⊎◌, inl, inr}
use mathlib.Core.List.{List, [], ◌∷◌, ◌++◌, map}
use mathlib.Core.Option.{some, none-ne-some}
use Prim.Native.Nat.{ℕ, zero, suc}
use native.Mathlib.Decide.{ℕ_discrete}
pub use Rattle.patterns.specs.Lists.{Numbered, next, numbered}
use Rattle.patterns.specs.Pattern.{pick}
use Rattle.chase.specs.Lists.{options_discrete, In, in?}
use Rattle.chase.specs.Rules.{Head, Rule, nth}
use Rattle.chase.specs.Value.{Value, Value-discrete}
use Rattle.chase.specs.Making.{Record, Fires, fires?, value_of, carried_values}
use Rattle.chase.specs.Steps.{Step, Goes, Reaching, Moves}
use Rattle.chase.proofs.ListLaws.{in_left, in_right, in_append, in_map, map_in, in_place_lem}
use Rattle.chase.proofs.StepLaws.{carried_value, mark_stands}

-- The elements of a list with their numbers.
module _ {A : Type 0} where
  pub in_numbered : (l : List A) (n : ℕ) (x : A) → nth l n ≡ some x → In (record { number = n; item = x }) (numbered l)
  in_numbered l zero x e = absurd (none-ne-some x e)
  in_numbered [] (suc n) x e = absurd (none-ne-some x e)
  in_numbered (y ∷ l) (suc zero) x e = let q : x ≡ y = cc in inl (ap (λ (z : A). record { number = 1; item = z }) q)
  in_numbered (y ∷ l) (suc (suc n)) x e = inr (in_map next (record { number = suc n; item = x }) (numbered l) (in_numbered l (suc n) x e))

  later : (y : A) (l : List A) (n : ℕ) (x : A) → nth l n ≡ some x → nth (y ∷ l) (suc n) ≡ some x
  later y l zero x e = absurd (none-ne-some x e)
  later y l (suc n) x e = e

  pub numbered-nth : (l : List A) (p : Numbered A) → In p (numbered l) → nth l p.number ≡ some p.item
  numbered-nth [] p i = absurd i
  numbered-nth (y ∷ l) p (inl e) = rw e
  numbered-nth (y ∷ l) p (inr i) =
      let s = map_in next (numbered l) p i in
      rw s.2 (later y l s.0.number s.0.item (numbered-nth l s.0 s.1))

  -- An element has a number.
  pub in_nth : (l : List A) (x : A) → In x l → (n : ℕ) × (nth l n ≡ some x)
  in_nth l x i =
      let s = in_place_lem x l i in
      (suc s.0, s.1)

-- What each element gives.
module _ {A B : Type 0} (f : A → List B) where
  abbrev pub each : List A → List B
  each [] = []
  each (x ∷ l) = f x ++ each l

  pub in_each : (x : A) (y : B) (l : List A) → In x l → In y (f x) → In y (each l)
  in_each x y [] i j = absurd i
  in_each x y (z ∷ l) (inl e) j = in_left y (f z) (each l) (rw e at j)
  in_each x y (z ∷ l) (inr i) j = in_right y (f z) (each l) (in_each x y l i j)

  pub each_in : (y : B) (l : List A) → In y (each l) → (x : A) × In x l × In y (f x)
  each_in y [] i = absurd i
  each_in y (z ∷ l) i = go (in_append y (f z) (each l) i) (λ j. each_in y l j)
    where
      go : In y (f z) ⊎ In y (each l) → (In y (each l) → (x : A) × In x l × In y (f x)) → (x : A) × In x (z ∷ l) × In y (f x)
      go (inl j) ih = (z, inl refl, j)
      go (inr j) ih = let s = ih j in (s.0, inr s.1, s.2)

-- What is picked where something is so.
module _ {P A : Type 0} (l : List A) where
  abbrev pub where? : Dec P → List A
  where? d = pick d l []

  pub in_where : (x : A) (d : Dec P) → P → In x l → In x (where? d)
  in_where x (yes p) q i = i
  in_where x (no h) q i = absurd (h q)

  pub where_in : (x : A) (d : Dec P) → In x (where? d) → P × In x l
  where_in x (yes p) i = (p, i)
  where_in x (no h) i = absurd i

-- A rule with one of its H lines.
pub record Going : Type 0 where
  pub rule : Numbered Rule
  pub head : Numbered Head

abbrev pub going : ℕ → Rule → ℕ → Head → Going
going n r k h = record { rule = record { number = n; item = r }; head = record { number = k; item = h } }

module _ (rules : List Rule) (x : Record) where
  abbrev with_heads : Numbered Rule → List Going
  with_heads n = map (λ h. record { rule = n; head = h }) (numbered n.item.heads)

  -- Those that go from the record.
  abbrev pub goings : List Going
  goings = each (λ n. where? (with_heads n) (fires? n.item x)) (numbered rules)

  pub in_goings : (n : ℕ) (r : Rule) (k : ℕ) (h : Head) → nth rules n ≡ some r → nth r.heads k ≡ some h → Fires r x → In (going n r k h) goings
  in_goings n r k h e l f =
      in_each (λ n. where? (with_heads n) (fires? n.item x)) (record { number = n; item = r }) (going n r k h) (numbered rules) (in_numbered rules n r e)
      (in_where (with_heads (record { number = n; item = r })) (going n r k h) (fires? r x) f
      (in_map (λ h. record { rule = record { number = n; item = r }; head = h }) (record { number = k; item = h }) (numbered r.heads)
      (in_numbered r.heads k h l)))

  -- What a going says.
  pub record GoingIs (p : Going) : Type 0 where
    pub named : nth rules p.rule.number ≡ some p.rule.item
    pub line : nth p.rule.item.heads p.head.number ≡ some p.head.item
    pub fires : Fires p.rule.item x

  pub goings_in : (p : Going) → In p goings → GoingIs p
  goings_in p i =
      let s = each_in (λ n. where? (with_heads n) (fires? n.item x)) p (numbered rules) i in
      let t = where_in (with_heads s.0) p (fires? s.0.item x) s.2 in
      let u = map_in (λ h. record { rule = s.0; head = h }) (numbered s.0.item.heads) p t.1 in
      rw u.2 (record { named = numbered-nth rules s.0 s.1; line = numbered-nth s.0.item.heads u.0 u.1; fires = t.0 })

  -- The reaching steps.
  abbrev pub reaching_by : Going → Step
  reaching_by p = record { rule = p.rule.number; head = p.head.number; from = 0; to = 0; fresh = 0 }

  abbrev pub reaches : List Step
  reaches = map reaching_by goings

  pub in_reaches : (st : Step) → Reaching rules st x → In st reaches
  in_reaches st r =
      let g = r.goes in
      let e : st ≡ reaching_by (going st.rule g.rule st.head g.head) =
      λ i. record { rule = st.rule; head = st.head; from = r.from i; to = r.to i; fresh = r.fresh i } in
      rw e (in_map reaching_by (going st.rule g.rule st.head g.head) goings
      (in_goings st.rule g.rule st.head g.head g.named g.line g.fires))

  pub reaches_in : (st : Step) → In st reaches → Reaching rules st x
  reaches_in st i =
      let s = map_in reaching_by goings st i in
      let g = goings_in s.0 s.1 in
      rw s.2
      (record {
        goes = record { rule = s.0.rule.item; named = g.named; head = s.0.head.item; line = g.line; fires = g.fires };
        from = refl;
        to = refl;
        fresh = refl;
      })

  -- The carried and fresh steps, from a field to a field.
  abbrev pub step_by : Going → ℕ → ℕ → ℕ → Step
  step_by p from to fresh = record { rule = p.rule.number; head = p.head.number; from = from; to = to; fresh = fresh }

  abbrev moves_between : Going → Numbered ℕ → Numbered Value → List Step
  moves_between p m v =
      pick (in? ℕ_discrete m.item p.rule.item.marks)
      (where? (step_by p v.number m.number 0 ∷ [])
      (options_discrete Value-discrete (value_of p.rule.item.marks x.fields m.item) (some v.item)))
      (where? (step_by p v.number m.number 1 ∷ []) (in? Value-discrete v.item (carried_values p.rule.item x.fields)))

  abbrev moves_to : Going → Numbered ℕ → List Step
  moves_to p m = each (moves_between p m) (numbered x.fields)

  abbrev moves_by : Going → List Step
  moves_by p = each (moves_to p) (numbered p.head.item.marks)

  abbrev pub moves : List Step
  moves = each moves_by goings

  picked_yes : {P A : Type 0} (d : Dec P) (a b : List A) (y : A) → P → In y a → In y (pick d a b)
  picked_yes (yes p) a b y q i = i
  picked_yes (no h) a b y q i = absurd (h q)

  picked_no : {P A : Type 0} (d : Dec P) (a b : List A) (y : A) → (P → ⊥) → In y b → In y (pick d a b)
  picked_no (yes p) a b y q i = absurd (q p)
  picked_no (no h) a b y q i = i

  picked_in : {P A : Type 0} (d : Dec P) (a b : List A) (y : A) → In y (pick d a b) → (P × In y a) ⊎ ((P → ⊥) × In y b)
  picked_in (yes p) a b y i = inl (p, i)
  picked_in (no h) a b y i = inr (h, i)

  abbrev going_of : (st : Step) → Goes rules st x → Going
  going_of st g = going st.rule g.rule st.head g.head

  -- A step between two fields is listed if it is listed between these fields.
  in_between : (st : Step) (g : Goes rules st x) (m : ℕ) (v : Value) → nth g.head.marks st.to ≡ some m → nth x.fields st.from ≡ some v
      → In st (moves_between (going_of st g) (record { number = st.to; item = m }) (record { number = st.from; item = v })) → In st moves
  in_between st g m v t f i =
      in_each moves_by (going_of st g) st goings (in_goings st.rule g.rule st.head g.head g.named g.line g.fires)
      (in_each (moves_to (going_of st g)) (record { number = st.to; item = m }) st (numbered g.head.marks) (in_numbered g.head.marks st.to m t)
      (in_each (moves_between (going_of st g) (record { number = st.to; item = m })) (record { number = st.from; item = v }) st (numbered x.fields)
      (in_numbered x.fields st.from v f) i))

  with_fresh : (st : Step) (g : Goes rules st x) (b : ℕ) → st.fresh ≡ b → In st (step_by (going_of st g) st.from st.to b ∷ [])
  with_fresh st g b e = inl (λ i. record { rule = st.rule; head = st.head; from = st.from; to = st.to; fresh = e i })

  pub in_moves : (st : Step) → Moves rules st x → In st moves
  in_moves st (inl c) =
      let g = c.goes in
      let old = step_by (going_of st g) st.from st.to 0 ∷ [] in
      let new = step_by (going_of st g) st.from st.to 1 ∷ [] in
      let stands? = options_discrete Value-discrete (value_of g.rule.marks x.fields c.mark) (some c.value) in
      in_between st g c.mark c.value c.to c.from
      (picked_yes (in? ℕ_discrete c.mark g.rule.marks) (where? old stands?)
      (where? new (in? Value-discrete c.value (carried_values g.rule x.fields))) st c.carried
      (in_where old st stands? (carried_value rules st x c) (with_fresh st g 0 c.fresh)))
  in_moves st (inr f) =
      let g = f.goes in
      let old = step_by (going_of st g) st.from st.to 0 ∷ [] in
      let new = step_by (going_of st g) st.from st.to 1 ∷ [] in
      let among? = in? Value-discrete f.value (carried_values g.rule x.fields) in
      in_between st g f.mark f.value f.to f.from
      (picked_no (in? ℕ_discrete f.mark g.rule.marks)
      (where? old (options_discrete Value-discrete (value_of g.rule.marks x.fields f.mark) (some f.value))) (where? new among?) st f.new
      (in_where new st among? f.among (with_fresh st g 1 f.fresh)))

  -- Whatever is listed moves.
  between_moves : (p : Going) (m : Numbered ℕ) (v : Numbered Value) (st : Step) → GoingIs p → nth p.head.item.marks m.number ≡ some m.item
      → nth x.fields v.number ≡ some v.item → In st (moves_between p m v) → Moves rules st x
  between_moves p m v st g t f i =
      go (picked_in (in? ℕ_discrete m.item p.rule.item.marks) (where? old stands?) (where? new among?) st i)
    where
      old : List Step
      old = step_by p v.number m.number 0 ∷ []

      new : List Step
      new = step_by p v.number m.number 1 ∷ []

      stands? : Dec (value_of p.rule.item.marks x.fields m.item ≡ some v.item)
      stands? = options_discrete Value-discrete (value_of p.rule.item.marks x.fields m.item) (some v.item)

      among? : Dec (In v.item (carried_values p.rule.item x.fields))
      among? = in? Value-discrete v.item (carried_values p.rule.item x.fields)

      goes : (b : ℕ) → Goes rules (step_by p v.number m.number b) x
      goes b = record { rule = p.rule.item; named = g.named; head = p.head.item; line = g.line; fires = g.fires }

      carries : In m.item p.rule.item.marks → value_of p.rule.item.marks x.fields m.item ≡ some v.item
          → Moves rules (step_by p v.number m.number 0) x
      carries c s =
          inl (record {
            goes = goes 0;
            fresh = refl;
            mark = m.item;
            to = t;
            carried = c;
            value = v.item;
            from = f;
            stands = mark_stands rules (step_by p v.number m.number 0) x (goes 0) m.number m.item v.item t s;
          })

      renews : (In m.item p.rule.item.marks → ⊥) → In v.item (carried_values p.rule.item x.fields)
          → Moves rules (step_by p v.number m.number 1) x
      renews c s = inr (record { goes = goes 1; fresh = refl; mark = m.item; to = t; new = c; value = v.item; from = f; among = s })

      is_first : (s : Step) → In st (s ∷ []) → st ≡ s
      is_first s (inl e) = e
      is_first s (inr k) = absurd k

      go : (In m.item p.rule.item.marks × In st (where? old stands?)) ⊎ ((In m.item p.rule.item.marks → ⊥) × In st (where? new among?))
          → Moves rules st x
      go (inl (c, j)) =
          let s = where_in old st stands? j in
          rw (is_first (step_by p v.number m.number 0) s.1) (carries c s.0)
      go (inr (c, j)) =
          let s = where_in new st among? j in
          rw (is_first (step_by p v.number m.number 1) s.1) (renews c s.0)

  pub moves_in : (st : Step) → In st moves → Moves rules st x
  moves_in st i =
      let s = each_in moves_by st goings i in
      let t = each_in (moves_to s.0) st (numbered s.0.head.item.marks) s.2 in
      let u = each_in (moves_between s.0 t.0) st (numbered x.fields) t.2 in
      between_moves s.0 t.0 u.0 st (goings_in s.0 s.1) (numbered-nth s.0.head.item.marks t.0 t.1)
      (numbered-nth x.fields u.0 u.1) u.2
