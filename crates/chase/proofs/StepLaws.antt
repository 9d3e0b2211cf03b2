-- Laws of steps: what a step asks of a record depends on the record's shape alone; the firings that steps stand for fit; the number that carried and fresh steps follow gets a later generation with each fresh one. Assumes nothing.
use mathlib.Core.Path.{◌≡◌, refl, sym, ◌∙◌, ap, subst}
use mathlib.Core.Logic.{◌⊎◌, inl, inr}
use mathlib.Core.List.{List, [], ◌∷◌, ◌++◌, map}
use mathlib.Core.Option.{Option, none, some, none-ne-some}
use Prim.Native.Nat.{ℕ, zero, suc, ◌+◌, ◌*◌, ◌≤◌}
use native.Mathlib.Omega.{arith}
use lib.ListN.{length, get_elem?}
use Rattle.patterns.proofs.PatternLaws.{digit, digit_inj}
use Rattle.chase.specs.Lists.{In, All2}
use Rattle.chase.specs.Rules.{Rule, nth}
use Rattle.chase.specs.Value.{Value, table, Value-discrete, generation}
use Rattle.chase.specs.Making.{Record, made, fresh_of, or_else, value_of, carried_values}
use Rattle.chase.specs.Run.{Firing, fire, run, Fits, AllFit}
use Rattle.chase.specs.Shape.{Shape, shape_of}
use Rattle.chase.specs.Steps.{Step, step_numbers, after, Each, last_of, fired_on, firings_of, Goes, Reaching, Carried, Fresh, FreshAlone, Moves, Follow, last_to, last_fresh, value_at, places_of}
use Rattle.chase.specs.Certificate.{as_record, shape_after, EachShape, last_shape, shapes_on, places_on, fresh_steps}
use Rattle.chase.proofs.ListLaws.{maps_each}
use Rattle.chase.proofs.MakingLaws.{OptR, value_of_rel, map_value, value_of_in_marks, agree_has_value, no_mark_no_value, in_carried_values, carried_values_in}
use Rattle.chase.proofs.Generations.{generation_below}
use Rattle.chase.proofs.ShapeLaws.{shape_as_record, fires_shape, made_shape}
use Rattle.chase.proofs.RunLaws.{fire_adds}

-- Steps as numbers.
pub length_numbers : (ss : List Step) → length (step_numbers ss) ≡ 5 * length ss
length_numbers [] = refl
length_numbers (s ∷ ss) = omega (arith, length_numbers ss)

pub numbers_append : (ss ts : List Step) → step_numbers (ss ++ ts) ≡ step_numbers ss ++ step_numbers ts
numbers_append [] ts = refl
numbers_append (s ∷ ss) ts = rw (numbers_append ss ts)

-- Elements by their numbers, which count from 1.
module _ {A : Type 0} where
  pub element_in : (l : List A) (i : ℕ) (x : A) → get_elem? l i ≡ some x → In x l
  element_in [] i x e = absurd (none-ne-some x e)
  element_in (y ∷ l) zero x e = inl cc
  element_in (y ∷ l) (suc i) x e = inr (element_in l i x e)

  pub nth_in : (l : List A) (i : ℕ) (x : A) → nth l i ≡ some x → In x l
  nth_in l zero x e = absurd (none-ne-some x e)
  nth_in l (suc i) x e = element_in l i x e

module _ {A B : Type 0} (f : A → B) where
  element_map : (l : List A) (i : ℕ) (x : A) → get_elem? l i ≡ some x → get_elem? (map f l) i ≡ some (f x)
  element_map [] i x e = absurd (none-ne-some x e)
  element_map (y ∷ l) zero x e = let q : y ≡ x = cc in ap some (ap f q)
  element_map (y ∷ l) (suc i) x e = element_map l i x e

  pub nth-map : (l : List A) (i : ℕ) (x : A) → nth l i ≡ some x → nth (map f l) i ≡ some (f x)
  nth-map l zero x e = absurd (none-ne-some x e)
  nth-map l (suc i) x e = element_map l i x e

module _ {A B : Type 0} (R : A → B → Type 0) where
  element_rel : (xs : List A) (ys : List B) (i : ℕ) → All2 R xs ys → OptR R (get_elem? xs i) (get_elem? ys i)
  element_rel [] [] i a = tt
  element_rel [] (y ∷ ys) i a = absurd a
  element_rel (x ∷ xs) [] i a = absurd a
  element_rel (x ∷ xs) (y ∷ ys) zero a = a.0
  element_rel (x ∷ xs) (y ∷ ys) (suc i) a = element_rel xs ys i a.1

  pub nth_rel : (xs : List A) (ys : List B) (i : ℕ) → All2 R xs ys → OptR R (nth xs i) (nth ys i)
  nth_rel xs ys zero a = tt
  nth_rel xs ys (suc i) a = element_rel xs ys i a

  -- Where the one is there, so is the other.
  pub rel_some : (o : Option A) (p : Option B) (x : A) → OptR R o p → o ≡ some x → (y : B) × (p ≡ some y) × R x y
  rel_some none p x r e = absurd (none-ne-some x e)
  rel_some (some z) none x r e = absurd r
  rel_some (some z) (some y) x r e = let q : z ≡ x = cc in (y, refl, subst (λ (w : A). R w y) q r)

-- In two records of one shape the same fields and marks have equal values.
module _ (x y : Record) (same : shape_of x ≡ shape_of y) where
  -- A value of the one and a value of the other with the same digit.
  abbrev Twins : Value → Value → Type 0
  Twins v w = digit Value-discrete x.fields v ≡ digit Value-discrete y.fields w

  fields_twins : All2 Twins x.fields y.fields
  fields_twins =
      maps_each (digit Value-discrete x.fields) (digit Value-discrete y.fields) x.fields y.fields
      (ap (λ (s : Shape). s.pattern) same)

  -- If a field's value is a mark's in the one, it is so in the other.
  pub field_is_mark : (marks : List ℕ) (i m : ℕ) (v : Value) → value_at x i ≡ some v → value_of marks x.fields m ≡ some v
      → (w : Value) × (value_at y i ≡ some w) × (value_of marks y.fields m ≡ some w)
  field_is_mark marks i m v p q =
      let s = rel_some Twins (value_at x i) (value_at y i) v (nth_rel Twins x.fields y.fields i fields_twins) p in
      let t = rel_some Twins (value_of marks x.fields m) (value_of marks y.fields m) v
      (value_of_rel Twins marks x.fields y.fields m fields_twins) q in
      let e : s.0 ≡ t.0 = digit_inj Value-discrete y.fields s.0 t.0 (nth_in y.fields i s.0 s.1) (sym s.2 ∙ t.2) in
      (t.0, s.1 ∙ ap some e, t.1)

-- What a step makes.
module _ (rules : List Rule) (st : Step) (x : Record) (g : Goes rules st x) where
  pub after_made : after rules st x ≡ made st.rule g.rule x g.head
  after_made = rw (g.named, g.line)

  pub head_in : In g.head g.rule.heads
  head_in = nth_in g.rule.heads st.head g.head g.line

  -- The value at the field of a mark.
  pub made_at : (field m : ℕ) → nth g.head.marks field ≡ some m
      → value_at (after rules st x) field ≡ some (or_else (fresh_of st.rule m (carried_values g.rule x.fields)) (value_of g.rule.marks x.fields m))
  made_at field m e =
      rw after_made
      (nth-map (λ m. or_else (fresh_of st.rule m (carried_values g.rule x.fields)) (value_of g.rule.marks x.fields m))
      g.head.marks field m e)

  pub mark_stands : (field m : ℕ) (v : Value) → nth g.head.marks field ≡ some m → value_of g.rule.marks x.fields m ≡ some v
      → value_at (after rules st x) field ≡ some v
  mark_stands field m v e q =
      made_at field m e ∙ ap some (ap (or_else (fresh_of st.rule m (carried_values g.rule x.fields))) q)

  pub fresh_stands : (field m : ℕ) → nth g.head.marks field ≡ some m → (In m g.rule.marks → ⊥)
      → value_at (after rules st x) field ≡ some (fresh_of st.rule m (carried_values g.rule x.fields))
  fresh_stands field m e h =
      made_at field m e
      ∙ ap some (ap (or_else (fresh_of st.rule m (carried_values g.rule x.fields))) (no_mark_no_value g.rule.marks x.fields m h))

-- The value that a carried step follows is that of the to field's mark.
pub carried_value : (rules : List Rule) (st : Step) (x : Record) (c : Carried rules st x)
    → value_of c.goes.rule.marks x.fields c.mark ≡ some c.value
carried_value rules st x c =
    let s = agree_has_value c.goes.rule.marks x.fields c.mark c.goes.fires.1 c.carried in
    let t = mark_stands rules st x c.goes st.to c.mark s.0 c.to s.1 in
    s.1 ∙ sym t ∙ c.stands

-- What a step asks depends on the shape alone.
module _ (rules : List Rule) (st : Step) (x y : Record) (same : shape_of x ≡ shape_of y) where
  abbrev pub goes_shape : Goes rules st x → Goes rules st y
  goes_shape g = record { rule = g.rule; named = g.named; head = g.head; line = g.line; fires = fires_shape g.rule x y same g.fires }

  pub after_shape : Goes rules st x → shape_of (after rules st x) ≡ shape_of (after rules st y)
  after_shape g =
      rw (after_made rules st x g, after_made rules st y (goes_shape g))
      (made_shape st.rule st.rule g.rule x y g.head (head_in rules st x g) same g.fires)

  pub reaching_shape : Reaching rules st x → Reaching rules st y
  reaching_shape r = record { goes = goes_shape r.goes; from = r.from; to = r.to; fresh = r.fresh }

  pub carried_shape : Carried rules st x → Carried rules st y
  carried_shape c =
      let g = goes_shape c.goes in
      let s = field_is_mark x y same g.rule.marks st.from c.mark c.value c.from (carried_value rules st x c) in
      record {
        goes = g;
        fresh = c.fresh;
        mark = c.mark;
        to = c.to;
        carried = c.carried;
        value = s.0;
        from = s.1;
        stands = mark_stands rules st y g st.to c.mark s.0 c.to s.2;
      }

  pub fresh_shape : Fresh rules st x → Fresh rules st y
  fresh_shape f =
      let g = goes_shape f.goes in
      let c = carried_values_in g.rule x.fields f.value f.among in
      let s = field_is_mark x y same g.rule.marks st.from c.0 f.value f.from c.2 in
      record {
        goes = g;
        fresh = f.fresh;
        mark = f.mark;
        to = f.to;
        new = f.new;
        value = s.0;
        from = s.1;
        among = in_carried_values g.rule y.fields c.0 s.0 c.1 s.2;
      }

  pub fresh_alone_shape : FreshAlone rules st x → FreshAlone rules st y
  fresh_alone_shape f =
      record { goes = goes_shape f.goes; fresh = f.fresh; mark = f.mark; to = f.to; new = f.new; nothing = f.nothing; from = f.from }

  pub moves_shape : Moves rules st x → Moves rules st y
  moves_shape (inl c) = inl (carried_shape c)
  moves_shape (inr f) = inr (fresh_shape f)

pub moves_goes : (rules : List Rule) (st : Step) (x : Record) → Moves rules st x → Goes rules st x
moves_goes rules st x (inl c) = c.goes
moves_goes rules st x (inr f) = f.goes

-- Steps on a shape, by its digits.
module _ (rules : List Rule) (st : Step) (s : Shape) (g : Goes rules st (as_record s)) (m k : ℕ) (to : nth g.head.marks st.to ≡ some m)
    (from : nth s.pattern st.from ≡ some k) where
  pub carried_on_shape : st.fresh ≡ 0 → value_of g.rule.marks s.pattern m ≡ some k → Carried rules st (as_record s)
  carried_on_shape f e =
      let v = map_value table g.rule.marks s.pattern m k e in
      record {
        goes = g;
        fresh = f;
        mark = m;
        to = to;
        carried = value_of_in_marks g.rule.marks s.pattern m k e;
        value = table k;
        from = nth-map table s.pattern st.from k from;
        stands = mark_stands rules st (as_record s) g st.to m (table k) to v;
      }

  pub fresh_on_shape : st.fresh ≡ 1 → (In m g.rule.marks → ⊥) → In k (carried_values g.rule s.pattern) → Fresh rules st (as_record s)
  fresh_on_shape f new i =
      let c = carried_values_in g.rule s.pattern k i in
      record {
        goes = g;
        fresh = f;
        mark = m;
        to = to;
        new = new;
        value = table k;
        from = nth-map table s.pattern st.from k from;
        among =
            in_carried_values g.rule (as_record s).fields c.0 (table k) c.1
            (map_value table g.rule.marks s.pattern c.0 k c.2);
      }

-- What asks that the step goes, and depends on the shape alone.
pub record ByShape (rules : List Rule) (P : Step → Record → Type 0) : Type 0 where
  pub goes : (st : Step) (x : Record) → P st x → Goes rules st x
  pub shape : (st : Step) (x y : Record) → shape_of x ≡ shape_of y → P st x → P st y

module _ (rules : List Rule) where
  pub goes_by_shape : ByShape rules (Goes rules)
  goes_by_shape = record { goes = λ st x g. g; shape = goes_shape rules }

  pub reaching_by_shape : ByShape rules (Reaching rules)
  reaching_by_shape = record { goes = λ st x r. r.goes; shape = reaching_shape rules }

  pub moves_by_shape : ByShape rules (Moves rules)
  moves_by_shape = record { goes = moves_goes rules; shape = moves_shape rules }

  pub fresh_by_shape : ByShape rules (Fresh rules)
  fresh_by_shape = record { goes = λ st x f. f.goes; shape = fresh_shape rules }

  pub fresh_alone_by_shape : ByShape rules (FreshAlone rules)
  fresh_alone_by_shape = record { goes = λ st x f. f.goes; shape = fresh_alone_shape rules }

-- Steps one after another.
module _ (rules : List Rule) where
  pub last_append : (x : Record) (ss ts : List Step) → last_of rules x (ss ++ ts) ≡ last_of rules (last_of rules x ss) ts
  last_append x [] ts = refl
  last_append x (st ∷ ss) ts = last_append (after rules st x) ss ts

  pub last_shape-append : (s : Shape) (ss ts : List Step) → last_shape rules s (ss ++ ts) ≡ last_shape rules (last_shape rules s ss) ts
  last_shape-append s [] ts = refl
  last_shape-append s (st ∷ ss) ts = last_shape-append (shape_after rules st s) ss ts

  pub firings_append : (x : Record) (ss ts : List Step)
      → firings_of rules x (ss ++ ts) ≡ firings_of rules x ss ++ firings_of rules (last_of rules x ss) ts
  firings_append x [] ts = refl
  firings_append x (st ∷ ss) ts = ap (λ (fs : List Firing). record { rule = st.rule; on = x } ∷ fs) (firings_append (after rules st x) ss ts)

  pub fresh_steps-append : (ss ts : List Step) → fresh_steps rules (ss ++ ts) ≡ fresh_steps rules ss + fresh_steps rules ts
  fresh_steps-append [] ts = omega arith
  fresh_steps-append (st ∷ ss) ts = omega (arith, fresh_steps-append ss ts)

  module _ (P : Step → Record → Type 0) where
    pub each_append : (x : Record) (ss ts : List Step) → Each rules P x ss → Each rules P (last_of rules x ss) ts → Each rules P x (ss ++ ts)
    each_append x [] ts a b = b
    each_append x (st ∷ ss) ts a b = (a.0, each_append (after rules st x) ss ts a.1 b)

    pub append_each : (x : Record) (ss ts : List Step) → Each rules P x (ss ++ ts) → Each rules P x ss × Each rules P (last_of rules x ss) ts
    append_each x [] ts a = (tt, a)
    append_each x (st ∷ ss) ts a =
        let s = append_each (after rules st x) ss ts a.1 in
        ((a.0, s.0), s.1)

    pub each_weaken : (Q : Step → Record → Type 0) → ((st : Step) (x : Record) → P st x → Q st x) → (x : Record) (ss : List Step)
        → Each rules P x ss → Each rules Q x ss
    each_weaken Q f x [] a = tt
    each_weaken Q f x (st ∷ ss) a = (f st x a.0, each_weaken Q f (after rules st x) ss a.1)

pub last_to-append : (to : ℕ) (ss ts : List Step) → last_to to (ss ++ ts) ≡ last_to (last_to to ss) ts
last_to-append to [] ts = refl
last_to-append to (st ∷ ss) ts = last_to-append st.to ss ts

pub last_fresh-append : (fresh : ℕ) (ss ts : List Step) → last_fresh fresh (ss ++ ts) ≡ last_fresh (last_fresh fresh ss) ts
last_fresh-append fresh [] ts = refl
last_fresh-append fresh (st ∷ ss) ts = last_fresh-append st.fresh ss ts

pub follow_append : (to : ℕ) (ss ts : List Step) → Follow to ss → Follow (last_to to ss) ts → Follow to (ss ++ ts)
follow_append to [] ts f g = g
follow_append to (st ∷ ss) ts f g = (f.0, follow_append st.to ss ts f.1 g)

-- Steps on shapes are steps on the records of these shapes.
pub as_record_shape : (x : Record) (s : Shape) → shape_of x ≡ s → shape_of (as_record s) ≡ shape_of x
as_record_shape x s e = rw (← e) (shape_as_record x)

module _ (rules : List Rule) where
  pub step_shape : (st : Step) (x : Record) (s : Shape) → shape_of x ≡ s → Goes rules st x → shape_of (after rules st x) ≡ shape_after rules st s
  step_shape st x s e g = after_shape rules st x (as_record s) (sym (as_record_shape x s e)) g

  pub last-shape : (x : Record) (s : Shape) (steps : List Step) → shape_of x ≡ s → Each rules (Goes rules) x steps
      → shape_of (last_of rules x steps) ≡ last_shape rules s steps
  last-shape x s [] e g = e
  last-shape x s (st ∷ ss) e g = last-shape (after rules st x) (shape_after rules st s) ss (step_shape st x s e g.0) g.1

  pub fired_shapes : (x : Record) (s : Shape) (steps : List Step) → shape_of x ≡ s → Each rules (Goes rules) x steps
      → map shape_of (fired_on rules x steps) ≡ shapes_on rules s steps
  fired_shapes x s [] e g = refl
  fired_shapes x s (st ∷ ss) e g = cc (e, fired_shapes (after rules st x) (shape_after rules st s) ss (step_shape st x s e g.0) g.1)

  pub same_places : (x : Record) (s : Shape) (steps : List Step) → shape_of x ≡ s → Each rules (Goes rules) x steps
      → places_of rules x steps ≡ places_on rules s steps
  same_places x s [] e g = refl
  same_places x s (st ∷ ss) e g =
      rw (e, same_places (after rules st x) (shape_after rules st s) ss (step_shape st x s e g.0) g.1)

  module _ (P : Step → Record → Type 0) (by : ByShape rules P) where
    pub on-record : (st : Step) (x : Record) (s : Shape) → shape_of x ≡ s → P st (as_record s) → P st x
    on-record st x s e p = by.shape st (as_record s) x (as_record_shape x s e) p

    pub each_shape : (x : Record) (s : Shape) (steps : List Step) → shape_of x ≡ s → EachShape rules P s steps → Each rules P x steps
    each_shape x s [] e a = tt
    each_shape x s (st ∷ ss) e a =
        let p = on-record st x s e a.0 in
        (p, each_shape (after rules st x) (shape_after rules st s) ss (step_shape st x s e (by.goes st x p)) a.1)

    pub shape_each : (x : Record) (s : Shape) (steps : List Step) → shape_of x ≡ s → Each rules P x steps → EachShape rules P s steps
    shape_each x s [] e a = tt
    shape_each x s (st ∷ ss) e a = (
      by.shape st x (as_record s) (sym (as_record_shape x s e)) a.0,
      shape_each (after rules st x) (shape_after rules st s) ss (step_shape st x s e (by.goes st x a.0)) a.1,
    )

    -- So they are steps on every record of the same shape.
    pub each_same : (x y : Record) (steps : List Step) → shape_of x ≡ shape_of y → Each rules P x steps → Each rules P y steps
    each_same x y steps e a = each_shape y (shape_of x) steps (sym e) (shape_each x (shape_of x) steps refl a)

    pub each_goes : (x : Record) (steps : List Step) → Each rules P x steps → Each rules (Goes rules) x steps
    each_goes x steps a = each_weaken rules P (Goes rules) by.goes x steps a

-- The firings that steps stand for.
module _ (rules : List Rule) where
  abbrev pub step_fits : (st : Step) (x : Record) (records : List Record) → Goes rules st x → In x records
      → Fits rules (record { rule = st.rule; on = x }) records
  step_fits st x records g i = record { rule = g.rule; named = g.named; there = i; fires = g.fires }

  pub step_adds : (st : Step) (x : Record) (records : List Record) → Goes rules st x → In x records
      → In (after rules st x) (fire rules (record { rule = st.rule; on = x }) records)
  step_adds st x records g i =
      rw (after_made rules st x g)
      (fire_adds rules (record { rule = st.rule; on = x }) records (step_fits st x records g i) g.head (head_in rules st x g))

  pub steps_fit : (x : Record) (steps : List Step) (records : List Record) → Each rules (Goes rules) x steps → In x records
      → AllFit rules (firings_of rules x steps) records
  steps_fit x [] records g i = tt
  steps_fit x (st ∷ ss) records g i = (
    step_fits st x records g.0 i,
    steps_fit (after rules st x) ss (fire rules (record { rule = st.rule; on = x }) records) g.1 (step_adds st x records g.0 i),
  )

  pub last_left : (x : Record) (steps : List Step) (records : List Record) → Each rules (Goes rules) x steps → In x records
      → In (last_of rules x steps) (run rules (firings_of rules x steps) records)
  last_left x [] records g i = i
  last_left x (st ∷ ss) records g i =
      last_left (after rules st x) ss (fire rules (record { rule = st.rule; on = x }) records) g.1 (step_adds st x records g.0 i)

-- A value at a field of a record, of a generation at least this.
pub record Deep (x : Record) (field : ℕ) (least : ℕ) : Type 0 where
  pub value : Value
  pub there : value_at x field ≡ some value
  pub deep : least ≤ generation value

pub deep_less : (x : Record) (field least less : ℕ) → less ≤ least → Deep x field least → Deep x field less
deep_less x field least less l d = record { value = d.value; there = d.there; deep = omega (arith, d.deep) }

pub deep_in : (x : Record) (field least : ℕ) (d : Deep x field least) → In d.value x.fields
deep_in x field least d = nth_in x.fields field d.value d.there

-- Each fresh step makes the generation later, and no step makes it earlier.
module _ (rules : List Rule) where
  pub fresh_deep : (st : Step) (x : Record) → Fresh rules st x ⊎ FreshAlone rules st x → Deep (after rules st x) st.to 1
  fresh_deep st x (inl f) =
      record {
        value = fresh_of st.rule f.mark (carried_values f.goes.rule x.fields);
        there = fresh_stands rules st x f.goes st.to f.mark f.to f.new;
        deep = omega arith;
      }
  fresh_deep st x (inr f) =
      record {
        value = fresh_of st.rule f.mark (carried_values f.goes.rule x.fields);
        there = fresh_stands rules st x f.goes st.to f.mark f.to f.new;
        deep = omega arith;
      }

  pub step_deep : (st : Step) (x : Record) (least : ℕ) → Moves rules st x → Deep x st.from least
      → Deep (after rules st x) st.to (least + st.fresh)
  step_deep st x least (inl c) d =
      let e : c.value ≡ d.value = cc in
      record { value = c.value; there = c.stands; deep = omega (arith, ap generation e, d.deep, c.fresh) }
  step_deep st x least (inr f) d =
      let e : f.value ≡ d.value = cc in
      record {
        value = fresh_of st.rule f.mark (carried_values f.goes.rule x.fields);
        there = fresh_stands rules st x f.goes st.to f.mark f.to f.new;
        deep = omega (arith, ap generation e, d.deep, f.fresh, generation_below f.value (carried_values f.goes.rule x.fields) f.among);
      }

  pub steps_deep : (x : Record) (steps : List Step) (to least : ℕ) → Each rules (Moves rules) x steps → Follow to steps → Deep x to least
      → Deep (last_of rules x steps) (last_to to steps) (least + fresh_steps rules steps)
  steps_deep x [] to least a f d = deep_less x to least (least + 0) (omega arith) d
  steps_deep x (st ∷ ss) to least a f d =
      let s = step_deep st x least a.0 (rw f.0 d) in
      deep_less (last_of rules (after rules st x) ss) (last_to st.to ss) (least + st.fresh + fresh_steps rules ss)
      (least + (st.fresh + fresh_steps rules ss)) (omega arith)
      (steps_deep (after rules st x) ss st.to (least + st.fresh) a.1 f.1 s)
