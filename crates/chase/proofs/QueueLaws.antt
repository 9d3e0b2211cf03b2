-- A derivation by a queue of triggers: at each step the first active trigger of the queue is applied, those before it are dropped, and those of its results are put at the end. Assumes nothing.
use mathlib.Core.Path.{◌≡◌, refl, sym, ◌∙◌, ap, subst}
use mathlib.Core.Logic.{◌⊎◌, inl, inr}
use mathlib.Core.List.{List, [], ◌∷◌, ◌++◌, map}
use mathlib.Core.Option.{Option, none, some, none-ne-some}
use Prim.Native.Nat.{ℕ, zero, suc, ◌<◌}
use native.Mathlib.Omega.{arith}
use lib.ListN.{length, get_elem?}
use Rattle.patterns.specs.Pattern.{add_all}
use Rattle.patterns.proofs.PatternLaws.{add_all-has, add_all_keeps}
use Rattle.chase.specs.Lists.{In, in?}
use Rattle.chase.specs.Rules.{Rule, nth}
use Rattle.chase.specs.Making.{Record, Record-discrete, Fires, fires?, made}
use Rattle.chase.specs.Run.{Firing, Reachable, row, made_from}
use Rattle.chase.specs.Homomorphism.{Substitution}
use Rattle.chase.specs.Chase.{Instance, Trigger, Result, Active, Applied}
use Rattle.chase.proofs.ListLaws.{nth_one, all_or_not, in_left, in_right, in_append, in_map, map_in, in_add_all, in_place_lem}
use Rattle.chase.proofs.StepLaws.{element_in}
use Rattle.chase.proofs.CountLaws.{numbers_to, nth_number}
use Rattle.chase.proofs.HomomorphismLaws.{given_by}
use Rattle.chase.proofs.PublishedLaws.{on_record, trigger_fires, trigger_made, firing_trigger, firing_made}

-- Places in a list.
place_left : {A : Type 0} (l more : List A) (k : ℕ) (x : A) → get_elem? l k ≡ some x → get_elem? (l ++ more) k ≡ some x
place_left [] more k x e = absurd (none-ne-some x e)
place_left (y ∷ l) more zero x e = e
place_left (y ∷ l) more (suc k) x e = place_left l more k x e

-- The records of a list as an instance.
abbrev pub On : List Record → Instance
On l y = In y l

module _ (rules : List Rule) where
  -- A firing is done: if it is a trigger, its result is there.
  abbrev pub Done : Firing → List Record → Type 0
  Done f records = (r : Rule) → nth rules f.rule ≡ some r → Fires r f.on
      → (y : Record) → In y (map (made f.rule r f.on) r.heads) → In y records

  -- A firing is open: it is a trigger, if its record is there, and its result is not within the records.
  record Open (f : Firing) (records : List Record) : Type 0 where
    rule : Rule
    named : nth rules f.rule ≡ some rule
    fires : Fires rule f.on
    active : ((y : Record) → In y (map (made f.rule rule f.on) rule.heads) → In y records) → ⊥

  done_by : (f : Firing) (records : List Record) (r : Rule) → nth rules f.rule ≡ some r
      → (Fires r f.on → (y : Record) → In y (map (made f.rule r f.on) r.heads) → In y records) → Done f records
  done_by f records r e all s p =
      subst (λ (s : Rule). Fires s f.on → (y : Record) → In y (map (made f.rule s f.on) s.heads) → In y records)
      (nth_one rules f.rule f.rule r s refl e p) all

  -- Then the result of a trigger on its record is there.
  pub done_result : (I : Instance) (records : List Record) (n : ℕ) (h : Substitution) (t : Trigger rules I n h)
      → Done (record { rule = n; on = on_record rules I n h t }) records → (y : Record) → Result rules t y → In y records
  done_result I records n h t d y i =
      d t.rule t.named (trigger_fires rules I n h t) y (subst (In y) (sym (trigger_made rules I n h t)) i)

  done_more : (f : Firing) (records more : List Record) → ((y : Record) → In y records → In y more) → Done f records → Done f more
  done_more f records more m d r e q y i = m y (d r e q y i)

  done_or_open : (f : Firing) (records : List Record) → Done f records ⊎ Open f records
  done_or_open f records = go (nth rules f.rule) refl
    where
      go : (o : Option Rule) → nth rules f.rule ≡ o → Done f records ⊎ Open f records
      go none e = inl (λ r p. absurd (none-ne-some r (sym e ∙ p)))
      go (some r) e = fired (fires? r f.on)
        where
          made-or_not : Fires r f.on
              → ((y : Record) → In y (map (made f.rule r f.on) r.heads) → In y records)
              ⊎ ((y : Record) × In y (map (made f.rule r f.on) r.heads) × (In y records → ⊥))
              → Done f records ⊎ Open f records
          made-or_not q (inl all) = inl (done_by f records r e (λ p. all))
          made-or_not q (inr (y, i, h)) = inr (record { rule = r; named = e; fires = q; active = λ all. h (all y i) })

          fired : Dec (Fires r f.on) → Done f records ⊎ Open f records
          fired (no h) = inl (done_by f records r e (λ q. absurd (h q)))
          fired (yes q) =
              made-or_not q
              (all_or_not (On records) (λ y. in? Record-discrete y records) (map (made f.rule r f.on) r.heads))

  -- The firings that there may be on some records, in their order.
  abbrev pub firings_on : Record → List Firing
  firings_on x = map (λ n. record { rule = n; on = x }) (numbers_to (length rules))

  abbrev pub firings_on_all : List Record → List Firing
  firings_on_all [] = []
  firings_on_all (x ∷ records) = firings_on x ++ firings_on_all records

  in_firings : (records : List Record) (f : Firing) (r : Rule) → In f.on records → nth rules f.rule ≡ some r → In f (firings_on_all records)
  in_firings [] f r i e = absurd i
  in_firings (x ∷ records) f r (inl p) e =
      in_left f (firings_on x) (firings_on_all records)
      (subst (λ (z : Record). In f (firings_on z)) p
      (in_map (λ n. record { rule = n; on = f.on }) f.rule (numbers_to (length rules)) (nth_number rules f.rule r e)))
  in_firings (x ∷ records) f r (inr i) e = in_right f (firings_on x) (firings_on_all records) (in_firings records f r i e)

  firings_in : (records : List Record) (f : Firing) → In f (firings_on_all records) → In f.on records
  firings_in [] f i = absurd i
  firings_in (x ∷ records) f i = go (in_append f (firings_on x) (firings_on_all records) i) (λ j. firings_in records f j)
    where
      go : In f (firings_on x) ⊎ In f (firings_on_all records) → (In f (firings_on_all records) → In f.on records) → (f.on ≡ x) ⊎ In f.on records
      go (inl j) ih = inl (ap (λ (g : Firing). g.on) (map_in (λ n. record { rule = n; on = x }) (numbers_to (length rules)) f j).2)
      go (inr j) ih = inr (ih j)

  -- The first open firing of a queue, and the queue after it.
  record Found (queue : List Firing) (records : List Record) : Type 0 where
    first : Firing
    after : List Firing
    there : In first queue
    opens : Open first records
    rest : (g : Firing) → In g after → In g queue
    moves : (g : Firing) (k : ℕ) → get_elem? queue k ≡ some g
        → Done g records ⊎ ((g ≡ first) ⊎ ((j : ℕ) × (j < k) × (get_elem? after j ≡ some g)))

  find : (queue : List Firing) (records : List Record) → ((f : Firing) → In f queue → Done f records) ⊎ Found queue records
  find [] records = inl (λ f i. absurd i)
  find (f ∷ queue) records = go (done_or_open f records) (find queue records)
    where
      go : Done f records ⊎ Open f records → ((g : Firing) → In g queue → Done g records) ⊎ Found queue records
          → ((g : Firing) → In g (f ∷ queue) → Done g records) ⊎ Found (f ∷ queue) records
      go (inr o) q =
          inr
          (record {
            first = f;
            after = queue;
            there = inl refl;
            opens = o;
            rest = λ g i. inr i;
            moves =
                λ g k. elim k as (λ k. get_elem? (f ∷ queue) k ≡ some g → Done g records ⊎ ((g ≡ f) ⊎ ((j : ℕ) × (j < k) × (get_elem? queue j ≡ some g)))) [
                  | zero ↦ λ e. inr (inl cc)
                  | suc j ↦ λ e. inr (inr (j, omega arith, e))
                ];
          })
      go (inl d) (inl all) = inl (λ g i. elim i [ inl e ↦ subst (λ (g : Firing). Done g records) (sym e) d | inr j ↦ all g j ])
      go (inl d) (inr s) =
          inr
          (record {
            first = s.first;
            after = s.after;
            there = inr s.there;
            opens = s.opens;
            rest = λ g i. inr (s.rest g i);
            moves = moves;
          })
        where
          moves : (g : Firing) (k : ℕ) → get_elem? (f ∷ queue) k ≡ some g
              → Done g records ⊎ ((g ≡ s.first) ⊎ ((j : ℕ) × (j < k) × (get_elem? s.after j ≡ some g)))
          moves g zero e = let p : f ≡ g = cc in inl (subst (λ (g : Firing). Done g records) p d)
          moves g (suc k) e =
              elim (s.moves g k e) [
                | inl a ↦ inl a
                | inr b ↦ elim b [ inl p ↦ inr (inl p) | inr c ↦ inr (inr (c.0, omega (arith, c.1), c.2)) ]
              ]

module _ (rules : List Rule) (rows : List Record) where
  -- The records so far and the queue: a trigger on these records waits or is done.
  pub record State : Type 0 where
    pub records : List Record
    pub queue : List Firing
    pub rows_there : (y : Record) → In y rows → In y records
    pub queue_there : (f : Firing) → In f queue → In f.on records
    pub waits : (f : Firing) (r : Rule) → In f.on records → nth rules f.rule ≡ some r → In f queue ⊎ Done rules f records

  -- The rows, and all that may fire on them.
  abbrev first : State
  first =
      record {
        records = rows;
        queue = firings_on_all rules rows;
        rows_there = λ y i. i;
        queue_there = firings_in rules rows;
        waits = λ f r i e. inl (in_firings rules rows f r i e);
      }

  -- Nothing that waits is open.
  abbrev pub Closed : State → Type 0
  Closed s = (f : Firing) → In f s.queue → Done rules f s.records

  -- The next state: an application, after which a firing that waited is done or stands nearer to the front.
  pub record Next (s t : State) : Type 1 where
    pub applied : Applied rules (On s.records) (On t.records)
    pub moves : (f : Firing) (k : ℕ) → get_elem? s.queue k ≡ some f
        → Done rules f t.records ⊎ ((j : ℕ) × (j < k) × (get_elem? t.queue j ≡ some f))

  module _ (s : State) (o : Found rules s.queue s.records) where
    abbrev results : List Record
    results = map (made o.first.rule o.opens.rule o.first.on) o.opens.rule.heads

    abbrev records_after : List Record
    records_after = add_all Record-discrete results s.records

    keeps : (y : Record) → In y s.records → In y records_after
    keeps y i = add_all_keeps Record-discrete y results s.records i

    first_done : Done rules o.first records_after
    first_done =
        done_by rules o.first records_after o.opens.rule o.opens.named
        (λ q y i. add_all-has Record-discrete y results s.records i)

    same_done : (f : Firing) → f ≡ o.first → Done rules f records_after
    same_done f e = subst (λ (g : Firing). Done rules g records_after) (sym e) first_done

    later : (f : Firing) → Done rules f s.records → Done rules f records_after
    later f d = done_more rules f s.records records_after keeps d

    abbrev queue_after : List Firing
    queue_after = o.after ++ firings_on_all rules results

    still_waits : (f : Firing) → In f s.queue → In f queue_after ⊎ Done rules f records_after
    still_waits f i = let (k, e) = in_place_lem f s.queue i in go (o.moves f k e)
      where
        go : {k : ℕ} → Done rules f s.records ⊎ ((f ≡ o.first) ⊎ ((j : ℕ) × (j < k) × (get_elem? o.after j ≡ some f)))
            → In f queue_after ⊎ Done rules f records_after
        go (inl d) = inr (later f d)
        go (inr (inl e)) = inr (same_done f e)
        go (inr (inr (j, l, e))) = inl (in_left f o.after (firings_on_all rules results) (element_in o.after j f e))

    waits_after : (f : Firing) (r : Rule) → In f.on records_after → nth rules f.rule ≡ some r → In f queue_after ⊎ Done rules f records_after
    waits_after f r i e = go (in_add_all Record-discrete f.on results s.records i)
      where
        go : In f.on results ⊎ In f.on s.records → In f queue_after ⊎ Done rules f records_after
        go (inl j) = inl (in_right f o.after (firings_on_all rules results) (in_firings rules results f r j e))
        go (inr j) = elim (s.waits f r j e) [ inl q ↦ still_waits f q | inr d ↦ inr (later f d) ]

    there_after : (f : Firing) → In f queue_after → In f.on records_after
    there_after f i = go (in_append f o.after (firings_on_all rules results) i)
      where
        go : In f o.after ⊎ In f (firings_on_all rules results) → In f.on records_after
        go (inl j) = keeps f.on (s.queue_there f (o.rest f j))
        go (inr j) = add_all-has Record-discrete f.on results s.records (firings_in rules results f j)

    abbrev state_after : State
    state_after =
        record {
          records = records_after;
          queue = queue_after;
          rows_there = λ y i. keeps y (s.rows_there y i);
          queue_there = there_after;
          waits = waits_after;
        }

    applied_after : Applied rules (On s.records) (On records_after)
    applied_after =
        let f = o.first in
        let w = o.opens in
        let there = s.queue_there f o.there in
        let q = firing_made rules (On s.records) f.rule w.rule f.on w.named there w.fires in
        record {
          rule = f.rule;
          by = given_by w.rule f.on;
          trigger = firing_trigger rules (On s.records) f.rule w.rule f.on w.named there w.fires;
          active = λ all. w.active (λ y i. all y (subst (In y) q i));
          old = keeps;
          new = λ y i. add_all-has Record-discrete y results s.records (subst (In y) (sym q) i);
          only = λ y i. elim (in_add_all Record-discrete y results s.records i) [ inl j ↦ inr (subst (In y) q j) | inr j ↦ inl j ];
        }

    next_after : Next s state_after
    next_after =
        record {
          applied = applied_after;
          moves =
              λ f k e. elim (o.moves f k e) [
                | inl d ↦ inl (later f d)
                | inr b ↦ elim b [
                  | inl p ↦ inl (same_done f p)
                  | inr c ↦ inr (c.0, c.1, place_left o.after (firings_on_all rules results) c.0 f c.2)
                ]
              ];
        }

  -- A step of the derivation; nothing changes where nothing is open.
  step_by : (s : State) → Closed s ⊎ Found rules s.queue s.records → State
  step_by s (inl c) = s
  step_by s (inr o) = state_after s o

  step : State → State
  step s = step_by s (find rules s.queue s.records)

  step_law : (s : State) → Closed s ⊎ Next s (step s)
  unfolding step step_by
  step_law s = go (find rules s.queue s.records)
    where
      go : (o : Closed s ⊎ Found rules s.queue s.records) → Closed s ⊎ Next s (step_by s o)
      go (inl c) = inl c
      go (inr o) = inr (next_after s o)

  -- The states one after the other.
  pub states : ℕ → State
  states zero = first
  states (suc i) = step (states i)

  pub states_begin : (states 0).records ≡ rows
  unfolding states
  states_begin = refl

  pub states_law : (i : ℕ) → Closed (states i) ⊎ Next (states i) (states (suc i))
  unfolding states
  states_law i = step_law (states i)

  -- Where nothing is open every trigger is done, and all reachable records are there.
  module _ (s : State) (c : Closed s) where
    all_done : (f : Firing) (r : Rule) → In f.on s.records → nth rules f.rule ≡ some r → Done rules f s.records
    all_done f r i e = elim (s.waits f r i e) [ inl q ↦ c f q | inr d ↦ d ]

    pub closed_ends : (n : ℕ) (h : Substitution) (t : Trigger rules (On s.records) n h) → Active rules (On s.records) t → ⊥
    closed_ends n h t a =
        let x = on_record rules (On s.records) n h t in
        a
        (done_result rules (On s.records) s.records n h t
        (all_done (record { rule = n; on = x }) t.rule t.homomorphism t.named))

    pub closed_has : {y : Record} → Reachable rules rows y → In y s.records
    closed_has (row {x = x} i) = s.rows_there x i
    closed_has (made_from {x = x} n r h e w f i) =
        all_done (record { rule = n; on = x }) r (closed_has w) e r e f (made n r x h) (in_map (made n r x) h r.heads i)
