-- What every firing of a run keeps: the numbers are a one_to_one renaming of values of the chase. Assumes nothing.
use mathlib.Core.Path.{◌≡◌, refl, sym, ◌∙◌, ap, subst}
use mathlib.Core.Logic.{◌⊎◌, inl, inr}
use mathlib.Core.List.{List, [], ◌∷◌, ◌++◌, map, map-map, map-append}
use mathlib.Core.Option.{Option, none, some}
use Prim.Native.Nat.{ℕ, ◌+◌, ◌-◌, ◌≤◌, ◌<◌}
use native.Mathlib.Decide.{ℕ_discrete, dec_lt}
use native.Mathlib.Omega.{arith}
use lib.ListN.{length, get_or, length-append}
use Rattle.patterns.specs.Pattern.{pick, index, add_all}
use Rattle.patterns.proofs.ListLaws.{in_get_or}
use Rattle.patterns.proofs.PatternLaws.{pick_yes, pick_no, add_all-has, add_all_keeps, get_or-index, index-lt}
use Rattle.chase.specs.Lists.{In}
use Rattle.chase.specs.Rules.{Head, Rule, nth}
use Rattle.chase.specs.Value.{Value, values, generation}
use Rattle.chase.specs.Making.{Record, Record-discrete, Fires, made, fresh_of, value_of, or_else, carried_values, makes}
use Rattle.chase.specs.Run.{Firing, start, fire, run, Fits, AllFit, Reachable, row, made_from}
use Rattle.chase.specs.Counting.{NoTwo}
use Rattle.chase.proofs.ListLaws.{in_left, in_right, in_map, map_in, in_append, in_add_all, no_two_add_all, map_same}
use Rattle.chase.proofs.MakingLaws.{value_of_in_fields, carried_values_in_fields, makes_in, marks_of_in, agree_map}
use Rattle.chase.proofs.ShapeLaws.{fresh_of_injective}
use Rattle.chase.proofs.RunLaws.{fire-fits, run-append, all_fit_append}
use Rattle.carrying.specs.Carrying.{Row, Row-discrete, Pair, FiresOn, fresh_marks, number_of, row_made, pair_of, State, fired, begins_at}
use Rattle.carrying.specs.Meaning.{meant, meant_pair, carried_by, pair_fired, Numbering}
use Rattle.carrying.proofs.ListLaws.{Begins, begins_self, begins_trans, begins-add_all, no_two_last, map_injective, map-add_all, index-get_or}
use Rattle.carrying.proofs.RenameLaws.{carried_values-map, makes-map}
use Rattle.carrying.proofs.MarkLaws.{fresh_in_lem, fresh_no_two, no_value_fresh, fresh_no_value}

-- A meaning for more numbers: from `next` on they mean what g says.
abbrev further : (ℕ → Value) → ℕ → (ℕ → Value) → ℕ → Value
further f next g a = pick (dec_lt a next) (f a) (g (a - next))

further_below : (f : ℕ → Value) (next : ℕ) (g : ℕ → Value) (a : ℕ) → a < next → further f next g a ≡ f a
further_below f next g a h = pick_yes (f a) (g (a - next)) (dec_lt a next) h

further_from : (f : ℕ → Value) (next : ℕ) (g : ℕ → Value) (i : ℕ) → further f next g (next + i) ≡ g i
further_from f next g i =
    pick_no (f (next + i)) (g (next + i - next)) (dec_lt (next + i) next) (λ h. omega arith) ∙ ap g (omega arith)

-- A number below a sum is below its first part or so much past it.
split : (next k a : ℕ) → a < next + k → (a < next) ⊎ ((i : ℕ) × (i < k) × (a ≡ next + i))
split next k a h = go (dec_lt a next)
  where
    go : Dec (a < next) → (a < next) ⊎ ((i : ℕ) × (i < k) × (a ≡ next + i))
    go (yes p) = inl p
    go (no q) = inr (a - next, omega arith, omega arith)

pub row_path : (v w : Row) → v.kind ≡ w.kind → v.numbers ≡ w.numbers → v ≡ w
row_path v w e k = λ i. record { kind = e i; numbers = k i }

pub pair_path : (p q : Pair ℕ) → p.rule ≡ q.rule → p.carried ≡ q.carried → p ≡ q
pair_path p q e k = λ i. record { rule = e i; carried = k i }

-- Meanings that are alike below a number are alike on rows and lists of such numbers.
module _ (f g : ℕ → Value) (next : ℕ) (alike : (a : ℕ) → a < next → g a ≡ f a) where
  pub alike_list : (l : List ℕ) → ((a : ℕ) → In a l → a < next) → map g l ≡ map f l
  alike_list l h = map_same g f l (λ a i. alike a (h a i))

  pub alike_row : (w : Row) → ((a : ℕ) → In a w.numbers → a < next) → meant g w ≡ meant f w
  alike_row w h = λ i. record { kind = w.kind; fields = alike_list w.numbers h i }

module _ (rules : List Rule) (table : List Row) (first : ℕ) (old : ℕ → Value) where
  -- A pair has fired on a row that is there, and what its rule makes of it is there.
  pub record FiredOn (s : State) (f : ℕ → Value) (p : Pair ℕ) : Type 0 where
    pub on : Row
    pub there : In on s.rows
    pub rule : Rule
    pub named : nth rules p.rule ≡ some rule
    pub fires : FiresOn rule on
    pub carried : p.carried ≡ carried_values rule on.numbers
    pub makes : (h : Head) → In h rule.heads → (z : Row) × In z s.rows × (meant f z ≡ made p.rule rule (meant f on) h)

  -- A number stands for a fresh number of a pair that has fired.
  pub record FreshBy (s : State) (f : ℕ → Value) (a : ℕ) : Type 0 where
    pub pair : Pair ℕ
    pub among : In pair s.fired
    pub mark : ℕ
    pub is : f a ≡ fresh_of pair.rule mark (map f pair.carried)

  -- The rows, renamed, are what a list of firings leaves, as document 01 has runs. Each fits, and their pairs are those that have fired, in their order.
  pub record AsRun (s : State) (f : ℕ → Value) : Type 0 where
    pub firings : List Firing
    pub fit : AllFit rules firings (start (map (meant old) table))
    pub leaves : map (meant f) s.rows ≡ run rules firings (start (map (meant old) table))
    pub pairs : map (pair_fired rules) firings ≡ map (meant_pair f) s.fired

  pub record Kept (s : State) (f : ℕ → Value) : Type 0 where
    pub begun : (a : ℕ) → a < first → f a ≡ old a
    pub first_below : first ≤ s.next
    pub one_to_one : (a b : ℕ) → a < s.next → b < s.next → f a ≡ f b → a ≡ b
    pub numbered : (w : Row) (a : ℕ) → In w s.rows → In a w.numbers → a < s.next
    pub once : NoTwo s.rows
    pub table_first : Begins (begins_at first table).rows s.rows
    pub reachable : (w : Row) → In w s.rows → Reachable rules (map (meant old) table) (meant f w)
    pub fired-once : NoTwo s.fired
    pub fired-on : (p : Pair ℕ) → In p s.fired → FiredOn s f p
    pub fresh_by : (a : ℕ) → first ≤ a → a < s.next → FreshBy s f a
    pub stands : (a : ℕ) → first ≤ a → a < s.next → (w : Row) × In w s.rows × In a w.numbers
    pub as_run : AsRun s f

  -- Where a run begins.
  pub kept_begin : Numbering table first old → Kept (begins_at first table) old
  kept_begin N =
      record {
        begun = λ a h. refl;
        first_below = omega arith;
        one_to_one = N.one_to_one;
        numbered = λ w a i j. N.numbered w a (given w i) j;
        once = no_two_add_all Row-discrete table [] tt;
        table_first = begins_self (add_all Row-discrete table []);
        reachable = λ w i. row (in_map (meant old) w table (given w i));
        fired-once = tt;
        fired-on = λ p i. absurd i;
        fresh_by = λ a l h. absurd (omega arith);
        stands = λ a l h. absurd (omega arith);
        as_run = record { firings = []; fit = tt; leaves = same_start; pairs = refl };
      }
    where
      same_start : map (meant old) (add_all Row-discrete table []) ≡ start (map (meant old) table)
      same_start =
          map-add_all Row-discrete Record-discrete (meant old) (λ w. In w table)
          (λ v w i j e. row_path v w (ap (λ (x : Record). x.kind) e)
          (map_injective old v.numbers w.numbers (λ a b k l q. N.one_to_one a b (N.numbered v a i k) (N.numbered w b j l) q)
          (ap (λ (x : Record). x.fields) e)))
          table [] (λ w i. i) (λ w i. absurd i)

      given : (w : Row) → In w (add_all Row-discrete table []) → In w table
      given w i = elim (in_add_all Row-discrete w table [] i) [ inl j ↦ j | inr k ↦ absurd k ]

  module _ (N : Numbering table first old) (s : State) (f : ℕ → Value) (K : Kept s f) where
    -- The carried numbers of a pair that has fired are below the next number.
    pub carried_below : (p : Pair ℕ) → In p s.fired → (a : ℕ) → In a p.carried → a < s.next
    carried_below p i a j =
        let o = K.fired-on p i in
        K.numbered o.on a o.there (carried_values_in_fields o.rule o.on.numbers a (subst (λ (l : List ℕ). In a l) o.carried j))

    -- What is kept is kept under a meaning that is alike below the next number.
    module _ (g : ℕ → Value) (alike : (a : ℕ) → a < s.next → g a ≡ f a) where
      on_row : (w : Row) → In w s.rows → meant g w ≡ meant f w
      on_row w i = alike_row f g s.next alike w (λ a j. K.numbered w a i j)

      pub kept_alike : Kept s g
      kept_alike =
          record {
            begun = λ a h. alike a (omega (arith, K.first_below)) ∙ K.begun a h;
            first_below = K.first_below;
            one_to_one = λ a b p q e. K.one_to_one a b p q (sym (alike a p) ∙ e ∙ alike b q);
            numbered = K.numbered;
            once = K.once;
            table_first = K.table_first;
            reachable = λ w i. subst (Reachable rules (map (meant old) table)) (sym (on_row w i)) (K.reachable w i);
            fired-once = K.fired-once;
            fired-on = λ p i. again p (K.fired-on p i);
            fresh_by = λ a l h. anew a h (K.fresh_by a l h);
            stands = K.stands;
            as_run =
                record {
                  firings = K.as_run.firings;
                  fit = K.as_run.fit;
                  leaves = map_same (meant g) (meant f) s.rows on_row ∙ K.as_run.leaves;
                  pairs = K.as_run.pairs ∙ map_same (meant_pair f) (meant_pair g) s.fired on_pair;
                };
          }
        where
          on_pair : (p : Pair ℕ) → In p s.fired → meant_pair f p ≡ meant_pair g p
          on_pair p i = λ k. record { rule = p.rule; carried = sym (alike_list f g s.next alike p.carried (carried_below p i)) k }

          again : (p : Pair ℕ) → FiredOn s f p → FiredOn s g p
          again p o =
              record {
                on = o.on;
                there = o.there;
                rule = o.rule;
                named = o.named;
                fires = o.fires;
                carried = o.carried;
                makes = λ h i. let z = o.makes h i in (
                  z.0,
                  z.1,
                  on_row z.0 z.1 ∙ z.2 ∙ ap (λ (x : Record). made p.rule o.rule x h) (sym (on_row o.on o.there)),
                );
              }

          anew : (a : ℕ) → a < s.next → FreshBy s f a → FreshBy s g a
          anew a h b =
              record {
                pair = b.pair;
                among = b.among;
                mark = b.mark;
                is =
                    alike a h ∙ b.is
                    ∙ ap (fresh_of b.pair.rule b.mark) (sym (alike_list f g s.next alike b.pair.carried (carried_below b.pair b.among)));
              }

    -- A rule that fires on a row with carried values with which it has not fired.
    module _ (n : ℕ) (r : Rule) (w : Row) (named : nth rules n ≡ some r) (there : In w s.rows) (fires : FiresOn r w)
        (new : In (pair_of n r w) s.fired → ⊥) where
      abbrev marks : List ℕ
      marks = fresh_marks r

      abbrev carried : List ℕ
      carried = carried_values r w.numbers

      abbrev rows' : List Row
      rows' = (fired n r w s).rows

      abbrev next' : ℕ
      next' = s.next + length marks

      -- What the numbers mean then.
      abbrev pub meaning' : ℕ → Value
      meaning' = further f s.next (λ i. fresh_of n (get_or marks i 0) (map f carried))

      alike : (a : ℕ) → a < s.next → meaning' a ≡ f a
      alike a h = further_below f s.next (λ i. fresh_of n (get_or marks i 0) (map f carried)) a h

      before : Kept s meaning'
      before = kept_alike meaning' alike

      carried_low : (a : ℕ) → In a carried → a < s.next
      carried_low a i = K.numbered w a there (carried_values_in_fields r w.numbers a i)

      means_new : (i : ℕ) → meaning' (s.next + i) ≡ fresh_of n (get_or marks i 0) (map meaning' carried)
      means_new i =
          further_from f s.next (λ i. fresh_of n (get_or marks i 0) (map f carried)) i
          ∙ ap (fresh_of n (get_or marks i 0)) (sym (alike_list f meaning' s.next alike carried carried_low))

      -- A new number means nothing that an old one means.
      old_new : (a i : ℕ) → a < s.next → meaning' a ≡ meaning' (s.next + i) → ⊥
      old_new a i h e = go (dec_lt a first)
        where
          go : Dec (a < first) → ⊥
          go (yes l) =
              let q : generation (old a) ≡ generation (fresh_of n (get_or marks i 0) (map meaning' carried))
              = ap generation (sym (before.begun a l) ∙ e ∙ means_new i) in
              omega (arith, N.not_fresh a l, q)
          go (no l) =
              let b = before.fresh_by a (omega arith) h in
              let q = fresh_of_injective b.pair.rule b.mark n (get_or marks i 0) (map meaning' b.pair.carried) (map meaning' carried)
              (sym b.is ∙ e ∙ means_new i) in
              new
              (subst (λ (p : Pair ℕ). In p s.fired)
              (pair_path b.pair (pair_of n r w) q.0
              (map_injective meaning' b.pair.carried carried
              (λ x y j k u. before.one_to_one x y (carried_below b.pair b.among x j) (carried_low y k) u) q.2))
              b.among)

      one' : (a b : ℕ) → a < next' → b < next' → meaning' a ≡ meaning' b → a ≡ b
      one' a b p q e = go (split s.next (length marks) a p) (split s.next (length marks) b q)
        where
          go : (a < s.next) ⊎ ((i : ℕ) × (i < length marks) × (a ≡ s.next + i))
              → (b < s.next) ⊎ ((i : ℕ) × (i < length marks) × (b ≡ s.next + i)) → a ≡ b
          go (inl l) (inl m) = before.one_to_one a b l m e
          go (inl l) (inr (j, m, y)) = absurd (old_new a j l (e ∙ ap meaning' y))
          go (inr (i, l, x)) (inl m) = absurd (old_new b i m (sym e ∙ ap meaning' x))
          go (inr (i, l, x)) (inr (j, m, y)) =
              let t = fresh_of_injective n (get_or marks i 0) n (get_or marks j 0) (map meaning' carried) (map meaning' carried)
              (sym (means_new i) ∙ ap meaning' (sym x) ∙ e ∙ ap meaning' y ∙ means_new j) in
              let ij : i ≡ j
              = sym (index-get_or ℕ_discrete marks i 0 (fresh_no_two r) l) ∙ ap (λ (k : ℕ). index ℕ_discrete k marks) t.1
              ∙ index-get_or ℕ_discrete marks j 0 (fresh_no_two r) m in
              x ∙ ap (λ (k : ℕ). s.next + k) ij ∙ sym y

      -- The rows then: those that were there and those that the H lines make.
      rows_in : (z : Row) → In z rows' → In z s.rows ⊎ ((h : Head) × In h r.heads × (z ≡ row_made s.next r w h))
      rows_in z i = go (in_add_all Row-discrete z (map (row_made s.next r w) r.heads) s.rows i)
        where
          go : In z (map (row_made s.next r w) r.heads) ⊎ In z s.rows
              → In z s.rows ⊎ ((h : Head) × In h r.heads × (z ≡ row_made s.next r w h))
          go (inl j) = inr (map_in (row_made s.next r w) r.heads z j)
          go (inr j) = inl j

      in_old : (z : Row) → In z s.rows → In z rows'
      in_old z i = add_all_keeps Row-discrete z (map (row_made s.next r w) r.heads) s.rows i

      in_new : (h : Head) → In h r.heads → In (row_made s.next r w h) rows'
      in_new h i =
          add_all-has Row-discrete (row_made s.next r w h) (map (row_made s.next r w) r.heads) s.rows
          (in_map (row_made s.next r w) h r.heads i)

      -- What an H line makes of numbers means what it makes of their meanings.
      row_means : (h : Head) → In h r.heads → meant meaning' (row_made s.next r w h) ≡ made n r (meant meaning' w) h
      row_means h i = λ k. record { kind = h.kind; fields = makes-map meaning' (number_of s.next r) (fresh_of n) r w.numbers h.marks one k }
        where
          one : (m : ℕ) → In m h.marks → value_of r.marks w.numbers m ≡ none
              → meaning' (s.next + index ℕ_discrete m marks) ≡ fresh_of n m (carried_values r (map meaning' w.numbers))
          one m j e =
              means_new (index ℕ_discrete m marks)
              ∙ ap (λ (k : ℕ). fresh_of n k (map meaning' carried)) (get_or-index ℕ_discrete m marks 0 (no_value_fresh r w.numbers fires.1 h m i j e))
              ∙ ap (fresh_of n m) (sym (carried_values-map meaning' r w.numbers))

      fires_meant : Fires r (meant meaning' w)
      fires_meant = (fires.0, agree_map meaning' r.marks w.numbers fires.1)

      number_low : (h : Head) → In h r.heads → (a : ℕ) → In a (row_made s.next r w h).numbers → a < next'
      number_low h i a j =
          let t = makes_in r w.numbers (number_of s.next r) h.marks a j in
          go t.0 t.1 t.2
        where
          go : (m : ℕ) → In m h.marks
              → (value_of r.marks w.numbers m ≡ some a) ⊎ ((value_of r.marks w.numbers m ≡ none) × (a ≡ s.next + index ℕ_discrete m marks))
              → a < next'
          go m k (inl e) = omega (arith, K.numbered w a there (value_of_in_fields r.marks w.numbers m a e))
          go m k (inr e) = omega (arith, e.1, index-lt ℕ_discrete m marks (no_value_fresh r w.numbers fires.1 h m i k e.0))

      -- A new number stands in a new row.
      new_stands : (i : ℕ) → i < length marks → (z : Row) × In z rows' × In (s.next + i) z.numbers
      new_stands i l =
          let m = get_or marks i 0 in
          let there = in_get_or marks i 0 l in
          let t = marks_of_in r.heads m (fresh_in_lem r m there).0 in (
            row_made s.next r w t.0,
            in_new t.0 t.1,
            subst (λ (a : ℕ). In a (row_made s.next r w t.0).numbers) (is m there (index-get_or ℕ_discrete marks i 0 (fresh_no_two r) l))
                (in_map (λ k. or_else (number_of s.next r k carried) (value_of r.marks w.numbers k)) m t.0.marks t.2),
          )
        where
          is : (m : ℕ) → In m marks → index ℕ_discrete m marks ≡ i
              → or_else (number_of s.next r m carried) (value_of r.marks w.numbers m) ≡ s.next + i
          is m j e = ap (or_else (number_of s.next r m carried)) (fresh_no_value r w.numbers m j) ∙ ap (λ (k : ℕ). s.next + k) e

      -- The firing, as document 01 has it.
      abbrev firing : Firing
      firing = record { rule = n; on = meant meaning' w }

      abbrev run_before : List Record
      run_before = run rules before.as_run.firings (start (map (meant old) table))

      fits : Fits rules firing run_before
      fits =
          record {
            rule = r;
            named = named;
            there = subst (λ (l : List Record). In (meant meaning' w) l) before.as_run.leaves (in_map (meant meaning') w s.rows there);
            fires = fires_meant;
          }

      Low : Row → Type 0
      Low z = (a : ℕ) → In a z.numbers → a < next'

      low_one : (u v : Row) → Low u → Low v → meant meaning' u ≡ meant meaning' v → u ≡ v
      unfolding Low
      low_one u v p q e =
          row_path u v (ap (λ (x : Record). x.kind) e)
          (map_injective meaning' u.numbers v.numbers (λ a b i j k. one' a b (p a i) (q b j) k) (ap (λ (x : Record). x.fields) e))

      leaves' : map (meant meaning') rows' ≡ fire rules firing run_before
      unfolding Low fits
      leaves' =
          map-add_all Row-discrete Record-discrete (meant meaning') Low low_one (map (row_made s.next r w) r.heads) s.rows
          (λ z i a j. let t = map_in (row_made s.next r w) r.heads z i in number_low t.0 t.1 a (subst (λ (y : Row). In a y.numbers) t.2 j))
          (λ z i a j. let l = K.numbered z a i j in omega arith)
          ∙ (λ k. add_all Record-discrete (made_all k) (before.as_run.leaves k)) ∙ sym (fire-fits rules firing run_before fits)
        where
          made_all : map (meant meaning') (map (row_made s.next r w) r.heads) ≡ map (made n r (meant meaning' w)) r.heads
          made_all =
              map-map (meant meaning') (row_made s.next r w) r.heads
              ∙ map_same (λ h. meant meaning' (row_made s.next r w h)) (made n r (meant meaning' w)) r.heads row_means

      as_run' : AsRun (fired n r w s) meaning'
      as_run' =
          record {
            firings = before.as_run.firings ++ (firing ∷ []);
            fit = all_fit_append rules before.as_run.firings (firing ∷ []) (start (map (meant old) table)) before.as_run.fit (fits, tt);
            leaves = leaves' ∙ sym (run-append rules before.as_run.firings (firing ∷ []) (start (map (meant old) table)));
            pairs =
                map-append (pair_fired rules) before.as_run.firings (firing ∷ [])
                ∙ (λ k. before.as_run.pairs k ++ (same_pair k ∷ []))
                ∙ sym (map-append (meant_pair meaning') s.fired (pair_of n r w ∷ []));
          }
        where
          values : carried_by (nth rules n) (map meaning' w.numbers) ≡ map meaning' carried
          values = ap (λ (o : Option Rule). carried_by o (map meaning' w.numbers)) named ∙ carried_values-map meaning' r w.numbers

          same_pair : pair_fired rules firing ≡ meant_pair meaning' (pair_of n r w)
          same_pair = λ k. record { rule = n; carried = values k }

      pub kept_fired : Kept (fired n r w s) meaning'
      kept_fired =
          record {
            begun = before.begun;
            first_below = omega (arith, K.first_below);
            one_to_one = one';
            numbered = λ z a i j. numbered' z a (rows_in z i) j;
            once = no_two_add_all Row-discrete (map (row_made s.next r w) r.heads) s.rows K.once;
            table_first =
                begins_trans (begins_at first table).rows s.rows rows' K.table_first
                (begins-add_all Row-discrete (map (row_made s.next r w) r.heads) s.rows);
            reachable = λ z i. reachable' z (rows_in z i);
            fired-once = no_two_last s.fired (pair_of n r w) K.fired-once new;
            fired-on = λ p i. fired_on' p (in_append p s.fired (pair_of n r w ∷ []) i);
            fresh_by = λ a l h. fresh_by' a l (split s.next (length marks) a h);
            stands = λ a l h. stands' a l (split s.next (length marks) a h);
            as_run = as_run';
          }
        where
          numbered' : (z : Row) (a : ℕ) → In z s.rows ⊎ ((h : Head) × In h r.heads × (z ≡ row_made s.next r w h)) → In a z.numbers → a < next'
          numbered' z a (inl i) j = omega (arith, K.numbered z a i j)
          numbered' z a (inr (h, i, e)) j = number_low h i a (subst (λ (y : Row). In a y.numbers) e j)

          reachable' : (z : Row) → In z s.rows ⊎ ((h : Head) × In h r.heads × (z ≡ row_made s.next r w h))
              → Reachable rules (map (meant old) table) (meant meaning' z)
          reachable' z (inl i) = before.reachable z i
          reachable' z (inr (h, i, e)) =
              subst (Reachable rules (map (meant old) table)) (sym (ap (meant meaning') e ∙ row_means h i))
              (made_from n r h named (before.reachable w there) fires_meant i)

          fired_on' : (p : Pair ℕ) → In p s.fired ⊎ In p (pair_of n r w ∷ []) → FiredOn (fired n r w s) meaning' p
          fired_on' p (inl i) =
              let o = before.fired-on p i in
              record {
                on = o.on;
                there = in_old o.on o.there;
                rule = o.rule;
                named = o.named;
                fires = o.fires;
                carried = o.carried;
                makes = λ h j. let z = o.makes h j in (z.0, in_old z.0 z.1, z.2);
              }
          fired_on' p (inr i) = subst (FiredOn (fired n r w s) meaning') (sym (elim i [ inl q ↦ q | inr k ↦ absurd k ])) here
            where
              here : FiredOn (fired n r w s) meaning' (pair_of n r w)
              here =
                  record {
                    on = w;
                    there = in_old w there;
                    rule = r;
                    named = named;
                    fires = fires;
                    carried = refl;
                    makes = λ h j. (row_made s.next r w h, in_new h j, row_means h j);
                  }

          fresh_by' : (a : ℕ) → first ≤ a → (a < s.next) ⊎ ((i : ℕ) × (i < length marks) × (a ≡ s.next + i)) → FreshBy (fired n r w s) meaning' a
          fresh_by' a l (inl h) =
              let b = before.fresh_by a l h in
              record { pair = b.pair; among = in_left b.pair s.fired (pair_of n r w ∷ []) b.among; mark = b.mark; is = b.is }
          fresh_by' a l (inr (i, h, e)) =
              record {
                pair = pair_of n r w;
                among = in_right (pair_of n r w) s.fired (pair_of n r w ∷ []) (inl refl);
                mark = get_or marks i 0;
                is = ap meaning' e ∙ means_new i;
              }

          stands' : (a : ℕ) → first ≤ a → (a < s.next) ⊎ ((i : ℕ) × (i < length marks) × (a ≡ s.next + i)) → (z : Row) × In z rows' × In a z.numbers
          stands' a l (inl h) =
              let t = K.stands a l h in
              (t.0, in_old t.0 t.1, t.2)
          stands' a l (inr (i, h, e)) =
              let t = new_stands i h in
              (t.0, t.1, subst (λ (b : ℕ). In b t.0.numbers) (sym e) t.2)

      -- A rule with a fresh mark adds a row: the one in which its first new number stands.
      pub fired_adds : 0 < length marks → length s.rows < length rows'
      fired_adds h = go (begins-add_all Row-discrete (map (row_made s.next r w) r.heads) s.rows) (new_stands 0 h)
        where
          more : (rest : List Row) → rows' ≡ s.rows ++ rest → (z : Row) × In z rows' × In (s.next + 0) z.numbers → length s.rows < length (s.rows ++ rest)
          more [] e t =
              let z : In t.0 s.rows = elim (in_append t.0 s.rows [] (subst (λ (l : List Row). In t.0 l) e t.1)) [ inl i ↦ i | inr k ↦ absurd k ] in
              absurd (omega (arith, K.numbered t.0 (s.next + 0) z t.2))
          more (x ∷ rest) e t = omega (arith, length-append s.rows (x ∷ rest))

          go : Begins s.rows rows' → (z : Row) × In z rows' × In (s.next + 0) z.numbers → length s.rows < length rows'
          go b t = omega (arith, ap length b.joined, more b.rest b.joined t)
