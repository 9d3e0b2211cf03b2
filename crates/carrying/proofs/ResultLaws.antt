-- A kept state read as a renaming of a part of the chase, and a finished one as the whole of it. Assumes nothing.
use mathlib.Core.Path.{◌≡◌, sym, ◌∙◌, ap, subst}
use mathlib.Core.List.{List, [], ◌++◌, map, map-append}
use mathlib.Core.Option.{some, some-injective}
use Prim.Native.Nat.{ℕ, ◌+◌, ◌-◌, ◌≤◌, ◌<◌}
use native.Mathlib.Decide.{dec_lt}
use native.Mathlib.Omega.{arith}
use lib.ListN.{length, length-map}
use Rattle.patterns.specs.Pattern.{add_all}
use Rattle.patterns.proofs.PatternLaws.{add_all-has}
use Rattle.chase.specs.Lists.{In}
use Rattle.chase.specs.Rules.{Head, Rule, nth}
use Rattle.chase.specs.Value.{Value, generation}
use Rattle.chase.specs.Making.{Record, Record-discrete, Fires, made, fresh_of, carried_values}
use Rattle.chase.specs.Run.{Reachable, row, made_from, start}
use Rattle.chase.specs.Counting.{Count}
use Rattle.chase.proofs.ListLaws.{in_map, map_in, map_same}
use Rattle.chase.proofs.MakingLaws.{agree_map, map_agree}
use Rattle.chase.proofs.RunLaws.{same_carried_made}
use Rattle.carrying.specs.Carrying.{Row, Row-discrete, Pair, FiresOn, rising, pair_of, State, begins_at}
use Rattle.carrying.specs.Meaning.{meant, meant_pair, FiredWith, Made, Renames, Whole, Numbering}
use Rattle.carrying.proofs.ListLaws.{begins_in, in_element, no_two_map, map_injective, map-add_all}
use Rattle.carrying.proofs.RenameLaws.{carried_values-map}
use Rattle.carrying.proofs.MarkLaws.{rising_in, in_rising, no_two_rising, rising_below, length-rising}
use Rattle.carrying.proofs.FiringLaws.{Kept, row_path, pair_path, alike_row, carried_below}
use Rattle.carrying.proofs.VisitLaws.{Visited}

module _ (rules : List Rule) (table : List Row) (first : ℕ) (old : ℕ → Value) (N : Numbering table first old)
    (s : State) (f : ℕ → Value) (K : Kept rules table first old s f) where
  abbrev rows : List Record
  rows = map (meant old) table

  -- Rows that are there and pairs that have fired are different where their meanings are.
  pub rows_one_to_one : (v w : Row) → In v s.rows → In w s.rows → meant f v ≡ meant f w → v ≡ w
  rows_one_to_one v w i j e =
      row_path v w (ap (λ (x : Record). x.kind) e)
      (map_injective f v.numbers w.numbers (λ a b k l q. K.one_to_one a b (K.numbered v a i k) (K.numbered w b j l) q)
      (ap (λ (x : Record). x.fields) e))

  pairs_one_to_one : (p q : Pair ℕ) → In p s.fired → In q s.fired → meant_pair f p ≡ meant_pair f q → p ≡ q
  pairs_one_to_one p q i j e =
      pair_path p q (ap (λ (x : Pair Value). x.rule) e)
      (map_injective f p.carried q.carried
      (λ a b k l u. K.one_to_one a b (carried_below rules table first old N s f K p i a k) (carried_below rules table first old N s f K q j b l) u)
      (ap (λ (x : Pair Value). x.carried) e))

  meant_fires : (r : Rule) (w : Row) → FiresOn r w → Fires r (meant f w)
  meant_fires r w g = (g.0, agree_map f r.marks w.numbers g.1)

  fired_with : (p : Pair ℕ) → In p s.fired → FiredWith rules rows (meant_pair f p)
  fired_with p i =
      let o = K.fired-on p i in
      record {
        rule = o.rule;
        named = o.named;
        on = meant f o.on;
        reachable = K.reachable o.on o.there;
        fires = meant_fires o.rule o.on o.fires;
        carried = ap (map f) o.carried ∙ sym (carried_values-map f o.rule o.on.numbers);
      }

  -- The table's rows come first, as the chase begins with them.
  begins-start : map (meant f) (begins_at first table).rows ≡ start rows
  begins-start =
      map-add_all Row-discrete Record-discrete (meant f) (λ w. In w table)
      (λ v w i j e. row_path v w (ap (λ (x : Record). x.kind) e)
      (map_injective f v.numbers w.numbers
      (λ a b k l q. K.one_to_one a b (low v a i k) (low w b j l) q)
      (ap (λ (x : Record). x.fields) e)))
      table [] (λ w i. i) (λ w i. absurd i)
      ∙ ap (λ (l : List Record). add_all Record-discrete l [])
      (map_same (meant f) (meant old) table (λ w i. alike_row old f first K.begun w (λ a j. N.numbered w a i j)))
    where
      low : (w : Row) (a : ℕ) → In w table → In a w.numbers → a < s.next
      low w a i j = omega (arith, N.numbered w a i j, K.first_below)

  pub renames : Renames rules rows old first s f
  renames =
      record {
        begun = K.begun;
        one_to_one = K.one_to_one;
        numbered = K.numbered;
        table_first = (
          K.table_first.rest,
          ap (map (meant f)) K.table_first.joined ∙ map-append (meant f) (begins_at first table).rows K.table_first.rest
              ∙ ap (λ (l : List Record). l ++ map (meant f) K.table_first.rest) begins-start,
        );
        reachable = λ x i. let t = map_in (meant f) s.rows x i in subst (Reachable rules rows) (sym t.2) (K.reachable t.0 t.1);
        once = no_two_map (meant f) s.rows rows_one_to_one K.once;
        pairs = λ p i. let t = map_in (meant_pair f) s.fired p i in subst (FiredWith rules rows) (sym t.2) (fired_with t.0 t.1);
        pairs_once = no_two_map (meant_pair f) s.fired pairs_one_to_one K.fired-once;
      }

  -- The fresh numbers of the run are made in the chase.
  fresh_made : (a : ℕ) → first ≤ a → a < s.next → Made rules rows (f a)
  fresh_made a l h =
      let t = K.stands a l h in
      let b = K.fresh_by a l h in
      let g : generation (f a) ≡ generation (fresh_of b.pair.rule b.mark (map f b.pair.carried)) = ap generation b.is in
      record {
        on = meant f t.0;
        reachable = K.reachable t.0 t.1;
        holds = in_map f a t.0.numbers t.2;
        fresh = omega (arith, g);
      }

  -- What a rule makes of a row is there if it has fired with the row's carried values.
  pub made_there : (w : Row) (n : ℕ) (r : Rule) → nth rules n ≡ some r → FiresOn r w → In (pair_of n r w) s.fired → (h : Head) → In h r.heads
      → (z : Row) × In z s.rows × (meant f z ≡ made n r (meant f w) h)
  made_there w n r e g i h j =
      let o = K.fired-on (pair_of n r w) i in
      let same : o.rule ≡ r = some-injective o.rule r (sym o.named ∙ e) in
      let z = o.makes h (subst (λ (q : Rule). In h q.heads) (sym same) j) in (
        z.0,
        z.1,
        z.2 ∙ ap (λ (q : Rule). made n q (meant f o.on) h) same
            ∙ same_carried_made n r (meant f o.on) (meant f w) (meant_fires r o.on (subst (λ (q : Rule). FiresOn q o.on) same o.fires))
            (meant_fires r w g) (alike o.rule o.on same o.carried) h j,
      )
    where
      alike : (q : Rule) (v : Row) → q ≡ r → carried_values r w.numbers ≡ carried_values q v.numbers
          → carried_values r (map f v.numbers) ≡ carried_values r (map f w.numbers)
      alike q v p c =
          carried_values-map f r v.numbers ∙ ap (λ (t : Rule). map f (carried_values t v.numbers)) (sym p) ∙ ap (map f) (sym c)
          ∙ sym (carried_values-map f r w.numbers)

  -- A finished run: every row is visited.
  module _ (k : ℕ) (visited : Visited rules table first old N k s) (finished : length s.rows ≤ k) where
    pair-fired : (w : Row) → In w s.rows → (n : ℕ) (r : Rule) → nth rules n ≡ some r → FiresOn r w → In (pair_of n r w) s.fired
    pair-fired w i n r e g =
        let t = in_element s.rows w i in
        visited t.0 w (omega (arith, t.1)) t.2 n r e g

    -- A rule that fires on what a row means fires on the row.
    fires_on : (w : Row) → In w s.rows → (r : Rule) → Fires r (meant f w) → FiresOn r w
    fires_on w i r g =
        (g.0, map_agree f r.marks w.numbers (λ a b j l q. K.one_to_one a b (K.numbered w a i j) (K.numbered w b i l) q) g.1)

    all_there : {x : Record} → Reachable rules rows x → In x (map (meant f) s.rows)
    all_there (row {x = x} i) =
        let t = map_in (meant old) table x i in
        let same : meant f t.0 ≡ x = alike_row old f first K.begun t.0 (λ a j. N.numbered t.0 a t.1 j) ∙ sym t.2 in
        subst (λ (y : Record). In y (map (meant f) s.rows)) same
        (in_map (meant f) t.0 s.rows
        (begins_in (begins_at first table).rows s.rows K.table_first t.0 (add_all-has Row-discrete t.0 table [] t.1)))
    all_there (made_from {x = x} n r h e w g i) =
        let t = map_in (meant f) s.rows x (all_there w) in
        let fires = fires_on t.0 t.1 r (subst (Fires r) t.2 g) in
        let z = made_there t.0 n r e fires (pair-fired t.0 t.1 n r e fires) h i in
        let is : meant f z.0 ≡ made n r x h = z.2 ∙ ap (λ (y : Record). made n r y h) (sym t.2) in
        subst (λ (y : Record). In y (map (meant f) s.rows)) is (in_map (meant f) z.0 s.rows z.1)

    pub whole : Whole rules rows first s f
    whole = record { records = λ x w. all_there w; pairs = λ p v. pair_there p v; made = λ v m. fresh_there v m }
      where
        pair_there : (p : Pair Value) → FiredWith rules rows p → In p (map (meant_pair f) s.fired)
        pair_there p v =
            let t = map_in (meant f) s.rows v.on (all_there v.reachable) in
            let i = pair-fired t.0 t.1 p.rule v.rule v.named (fires_on t.0 t.1 v.rule (subst (Fires v.rule) t.2 v.fires)) in
            let same : map f (carried_values v.rule t.0.numbers) ≡ p.carried
            = sym (carried_values-map f v.rule t.0.numbers) ∙ ap (λ (x : Record). carried_values v.rule x.fields) (sym t.2) ∙ sym v.carried in
            subst (λ (q : Pair Value). In q (map (meant_pair f) s.fired)) (λ j. record { rule = p.rule; carried = same j })
            (in_map (meant_pair f) (pair_of p.rule v.rule t.0) s.fired i)

        fresh_there : (v : Value) → Made rules rows v → (a : ℕ) × (first ≤ a) × (a < s.next) × (f a ≡ v)
        fresh_there v m =
            let t = map_in (meant f) s.rows m.on (all_there m.reachable) in
            let u = map_in f t.0.numbers v (subst (λ (x : Record). In v x.fields) t.2 m.holds) in
            (u.0, go u.0 u.2 (dec_lt u.0 first), K.numbered t.0 u.0 t.1 u.1, sym u.2)
          where
            go : (a : ℕ) → v ≡ f a → Dec (a < first) → first ≤ a
            go a e (no h) = omega arith
            go a e (yes l) =
                let q : generation v ≡ generation (old a) = ap generation (e ∙ K.begun a l) in
                absurd (omega (arith, N.not_fresh a l, m.fresh, q))

    -- How many there are of each.
    pub records_count : Count (Reachable rules rows) (length s.rows)
    records_count =
        record {
          list = map (meant f) s.rows;
          different = renames.once;
          sound = renames.reachable;
          complete = λ x w. all_there w;
          size = length-map s.rows (meant f);
        }

    pub pairs_count : Count (FiredWith rules rows) (length s.fired)
    pairs_count =
        record {
          list = map (meant_pair f) s.fired;
          different = renames.pairs_once;
          sound = renames.pairs;
          complete = whole.pairs;
          size = length-map s.fired (meant_pair f);
        }

    pub made_count : Count (Made rules rows) (s.next - first)
    made_count =
        record {
          list = map f (rising first (s.next - first));
          different = no_two_map f (rising first (s.next - first)) (λ a b i j e. K.one_to_one a b (low a i) (low b j) e) (no_two_rising first (s.next - first));
          sound = λ v i. let t = map_in f (rising first (s.next - first)) v i in
              subst (Made rules rows) (sym t.2) (fresh_made t.0 (rising_in first (s.next - first) t.0 t.1) (low t.0 t.1));
          complete = λ v m. let t = whole.made v m in
              subst (λ (u : Value). In u (map f (rising first (s.next - first)))) t.3
              (in_map f t.0 (rising first (s.next - first)) (in_rising first (s.next - first) t.0 t.1 (omega (arith, t.1, t.2, K.first_below))));
          size = length-map (rising first (s.next - first)) f ∙ length-rising first (s.next - first);
        }
      where
        low : (a : ℕ) → In a (rising first (s.next - first)) → a < s.next
        low a i = omega (arith, rising_below first (s.next - first) a i, K.first_below)
