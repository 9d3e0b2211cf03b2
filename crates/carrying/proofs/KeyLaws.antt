-- The run with fewer pairs kept has the same rows and the same next number. Assumes nothing.
use mathlib.Core.Path.{◌≡◌, refl, sym, ◌∙◌, ap, subst}
use mathlib.Core.Logic.{inl, inr}
use mathlib.Core.List.{List, [], ◌∷◌, map}
use mathlib.Core.Option.{Option, none, some, none-ne-some, some-injective}
use Prim.Native.Nat.{ℕ, zero, suc, ◌+◌, ◌≤◌, ◌<◌}
use native.Mathlib.Omega.{arith}
use lib.ListN.{length, get_elem?, length-append}
use Rattle.patterns.specs.Pattern.{pick, add_all}
use Rattle.chase.specs.Lists.{In, in?}
use Rattle.chase.specs.Rules.{Head, Rule, nth}
use Rattle.chase.specs.Value.{Value}
use Rattle.chase.specs.Making.{Record, fresh_of, value_of}
use Rattle.chase.proofs.ListLaws.{in_left, in_right, in_append, map_in, add_all_there}
use Rattle.chase.proofs.MakingLaws.{value_of_in_fields, makes_in}
use Rattle.chase.proofs.StepLaws.{element_in}
use Rattle.carrying.specs.Carrying.{Row, Row-discrete, Pair, Pair-discrete, FiresOn, fires_on?, fresh_marks, number_of, row_made, pair_of, State, fired, visit_rule, visit_rules, visit, after, begins_at}
use Rattle.carrying.specs.Inner.Keys.{key_on, key_rule, key_rules, key_visit, key_after}
use Rattle.carrying.specs.Meaning.{meant, Numbering}
use Rattle.carrying.proofs.ListLaws.{begins_in, begins-length, begins-add_all, map_injective}
use Rattle.carrying.proofs.RenameLaws.{makes-map}
use Rattle.carrying.proofs.MarkLaws.{no_value_fresh}
use Rattle.carrying.proofs.FiringLaws.{Kept, row_path, fired_adds}
use Rattle.carrying.proofs.VisitLaws.{Good, Numbered, visit_rule_good, all_numbered, after_good, goes_on_rule}
use Rattle.carrying.proofs.ResultLaws.{made_there}

module _ (rules : List Rule) (table : List Row) (first : ℕ) (old : ℕ → Value) (N : Numbering table first old) where
  -- A rule without fresh marks that fires again makes what is there.
  module _ (s : State) (f : ℕ → Value) (K : Kept rules table first old s f) (n : ℕ) (r : Rule) (w : Row) (named : nth rules n ≡ some r)
      (there : In w s.rows) (fires : FiresOn r w) (again : In (pair_of n r w) s.fired) (none-fresh : fresh_marks r ≡ []) where
    no_new : (h : Head) → In h r.heads → (m : ℕ) → In m h.marks → value_of r.marks w.numbers m ≡ none → ⊥
    no_new h i m j e = subst (λ (l : List ℕ). In m l) none-fresh (no_value_fresh r w.numbers fires.1 h m i j e)

    again_there : (h : Head) → In h r.heads → In (row_made s.next r w h) s.rows
    again_there h i =
        let z = made_there rules table first old N s f K w n r named fires again h i in
        let fields = makes-map f (number_of s.next r) (fresh_of n) r w.numbers h.marks (λ m j e. absurd (no_new h i m j e)) in
        let alike : meant f z.0 ≡ meant f (row_made s.next r w h) = z.2 ∙ sym (λ k. record { kind = h.kind; fields = fields k }) in
        let same : z.0 ≡ row_made s.next r w h
        = row_path z.0 (row_made s.next r w h) (ap (λ (x : Record). x.kind) alike)
        (map_injective f z.0.numbers (row_made s.next r w h).numbers
        (λ a b j l q. K.one_to_one a b (K.numbered z.0 a z.1 j) (low b l) q) (ap (λ (x : Record). x.fields) alike)) in
        subst (λ (v : Row). In v s.rows) same z.1
      where
        low : (b : ℕ) → In b (row_made s.next r w h).numbers → b < s.next
        low b l =
            let t = makes_in r w.numbers (number_of s.next r) h.marks b l in
            elim t.2 [ inl e ↦ K.numbered w b there (value_of_in_fields r.marks w.numbers t.0 b e) | inr e ↦ absurd (no_new h i t.0 t.1 e.0) ]

    pub again_nothing : add_all Row-discrete (map (row_made s.next r w) r.heads) s.rows ≡ s.rows
    again_nothing =
        add_all_there Row-discrete (map (row_made s.next r w) r.heads) s.rows
        (λ z i. let t = map_in (row_made s.next r w) r.heads z i in subst (λ (v : Row). In v s.rows) (sym t.2) (again_there t.0 t.1))

  -- The one state and the other.
  pub record Alike (s t : State) : Type 0 where
    pub rows : t.rows ≡ s.rows
    pub next : t.next ≡ s.next
    pub fewer : (p : Pair ℕ) → In p t.fired → In p s.fired
    pub enough : (n : ℕ) (r : Rule) (w : Row) → nth rules n ≡ some r → 0 < length (fresh_marks r) → In (pair_of n r w) s.fired
        → In (pair_of n r w) t.fired
    pub few : length t.fired + length (begins_at first table).rows ≤ length t.rows

  module _ (n : ℕ) (r : Rule) (w : Row) (named : nth rules n ≡ some r) (s t : State) (there : In w s.rows) (fires : FiresOn r w)
      (f : ℕ → Value) (K : Kept rules table first old s f) (a : Alike s t) where
    abbrev made_of : State → List Row
    made_of u = add_all Row-discrete (map (row_made u.next r w) r.heads) u.rows

    same_made : made_of t ≡ made_of s
    same_made = λ i. add_all Row-discrete (map (row_made (a.next i) r w) r.heads) (a.rows i)

    -- By its fresh marks.
    by_marks : (ms : List ℕ) → fresh_marks r ≡ ms → (q : Dec (In (pair_of n r w) s.fired)) → Alike (pick q s (fired n r w s)) (key_on ms n r w t)
    by_marks [] e (yes i) =
        record {
          rows = same_made ∙ again_nothing s f K n r w named there fires i e;
          next = a.next;
          fewer = a.fewer;
          enough = a.enough;
          few =
              omega (
                arith,
                a.few,
                begins-length t.rows (made_of t) (begins-add_all Row-discrete (map (row_made t.next r w) r.heads) t.rows),
              );
        }
    by_marks [] e (no h) =
        let none_new : length (fresh_marks r) ≡ 0 = ap length e in
        record {
          rows = same_made;
          next = omega (arith, a.next, none_new);
          fewer = λ p i. in_left p s.fired (pair_of n r w ∷ []) (a.fewer p i);
          enough = λ m q v named' l i. elim (in_append (pair_of m q v) s.fired (pair_of n r w ∷ []) i)
              [ inl j ↦ a.enough m q v named' l j | inr j ↦ absurd (other m q v named' l none_new j) ];
          few =
              omega (
                arith,
                a.few,
                begins-length t.rows (made_of t) (begins-add_all Row-discrete (map (row_made t.next r w) r.heads) t.rows),
              );
        }
      where
        other : (m : ℕ) (q : Rule) (v : Row) → nth rules m ≡ some q → 0 < length (fresh_marks q) → length (fresh_marks r) ≡ 0
            → In (pair_of m q v) (pair_of n r w ∷ []) → ⊥
        other m q v k l z (inr j) = j
        other m q v k l z (inl j) =
            let number : m ≡ n = ap (λ (p : Pair ℕ). p.rule) j in
            let same : q ≡ r = some-injective q r (sym k ∙ ap (nth rules) number ∙ named) in
            omega (arith, l, z, ap (λ (p : Rule). length (fresh_marks p)) same)
    by_marks (m ∷ ms) e (yes i) = go (in? Pair-discrete (pair_of n r w) t.fired)
      where
        go : (q : Dec (In (pair_of n r w) t.fired)) → Alike s (pick q t (fired n r w t))
        go (yes j) = a
        go (no h) = absurd (h (a.enough n r w named (omega (arith, ap length e)) i))
    by_marks (m ∷ ms) e (no h) = go (in? Pair-discrete (pair_of n r w) t.fired)
      where
        adds : length s.rows < length (made_of s)
        adds = fired_adds rules table first old N s f K n r w named there fires h (omega (arith, ap length e))

        go : (q : Dec (In (pair_of n r w) t.fired)) → Alike (fired n r w s) (pick q t (fired n r w t))
        go (yes j) = absurd (h (a.fewer (pair_of n r w) j))
        go (no g) =
            record {
              rows = same_made;
              next = omega (arith, a.next);
              fewer = λ p i. elim (in_append p t.fired (pair_of n r w ∷ []) i)
                  [ inl j ↦ in_left p s.fired (pair_of n r w ∷ []) (a.fewer p j) | inr j ↦ in_right p s.fired (pair_of n r w ∷ []) j ];
              enough = λ k q v named' l i. elim (in_append (pair_of k q v) s.fired (pair_of n r w ∷ []) i) [
                | inl j ↦ in_left (pair_of k q v) t.fired (pair_of n r w ∷ []) (a.enough k q v named' l j)
                | inr j ↦ in_right (pair_of k q v) t.fired (pair_of n r w ∷ []) j
              ];
              few =
                  omega (
                    arith,
                    a.few,
                    adds,
                    length-append t.fired (pair_of n r w ∷ []),
                    ap length same_made,
                    ap length a.rows,
                  );
            }

  key_rule_alike : (n : ℕ) (r : Rule) (w : Row) (s t : State) → nth rules n ≡ some r → In w s.rows → Good rules table first old N s → Alike s t
      → Alike (visit_rule n r w s) (key_rule n r w t)
  key_rule_alike n r w s t named there G a = go (fires_on? r w)
    where
      go : (p : Dec (FiresOn r w)) → Alike (pick p (pick (in? Pair-discrete (pair_of n r w) s.fired) s (fired n r w s)) s) (pick p (key_on (fresh_marks r) n r w t) t)
      go (no h) = a
      go (yes g) = by_marks n r w named s t there g G.meaning G.kept a (fresh_marks r) refl (in? Pair-discrete (pair_of n r w) s.fired)

  key_rules_alike : (w : Row) (rs : List Rule) (n : ℕ) (s t : State) → Numbered rules table first old N n rs → In w s.rows
      → Good rules table first old N s → Alike s t → Alike (visit_rules n rs w s) (key_rules n rs w t)
  key_rules_alike w [] n s t e i G a = a
  key_rules_alike w (r ∷ rs) n s t e i G a =
      let named = e 0 n r (omega arith) refl in
      key_rules_alike w rs (suc n) (visit_rule n r w s) (key_rule n r w t) (λ j m q p k. e (suc j) m q (omega arith) k)
      (begins_in s.rows (visit_rule n r w s).rows (goes_on_rule n r w s).rows w i)
      (visit_rule_good rules table first old N n r w s named i G) (key_rule_alike n r w s t named i G a)

  key_visit_alike : (k : ℕ) (s t : State) → Good rules table first old N s → Alike s t → (o p : Option Row) → get_elem? s.rows k ≡ o → p ≡ o
      → Alike (visit rules o s) (key_visit rules p t)
  key_visit_alike k s t G a none none e q = a
  key_visit_alike k s t G a none (some w) e q = absurd (none-ne-some w (sym q))
  key_visit_alike k s t G a (some w) none e q = absurd (none-ne-some w q)
  key_visit_alike k s t G a (some w) (some v) e q =
      let same : w ≡ v = some-injective w v (sym q) in
      subst (λ (u : Row). Alike (visit_rules 1 rules w s) (key_rules 1 rules u t)) same
      (key_rules_alike w rules 1 s t (all_numbered rules table first old N) (element_in s.rows k w e) G a)

  -- The rows, the next number, and at most as many kept pairs as rows that the run has added.
  pub keys_alike : (k : ℕ) → Alike (after rules (begins_at first table) k) (key_after rules (begins_at first table) k)
  keys_alike zero = record { rows = refl; next = refl; fewer = λ p i. i; enough = λ n r w e l i. i; few = omega arith }
  keys_alike (suc k) =
      let s = after rules (begins_at first table) k in
      let t = key_after rules (begins_at first table) k in
      let a = keys_alike k in
      key_visit_alike k s t (after_good rules table first old N k).0 a (get_elem? s.rows k) (get_elem? t.rows k) refl
      (ap (λ (l : List Row). get_elem? l k) a.rows)
