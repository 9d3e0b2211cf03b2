-- What every visit keeps, and that after its visit a row has nothing left to fire. Assumes nothing.
use mathlib.Core.Path.{◌≡◌, refl, sym, ◌∙◌, ap, subst}
use mathlib.Core.Logic.{◌⊎◌, inl, inr}
use mathlib.Core.List.{List, [], ◌∷◌, map}
use mathlib.Core.Option.{Option, none, some, none-ne-some, some-injective}
use Prim.Native.Nat.{ℕ, zero, suc, ◌+◌, ◌≤◌, ◌<◌}
use native.Mathlib.Decide.{ℕ_discrete}
use native.Mathlib.Omega.{arith}
use lib.ListN.{length, get_elem?}
use Rattle.patterns.specs.Pattern.{pick}
use Rattle.chase.specs.Lists.{In, in?}
use Rattle.chase.specs.Rules.{Rule, nth}
use Rattle.chase.specs.Value.{Value}
use Rattle.chase.proofs.ListLaws.{in_right, in_add_all, map_in}
use Rattle.chase.proofs.MakingLaws.{makes_in, value_of_in_fields}
use Rattle.chase.proofs.CountLaws.{element_below}
use Rattle.chase.proofs.StepLaws.{element_in}
use Rattle.carrying.specs.Carrying.{Row, Row-discrete, Pair, Pair-discrete, FiresOn, fires_on?, number_of, row_made, pair_of, State, fired, visit_rule, visit_rules, visit, after, Finished, begins_at}
use Rattle.carrying.specs.Meaning.{Numbering}
use Rattle.carrying.proofs.ListLaws.{Begins, begins_self, begins_trans, begins_in, begins_element, begins-add_all, element_past}
use Rattle.carrying.proofs.FiringLaws.{Kept, kept_begin, kept_fired, meaning'}

-- A state goes on from another: nothing is taken away or moved.
pub record GoesOn (s t : State) : Type 0 where
  pub rows : Begins s.rows t.rows
  pub next : s.next ≤ t.next
  pub fired : Begins s.fired t.fired

pub goes_on_self : (s : State) → GoesOn s s
goes_on_self s = record { rows = begins_self s.rows; next = omega arith; fired = begins_self s.fired }

pub goes_on_trans : (s t u : State) → GoesOn s t → GoesOn t u → GoesOn s u
goes_on_trans s t u p q =
    record {
      rows = begins_trans s.rows t.rows u.rows p.rows q.rows;
      next = omega (arith, p.next, q.next);
      fired = begins_trans s.fired t.fired u.fired p.fired q.fired;
    }

-- A firing and a rule that is skipped.
module _ (n : ℕ) (r : Rule) (w : Row) (s : State) where
  pub goes_on_fired : GoesOn s (fired n r w s)
  goes_on_fired =
      record {
        rows = begins-add_all Row-discrete (map (row_made s.next r w) r.heads) s.rows;
        next = omega arith;
        fired = record { rest = pair_of n r w ∷ []; joined = refl };
      }

  pub visit_rule_fires : FiresOn r w → (In (pair_of n r w) s.fired → ⊥) → visit_rule n r w s ≡ fired n r w s
  visit_rule_fires f new = go (fires_on? r w) (in? Pair-discrete (pair_of n r w) s.fired)
    where
      go : (p : Dec (FiresOn r w)) (q : Dec (In (pair_of n r w) s.fired)) → pick p (pick q s (fired n r w s)) s ≡ fired n r w s
      go (no h) q = absurd (h f)
      go (yes p) (yes i) = absurd (new i)
      go (yes p) (no h) = refl

  pub visit_rule_again : In (pair_of n r w) s.fired → visit_rule n r w s ≡ s
  visit_rule_again i = go (fires_on? r w) (in? Pair-discrete (pair_of n r w) s.fired)
    where
      go : (p : Dec (FiresOn r w)) (q : Dec (In (pair_of n r w) s.fired)) → pick p (pick q s (fired n r w s)) s ≡ s
      go (no h) q = refl
      go (yes p) (yes j) = refl
      go (yes p) (no h) = absurd (h i)

  pub visit_rule_unfit : (FiresOn r w → ⊥) → visit_rule n r w s ≡ s
  visit_rule_unfit h = go (fires_on? r w)
    where
      go : (p : Dec (FiresOn r w)) → pick p (pick (in? Pair-discrete (pair_of n r w) s.fired) s (fired n r w s)) s ≡ s
      go (no k) = refl
      go (yes p) = absurd (h p)

  -- What holds in each of the three ways holds after the rule.
  pub visit_rule_ways : (P : State → Type 0) → P s → (FiresOn r w → (In (pair_of n r w) s.fired → ⊥) → P (fired n r w s)) → P (visit_rule n r w s)
  visit_rule_ways P stays goes = go (fires_on? r w) (in? Pair-discrete (pair_of n r w) s.fired)
    where
      go : (p : Dec (FiresOn r w)) (q : Dec (In (pair_of n r w) s.fired)) → P (pick p (pick q s (fired n r w s)) s)
      go (no h) q = stays
      go (yes p) (yes i) = stays
      go (yes p) (no h) = goes p h

  pub goes_on_rule : GoesOn s (visit_rule n r w s)
  goes_on_rule = visit_rule_ways (λ t. GoesOn s t) (goes_on_self s) (λ f h. goes_on_fired)

  -- After it a rule that fires has fired with these carried values.
  pub visit_rule_done : FiresOn r w → In (pair_of n r w) (visit_rule n r w s).fired
  visit_rule_done f = go (fires_on? r w) (in? Pair-discrete (pair_of n r w) s.fired)
    where
      go : (p : Dec (FiresOn r w)) (q : Dec (In (pair_of n r w) s.fired)) → In (pair_of n r w) (pick p (pick q s (fired n r w s)) s).fired
      go (no h) q = absurd (h f)
      go (yes p) (yes i) = i
      go (yes p) (no h) = in_right (pair_of n r w) s.fired (pair_of n r w ∷ []) (inl refl)

-- A number below the next one that stands in no row is made by no rule.
module _ (a : ℕ) where
  abbrev pub Nowhere : State → Type 0
  Nowhere s = (a < s.next) × ((z : Row) → In z s.rows → In a z.numbers → ⊥)

  nowhere_rules : (w : Row) → (In a w.numbers → ⊥) → (rs : List Rule) (n : ℕ) (s : State) → Nowhere s → Nowhere (visit_rules n rs w s)
  nowhere_rules w h [] n s N = N
  nowhere_rules w h (r ∷ rs) n s N = nowhere_rules w h rs (suc n) (visit_rule n r w s) (visit_rule_ways n r w s Nowhere N (λ f new. (omega (arith, N.0), made)))
    where
      made : (z : Row) → In z (fired n r w s).rows → In a z.numbers → ⊥
      made z i j =
          elim (in_add_all Row-discrete z (map (row_made s.next r w) r.heads) s.rows i) [
            | inl k ↦
                let t = map_in (row_made s.next r w) r.heads z k in
                let u = makes_in r w.numbers (number_of s.next r) t.0.marks a (subst (λ (y : Row). In a y.numbers) t.2 j) in
                elim u.2 [ inl e ↦ h (value_of_in_fields r.marks w.numbers u.0 a e) | inr e ↦ omega (arith, N.0, e.1) ]
            | inr k ↦ N.1 z k j
          ]

  pub nowhere_after : (rules : List Rule) (begin : State) → Nowhere begin → (k : ℕ) → Nowhere (after rules begin k)
  nowhere_after rules begin N zero = N
  nowhere_after rules begin N (suc k) =
      go (get_elem? (after rules begin k).rows k) refl (nowhere_after rules begin N k)
    where
      go : (o : Option Row) → get_elem? (after rules begin k).rows k ≡ o → Nowhere (after rules begin k) → Nowhere (visit rules o (after rules begin k))
      go none e ih = ih
      go (some w) e ih = nowhere_rules w (ih.1 w (element_in (after rules begin k).rows k w e)) rules 1 (after rules begin k) ih

-- All rules of a list.
module _ (w : Row) where
  pub goes_on_rules : (rs : List Rule) (n : ℕ) (s : State) → GoesOn s (visit_rules n rs w s)
  goes_on_rules [] n s = goes_on_self s
  goes_on_rules (r ∷ rs) n s =
      goes_on_trans s (visit_rule n r w s) (visit_rules (suc n) rs w (visit_rule n r w s)) (goes_on_rule n r w s)
      (goes_on_rules rs (suc n) (visit_rule n r w s))

  pub visit_rules_done : (rs : List Rule) (n : ℕ) (s : State) (i m : ℕ) (q : Rule) → m ≡ n + i → get_elem? rs i ≡ some q → FiresOn q w
      → In (pair_of m q w) (visit_rules n rs w s).fired
  visit_rules_done [] n s i m q e k f = absurd (none-ne-some q k)
  visit_rules_done (r ∷ rs) n s zero m q e k f =
      let t = visit_rule n r w s in
      let same : r ≡ q = cc in
      let number : n ≡ m = omega arith in
      begins_in t.fired (visit_rules (suc n) rs w t).fired (goes_on_rules rs (suc n) t).fired (pair_of m q w)
      (subst (λ (p : Pair ℕ). In p t.fired) (λ j. pair_of (number j) (same j) w)
      (visit_rule_done n r w s (subst (λ (p : Rule). FiresOn p w) (sym same) f)))
  visit_rules_done (r ∷ rs) n s (suc i) m q e k f = visit_rules_done rs (suc n) (visit_rule n r w s) i m q (omega arith) k f

pub goes_on_visit : (rules : List Rule) (o : Option Row) (s : State) → GoesOn s (visit rules o s)
goes_on_visit rules none s = goes_on_self s
goes_on_visit rules (some w) s = goes_on_rules w rules 1 s

module _ (rules : List Rule) (begin : State) where
  pub goes_on_next : (k : ℕ) → GoesOn (after rules begin k) (after rules begin (suc k))
  goes_on_next k = goes_on_visit rules (get_elem? (after rules begin k).rows k) (after rules begin k)

  pub goes_on_after : (k j : ℕ) → GoesOn (after rules begin k) (after rules begin (k + j))
  goes_on_after k zero =
      let none_more : k ≡ k + 0 = omega arith in
      subst (λ (i : ℕ). GoesOn (after rules begin k) (after rules begin i)) none_more (goes_on_self (after rules begin k))
  goes_on_after k (suc j) =
      let more : suc (k + j) ≡ k + suc j = omega arith in
      subst (λ (i : ℕ). GoesOn (after rules begin k) (after rules begin i)) more
      (goes_on_trans (after rules begin k) (after rules begin (k + j)) (after rules begin (suc (k + j))) (goes_on_after k j) (goes_on_next (k + j)))

  -- Once finished, nothing changes.
  pub finished_next : (k : ℕ) → Finished rules begin k → after rules begin (suc k) ≡ after rules begin k
  finished_next k h = ap (λ (o : Option Row). visit rules o (after rules begin k)) (element_past (after rules begin k).rows k h)

  pub finished_stays : (k j : ℕ) → Finished rules begin k → after rules begin (k + j) ≡ after rules begin k
  finished_stays k zero h =
      let none_more : k + 0 ≡ k = omega arith in
      ap (after rules begin) none_more
  finished_stays k (suc j) h =
      let more : k + suc j ≡ suc (k + j) = omega arith in
      let ih = finished_stays k j h in
      ap (after rules begin) more
      ∙ finished_next (k + j) (subst (λ (s : State). length s.rows ≤ k + j) (sym ih) (omega (arith, h)))
      ∙ ih

  -- There is one state in which the run is finished.
  pub finished_same : (k j : ℕ) → Finished rules begin k → Finished rules begin j → after rules begin k ≡ after rules begin j
  finished_same k j h g =
      let add : k + j ≡ j + k = omega arith in
      sym (finished_stays k j h) ∙ ap (after rules begin) add ∙ finished_stays j k g

module _ (rules : List Rule) (table : List Row) (first : ℕ) (old : ℕ → Value) (N : Numbering table first old) where
  -- A state with a meaning under which it is kept.
  pub record Good (s : State) : Type 0 where
    pub meaning : ℕ → Value
    pub kept : Kept rules table first old s meaning

  pub visit_rule_good : (n : ℕ) (r : Rule) (w : Row) (s : State) → nth rules n ≡ some r → In w s.rows → Good s → Good (visit_rule n r w s)
  visit_rule_good n r w s e i G =
      visit_rule_ways n r w s Good G
      (λ f h. record { meaning = meaning' rules table first old N s G.meaning G.kept n r w e i f h; kept = kept_fired rules table first old N s G.meaning G.kept n r w e i f h })

  -- Rules at their numbers in the sheet, from number n on.
  abbrev pub Numbered : ℕ → List Rule → Type 0
  Numbered n rs = (i m : ℕ) (q : Rule) → m ≡ n + i → get_elem? rs i ≡ some q → nth rules m ≡ some q

  visit_rules_good : (w : Row) (rs : List Rule) (n : ℕ) (s : State) → Numbered n rs → In w s.rows → Good s → Good (visit_rules n rs w s)
  visit_rules_good w [] n s e i G = G
  visit_rules_good w (r ∷ rs) n s e i G =
      visit_rules_good w rs (suc n) (visit_rule n r w s) (λ j m q p k. e (suc j) m q (omega arith) k)
      (begins_in s.rows (visit_rule n r w s).rows (goes_on_rule n r w s).rows w i)
      (visit_rule_good n r w s (e 0 n r (omega arith) refl) i G)

  pub all_numbered : Numbered 1 rules
  all_numbered i zero q e k = absurd (omega arith)
  all_numbered i (suc m) q e k =
      let same : i ≡ m = omega arith in
      subst (λ (j : ℕ). get_elem? rules j ≡ some q) same k

  -- The rows before place k have nothing left to fire.
  abbrev pub Visited : ℕ → State → Type 0
  Visited k s = (i : ℕ) (w : Row) → i < k → get_elem? s.rows i ≡ some w → (n : ℕ) (r : Rule) → nth rules n ≡ some r → FiresOn r w
      → In (pair_of n r w) s.fired

  visit_good : (k : ℕ) (s : State) → Good s → Visited k s → (o : Option Row) → get_elem? s.rows k ≡ o
      → Good (visit rules o s) × Visited (suc k) (visit rules o s)
  visit_good k s G done none e =
      (G, λ i w h q. elim (before_or_at i h) [ inl l ↦ done i w l q | inr p ↦ absurd (none-ne-some w (sym e ∙ ap (get_elem? s.rows) (sym p) ∙ q)) ])
    where
      before_or_at : (i : ℕ) → i < suc k → (i < k) ⊎ (i ≡ k)
      before_or_at i h = go (ℕ_discrete i k)
        where
          go : Dec (i ≡ k) → (i < k) ⊎ (i ≡ k)
          go (yes p) = inr p
          go (no q) = inl (omega arith)
  visit_good k s G done (some w) e = (visit_rules_good w rules 1 s all_numbered (element_in s.rows k w e) G, visited)
    where
      below : k < length s.rows
      below = element_below s.rows k w e

      at_k : (n : ℕ) (r : Rule) → nth rules n ≡ some r → FiresOn r w → In (pair_of n r w) (visit_rules 1 rules w s).fired
      at_k zero r q f = absurd (none-ne-some r q)
      at_k (suc n) r q f = visit_rules_done w rules 1 s n (suc n) r (omega arith) q f

      visited : Visited (suc k) (visit_rules 1 rules w s)
      visited i v h q n r m f = go (ℕ_discrete i k)
        where
          old_place : i < length s.rows → get_elem? s.rows i ≡ some v
          old_place l = sym (begins_element s.rows (visit_rules 1 rules w s).rows (goes_on_rules w rules 1 s).rows i l) ∙ q

          go : Dec (i ≡ k) → In (pair_of n r v) (visit_rules 1 rules w s).fired
          go (yes p) =
              let same : w ≡ v = some-injective w v (sym e ∙ ap (get_elem? s.rows) (sym p) ∙ old_place (omega (arith, below))) in
              subst (λ (u : Row). In (pair_of n r u) (visit_rules 1 rules w s).fired) same (at_k n r m (subst (FiresOn r) (sym same) f))
          go (no p) =
              begins_in s.fired (visit_rules 1 rules w s).fired (goes_on_rules w rules 1 s).fired (pair_of n r v)
              (done i v (omega arith) (old_place (omega (arith, below))) n r m f)

  pub after_good : (k : ℕ) → Good (after rules (begins_at first table) k) × Visited k (after rules (begins_at first table) k)
  after_good zero = (record { meaning = old; kept = kept_begin rules table first old N }, λ i w h. absurd (omega arith))
  after_good (suc k) =
      let ih = after_good k in
      let s = after rules (begins_at first table) k in
      visit_good k s ih.0 ih.1 (get_elem? s.rows k) refl
