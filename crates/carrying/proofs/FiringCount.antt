-- The firings of a finished run are counted by its rows, rule by rule. Assumes nothing.
use mathlib.Core.Path.{◌≡◌, refl, sym, ◌∙◌, ap, subst}
use mathlib.Core.Logic.{◌⊎◌, inl, inr}
use mathlib.Core.List.{List, [], ◌∷◌, ◌++◌}
use mathlib.Core.Option.{some, none-ne-some}
use Prim.Native.Nat.{ℕ, zero, suc, ◌+◌, ◌≤◌}
use native.Mathlib.Omega.{arith}
use lib.ListN.{length, get_elem?, length-append}
use Rattle.patterns.specs.Pattern.{pick, add_all}
use Rattle.patterns.proofs.PatternLaws.{add_all-has}
use Rattle.chase.specs.Lists.{In}
use Rattle.chase.specs.Rules.{Rule, nth}
use Rattle.chase.specs.Value.{Value}
use Rattle.chase.specs.Counting.{NoTwo}
use Rattle.chase.proofs.ListLaws.{in_left, in_right, in_append, in_add_all, no_two_add_all}
use Rattle.chase.proofs.CountLaws.{pigeonhole}
use Rattle.carrying.specs.Carrying.{Row, Pair, Pair-discrete, FiresOn, fires_on?, pair_of, State, after, Finished, begins_at}
use Rattle.carrying.specs.Inner.Keys.{pairs_on, firings_on}
use Rattle.carrying.specs.Meaning.{Numbering}
use Rattle.carrying.proofs.ListLaws.{in_element, no_two_append}
use Rattle.carrying.proofs.FiringLaws.{Kept, pair_path}
use Rattle.carrying.proofs.VisitLaws.{Visited, after_good}

-- The pairs of a rule over some rows.
module _ (n : ℕ) (r : Rule) where
  in_pairs_on : (ws : List Row) (w : Row) → In w ws → FiresOn r w → In (pair_of n r w) (pairs_on n r ws)
  in_pairs_on [] w i f = absurd i
  in_pairs_on (v ∷ ws) w i f = go (fires_on? r v) i (λ j. in_pairs_on ws w j f)
    where
      go : (p : Dec (FiresOn r v)) → (w ≡ v) ⊎ In w ws → (In w ws → In (pair_of n r w) (pairs_on n r ws))
          → In (pair_of n r w) (pick p (pair_of n r v ∷ pairs_on n r ws) (pairs_on n r ws))
      go (yes p) (inl e) ih = inl (ap (pair_of n r) e)
      go (yes p) (inr j) ih = inr (ih j)
      go (no h) (inl e) ih = absurd (h (subst (FiresOn r) e f))
      go (no h) (inr j) ih = ih j

  pairs_on_in : (ws : List Row) (p : Pair ℕ) → In p (pairs_on n r ws) → (w : Row) × In w ws × FiresOn r w × (p ≡ pair_of n r w)
  pairs_on_in [] p i = absurd i
  pairs_on_in (v ∷ ws) p i = go (fires_on? r v) i (λ j. pairs_on_in ws p j)
    where
      go : (q : Dec (FiresOn r v)) → In p (pick q (pair_of n r v ∷ pairs_on n r ws) (pairs_on n r ws))
          → (In p (pairs_on n r ws) → (w : Row) × In w ws × FiresOn r w × (p ≡ pair_of n r w))
          → (w : Row) × In w (v ∷ ws) × FiresOn r w × (p ≡ pair_of n r w)
      go (yes q) (inl e) ih = (v, inl refl, q, e)
      go (yes q) (inr j) ih = let t = ih j in (t.0, inr t.1, t.2, t.3)
      go (no h) j ih = let t = ih j in (t.0, inr t.1, t.2, t.3)

-- Those of all rules, each once.
module _ (ws : List Row) where
  abbrev different : ℕ → List Rule → List (Pair ℕ)
  different n [] = []
  different n (r ∷ rs) = add_all Pair-discrete (pairs_on n r ws) [] ++ different (suc n) rs

  length_different : (rs : List Rule) (n : ℕ) → length (different n rs) ≡ firings_on n rs ws
  length_different [] n = refl
  length_different (r ∷ rs) n =
      omega (arith, length-append (add_all Pair-discrete (pairs_on n r ws) []) (different (suc n) rs), length_different rs (suc n))

  record At (n : ℕ) (rs : List Rule) (p : Pair ℕ) : Type 0 where
    place : ℕ
    rule : Rule
    named : get_elem? rs place ≡ some rule
    number : p.rule ≡ n + place
    on : Row
    there : In on ws
    fires : FiresOn rule on
    is : p ≡ pair_of p.rule rule on

  of-rule : (n : ℕ) (r : Rule) (p : Pair ℕ) → In p (add_all Pair-discrete (pairs_on n r ws) []) → (w : Row) × In w ws × FiresOn r w × (p ≡ pair_of n r w)
  of-rule n r p i = elim (in_add_all Pair-discrete p (pairs_on n r ws) [] i) [ inl j ↦ pairs_on_in n r ws p j | inr k ↦ absurd k ]

  different_at : (rs : List Rule) (n : ℕ) (p : Pair ℕ) → In p (different n rs) → At n rs p
  different_at [] n p i = absurd i
  different_at (r ∷ rs) n p i = go (in_append p (add_all Pair-discrete (pairs_on n r ws) []) (different (suc n) rs) i) (λ j. different_at rs (suc n) p j)
    where
      go : In p (add_all Pair-discrete (pairs_on n r ws) []) ⊎ In p (different (suc n) rs) → (In p (different (suc n) rs) → At (suc n) rs p) → At n (r ∷ rs) p
      go (inl j) ih =
          let t = of-rule n r p j in
          let number : p.rule ≡ n = ap (λ (q : Pair ℕ). q.rule) t.3 in
          record {
            place = 0;
            rule = r;
            named = refl;
            number = omega (arith, number);
            on = t.0;
            there = t.1;
            fires = t.2;
            is = t.3 ∙ ap (λ (m : ℕ). pair_of m r t.0) (sym number);
          }
      go (inr j) ih =
          let a = ih j in
          record {
            place = suc a.place;
            rule = a.rule;
            named = a.named;
            number = omega (arith, a.number);
            on = a.on;
            there = a.there;
            fires = a.fires;
            is = a.is;
          }

  in_different : (rs : List Rule) (n i m : ℕ) (q : Rule) (w : Row) → m ≡ n + i → get_elem? rs i ≡ some q → In w ws → FiresOn q w
      → In (pair_of m q w) (different n rs)
  in_different [] n i m q w e k j f = absurd (none-ne-some q k)
  in_different (r ∷ rs) n zero m q w e k j f =
      let same : r ≡ q = cc in
      let number : n ≡ m = omega arith in
      in_left (pair_of m q w) (add_all Pair-discrete (pairs_on n r ws) []) (different (suc n) rs)
      (subst (λ (p : Pair ℕ). In p (add_all Pair-discrete (pairs_on n r ws) [])) (λ u. pair_of (number u) (same u) w)
      (add_all-has Pair-discrete (pair_of n r w) (pairs_on n r ws) [] (in_pairs_on n r ws w j (subst (λ (p : Rule). FiresOn p w) (sym same) f))))
  in_different (r ∷ rs) n (suc i) m q w e k j f =
      in_right (pair_of m q w) (add_all Pair-discrete (pairs_on n r ws) []) (different (suc n) rs) (in_different rs (suc n) i m q w (omega arith) k j f)

  no_two_different : (rs : List Rule) (n : ℕ) → NoTwo (different n rs)
  no_two_different [] n = tt
  no_two_different (r ∷ rs) n =
      no_two_append (add_all Pair-discrete (pairs_on n r ws) []) (different (suc n) rs) (no_two_add_all Pair-discrete (pairs_on n r ws) [] tt)
      (no_two_different rs (suc n))
      (λ p i j. let t = of-rule n r p i in let a = different_at rs (suc n) p j in
      let number : p.rule ≡ n = ap (λ (q : Pair ℕ). q.rule) t.3 in omega (arith, number, a.number))

module _ (rules : List Rule) (table : List Row) (first : ℕ) (old : ℕ → Value) (N : Numbering table first old) where
  firings-of : (s : State) (f : ℕ → Value) → Kept rules table first old s f → (k : ℕ) → Visited rules table first old N k s → length s.rows ≤ k
      → firings_on 1 rules s.rows ≡ length s.fired
  firings-of s f K k visited h =
      omega (
        arith,
        length_different s.rows rules 1,
        pigeonhole s.fired (different s.rows 1 rules) K.fired-once fired_there,
        pigeonhole (different s.rows 1 rules) s.fired (no_two_different s.rows rules 1) there_fired,
      )
    where
      fired_there : (p : Pair ℕ) → In p s.fired → In p (different s.rows 1 rules)
      fired_there p i =
          let o = K.fired-on p i in
          subst (λ (q : Pair ℕ). In q (different s.rows 1 rules)) (sym (pair_path p (pair_of p.rule o.rule o.on) refl o.carried))
          (go p.rule o.rule o.on o.named o.there o.fires)
        where
          go : (m : ℕ) (q : Rule) (w : Row) → nth rules m ≡ some q → In w s.rows → FiresOn q w → In (pair_of m q w) (different s.rows 1 rules)
          go zero q w e j f = absurd (none-ne-some q e)
          go (suc m) q w e j f = in_different s.rows rules 1 m (suc m) q w (omega arith) e j f

      there_fired : (p : Pair ℕ) → In p (different s.rows 1 rules) → In p s.fired
      there_fired p i =
          let a = different_at s.rows rules 1 p i in
          let t = in_element s.rows a.on a.there in
          let number : suc a.place ≡ p.rule = omega (arith, a.number) in
          subst (λ (q : Pair ℕ). In q s.fired) (sym a.is)
          (visited t.0 a.on (omega (arith, t.1)) t.2 p.rule a.rule
          (subst (λ (m : ℕ). nth rules m ≡ some a.rule) number a.named) a.fires)

  pub firings_by_rule : (k : ℕ) → Finished rules (begins_at first table) k
      → firings_on 1 rules (after rules (begins_at first table) k).rows ≡ length (after rules (begins_at first table) k).fired
  firings_by_rule k h =
      let g = after_good rules table first old N k in
      firings-of (after rules (begins_at first table) k) g.0.meaning g.0.kept k g.1 h
