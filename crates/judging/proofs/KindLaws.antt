-- The rules of a kind in turn: how they are put in turn, and how they are passed until one fires. Assumes nothing.
use mathlib.Core.Path.{◌≡◌, refl, sym, subst, ◌∙◌}
use mathlib.Core.Bool.{false}
use mathlib.Core.List.{List}
use mathlib.Core.Logic.{by_cases}
use Prim.Native.Nat.{ℕ, ◌+◌, ◌-◌, ◌≤◌, ◌<◌}
use native.Mathlib.Decide.{ℕ_discrete, dec_lt}
use native.Mathlib.Omega.{arith}
use lib.ListN.{length, get_or, set}
use Rattle.chase.specs.Simplification.{Applies}
use Rattle.rules.specs.Table.{rule_in, row_bytes, TableFits}
use Rattle.judging.specs.Inner.Codes.{shape_at, FiresOn}
use Rattle.judging.specs.Inner.Firing.{kind_byte, NextOf, ByKind, Place, NextFire}
use Rattle.rules.proofs.PartLaws.{set_two, set_first, set_second, length_two}
use Rattle.rules.proofs.RuleLaws.{rule_kind, row_fits}
use Rattle.judging.proofs.RuleLaws.{other_kind}

pub kind_low : {table : List ℕ} {rules : ℕ} → TableFits table rules → (r : ℕ) → r < rules → kind_byte table r ≤ 64
kind_low {table} fits r l =
    let k = (fits.each r l).rule.kind.1 in
    let e = rule_kind (row_bytes table r) in omega arith

-- The rules from rule r on are put by their kinds.
pub record Linked (table : List ℕ) (rules : ℕ) (kinds : List ℕ) (r : ℕ) : Type 0 where
  pub size : length kinds ≡ 321
  pub low : r ≤ rules
  pub first : (k : ℕ) → k ≤ 64 → NextOf table rules r k (get_or kinds k 0)
  pub next : (i : ℕ) → r ≤ i → i < rules → NextOf table rules (i + 1) (kind_byte table i) (get_or kinds (65 + i) 0)

none_left : (table : List ℕ) (rules kind q : ℕ) → q ≡ rules → NextOf table rules rules kind q
none_left table rules kind q e =
    record {
      begun = omega arith;
      within = omega arith;
      other = λ i a b _. let z : ⊥ = omega arith in z;
      same = λ l. let z : ⊥ = omega arith in absurd z;
    }

-- None is put.
pub linked_none : {table kinds : List ℕ} {rules : ℕ} → length kinds ≡ 321 → ((i : ℕ) → i < 321 → get_or kinds i 0 ≡ rules) → Linked table rules kinds rules
linked_none {table} {kinds} {rules} size all =
    record {
      size = size;
      low = omega arith;
      first = λ k l. none_left table rules k (get_or kinds k 0) (all k (omega arith));
      next = λ i a b. let z : ⊥ = omega arith in absurd z;
    }

-- Rule s is put before those from rule r on.
module _ {table kinds : List ℕ} {rules r : ℕ} (x : Linked table rules kinds r) (s kind : ℕ) (e : s + 1 ≡ r) (few : rules ≤ 256) (is : kind ≡ kind_byte table s) (low : kind ≤ 64) where
  abbrev put : List ℕ
  put = set (set kinds (65 + s) (get_or kinds kind 0)) kind s

  -- The first rule of its kind is the rule itself; of another kind it is as before.
  put_first : (k : ℕ) → k ≤ 64 → NextOf table rules s k (get_or put k 0)
  put_first k l =
      let room = x.size in
      let b = x.low in
      by_cases (ℕ_discrete k kind)
      (λ (same : k ≡ kind).
      let v : get_or put k 0 ≡ s = subst (λ (y : ℕ). get_or put y 0 ≡ s) (sym same) (set_second kinds (65 + s) kind (get_or kinds kind 0) s (omega arith)) in
      record {
        begun = omega arith;
        within = omega arith;
        other = λ i a c _. let z : ⊥ = omega arith in z;
        same = λ _. subst (λ (y : ℕ). kind_byte table y ≡ k) (sym v) (sym (same ∙ is));
      })
      (λ (not : k ≡ kind → ⊥).
      let v : get_or put k 0 ≡ get_or kinds k 0 = set_two kinds (65 + s) kind (get_or kinds kind 0) s k (λ q. omega arith) not in
      let old = x.first k l in
      let o1 = old.begun in
      let o2 = old.within in
      subst (NextOf table rules s k) (sym v)
      (record {
        begun = omega arith;
        within = o2;
        other = λ i a c d.
            by_cases (ℕ_discrete i s)
            (λ (here : i ≡ s). not (sym d ∙ subst (λ (y : ℕ). kind_byte table y ≡ kind) (sym here) (sym is)))
            (λ (there : i ≡ s → ⊥). old.other i (omega (arith, there)) c d);
        same = old.same;
      }))

  -- After the rule comes what was first of its kind.
  put_next : (i : ℕ) → s ≤ i → i < rules → NextOf table rules (i + 1) (kind_byte table i) (get_or put (65 + i) 0)
  put_next i a b =
      let room = x.size in
      by_cases (ℕ_discrete i s)
      (λ (here : i ≡ s).
      let v : get_or put (65 + s) 0 ≡ get_or kinds kind 0 = set_first kinds (65 + s) kind (get_or kinds kind 0) s (omega arith) (λ q. omega arith) in
      subst (λ (y : ℕ). NextOf table rules (y + 1) (kind_byte table y) (get_or put (65 + y) 0)) (sym here)
      (subst (λ (y : ℕ). NextOf table rules y (kind_byte table s) (get_or put (65 + s) 0)) (sym e)
      (subst (NextOf table rules r (kind_byte table s)) (sym v)
      (subst (λ (y : ℕ). NextOf table rules r y (get_or kinds kind 0)) is (x.first kind low)))))
      (λ (there : i ≡ s → ⊥).
      subst (NextOf table rules (i + 1) (kind_byte table i))
      (sym (set_two kinds (65 + s) kind (get_or kinds kind 0) s (65 + i) (λ q. there (omega arith)) (λ q. omega arith)))
      (x.next i (omega (arith, there)) b))

  pub linked_more : Linked table rules (set (set kinds (65 + s) (get_or kinds kind 0)) kind s) s
  linked_more =
      let b = x.low in
      record {
        size = length_two kinds (65 + s) kind (get_or kinds kind 0) s ∙ x.size;
        low = omega arith;
        first = put_first;
        next = put_next;
      }

-- Places: before all rules, and after a rule that fires.
pub first-place : {table : List ℕ} {rules : ℕ} (kind : ℕ) → kind ≤ 64 → Place table rules kind kind
first-place kind l = record { start = λ _. refl; rule = λ h. let z : ⊥ = omega arith in absurd z }

pub fired-place : {table : List ℕ} {rules kind : ℕ} (shape r : ℕ) → kind ≡ (shape_at shape).kind → Applies (rule_in (row_bytes table r)) (shape_at shape) → r < rules
    → Place table rules kind (65 + r)
fired-place {table} {rules} {kind} shape r is a l =
    let e : r ≡ 65 + r - 65 = omega arith in
    record {
      start = λ h. let z : ⊥ = omega arith in absurd z;
      rule = λ _. (omega arith, subst (λ (y : ℕ). kind_byte table y ≡ kind) e (rule_kind (row_bytes table r) ∙ sym (is ∙ a.kind)));
    }

pub place_low : {table : List ℕ} {rules kind p : ℕ} → Place table rules kind p → rules ≤ 256 → p < 321
place_low {p = p} at few =
    by_cases (dec_lt 64 p)
    (λ (h : 64 < p). let b = (at.rule h).0 in omega arith)
    (λ (h : 64 < p → ⊥). omega (arith, h))

-- The next rule of the kind stands at the place.
pub place_next : {table kinds : List ℕ} {rules kind p : ℕ} → ByKind table rules kinds → Place table rules kind p → NextOf table rules (p - 64) kind (get_or kinds p 0)
place_next {table} {kinds} {rules} {kind} {p} by at =
    by_cases (dec_lt 64 p)
    (λ (h : 64 < p).
    let r = at.rule h in
    let e : 65 + (p - 65) ≡ p = omega arith in
    let f : p - 65 + 1 ≡ p - 64 = omega arith in
    subst (λ (y : ℕ). NextOf table rules y kind (get_or kinds p 0)) f
    (subst (λ (y : ℕ). NextOf table rules (p - 65 + 1) kind (get_or kinds y 0)) e
    (subst (λ (y : ℕ). NextOf table rules (p - 65 + 1) y (get_or kinds (65 + (p - 65)) 0)) r.1 (by.next (p - 65) r.0))))
    (λ (h : 64 < p → ⊥).
    let l : p ≤ 64 = omega (arith, h) in
    let f : 0 ≡ p - 64 = omega arith in
    subst (λ (y : ℕ). NextOf table rules y kind (get_or kinds p 0)) f
    (subst (λ (y : ℕ). NextOf table rules 0 y (get_or kinds p 0)) (at.start l) (by.first p l)))

-- The rules from rule r up to rule q do not fire, and rule q has the kind.
pub record Passed (table : List ℕ) (rules r kind : ℕ) (digits : List ℕ) (q : ℕ) : Type 0 where
  pub begun : r ≤ q
  pub within : q ≤ rules
  pub still : (i : ℕ) → r ≤ i → i < q → FiresOn (rule_in (row_bytes table i)) kind digits false
  pub same : q < rules → kind_byte table q ≡ kind

pub passed_first : {table digits : List ℕ} {rules r kind q : ℕ} → TableFits table rules → NextOf table rules r kind q → Passed table rules r kind digits q
passed_first {table} {digits} {rules} {r} {kind} {q} fits n =
    let w = n.within in
    record {
      begun = n.begun;
      within = w;
      still = λ i a b. other_kind (row_fits table rules i fits (omega arith)) kind digits (n.other i a b);
      same = n.same;
    }

-- Rule q does not fire either; rule p is the next of its kind.
pub passed_next : {table digits : List ℕ} {rules r kind q p : ℕ} → TableFits table rules → Passed table rules r kind digits q → q < rules
    → FiresOn (rule_in (row_bytes table q)) kind digits false → NextOf table rules (q + 1) (kind_byte table q) p → Passed table rules r kind digits p
passed_next {table} {digits} {rules} {r} {kind} {q} {p} fits x l f n =
    let on = passed_first {digits = digits} fits (subst (λ (y : ℕ). NextOf table rules (q + 1) y p) (x.same l) n) in
    let a = x.begun in
    let b = on.begun in
    record {
      begun = omega arith;
      within = on.within;
      still = λ i c d.
          by_cases (ℕ_discrete i q)
          (λ (e : i ≡ q). subst (λ (y : ℕ). FiresOn (rule_in (row_bytes table y)) kind digits false) (sym e) f)
          (λ (e : i ≡ q → ⊥).
          by_cases (dec_lt i q)
          (λ (h : i < q). x.still i c h)
          (λ (h : i < q → ⊥). on.still i (omega (arith, e, h)) d));
      same = on.same;
    }

pub fire_from : {table digits : List ℕ} {rules kind m q : ℕ} (r : ℕ) → m ≡ r → NextFire table rules m kind digits q → NextFire table rules r kind digits q
fire_from {table} {digits} {rules} {kind} {m} {q} r e f = subst (λ (y : ℕ). NextFire table rules y kind digits q) e f
