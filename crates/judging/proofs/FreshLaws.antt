-- The shapes that wait at first: how they are found, and that all links of the others can raise nothing. Assumes nothing.
use mathlib.Core.Path.{◌≡◌, sym, subst, ap, ◌∙◌}
use mathlib.Core.Bool.{Bool, true, false}
use mathlib.Core.List.{List}
use mathlib.Core.Logic.{inl, inr, by_cases}
use Prim.Native.Nat.{ℕ, ◌+◌, ◌*◌, ◌/◌, ◌≤◌, ◌<◌}
use native.Mathlib.Decide.{ℕ_discrete}
use native.Mathlib.Omega.{arith}
use lib.ListN.{length, get_or, set, length-set}
use lib.Seq.{get_or-set_same, get_or-set_other}
use Rattle.rules.specs.Table.{row_bytes, TableFits}
use Rattle.judging.specs.Inner.Firing.{kind_byte}
use Rattle.judging.specs.Inner.Nodes.{Zeros}
use Rattle.judging.specs.Inner.Passes.{Rests, FieldLink, carried_link, fresh_link, EachLink}
use Rattle.judging.specs.Inner.Fresh.{HeadFresh, RuleFresh, FreshKinds, FirstWaiting}
use Rattle.judging.proofs.GraphLaws.{shape_own}
use Rattle.rules.proofs.RuleLaws.{rule_kind}
use Rattle.judging.proofs.SearchLaws.{kind_of}

module _ {table : List ℕ} {kinds : List Bool} {r : ℕ} (x : FreshKinds table r kinds) where
  -- Rule r has no fresh mark.
  pub kinds_same : (RuleFresh (row_bytes table r) → ⊥) → FreshKinds table (r + 1) kinds
  kinds_same none =
      record {
        size = x.size;
        each = λ i l f.
            by_cases (ℕ_discrete i r)
            (λ (e : i ≡ r). absurd (none (subst (λ (k : ℕ). RuleFresh (row_bytes table k)) e f)))
            (λ (e : i ≡ r → ⊥). x.each i (omega arith) f);
      }

  -- Its kind is marked.
  pub kinds_more : (kind : ℕ) → kind ≡ kind_byte table r → kind ≤ 64 → FreshKinds table (r + 1) (set kinds kind true)
  kinds_more kind is low =
      let size = x.size in
      let here = get_or-set_same kinds kind true false (omega arith) in
      record {
        size = length-set kinds kind true ∙ size;
        each = λ i l f.
            by_cases (ℕ_discrete (kind_byte table i) kind)
            (λ (e : kind_byte table i ≡ kind). rw e here)
            (λ (d : kind_byte table i ≡ kind → ⊥).
            by_cases (ℕ_discrete i r)
            (λ (e : i ≡ r). absurd (d (ap (kind_byte table) e ∙ sym is)))
            (λ (e : i ≡ r → ⊥). get_or-set_other kinds kind (kind_byte table i) true false d ∙ x.each i (omega arith) f));
      }

-- All rules are looked at.
pub kinds_all : {table : List ℕ} {kinds : List Bool} {r rules : ℕ} → FreshKinds table r kinds → r ≤ rules → rules ≤ r → FreshKinds table rules kinds
kinds_all {table} {kinds} {r} {rules} x a b = let q : r ≡ rules = omega arith in subst (λ (n : ℕ). FreshKinds table n kinds) q x

-- SHAPES. No shape is looked at.
pub first_none : {table codes : List ℕ} {waiting : List Bool} {rules : ℕ} → length waiting ≡ 512 → FirstWaiting table rules codes 0 waiting
first_none size = record { size = size; each = λ s r l b f e. let z : ⊥ = omega arith in absurd z }

-- Shape s gets what its kind has.
pub first_more : {table codes : List ℕ} {kinds waiting : List Bool} {rules s : ℕ} → FreshKinds table rules kinds → FirstWaiting table rules codes s waiting → s < 512
    → FirstWaiting table rules codes (s + 1) (set waiting s (get_or kinds (get_or codes s 0 / 278 + 1) false))
first_more {table} {codes} {kinds} {waiting} {rules} {s} k x low =
    let size = x.size in
    let mark = get_or kinds (get_or codes s 0 / 278 + 1) false in
    record {
      size = length-set waiting s mark ∙ size;
      each = λ i r l b f e.
          by_cases (ℕ_discrete i s)
          (λ (q : i ≡ s).
          let kind : kind_byte table r ≡ get_or codes s 0 / 278 + 1 = e ∙ ap (λ (n : ℕ). get_or codes n 0 / 278 + 1) q in
          rw q (get_or-set_same waiting s mark false (omega arith) ∙ ap (λ (n : ℕ). get_or kinds n false) (sym kind) ∙ k.each r b f))
          (λ (q : i ≡ s → ⊥). get_or-set_other waiting s i mark false q ∙ x.each i r (omega arith) b f e);
    }

-- LINKS. Where all generations are 0, a carried link can raise nothing, and a fresh one begins at a shape that waits.
module _ {table : List ℕ} {rules : ℕ} (tf : TableFits table rules) {codes : List ℕ} {waiting : List Bool} {count : ℕ}
    (first : FirstWaiting table rules codes count waiting) {g : List (List ℕ)} (z : Zeros g) where
  field_rests : (bytes : List ℕ) (r h s t j u v code : ℕ) → j < get_or bytes (33 + 8 * h) 0 → (HeadFresh bytes h → get_or waiting (u / 7) false ≡ true)
      → FieldLink bytes r h s t j u v code → Rests g waiting u v code
  field_rests bytes r h s t j u v code l waits (carried_link d e) = inr (let q = e.code_is in omega (arith, z.zero_at u, z.zero_at v))
  field_rests bytes r h s t j u v code l waits (fresh_link q e) = inl (waits (record { j = j; below = l; fresh = q }))

  pub first_rests : (index : List ℕ) (u v code : ℕ) → EachLink table rules codes index count u v code → Rests g waiting u v code
  first_rests index u v code e =
      let s = e.number in
      let r = e.here.number in
      let rule = e.here.here in
      let h = rule.here.number in
      let m = rule.here.here in
      let own = shape_own tf index (get_or codes s 0) s u v code e.here in
      let kind : kind_byte table r ≡ get_or codes s 0 / 278 + 1 = rule_kind (row_bytes table r) ∙ sym (kind_of (get_or codes s 0) ∙ rule.applies.kind) in
      field_rests (row_bytes table r) r h s m.t m.here.number u v code m.here.below
      (λ f. rw own (first.each s r e.below e.here.below (record { h = h; below = rule.here.below; head = f }) kind))
      m.here.here
