-- The links that the table of rules gives are those between fields of the found shapes. Assumes nothing.
use mathlib.Core.Path.{◌≡◌, refl, sym, subst, ap, ◌∙◌}
use mathlib.Core.List.{List}
use mathlib.Core.Logic.{◌⊎◌, inl, inr, by_cases}
use mathlib.Core.Option.{some}
use Prim.Native.Nat.{ℕ, suc, ◌+◌, ◌-◌, ◌*◌, ◌/◌, ◌<◌}
use native.Mathlib.Omega.{arith}
use native.Mathlib.Decide.{ℕ_discrete}
use lib.ListN.{length, get_or}
use Rattle.chase.specs.Rules.{Head, Rule, nth}
use Rattle.chase.specs.Simplification.{Applies}
use Rattle.chase.proofs.CountLaws.{element_below}
use Rattle.chase.proofs.CodedLaws.{mark_at, mark_below}
use Rattle.chase.proofs.StepLaws.{element_in}
use Rattle.rules.specs.Table.{row_bytes, rule_in, table_rules, TableFits}
use Rattle.judging.specs.Inner.Codes.{shape_at, code_of, shape_from}
use Rattle.judging.specs.Inner.Found.{shape_no}
use Rattle.judging.specs.Inner.Links.{Begins, carried, new, Link, Closed}
use Rattle.judging.specs.Inner.Passes.{FieldLink, carried_link, fresh_link, ShapeLink, EachLink, Onward, place_of}
use Rattle.judging.proofs.CodeLaws.{code_of_shape, shape_of_code, shape_from-fits}
use Rattle.rules.proofs.TableLaws.{table_rule, table_count}
use Rattle.rules.proofs.RuleLaws.{head_at, head_nth, head-count, head_fits, row_fits}
use Rattle.judging.proofs.LinkLaws.{link-of, width_is, width_few, mark_there, place_is, place_few}
use Rattle.rules.proofs.Sources.{body_place, placed_stands, stands_placed, not_placed}
use Rattle.judging.proofs.EndLaws.{Sane}

module _ {table : List ℕ} {rules : ℕ} (tf : TableFits table rules) where
  row_long : (r : ℕ) → r < rules → length (row_bytes table r) ≡ 64
  row_long r l = (row_fits table rules r tf l).size

  -- A link from shape s begins at one of its fields.
  field_shape : (r h s t j u v link : ℕ) → r < rules → h < get_or (row_bytes table r) 28 0 → j < get_or (row_bytes table r) (33 + 8 * h) 0
      → FieldLink (row_bytes table r) r h s t j u v link → u / 7 ≡ s
  field_shape r h s t j u v link l th lj (carried_link d e) =
      let q = e.from_is in let p = place_few (row_bytes table r) (row_long r l) (tf.each r l) h th j lj in omega arith
  field_shape r h s t j u v link l th lj (fresh_link d e) = let q = e.here.just.from_is in let p = e.below in omega arith

  pub shape_own : (index : List ℕ) (code s u v link : ℕ) → ShapeLink table rules index code s u v link → u / 7 ≡ s
  shape_own index code s u v link e =
      let m = e.here.here.here in
      field_shape e.number e.here.here.number s m.t m.here.number u v link e.below e.here.here.below m.here.below m.here.here

  module _ {codes index : List ℕ} {count : ℕ} (closed : Closed (table_rules table rules) codes index count) where
    pub onward : (s : ℕ) → s < count → Onward table rules index (7 * count) (get_or codes s 0)
    onward s l =
        record {
          each = λ r h d b a n.
              let code = code_of (shape_from (rule_in (row_bytes table r)) (shape_at (get_or codes s 0)) d) in
              let z = closed.rules-in s (suc r) (rule_in (row_bytes table r)) d code l (table_rule table rules r b) a
              (element_in (rule_in (row_bytes table r)).heads h d n) refl in
              let e : get_or index code 0 ≡ suc (get_or index code 0 - 1) = omega arith in
              let m = (closed.marked code (get_or index code 0 - 1) e).0 in
              (get_or index code 0 - 1, e, omega arith);
        }

    -- LINKS of the table are links.
    to_link_field : (s r h t j u v link : ℕ) → s < count → t < count → r < rules → h < get_or (row_bytes table r) 28 0
        → j < get_or (row_bytes table r) (33 + 8 * h) 0 → Applies (rule_in (row_bytes table r)) (shape_no codes s)
        → shape_from (rule_in (row_bytes table r)) (shape_no codes s) (head_at (row_bytes table r) (32 + 8 * h)) ≡ shape_no codes t
        → FieldLink (row_bytes table r) r h s t j u v link → Link (table_rules table rules) codes count u v link
    to_link_field s r h t j u v link ls lt lr lh lj a m e = go e
      where
        named : nth (table_rules table rules) (suc r) ≡ some (rule_in (row_bytes table r))
        named = table_rule table rules r lr

        line : nth (rule_in (row_bytes table r)).heads (suc h) ≡ some (head_at (row_bytes table r) (32 + 8 * h))
        line = head_nth (row_bytes table r) (row_long r lr) (tf.each r lr) h lh

        marks-at : mark_at (head_at (row_bytes table r) (32 + 8 * h)) (suc j) ≡ some (get_or (row_bytes table r) (34 + 8 * h + j) 0)
        marks-at = mark_there (row_bytes table r) (row_long r lr) (tf.each r lr) h lh j lj

        is : place_of (row_bytes table r) h j ≡ body_place (rule_in (row_bytes table r)) (get_or (row_bytes table r) (34 + 8 * h + j) 0)
        is = place_is (row_bytes table r) (row_long r lr) (tf.each r lr) h lh j lj

        go : FieldLink (row_bytes table r) r h s t j u v link → Link (table_rules table rules) codes count u v link
        go (carried_link d q) =
            let eu = q.from_is in
            let ev = q.to_is in
            let el = q.code_is in
            link-of (table_rules table rules) codes count s t r h ls lt named line a m j marks-at
            (carried (placed_stands (rule_in (row_bytes table r)) (get_or (row_bytes table r) (34 + 8 * h + j) 0) (omega (arith, is))) is refl)
            eu (omega arith) (omega arith)
        go (fresh_link z q) =
            let eu = q.here.just.from_is in
            let ev = q.here.just.to_is in
            let el = q.here.just.code_is in
            let l = q.below in
            link-of (table_rules table rules) codes count s t r h ls lt named line a m j marks-at
            (new (λ i. omega (arith, is, stands_placed (rule_in (row_bytes table r)) (get_or (row_bytes table r) (34 + 8 * h + j) 0) i)) (omega arith)
            (sym ((tf.each r lr).sources q.number (omega arith)) ∙ q.here.source) refl)
            eu (omega arith) (omega arith)

    pub to_link : (u v link : ℕ) → EachLink table rules codes index count u v link → Link (table_rules table rules) codes count u v link
    to_link u v link e =
        let s = e.number in
        let r = e.here.number in
        let h = e.here.here.here.number in
        let m = e.here.here.here.here in
        let lr = e.here.below in
        let lh = e.here.here.here.below in
        let line = head_nth (row_bytes table r) (row_long r lr) (tf.each r lr) h lh in
        let q : m.head ≡ head_at (row_bytes table r) (32 + 8 * h) = cc (m.line, line) in
        let p = subst (λ (d : Head). get_or index (code_of (shape_from (rule_in (row_bytes table r)) (shape_no codes s) d)) 0 ≡ suc m.t) q m.placed in
        let k = closed.marked (code_of (shape_from (rule_in (row_bytes table r)) (shape_no codes s) (head_at (row_bytes table r) (32 + 8 * h)))) m.t p in
        to_link_field s r h m.t m.here.number u v link e.below k.0 lr lh m.here.below e.here.here.applies
        (sym (ap shape_at k.1 ∙ shape_of_code (shape_from (rule_in (row_bytes table r)) (shape_no codes s) (head_at (row_bytes table r) (32 + 8 * h))) (shape_from-fits (rule_in (row_bytes table r)) (shape_no codes s) (head_at (row_bytes table r) (32 + 8 * h)) (head_fits (row_bytes table r) (row_long r lr) (tf.each r lr) h lh))))
        m.here.here

    -- LINKS are links of the table.
    module _ (u v link : ℕ) (l : Link (table_rules table rules) codes count u v link) where
      rule_below : l.n < rules
      rule_below = omega (arith, table_count table rules, element_below (table_rules table rules) l.n l.rule l.named)

      abbrev bytes : List ℕ
      bytes = row_bytes table l.n

      size : length bytes ≡ 64
      size = row_long l.n rule_below

      rule_is : l.rule ≡ rule_in bytes
      rule_is = cc (l.named, table_rule table rules l.n rule_below)

      line : nth (rule_in bytes).heads (suc l.h) ≡ some l.head
      line = subst (λ (x : Rule). nth x.heads (suc l.h) ≡ some l.head) rule_is l.line

      head_there : l.h < get_or bytes 28 0
      head_there = omega (arith, head-count bytes size (tf.each l.n rule_below), element_below (rule_in bytes).heads l.h l.head line)

      head_is : l.head ≡ head_at bytes (32 + 8 * l.h)
      head_is = cc (line, head_nth bytes size (tf.each l.n rule_below) l.h head_there)

      placed : get_or index (code_of (shape_from (rule_in bytes) (shape_no codes l.s) l.head)) 0 ≡ suc l.t
      placed =
          ap (λ (i : ℕ). get_or index i 0)
          (ap code_of (subst (λ (x : Rule). shape_from x (shape_no codes l.s) l.head ≡ shape_no codes l.t) rule_is l.makes)
          ∙ code_of_shape (get_or codes l.t 0) (closed.small l.t l.t_below))
          ∙ closed.placed l.t l.t_below

      to : mark_at (head_at bytes (32 + 8 * l.h)) (suc l.j) ≡ some l.mark
      to = subst (λ (d : Head). mark_at d (suc l.j) ≡ some l.mark) head_is l.to

      field_there : l.j < get_or bytes (33 + 8 * l.h) 0
      field_there =
          omega
          (arith, width_is bytes size (tf.each l.n rule_below) l.h head_there, mark_below (head_at bytes (32 + 8 * l.h)) l.j l.mark to)

      place_of_mark : place_of bytes l.h l.j ≡ body_place (rule_in bytes) l.mark
      place_of_mark =
          let m : get_or bytes (34 + 8 * l.h + l.j) 0 ≡ l.mark =
          cc (mark_there bytes size (tf.each l.n rule_below) l.h head_there l.j field_there, to) in
          place_is bytes size (tf.each l.n rule_below) l.h head_there l.j field_there ∙ ap (body_place (rule_in bytes)) m

      field : Begins (rule_in bytes) l.mark l.place l.fresh → FieldLink bytes l.n l.h l.s l.t l.j u v link
      field (carried i p z) =
          carried_link (λ y. omega (arith, place_of_mark, stands_placed (rule_in bytes) l.mark i))
          (record { from_is = omega (arith, l.from_is, place_of_mark); to_is = omega (arith, l.to_is); code_is = omega (arith, l.code_is) })
      field (new d few source z) =
          fresh_link (place_of_mark ∙ not_placed (rule_in bytes) l.mark d)
          (record {
            number = l.place;
            below = omega arith;
            here =
                record {
                  source = (tf.each l.n rule_below).sources l.place few ∙ source;
                  just = record { from_is = l.from_is; to_is = omega (arith, l.to_is); code_is = omega (arith, l.code_is) };
                };
          })

      pub from_link : EachLink table rules codes index count u v link
      from_link =
          record {
            number = l.s;
            below = l.s_below;
            here =
                record {
                  number = l.n;
                  below = rule_below;
                  here =
                      record {
                        applies = subst (λ (x : Rule). Applies x (shape_no codes l.s)) rule_is l.applies;
                        here =
                            record {
                              number = l.h;
                              below = head_there;
                              here =
                                  record {
                                    head = l.head;
                                    line = line;
                                    t = l.t;
                                    placed = placed;
                                    here =
                                        record {
                                          number = l.j;
                                          below = field_there;
                                          here = field (subst (λ (x : Rule). Begins x l.mark l.place l.fresh) rule_is l.begins);
                                        };
                                  };
                            };
                      };
                };
          }

    -- Links join nodes of the first `count` shapes.
    field_to : (b : List ℕ) (r h s t j u v link : ℕ) → FieldLink b r h s t j u v link → v ≡ 7 * t + (j + 1)
    field_to b r h s t j u v link (carried_link d e) = e.to_is
    field_to b r h s t j u v link (fresh_link d e) = e.here.just.to_is

    each_low : (u v link : ℕ) → EachLink table rules codes index count u v link → (u < 7 * count) × (v < 7 * count)
    each_low u v link e =
        let r = e.here.number in
        let h = e.here.here.here.number in
        let m = e.here.here.here.here in
        let lr = e.here.below in
        let lh = e.here.here.here.below in
        let ls = e.below in
        let lj = m.here.below in
        let o = shape_own index (get_or codes e.number 0) e.number u v link e.here in
        let k = (closed.marked (code_of (shape_from (rule_in (row_bytes table r)) (shape_no codes e.number) m.head)) m.t m.placed).0 in
        let w = width_few (row_bytes table r) (row_long r lr) (tf.each r lr) h lh in
        let t = field_to (row_bytes table r) r h e.number m.t m.here.number u v link m.here.here in
        (omega arith, omega arith)

    pub sane : Sane (Link (table_rules table rules) codes count) (7 * count)
    sane =
        record {
          from = λ u v link l. (each_low u v link (from_link u v link l)).0;
          to = λ u v link l. (each_low u v link (from_link u v link l)).1;
        }

    pub each_own : (s : ℕ) → s < count → (u v link : ℕ) → ShapeLink table rules index (get_or codes s 0) s u v link
        → EachLink table rules codes index count u v link
    each_own s l u v link e = record { number = s; below = l; here = e }

    -- A link is one of shape s, or begins at another shape.
    pub each_split : (s : ℕ) (u v link : ℕ) → EachLink table rules codes index count u v link
        → ShapeLink table rules index (get_or codes s 0) s u v link ⊎ (u / 7 ≡ s → ⊥)
    each_split s u v link e =
        by_cases (ℕ_discrete e.number s)
        (λ (q : e.number ≡ s). inl (subst (λ (i : ℕ). ShapeLink table rules index (get_or codes i 0) i u v link) q e.here))
        (λ (q : e.number ≡ s → ⊥). inr (λ p. q (sym (shape_own index (get_or codes e.number 0) e.number u v link e.here) ∙ p)))
