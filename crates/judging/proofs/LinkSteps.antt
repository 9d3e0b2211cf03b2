-- The step of a link: its numbers, and that it is a carried or a fresh step from the one shape to the other. Assumes nothing.
use mathlib.Core.Path.{◌≡◌, refl, ◌∙◌, ap}
use mathlib.Core.Logic.{◌⊎◌, inl, inr}
use mathlib.Core.List.{List, [], map-id}
use mathlib.Core.Option.{some}
use Prim.Native.Nat.{ℕ, zero, suc, ◌+◌, ◌*◌, ◌/◌, ◌%◌, ◌≤◌, ◌<◌}
use native.Mathlib.Omega.{arith}
use lib.ListN.{length}
use Rattle.chase.specs.Lists.{All}
use Rattle.chase.specs.Rules.{Rule, nth}
use Rattle.chase.specs.Making.{carried_marks}
use Rattle.chase.specs.Shape.{Shape}
use Rattle.chase.specs.Steps.{Step, Goes, Fresh, FreshAlone, Moves}
use Rattle.chase.specs.Certificate.{as_record, shape_after}
use Rattle.chase.proofs.ListLaws.{all_in}
use Rattle.chase.proofs.CodedLaws.{carried_in, body_width, code_at, mark_at, head_width, mark_below, applies_wide, stands_code, carried_code, carried_coded, fresh_coded, alone_coded, after_coded, applies_as_record}
use Rattle.chase.proofs.StepLaws.{nth_in}
use Rattle.rules.specs.Table.{HeadFits, RuleFits}
use Rattle.judging.specs.Inner.Codes.{ShapeFits}
use Rattle.judging.specs.Inner.Found.{shape_no}
use Rattle.judging.specs.Inner.Links.{Link, Begins, carried, new}
use Rattle.judging.specs.Inner.Written.{link_step}
use Rattle.judging.proofs.Places.{nth_below}
use Rattle.rules.proofs.Sources.{body_place, place_within, stands_placed, Source, nothing, first, source_is}
use Rattle.rules.proofs.FirstPlaces.{code_there}

module _ (rules : List Rule) (codes : List ℕ) (count : ℕ) (fit : All RuleFits rules) (fits : (k : ℕ) → k < count → ShapeFits (shape_no codes k))
    (u v code : ℕ) (l : Link rules codes count u v code) where
  rule_fits : RuleFits l.rule
  rule_fits = all_in RuleFits l.rule rules fit (nth_in rules (suc l.n) l.rule l.named)

  place_small : (m p f : ℕ) → Begins l.rule m p f → p ≤ 6
  place_small m p f (carried i e z) = omega (arith, e, place_within l.rule m, rule_fits.marks.few)
  place_small m p f (new i s e z) = s

  fresh_small : (m p f : ℕ) → Begins l.rule m p f → f ≤ 1
  fresh_small m p f (carried i e z) = omega arith
  fresh_small m p f (new i s e z) = omega arith

  -- What the numbers of a link say.
  pub record Numbers : Type 0 where
    pub from_shape : u / 7 ≡ l.s
    pub from_field : u % 7 ≡ l.place
    pub to_shape : v / 7 ≡ l.t
    pub to_field : v % 7 ≡ suc l.j
    pub rule : code / 8 + 1 ≡ suc l.n
    pub head : code / 2 % 4 + 1 ≡ suc l.h
    pub fresh : code % 2 ≡ l.fresh
    pub from_below : u < 7 * count
    pub to_below : v < 7 * count
    pub wide : l.j < head_width l.head

  pub link_numbers : Numbers
  link_numbers =
      let p = place_small l.mark l.place l.fresh l.begins in
      let f = fresh_small l.mark l.place l.fresh l.begins in
      let a = nth_below l.rule.heads (suc l.h) l.head l.line in
      let h : l.h < 4 = omega (arith, a.1, a.2, rule_fits.few) in
      let wide = mark_below l.head l.j l.mark l.to in
      let d = all_in HeadFits l.head l.rule.heads rule_fits.heads (nth_in l.rule.heads (suc l.h) l.head l.line) in
      let j : l.j < 6 = omega (arith, wide, d.marks.few) in
      let ui = l.from_is in
      let vi = l.to_is in
      let ci = l.code_is in
      let sb = l.s_below in
      let tb = l.t_below in
      record {
        from_shape = omega arith;
        from_field = omega arith;
        to_shape = omega arith;
        to_field = omega arith;
        rule = omega arith;
        head = omega arith;
        fresh = omega arith;
        from_below = omega arith;
        to_below = omega arith;
        wide = wide;
      }

  abbrev step : Step
  step = link_step u code v

  abbrev from : Shape
  from = shape_no codes l.s

  abbrev goes_from : Goes rules step (as_record from)
  goes_from =
      record {
        rule = l.rule;
        named = ap (nth rules) link_numbers.rule ∙ l.named;
        head = l.head;
        line = ap (nth l.rule.heads) link_numbers.head ∙ l.line;
        fires = applies_as_record l.rule from l.applies;
      }

  to_mark : mark_at l.head (v % 7) ≡ some l.mark
  to_mark = ap (mark_at l.head) link_numbers.to_field ∙ l.to

  from_wide : body_width l.rule ≡ length from.pattern
  from_wide = applies_wide l.rule from l.applies

  -- A digit of the shape, at the place of a mark where the link begins.
  begins-at : (p m d : ℕ) → l.place ≡ p → p ≡ body_place l.rule m → code_at l.rule from.pattern m ≡ some d → nth from.pattern (u % 7) ≡ some d
  begins-at p m d pe q e = ap (nth from.pattern) (link_numbers.from_field ∙ pe ∙ q) ∙ code_there l.rule m from.pattern d e

  -- Where the link begins.
  moves_from : (p f : ℕ) → l.place ≡ p → l.fresh ≡ f → Begins l.rule l.mark p f → (p ≡ 0 → ⊥) → Moves rules step (as_record from)
  moves_from p f pe fe (carried i e z) away =
      let s = stands_code l.rule from.pattern from_wide l.mark i in
      inl (carried_coded (λ d. d) rules step from from.pattern (map-id from.pattern) goes_from l.mark to_mark s.0
      (begins-at p l.mark s.0 pe e s.1) (link_numbers.fresh ∙ fe ∙ z) s.1)
  moves_from p f pe fe (new i small e z) away = go (source_is l.rule p e)
    where
      go : Source l.rule p → Moves rules step (as_record from)
      go (nothing q c) = absurd (away q)
      go (first m c q) =
          let s = carried_code l.rule from.pattern from_wide m c in
          inr (fresh_coded (λ d. d) rules step from from.pattern (map-id from.pattern) goes_from l.mark to_mark s.0
          (begins-at p m s.0 pe q s.1) m (link_numbers.fresh ∙ fe ∙ z) i c s.1)

  alone_from : (p f : ℕ) → l.place ≡ p → l.fresh ≡ f → Begins l.rule l.mark p f → p ≡ 0 → FreshAlone rules step (as_record from)
  alone_from p f pe fe (carried i e z) away = absurd (omega (arith, stands_placed l.rule l.mark i))
  alone_from p f pe fe (new i small e z) away =
      alone_coded (λ d. d) rules step from from.pattern (map-id from.pattern) goes_from l.mark to_mark (link_numbers.from_field ∙ pe ∙ away)
      (link_numbers.fresh ∙ fe ∙ z) i (go (source_is l.rule p e))
    where
      go : Source l.rule p → carried_marks l.rule ≡ []
      go (nothing q c) = c
      go (first m c q) = absurd (omega (arith, stands_placed l.rule m (carried_in l.rule m c).0))

  pub link_moves : (u % 7 ≡ 0 → ⊥) → Moves rules (link_step u code v) (as_record (shape_no codes (u / 7)))
  link_moves away =
      rw link_numbers.from_shape
      (moves_from l.place l.fresh refl refl l.begins (λ z. away (link_numbers.from_field ∙ z)))

  -- A fresh one may begin at no field.
  pub link_fresh : code % 2 ≡ 1
      → Fresh rules (link_step u code v) (as_record (shape_no codes (u / 7))) ⊎ FreshAlone rules (link_step u code v) (as_record (shape_no codes (u / 7)))
  link_fresh e = rw link_numbers.from_shape (go l.place refl)
    where
      go : (p : ℕ) → l.place ≡ p → Fresh rules step (as_record from) ⊎ FreshAlone rules step (as_record from)
      go zero q = inr (alone_from l.place l.fresh refl refl l.begins q)
      go (suc p) q = is-fresh (moves_from l.place l.fresh refl refl l.begins (λ z. omega arith))
        where
          is-fresh : Moves rules step (as_record from) → Fresh rules step (as_record from) ⊎ FreshAlone rules step (as_record from)
          is-fresh (inl c) = absurd (let z : code % 2 ≡ 0 = c.fresh in omega arith)
          is-fresh (inr f) = inl f

  pub link_to : shape_after rules (link_step u code v) (shape_no codes (u / 7)) ≡ shape_no codes (v / 7)
  link_to =
      rw (link_numbers.from_shape, link_numbers.to_shape)
      (after_coded rules step from goes_from (fits l.s l.s_below).own ∙ l.makes)

  pub link_begins : u / 7 < count
  link_begins = omega (arith, link_numbers.from_below)

  pub link_ends : v % 7 ≡ 0 → ⊥
  link_ends z = omega (arith, link_numbers.to_field)
