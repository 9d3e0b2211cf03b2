-- Shapes by codes: whether a rule applies to a shape, the shape that an H line makes of it and the steps that this allows, computed with any codes that stand one to one for the shape's digits. Assumes nothing.
use mathlib.Core.Path.{◌≡◌, refl, sym, ◌∙◌, ap, subst}
use mathlib.Core.Logic.{◌↔◌}
use mathlib.Core.List.{List, [], ◌∷◌, map, map-map}
use mathlib.Core.Option.{Option, some}
use Prim.Native.Nat.{ℕ, suc, ◌+◌, ◌≤◌, ◌<◌}
use native.Mathlib.Decide.{ℕ_discrete}
use native.Mathlib.Omega.{arith}
use lib.ListN.{length}
use Rattle.patterns.specs.Pattern.{pattern}
use Rattle.patterns.proofs.PatternLaws.{length-pattern}
use Rattle.patterns.proofs.PatternTheorems.{patterns_appear, own_pattern}
use Rattle.chase.specs.Lists.{In, All2, in?}
use Rattle.chase.specs.Rules.{Head, Rule, nth}
use Rattle.chase.specs.Value.{table, Value-discrete}
use Rattle.chase.specs.Making.{Record, made, value_of, Agree, or_else, carried_marks, carried_values, makes}
use Rattle.chase.specs.Run.{made_from}
use Rattle.chase.specs.Shape.{Shape, shape_of, Reached}
use Rattle.chase.specs.Steps.{Step, Goes, Carried, Fresh, FreshAlone}
use Rattle.chase.specs.Simplification.{Applies, Derived, of_rule, simplified_head}
use Rattle.chase.specs.Certificate.{as_record, shape_after}
use Rattle.chase.specs.Inner.Digits.{new_digit, shape_from}
use Rattle.chase.proofs.ListLaws.{map_same}
use Rattle.chase.proofs.CountLaws.{element_below}
use Rattle.chase.proofs.MakingLaws.{value_of-map, map_value, agree_map, map_agree, agree_length, mark_has_value, no_mark_no_value, or_else_rel, in_carried_values, makes-length}
use Rattle.chase.proofs.ShapeLaws.{pattern-map, pattern_small, simplified_pattern}
use Rattle.chase.proofs.StepLaws.{nth_in, nth-map, after_made, head_in, carried_on_shape, fresh_on_shape}
-- What the page passes on: laws of carried marks, of firing, and of what is made.
pub use Rattle.chase.proofs.MakingLaws.{carried_in, in_carried, carried_values_in}
pub use Rattle.chase.proofs.ShapeLaws.{fires_applies, applies_fires, applies_as_record, as_record_applies, made-digits, shape_made-digits, derived_reached}

-- WORDS of this page, through which the judge sees a rule. A mark stands in the rule's body.
abbrev pub InBody : Rule → ℕ → Type 0
InBody r m = In m r.marks

-- How many fields the body has.
abbrev pub body_width : Rule → ℕ
body_width r = length r.marks

-- The code of a mark, of the codes that the body's fields have.
abbrev pub code_at : {A : Type 0} → Rule → List A → ℕ → Option A
code_at r xs m = value_of r.marks xs m

-- The mark of field j of an H line, from 1.
abbrev pub mark_at : Head → ℕ → Option ℕ
mark_at h j = nth h.marks j

-- How many fields an H line has.
abbrev pub head_width : Head → ℕ
head_width h = length h.marks

-- What an H line makes of codes.
abbrev pub codes_made : {A : Type 0} → (ℕ → List A → A) → Rule → List A → Head → List A
codes_made new r xs h = makes new r xs h.marks

-- Different codes stand for different digits.
abbrev pub OneToOne : {A B : Type 0} → (A → B) → List A → Type 0
OneToOne {A = A} f xs = (a b : A) → In a xs → In b xs → f a ≡ f b → a ≡ b

-- A pattern that is its own pattern.
abbrev pub Own : Shape → Type 0
Own s = pattern ℕ_discrete s.pattern ≡ s.pattern

-- MARKS. A field of an H line that has one is within the line's width.
pub mark_below : (h : Head) (j m : ℕ) → mark_at h (suc j) ≡ some m → j < head_width h
mark_below h j m e = element_below h.marks j m e

-- A mark that stands in the body has a code, if there are as many codes as fields; the code of a carried one is a carried code.
module _ {A : Type 0} (r : Rule) (xs : List A) (wide : body_width r ≡ length xs) (m : ℕ) where
  pub stands_code : InBody r m → (a : A) × (code_at r xs m ≡ some a)
  stands_code i = mark_has_value r.marks xs m wide i

  pub carried_code : In m (carried_marks r) → (a : A) × (code_at r xs m ≡ some a) × In a (carried_values r xs)
  carried_code i =
      let s = stands_code (carried_in r m i).0 in
      (s.0, s.1, in_carried_values r xs m s.0 i s.1)

-- APPLYING. A rule applies to shapes that are as wide as its body.
pub applies_wide : (r : Rule) (s : Shape) → Applies r s → body_width r ≡ length s.pattern
applies_wide r s a = agree_length r.marks s.pattern a.agree

module _ {A : Type 0} (f : A → ℕ) (r : Rule) (s : Shape) (xs : List A) (is : map f xs ≡ s.pattern) where
  -- A rule applies to a shape of its kind whose codes are equal wherever its marks are.
  pub applies_coded : OneToOne f xs → Applies r s ↔ ((s.kind ≡ r.kind) × Agree r.marks xs)
  applies_coded one = (
    λ a. (a.kind, map_agree f r.marks xs one (subst (λ (ds : List ℕ). Agree r.marks ds) (sym is) a.agree)),
    λ p. record { kind = p.0; agree = subst (λ (ds : List ℕ). Agree r.marks ds) is (agree_map f r.marks xs p.1) },
  )

  -- MAKING. What an H line makes of the codes, with codes for the new digits, has the shape that it makes of the shape.
  module _ (new : ℕ → List A → A) (h : Head) (news : (m : ℕ) → f (new m (carried_values r xs)) ≡ suc (length s.pattern + m)) where
    made_coded : map f (codes_made new r xs h) ≡ codes_made (new_digit (length s.pattern)) r s.pattern h
    made_coded =
        map-map f (λ m. or_else (new m (carried_values r xs)) (code_at r xs m)) h.marks
        ∙ map_same (λ m. f (or_else (new m (carried_values r xs)) (code_at r xs m))) (λ m. or_else (suc (length s.pattern + m)) (code_at r (map f xs) m)) h.marks
        (λ m i.
        sym
        (or_else_rel (λ a k. k ≡ f a) (new m (carried_values r xs)) (suc (length s.pattern + m)) (code_at r xs m) (code_at r (map f xs) m) (sym (news m))
        (value_of-map f r.marks xs m)))
        ∙ ap (λ (ds : List ℕ). codes_made (new_digit (length s.pattern)) r ds h) is

    pub shape_coded : (d : Discrete A) → OneToOne f (codes_made new r xs h) → shape_from r s h ≡ record { kind = h.kind; pattern = pattern d (codes_made new r xs h) }
    shape_coded d one =
        ap (λ (p : List ℕ). record { kind = h.kind; pattern = p }) (ap (pattern ℕ_discrete) (sym made_coded) ∙ pattern-map d ℕ_discrete f (codes_made new r xs h) one)

-- The shape that an H line makes is as wide as the line, and its pattern is its own.
pub made_width : (r : Rule) (s : Shape) (h : Head) → length (shape_from r s h).pattern ≡ head_width h
made_width r s h =
    length-pattern ℕ_discrete (makes (new_digit (length s.pattern)) r s.pattern h.marks)
    ∙ makes-length r s.pattern (new_digit (length s.pattern)) h.marks

pub made_own : (r : Rule) (s : Shape) (h : Head) → Own (shape_from r s h)
made_own r s h =
    own_pattern (shape_from r s h).pattern (patterns_appear ℕ_discrete (makes (new_digit (length s.pattern)) r s.pattern h.marks))

-- Each field of what is made is related to another, if a carried code is and a new one is.
module _ {A B : Type 0} (R : A → B → Type 0) (new : ℕ → List A → A) (r : Rule) (xs : List A) (wide : body_width r ≡ length xs) where
  each_mark : (ms : List ℕ) (ys : List B) → length ms ≡ length ys
      → ((j m : ℕ) (x : A) (y : B) → nth ms (suc j) ≡ some m → nth ys (suc j) ≡ some y → InBody r m → code_at r xs m ≡ some x → R x y)
      → ((j m : ℕ) (y : B) → nth ms (suc j) ≡ some m → nth ys (suc j) ≡ some y → (InBody r m → ⊥) → R (new m (carried_values r xs)) y)
      → All2 R (makes new r xs ms) ys
  each_mark [] [] l c n = tt
  each_mark [] (y ∷ ys) l c n = absurd (omega arith)
  each_mark (m ∷ ms) [] l c n = absurd (omega arith)
  each_mark (m ∷ ms) (y ∷ ys) l c n = (
    go (in? ℕ_discrete m r.marks),
    each_mark ms ys (omega arith) (λ j k x z p q. c (suc j) k x z p q) (λ j k z p q. n (suc j) k z p q),
  )
    where
      go : Dec (InBody r m) → R (or_else (new m (carried_values r xs)) (code_at r xs m)) y
      go (yes i) = let s = stands_code r xs wide m i in rw s.1 (c 0 m s.0 y refl refl i s.1)
      go (no i) = rw (no_mark_no_value r.marks xs m i) (n 0 m y refl refl i)

  pub made_each : (h : Head) (ys : List B) → head_width h ≡ length ys
      → ((j m : ℕ) (x : A) (y : B) → mark_at h (suc j) ≡ some m → nth ys (suc j) ≡ some y → InBody r m → code_at r xs m ≡ some x → R x y)
      → ((j m : ℕ) (y : B) → mark_at h (suc j) ≡ some m → nth ys (suc j) ≡ some y → (InBody r m → ⊥) → R (new m (carried_values r xs)) y)
      → All2 R (codes_made new r xs h) ys
  made_each h ys l c n = each_mark h.marks ys l c n

-- STEPS. A carried step begins where the code of its mark stands, a fresh one where a carried code stands, or at no field where nothing is carried.
module _ {A : Type 0} (f : A → ℕ) (rules : List Rule) (st : Step) (s : Shape) (xs : List A) (is : map f xs ≡ s.pattern) (g : Goes rules st (as_record s))
    (m : ℕ) (to : mark_at g.head st.to ≡ some m) where
  module _ (a : A) (from : nth xs st.from ≡ some a) where
    digit_from : nth s.pattern st.from ≡ some (f a)
    digit_from = subst (λ (ds : List ℕ). nth ds st.from ≡ some (f a)) is (nth-map f xs st.from a from)

    digit_at : (n : ℕ) → code_at g.rule xs n ≡ some a → code_at g.rule s.pattern n ≡ some (f a)
    digit_at n e = subst (λ (ds : List ℕ). code_at g.rule ds n ≡ some (f a)) is (map_value f g.rule.marks xs n a e)

    pub carried_coded : st.fresh ≡ 0 → code_at g.rule xs m ≡ some a → Carried rules st (as_record s)
    carried_coded z e = carried_on_shape rules st s g m (f a) to digit_from z (digit_at m e)

    pub fresh_coded : (n : ℕ) → st.fresh ≡ 1 → (InBody g.rule m → ⊥) → In n (carried_marks g.rule) → code_at g.rule xs n ≡ some a
        → Fresh rules st (as_record s)
    fresh_coded n z new i e =
        fresh_on_shape rules st s g m (f a) to digit_from z new (in_carried_values g.rule s.pattern n (f a) i (digit_at n e))

  pub alone_coded : st.from ≡ 0 → st.fresh ≡ 1 → (InBody g.rule m → ⊥) → carried_marks g.rule ≡ [] → FreshAlone rules st (as_record s)
  alone_coded from z new nothing = record { goes = g; fresh = z; mark = m; to = to; new = new; nothing = nothing; from = from }

-- A shape whose pattern is its own is that of its digits as table values.
pub own_record : (s : Shape) → Own s → shape_of (as_record s) ≡ s
own_record s own =
    ap (λ (p : List ℕ). record { kind = s.kind; pattern = p })
    (pattern-map ℕ_discrete Value-discrete table s.pattern (λ x y i j e. cc) ∙ own)

-- A step leads from a shape to the one that its H line makes.
pub after_coded : (rules : List Rule) (st : Step) (s : Shape) (g : Goes rules st (as_record s)) → Own s
    → shape_after rules st s ≡ shape_from g.rule s g.head
after_coded rules st s g own =
    ap shape_of (after_made rules st (as_record s) g)
    ∙ made-digits st.rule g.rule (as_record s) g.head (head_in rules st (as_record s) g)
    ∙ ap (λ (u : Shape). shape_from g.rule u g.head) (own_record s own)

-- REACHING. What an H line makes of a derived shape is derived, and of a reached one reached.
module _ (rules : List Rule) (rows : List Record) (s : Shape) (n j : ℕ) (r : Rule) (h : Head) (named : nth rules n ≡ some r)
    (line : nth r.heads j ≡ some h) (applies : Applies r s) where
  pub derived_coded : Own s → Derived rules rows s → Derived rules rows (shape_from r s h)
  derived_coded own d =
      subst (Derived rules rows) (sym simplified) (of_rule s n r h named d applies (nth_in r.heads j h line))
    where
      simplified : shape_from r s h ≡ simplified_head r s.pattern h
      simplified =
          ap (λ (p : List ℕ). record { kind = h.kind; pattern = p })
          (simplified_pattern r s.pattern applies.agree
          (λ k i. subst (λ (p : List ℕ). In k p → k ≤ length p) own (pattern_small ℕ_discrete s.pattern k) i) h.marks)

  pub reached_coded : Reached rules rows s → Reached rules rows (shape_from r s h)
  reached_coded w =
      let i : In h r.heads = nth_in r.heads j h line in
      record {
        on = made n r w.on h;
        reachable =
            made_from n r h named w.reachable (applies_fires r w.on (subst (λ (t : Shape). Applies r t) (sym w.shape) applies)) i;
        shape = made-digits n r w.on h i ∙ ap (λ (t : Shape). shape_from r t h) w.shape;
      }
