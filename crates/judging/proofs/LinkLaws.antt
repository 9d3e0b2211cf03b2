-- The links that the bytes of rules give: each level of loops follows those of its part. Assumes nothing.
use mathlib.Core.Path.{◌≡◌, sym, subst, ap, ◌∙◌}
use mathlib.Core.Bool.{Bool}
use mathlib.Core.List.{List}
use mathlib.Core.Option.{some}
use Prim.Native.Nat.{ℕ, suc, ◌+◌, ◌*◌, ◌≤◌, ◌<◌}
use native.Mathlib.Omega.{arith}
use lib.ListN.{length, get_or}
use Rattle.chase.specs.Rules.{Head, Rule, nth}
use Rattle.chase.specs.Simplification.{Applies}
use Rattle.chase.proofs.CodedLaws.{mark_at}
use Rattle.rules.specs.Table.{rule_in, BytesFit}
use Rattle.judging.specs.Inner.Codes.{shape_from}
use Rattle.judging.specs.Inner.Found.{shape_no}
use Rattle.judging.specs.Inner.Links.{Begins, Link}
use Rattle.judging.specs.Inner.Passes.{LineBytes, Done, Just, Upto, FreshLink, FieldLink, carried_link, fresh_link, place_of}
use Rattle.judging.specs.declared.spread.Raised.{Raised}
use Rattle.judging.proofs.Places.{element_at}
use Rattle.rules.proofs.RuleLaws.{head_at, line_marks, head_below, head-width, head_mark, head_fits, mark_range}
use Rattle.rules.proofs.Sources.{body_place, place_within}
use Rattle.judging.proofs.PassLaws.{alike}

-- A link, where a rule and an H line of it make the shape at place t of that at place s.
module _ (rules : List Rule) (codes : List ℕ) (count s t n h : ℕ) {r : Rule} {d : Head} (s_below : s < count) (t_below : t < count)
    (named : nth rules (suc n) ≡ some r) (line : nth r.heads (suc h) ≡ some d) (applies : Applies r (shape_no codes s))
    (makes : shape_from r (shape_no codes s) d ≡ shape_no codes t) where
  pub link-of : (j : ℕ) {m place fresh u v code : ℕ} → mark_at d (suc j) ≡ some m → Begins r m place fresh → u ≡ 7 * s + place
      → v ≡ 7 * t + suc j → code ≡ 8 * n + 2 * h + fresh → Link rules codes count u v code
  link-of j {m} {place} {fresh} to begins from_is to_is code_is =
      record {
        s = s;
        t = t;
        n = n;
        h = h;
        j = j;
        place = place;
        fresh = fresh;
        mark = m;
        rule = r;
        head = d;
        s_below = s_below;
        t_below = t_below;
        named = named;
        line = line;
        applies = applies;
        makes = makes;
        to = to;
        begins = begins;
        from_is = from_is;
        to_is = to_is;
        code_is = code_is;
      }

-- H line h of a rule's bytes.
module _ (bytes : List ℕ) (size : length bytes ≡ 64) (f : BytesFit bytes) (h : ℕ) (there : h < get_or bytes 28 0) where
  pub line_below : h < 4
  line_below = head_below bytes size f h there

  pub width_is : get_or bytes (33 + 8 * h) 0 ≡ length (line_marks bytes h)
  width_is = ap (λ (i : ℕ). get_or bytes i 0) (let q : 33 + 8 * h ≡ 32 + 8 * h + 1 = omega arith in q) ∙ head-width bytes size f h there

  pub width_few : get_or bytes (33 + 8 * h) 0 ≤ 6
  width_few = f.widths h there

  module _ (j : ℕ) (l : j < get_or bytes (33 + 8 * h) 0) where
    pub mark_is : get_or bytes (34 + 8 * h + j) 0 ≡ get_or (line_marks bytes h) j 0
    mark_is =
        ap (λ (i : ℕ). get_or bytes i 0) (let q : 34 + 8 * h + j ≡ 32 + 8 * h + 2 + j = omega arith in q)
        ∙ head_mark bytes size f h there j (omega (arith, width_is))

    pub mark_there : mark_at (head_at bytes (32 + 8 * h)) (suc j) ≡ some (get_or bytes (34 + 8 * h + j) 0)
    mark_there = element_at (line_marks bytes h) j (omega (arith, width_is)) ∙ ap some (sym mark_is)

    pub mark_few : get_or bytes (34 + 8 * h + j) 0 ≤ 12
    mark_few =
        omega
        (arith, mark_is, (mark_range (line_marks bytes h) (head_fits bytes size f h there).marks j (omega (arith, width_is))).1)

    pub place_is : place_of bytes h j ≡ body_place (rule_in bytes) (get_or bytes (34 + 8 * h + j) 0)
    place_is = f.places (get_or bytes (34 + 8 * h + j) 0) mark_few

    pub place_few : place_of bytes h j ≤ 6
    place_few = omega (arith, place_is, place_within (rule_in bytes) (get_or bytes (34 + 8 * h + j) 0), f.rule.marks.few)

-- What following the links of an H line asks of its bytes.
pub line_bytes : (bytes : List ℕ) (h : ℕ) → length bytes ≡ 64 → BytesFit bytes → h < get_or bytes 28 0 → LineBytes bytes h
line_bytes bytes h size f there =
    record {
      below = line_below bytes size f h there;
      width = width_few bytes size f h there;
      marks = λ j l. mark_few bytes size f h there j l;
      places = λ j l. place_few bytes size f h there j l;
    }

pub place_read : (bytes : List ℕ) (h j : ℕ) {mark place : ℕ} → mark ≡ get_or bytes (34 + 8 * h + j) 0 → place ≡ get_or bytes (8 + mark) 0
    → place ≡ place_of bytes h j
place_read bytes h j m p = p ∙ ap (λ (i : ℕ). get_or bytes (8 + i) 0) m

fresh_only : {bytes : List ℕ} {r h s t j u v code : ℕ} → place_of bytes h j ≡ 0 → FieldLink bytes r h s t j u v code
    → Upto 7 (FreshLink bytes s (7 * t + (j + 1)) (8 * r + 2 * h + 1)) u v code
fresh_only z (carried_link d e) = absurd (d z)
fresh_only z (fresh_link y e) = e

carried_only : {bytes : List ℕ} {r h s t j u v code : ℕ} → (place_of bytes h j ≡ 0 → ⊥) → FieldLink bytes r h s t j u v code
    → Just (7 * s + place_of bytes h j) (7 * t + (j + 1)) (8 * r + 2 * h) u v code
carried_only d (carried_link y e) = e
carried_only d (fresh_link z e) = absurd (d z)

module _ {n : ℕ} (bytes : List ℕ) (r h s t j : ℕ) {place : ℕ} (is : place ≡ place_of bytes h j)
    {g₀ g f₀ f : List (List ℕ)} {w₀ w : List Bool} {r₀ q : Raised} where
  pub fresh_field : place ≡ 0 → Done n (Upto 7 (FreshLink bytes s (7 * t + (j + 1)) (8 * r + 2 * h + 1))) g₀ f₀ w₀ r₀ g f w q
      → Done n (FieldLink bytes r h s t j) g₀ f₀ w₀ r₀ g f w q
  fresh_field z d = let y : place_of bytes h j ≡ 0 = sym is ∙ z in alike (λ u v code e. fresh_link y e) (λ u v code e. fresh_only y e) d

  pub carried_field : (place ≡ 0 → ⊥) → Done n (Just (7 * s + place) (7 * t + (j + 1)) (8 * r + 2 * h)) g₀ f₀ w₀ r₀ g f w q
      → Done n (FieldLink bytes r h s t j) g₀ f₀ w₀ r₀ g f w q
  carried_field z d =
      let y : place_of bytes h j ≡ 0 → ⊥ = λ p. z (is ∙ p) in
      alike (λ u v code e. carried_link y (subst (λ (p : ℕ). Just (7 * s + p) (7 * t + (j + 1)) (8 * r + 2 * h) u v code) is e))
      (λ u v code e. subst (λ (p : ℕ). Just (7 * s + p) (7 * t + (j + 1)) (8 * r + 2 * h) u v code) (sym is) (carried_only y e)) d
