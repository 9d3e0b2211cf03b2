-- `judging::shape::fires` meets its contract: as many fields as marks, and each is equal to that of its mark's first place. Assumes nothing.
use mathlib.Core.Path.{◌≡◌, ◌∙◌}
use Prim.Native.Nat.{ℕ, ◌<◌}
use mathlib.Core.Path.{subst, sym, refl}
use mathlib.Core.Bool.{Bool, true, false}
use mathlib.Core.List.{List}
use Rattle.std.specs.Bool.{MatchBool}
use Rattle.std.specs.List.{AllWithin, HoldsAt, range_with_len}
use Rattle.std.proofs.lemmas.List.FromFn.{length-range_with_len, get_or-range_with_len}
use Rattle.judging.specs.Inner.Codes.{FiresOn}
use native.Mathlib.Omega.{arith}
use borrow.Author.Rules.{rules}
use lib.ListN.{length, get_or}
use Rattle.rules.specs.Table.{rule_in, row_bytes}
use Rattle.rules.proofs.FirstPlaces.{first_field}
use Rattle.rules.proofs.RuleLaws.{RowFits, row_fits, Width, width_read}
use Rattle.std.proofs.lemmas.Iterator.{serves_from_Range, cases_from_all, YieldsList-from_range}
use Rattle.judging.proofs.RuleLaws.{AsWide, other_kind, fewer_fields, more_fields, unequal_fields, equal_fields}
use Rattle.judging.proofs.shape.fires.Goals as goal
use Rattle.judging.proofs.shape.fires.Goals.{Start, After-rule_byte-width, else-width-lt6-via-then-width-lt6+else-digits-width-ne0, else-width-lt6-via-else-width-lt6}

row : (c : Start) → RowFits (row_bytes c.args.table.now c.args.r)
row c = row_fits c.args.table.now c.args.rules c.args.r c.requires.0 c.requires.1

-- The marks of the rule, by what is read of it.
width : (c : After-rule_byte-width) → Width (rule_in (row_bytes c.args.table.now c.args.r)).marks c.rule_byte-width.result
width c = width_read (row_fits c.args.table.now c.args.rules c.args.r c.requires.0 c.requires.1) c.rule_byte-width.result c.rule_byte-width.ensures.0

pub returns-then-rule_byte-kind : goal.returns-then-rule_byte-kind
returns-then-rule_byte-kind c =
    other_kind (row (goal.at.returns-then-rule_byte-kind c).Start) c.args.kind c.args.digits (λ e. c.if-rule_byte-kind.true (c.rule_byte.ensures.0 ∙ e))

pub overflow_sub-width : goal.overflow_sub-width
overflow_sub-width c = (width (goal.at.overflow_sub-width c).After-rule_byte-width).some

pub bounds-digits-width : goal.bounds-digits-width
bounds-digits-width c = let w = width (goal.at.bounds-digits-width c).After-rule_byte-width in omega arith

pub returns-then-digits-width-eq0 : goal.returns-then-digits-width-eq0
returns-then-digits-width-eq0 c =
    fewer_fields (row (goal.at.returns-then-digits-width-eq0 c).Start) c.args.kind c.args.digits c.rule_byte-width.result c.rule_byte-width.ensures.0 c.if-digits-width-eq0.true

pub returns-then-digits-width-ne0 : goal.returns-then-digits-width-ne0
returns-then-digits-width-ne0 c =
    more_fields (row (goal.at.returns-then-digits-width-ne0 c).Start) c.args.kind c.args.digits c.rule_byte-width.result c.rule_byte-width.ensures.0 c.if-digits-width-ne0.true

pub all-requires-clause-callable : goal.all-requires-clause-callable
all-requires-clause-callable c =
    let w = width (goal.at.all-requires-clause-callable c).After-rule_byte-width in
    serves_from_Range (λ x q e. search rules)
    (λ x l h.
    let low : x < get_or (row_bytes c.args.table.now c.args.r) 1 0 = omega (arith, c.rule_byte-width.ensures.0) in
    let few : x < 6 = omega (arith, w.few) in
    let p = c.requires in
    search rules)

-- The digit of a field is that of its mark's first place.
abbrev Same : List ℕ → List ℕ → ℕ → Type 0
Same marks digits k = get_or digits k 0 ≡ get_or digits (first_field marks k) 0

place : (width k : ℕ) → k < width → get_or (range_with_len 0 width) k 0 ≡ k
place width k low = let e = get_or-range_with_len 0 width k 0 low in omega arith

-- What the test of all fields comes to.
decided : {bytes digits : List ℕ} {kind width : ℕ} → RowFits bytes → get_or bytes 0 0 ≡ kind → width ≡ get_or bytes 1 0 → AsWide digits width → (answer : Bool)
    → MatchBool answer (AllWithin (Same (rule_in bytes).marks digits) (range_with_len 0 width) 0 (length (range_with_len 0 width)))
    ((k : ℕ) × (k < length (range_with_len 0 width)) × HoldsAt (λ k. Same (rule_in bytes).marks digits k → ⊥) (range_with_len 0 width) k)
    → FiresOn (rule_in bytes) kind digits answer
decided {bytes} {digits} {kind} {width} fits is read wide true all =
    equal_fields fits kind digits width width is read (omega arith)
    (record {
      wide = wide;
      within = omega arith;
      each = λ k l. subst (Same (rule_in bytes).marks digits) (place width k l) (all k 0 (omega arith) (omega (arith, length-range_with_len 0 width)));
    })
decided {bytes} {digits} {kind} {width} fits is read wide false (k, l, other) =
    let w = width_read fits width read in
    let low : k < width = omega (arith, length-range_with_len 0 width) in
    unequal_fields fits kind digits k (omega (arith, w.is)) (subst (λ j. Same (rule_in bytes).marks digits j → ⊥) (place width k low) (other 0))

pub returns : goal.returns
returns c =
    let width = c.rule_byte-width.result in
    let marks = (rule_in (row_bytes c.args.table.now c.args.r)).marks in
    decided (row (goal.at.returns c).Start) (sym c.rule_byte.ensures.0 ∙ c.if-rule_byte-kind.false) c.rule_byte-width.ensures.0
    (record { last = c.if-digits-width-eq0.false; past = λ l. elim c.else-width-lt6.branch [ else-width-lt6-via-then-width-lt6+else-digits-width-ne0 w ↦ w.if-digits-width-ne0.false | else-width-lt6-via-else-width-lt6 w ↦ absurd (omega (arith, w.if-width-lt6.false, l)) ] })
    c.all.result
    (cases_from_all _ _ c.all.result (Same marks c.args.digits) (λ k. Same marks c.args.digits k → ⊥)
    c.all.ensures.ran (YieldsList-from_range 0 width width refl (omega arith)) (λ x q k. search rules) (λ x q k. search rules))
