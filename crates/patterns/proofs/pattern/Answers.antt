-- `pattern` meets its contract: its loop numbers the fields one by one. Assumes nothing.
use mathlib.Core.Path.{sym, ap, ◌∙◌}
use Prim.Native.Nat.{ℕ, ◌-◌, ◌<◌, ◌≤◌}
use native.Mathlib.Omega.{arith}
use borrow.Author.Tests.{eq-eqb, ne_eqb, lt-ltb, le-ltb}
use lib.ListN.{length, replicate}
use Rattle.patterns.specs.Outcome.{good}
use Rattle.patterns.specs.Pattern.{none_at, Label-discrete, labels}
use Rattle.patterns.proofs.LabelLaws.{length-labels}
use Rattle.patterns.proofs.PatternRank.{ways, first}
use Rattle.patterns.proofs.PatternRows.{entries, ways_row, ways_table, ways_at, first_table, first_at}
use Rattle.patterns.proofs.PatternSteps.{FieldsNumbered, Stepped, numbering_starts, known_field, new_field, numbering_ends}
use Rattle.patterns.proofs.pattern.Goals as goal
use Rattle.patterns.proofs.pattern.Goals.{After-row_known-1, After-from-number, then-place-i, else-place-i, then-n-eq0-via-then-n-eq0, then-n-eq0-via-else-n-eq0+then-n-gt6}

started : (c : After-from-number)
    → FieldsNumbered Label-discrete (none_at 0) (labels c.args.numbers.now) 0 0 c.from-number.result (replicate 6 0)
unfolding first_table entries first ways
started c =
    let xs = c.args.numbers.now in
    let some : 1 ≤ length xs = omega (arith, c.if-n-eq0.false) in
    let most : length xs ≤ 6 = omega (arith, c.if-n-gt6.false) in
    let e = length-labels xs in
    rw (c.from-number.ensures ∙ first_at (length xs) (omega arith), ← e)
    (numbering_starts Label-discrete (none_at 0) (labels xs) (omega arith) (omega arith))

stepped : (c : After-row_known-1)
    → Stepped Label-discrete (none_at 0)
    (labels c.args.numbers.now)
    c.loop-i.i
    c.loop-i.number
    c.loop-i.digits
    c.if-place-i.digit
    c.if-place-i.largest
    c.from-each.result
unfolding ways_table ways_row entries ways
stepped c =
    let xs = c.args.numbers.now in
    let here = c.loop-i in
    let s = here.invariant in
    let e = length-labels xs in
    let l : here.i < length (labels xs) = omega (arith, c.loop-i-test.true) in
    let place = c.first_place-place.result in
    let p = c.first_place-place.ensures in
    let each = ways_at (length xs - 1 - here.i) here.largest (omega arith) in
    let w = c.from-each.ensures ∙ each ∙ ap (λ (n : ℕ). ways (n - 1 - here.i) here.largest) (sym e) in
    elim c.if-place-i.branch [ then-place-i m ↦ known_field s l place _ _ _ p w m.if-place-i.true m.largest-is m.digit-is | else-place-i m ↦ new_field s l place _ _ _ p w m.if-place-i.false m.largest-is m.digit-is ]

pub returns-then-n-eq0 : goal.returns-then-n-eq0
returns-then-n-eq0 c =
    elim c.then-n-eq0.branch [
      | then-n-eq0-via-then-n-eq0 w ↦ rw (eq-eqb _ _ w.if-n-eq0.true)
      | then-n-eq0-via-else-n-eq0+then-n-gt6 w ↦ rw (ne_eqb _ _ w.if-n-eq0.false, lt-ltb _ _ w.if-n-gt6.true)
    ]

pub loop-i-init : goal.loop-i-init
loop-i-init c = started (goal.at.loop-i-init c).After-from-number

pub overflow_sub-number : goal.overflow_sub-number
overflow_sub-number c = omega (arith, (stepped (goal.at.overflow_sub-number c).After-row_known-1).positive)

pub overflow_mul-number : goal.overflow_mul-number
overflow_mul-number c = omega (arith, (stepped (goal.at.overflow_mul-number c).After-row_known-1).small)

pub overflow_add-number : goal.overflow_add-number
overflow_add-number c = omega (arith, (stepped (goal.at.overflow_add-number c).After-row_known-1).small)

pub loop-i-preserved : goal.loop-i-preserved
loop-i-preserved c = (stepped (goal.at.loop-i-preserved c).After-row_known-1).next

pub returns : goal.returns
returns c =
    let e = length-labels c.args.numbers.now in
    rw (ne_eqb _ _ c.if-n-eq0.false, le-ltb _ _ c.if-n-gt6.false)
    (ap good (numbering_ends c.loop-i.invariant (omega (arith, c.loop-i-test.false))))
