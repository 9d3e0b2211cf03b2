-- `sheet::lent::measure` meets its contract. What is known of the lines measured so far decides with the lines that are left. Assumes nothing.
use Rattle.std.proofs.Common.{◌≡◌, ℕ, ◌+◌, ◌*◌, ◌<◌, ◌≤◌, ◌==◌, true, List, [], length, get_or, refl, sym, ◌∙◌, Some, None, arith, false-eqb}
use Rattle.std.proofs.lemmas.Bool.{false≢true}
use Rattle.std.proofs.lemmas.Result.{err_from_is_err_and}
use borrow.Author.Tests.{eqb-true}
use Rattle.patterns.specs.Outcome.{refused, map_good}
use Rattle.sheet.specs.Line.{form_of, Line}
use Rattle.sheet.specs.Write.{sheet_held}
use Rattle.sheet.specs.Inner.Promises.{size_of}
use Rattle.sheet.specs.declared.Refusal.TheVariants.{LineWrong}
use Rattle.sheet.proofs.FormLaws.{fields_fit, form_says_one_to_one}
use Rattle.sheet.proofs.LentLines.{LineAt, Eight, eight_at, not_too_wide, ranges_hold, not_formless, not_refused, taken}
use Rattle.sheet.proofs.Measuring.{measure_begun, line-wrong, line_taken, rule_without_head, incomplete}
use Rattle.sheet.proofs.lent.measure.Goals as goal
use Rattle.sheet.proofs.lent.measure.Goals.{
  After-loop-n,
  In-loop-n,
  In_ok-form,
  then-fields-gt6-via-then-fields-gt6,
  then-fields-gt6-via-else-fields-gt6+then-not-in_range,
  then-not-is_empty-via-then-not-is_empty,
  then-not-is_empty-via-else-not-is_empty+then-seen-eq-LETTER_B,
}

eight : (l : In-loop-n) → Eight l.args.lines.now l.loop-n.n (get_or l.as_chunks.result.0.now l.loop-n.n [])
eight l = eight_at l.args.lines.now l.as_chunks.result.0.now l.as_chunks.ensures.front l.as_chunks.ensures.front_len l.loop-n.n l.loop-n-test.true

pub loop-n-init : goal.loop-n-init
loop-n-init c =
    measure_begun c.args.lines.now c.nothing-seen.result c.nothing-seen.ensures

pub used-fields-requires : goal.used-fields-requires
used-fields-requires c = (c.loop-n.invariant.kept.table.size, (eight (goal.at.used-fields-requires c).In-loop-n).size)

pub in_range-requires : goal.in_range-requires
in_range-requires c = (c.if-fields-gt6.false, (eight (goal.at.in_range-requires c).In-loop-n).size)

abbrev numbers : In-loop-n → List ℕ
numbers l = get_or l.as_chunks.result.0.now l.loop-n.n []

abbrev before : In-loop-n → List Line
before l = l.loop-n.invariant.before

line-is-wrong : (l : In-loop-n) → ((k : Line) → LineAt (before l) k (numbers l) → ⊥) → refused 8 (l.loop-n.n + 1) ≡ map_good size_of (sheet_held l.args.lines.now)
line-is-wrong l none = let e = eight l in line-wrong l.loop-n.invariant (let room = e.room in omega arith) (numbers l) e.is none

pub returns-then-fields-gt6 : goal.returns-then-fields-gt6
returns-then-fields-gt6 c =
    let l = (goal.at.returns-then-fields-gt6 c).In-loop-n in
    line-is-wrong l
    (λ k a.
    elim c.then-fields-gt6.branch [
      | then-fields-gt6-via-then-fields-gt6 w ↦ not_too_wide (before l) c.loop-n.seen.widths c.loop-n.invariant.kept.table (numbers l) c.used-fields.result c.used-fields.ensures k a w.if-fields-gt6.true
      | then-fields-gt6-via-else-fields-gt6+then-not-in_range w ↦
          false≢true (sym w.if-not-in_range.true ∙ w.in_range.ensures ∙ ranges_hold (before l) c.loop-n.seen.widths c.loop-n.invariant.kept.table (numbers l) c.used-fields.result c.used-fields.ensures k a)
    ])

pub returns-in_err-form : goal.returns-in_err-form
returns-in_err-form c =
    let l = (goal.at.returns-in_err-form c).In-loop-n in
    let p = err_from_is_err_and c.from_residual.result c.from_residual.ensures.1 in
    let is : c.in_err-form.field-0.0 ≡ LineWrong (c.loop-n.n + 1) = let q = rw c.in_err-form.ensures.ok_part at c.in_err-form.ensures.value in cc in
    let none = form_says_one_to_one None (form_of _ _) (rw c.in_err-form.ensures.ok_part at c.take_apart.ensures) in
    rw (p.1, p.2, is)
    (line-is-wrong l (λ k a. not_formless (before l) c.loop-n.seen.widths c.loop-n.invariant.kept.table (numbers l) c.used-fields.result c.used-fields.ensures k a none))

form_is : (c : In_ok-form) → Some c.in_ok-form.form ≡ form_of (get_or (get_or c.as_chunks.result.0.now c.loop-n.n []) 0 0) (c.used-fields.result + 1)
form_is c = form_says_one_to_one (Some c.in_ok-form.form) (form_of _ _) (rw c.in_ok-form.ensures.ok_part at c.take_apart.ensures)

pub admit-requires : goal.admit-requires
admit-requires c =
    let here = goal.at.admit-requires c in
    (c.loop-n.invariant.kept.table.size, fields_fit c.in_ok-form.form _ _ (sym (form_is here.In_ok-form)), (eight here.In-loop-n).size)

pub returns-then-is_err : goal.returns-then-is_err
returns-then-is_err c =
    let here = goal.at.returns-then-is_err c in
    let l = here.In-loop-n in
    line-is-wrong l
    (λ k a.
    not_refused (before l) c.loop-n.seen.widths c.loop-n.invariant.kept.table (numbers l) c.used-fields.result c.used-fields.ensures k a c.loop-n.seen c.loop-n.invariant.kept
    c.in_ok-form.form (form_is here.In_ok-form) c.admit.result c.admit.new.self c.admit.ensures (sym c.if-is_err.ensures.value))

pub loop-n-preserved : goal.loop-n-preserved
loop-n-preserved c =
    let here = goal.at.loop-n-preserved c in
    let e = eight here.In-loop-n in
    line_taken c.loop-n.invariant (let room = e.room in omega arith) (numbers here.In-loop-n) e.is c.used-fields.result c.if-fields-gt6.false (let room = e.room in omega arith)
    c.admit.new.self
    (taken (before here.In-loop-n) (numbers here.In-loop-n) e.size c.used-fields.result c.if-fields-gt6.false
    (sym c.in_range.ensures ∙ c.if-not-in_range.false) c.loop-n.seen c.loop-n.invariant.kept
    c.in_ok-form.form (form_is here.In_ok-form) c.admit.result c.admit.new.self c.admit.ensures (sym c.if-is_err.ensures.value))

all : (l : After-loop-n) → true ≡ (length l.as_chunks.result.1.now == 0) → length l.args.lines.now ≤ 8 * l.loop-n.n
all l e =
    let none : length l.as_chunks.result.1.now ≡ 0 = eqb-true _ 0 (sym e) in
    omega (arith, l.as_chunks.ensures.back_len, l.as_chunks.ensures.front_len, l.loop-n-test.false)

pub returns-then-not-is_empty : goal.returns-then-not-is_empty
returns-then-not-is_empty c =
    let last : length c.as_chunks.result.0.now ≡ c.loop-n.n = omega arith in
    rw last
    (elim c.then-not-is_empty.branch [
      | then-not-is_empty-via-then-not-is_empty w ↦
          let some = false-eqb _ 0 w.if-not-is_empty.ensures in
          let left : 8 * c.loop-n.n < length c.args.lines.now = omega (arith, some, c.as_chunks.ensures.back_len, c.as_chunks.ensures.front_len) in
          line-wrong c.loop-n.invariant left _ refl (incomplete c.args.lines.now c.loop-n.n (omega (arith, c.as_chunks.ensures.front_len)) c.loop-n.invariant.before)
      | then-not-is_empty-via-else-not-is_empty+then-seen-eq-LETTER_B w ↦
          rule_without_head c.loop-n.invariant (all (goal.at.returns-then-not-is_empty c).After-loop-n w.if-not-is_empty.ensures) w.if-seen-eq-LETTER_B.true
    ])
