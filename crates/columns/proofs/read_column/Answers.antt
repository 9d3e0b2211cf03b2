-- `read_column` meets its contract. The loop's invariant: the places passed are n's. Assumes nothing.
use mathlib.Core.Path.{ap, sym, subst, ◌∙◌}
use Prim.Native.Nat.{ℕ, ◌+◌}
use native.Mathlib.Omega.{arith}
use Rattle.columns.specs.Column.{in_form}
use Rattle.columns.proofs.DigitLaws.{Read, read_fits, inside, here, passed, begins_blank, begins-otherwise, blank_again, blank_after_digit, digit, leading_zero, below_digits, above_digits, last_below_digits, last_above_digits, last_digit}
use Rattle.columns.proofs.read_column.Goals as goal
use Rattle.columns.proofs.read_column.Goals.{then-b-eq32+else-n-ne0, else-b-eq32+else-b-lt48+else-b-gt57+else-n-eq0}

pub returns-then-bytes-ne32 : goal.returns-then-bytes-ne32
returns-then-bytes-ne32 c = ap in_form (sym (begins-otherwise _ c.requires c.if-bytes-ne32.true))

pub loop-b-init : goal.loop-b-init
loop-b-init c = begins_blank _ c.requires c.if-bytes-ne32.false

pub returns-then-n-ne0 : goal.returns-then-n-ne0
returns-then-n-ne0 c =
    let read = c.loop-b.invariant in
    let at = c.loop-b-test.true in
    ap in_form (sym (blank_after_digit _ _ _ read (inside read at) (sym (here read at) ∙ c.if-b-eq32.true) c.if-n-ne0.true))

pub returns-then-b-lt48 : goal.returns-then-b-lt48
returns-then-b-lt48 c =
    let read = c.loop-b.invariant in
    let at = c.loop-b-test.true in
    ap in_form (sym (below_digits _ _ _ read (inside read at) (λ e. c.if-b-eq32.false (here read at ∙ e)) (omega (arith, here read at, c.if-b-lt48.true))))

pub returns-then-b-gt57 : goal.returns-then-b-gt57
returns-then-b-gt57 c =
    let read = c.loop-b.invariant in
    let at = c.loop-b-test.true in
    ap in_form (sym (above_digits _ _ _ read (inside read at) (omega (arith, here read at, c.if-b-gt57.true))))

pub overflow_mul-n : goal.overflow_mul-n
overflow_mul-n c = omega (arith, read_fits _ _ _ c.loop-b.invariant)

pub overflow_add-n : goal.overflow_add-n
overflow_add-n c = omega (arith, read_fits _ _ _ c.loop-b.invariant)

pub returns-then-n-eq0 : goal.returns-then-n-eq0
returns-then-n-eq0 c =
    let read = c.loop-b.invariant in
    let at = c.loop-b-test.true in
    ap in_form (sym (leading_zero _ _ _ c.from.result read (inside read at) (omega (arith, here read at, c.if-b-lt48.false)) (omega (arith, here read at, c.from.ensures))
    (omega (arith, read_fits _ _ _ read, c.if-b-gt57.false, c.from.ensures, c.if-n-eq0.true))))

pub loop-b-preserved : goal.loop-b-preserved
loop-b-preserved c =
    let read = c.loop-b.invariant in
    let at = c.loop-b-test.true in
    let again : ℕ → Type 0 = λ m. Read c.args.bytes.now (c.loop-b.b-index + 1 + 1) m in
    elim c.if-b-eq32.branch [
      | then-b-eq32+else-n-ne0 w ↦ subst again (sym w.n-is) (blank_again _ _ _ read (inside read at) (sym (here read at) ∙ w.if-b-eq32.true) w.if-n-ne0.false)
      | else-b-eq32+else-b-lt48+else-b-gt57+else-n-eq0 w ↦
          subst again (sym w.n-is) (digit _ _ _ w.from.result read (inside read at) (omega (arith, here read at, w.if-b-lt48.false)) (omega (arith, here read at, w.if-b-gt57.false))
          (omega (arith, here read at, w.from.ensures)) w.if-n-eq0.false)
    ]

pub returns-then-last-lt48 : goal.returns-then-last-lt48
returns-then-last-lt48 c = ap in_form (sym (last_below_digits _ c.if-last-lt48.true))

pub returns-then-last-gt57 : goal.returns-then-last-gt57
returns-then-last-gt57 c = ap in_form (sym (last_above_digits _ c.if-last-gt57.true))

pub overflow_mul-result : goal.overflow_mul-result
overflow_mul-result c = omega (arith, read_fits _ _ _ c.loop-b.invariant)

pub overflow_add-result : goal.overflow_add-result
overflow_add-result c = omega (arith, read_fits _ _ _ c.loop-b.invariant)

pub returns : goal.returns
returns c =
    let read = c.loop-b.invariant in
    ap in_form (last_digit _ _ _ c.from-2.result read (passed read c.loop-b-test.false) c.if-last-lt48.false c.if-last-gt57.false (c.from-2.ensures))
