-- `sheet::text::scan` meets its contract. The loop's invariant is `Reading`: the lines so far are right and their numbers put. Each turn and each return is one of its laws.
-- The measure is the text's length less the lines so far. Assumes nothing.
use Rattle.std.proofs.Common.{◌≡◌, ◌*◌, sym, ap, Option, Some, None, Result, Err, is_ok, ok_or, arith}
use Rattle.std.proofs.lemmas.Slice.{put_mid-paste}
use Rattle.std.proofs.lemmas.Bool.{false≢true}
use Rattle.sheet.specs.Answer.{refusal_says}
use Rattle.std.proofs.lemmas.Result.{err_from_is_err_and}
use Rattle.sheet.specs.Line.{line_in}
use Rattle.sheet.specs.Inner.Promises.{ParsedAs}
use Rattle.sheet.proofs.Reading.{begun, parsed_fit, parsed_nothing, line_fits, line_taken, line_formless, line_refused, scan_refused}
use Rattle.sheet.proofs.text.scan.Goals as goal
use Rattle.sheet.proofs.text.scan.Goals.{In_ok-form}

err_given : {A E : Type 0} (o : Option A) (e f : E) → ◌≡◌ {A = Result A E} (Err f) (ok_or o e) → f ≡ e
err_given (Some x) e f h = absurd (false≢true (ap is_ok h))
err_given None e f h = cc

pub loop-at-init : goal.loop-at-init
loop-at-init c = begun c.args.text.now c.args.numbers.now c.nothing-seen.result c.nothing-seen.ensures c.requires

pub returns-in_err-form : goal.returns-in_err-form
returns-in_err-form c =
    let p = err_from_is_err_and c.from_residual.result c.from_residual.ensures.1 in
    rw (p.1, p.2)
    (scan_refused c.loop-at.invariant _ _ _ (ap refusal_says (err_given _ _ _ c.in_err-form.ensures.value))
    (line_formless c.loop-at.invariant c.loop-at-test.true c.line_from-line.ensures.bytes
    (parsed_nothing c.line_from-line.result.now c.parse.new.numbers (rw c.in_err-form.ensures.ok_part at c.parse.ensures.0))))

parsed : (c : In_ok-form) → ParsedAs (line_in c.line_from-line.result.now) (Some c.in_ok-form.form) c.parse.new.numbers
parsed c = rw c.in_ok-form.ensures.ok_part at c.parse.ensures.0

pub admit-requires : goal.admit-requires
admit-requires c = (
  c.loop-at.invariant.keeps.table.size,
  parsed_fit c.line_from-line.result.now c.in_ok-form.form _ (parsed (goal.at.admit-requires c).In_ok-form),
  c.parse.ensures.1,
)

pub returns-in-Err : goal.returns-in-Err
returns-in-Err c =
    scan_refused c.loop-at.invariant _ _ _ c.at.ensures
    (line_refused c.loop-at.invariant c.loop-at-test.true c.line_from-line.ensures.bytes (parsed (goal.at.returns-in-Err c).In_ok-form) c.admit.ensures c.in-Err.fault c.in-Err.is)

pub slice_bounds-copy_from_slice-end : goal.slice_bounds-copy_from_slice-end
slice_bounds-copy_from_slice-end c =
    let here = goal.at.slice_bounds-copy_from_slice-end c in
    let fits = line_fits c.loop-at.invariant c.loop-at-test.true c.line_from-line.ensures.bytes (parsed here.In_ok-form) c.admit.ensures c.in_default.not-Err in
    omega arith

pub loop-at-preserved : goal.loop-at-preserved
loop-at-preserved c =
    let here = goal.at.loop-at-preserved c in
    line_taken c.loop-at.invariant c.loop-at-test.true c.line_from-line.ensures.bytes (parsed here.In_ok-form)
    c.admit.ensures c.in_default.not-Err _
    (put_mid-paste (8 * c.loop-at.n) _ c.loop-at.numbers _ c.parse.new.numbers 8 c.copy_from_slice.ensures.after (omega arith) (sym c.parse.ensures.1))
