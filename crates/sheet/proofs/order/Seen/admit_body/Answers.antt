-- `sheet::order::Seen::admit_body` meets its contract. Assumes nothing.
use Rattle.std.proofs.Common.{refl}
use Rattle.std.proofs.lemmas.Result.{err_from_is_err_and}
use Rattle.sheet.proofs.OrderLaws.{body_refused, body_added}
use Rattle.sheet.proofs.order.Seen.admit_body.Goals as goal

pub returns-in_err-mark : goal.returns-in_err-mark
returns-in_err-mark c =
    let p = err_from_is_err_and c.from_residual.result c.from_residual.ensures.1 in
    body_refused c.args.self.now c.args.numbers.now c.args.fields _ c.in_err-mark.field-0.0 c.in_err-mark.ensures refl _ (rw (p.1, p.2))

pub returns : goal.returns
returns c = body_added c.args.self.now c.args.numbers.now c.args.fields _ _ c.in_ok-mark.mark c.in_ok-mark.ensures refl
