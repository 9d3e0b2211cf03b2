-- `sheet::write` meets its contract: what is measured decides the answer, and the text is filled where it fits. Assumes nothing.
use Rattle.std.proofs.lemmas.Result.{err_from_is_err_and}
use Rattle.sheet.proofs.Writing.{write_wrong, write_long, write_short, write_good}
use Rattle.sheet.proofs.write.Goals as goal

pub returns-in_err-size : goal.returns-in_err-size
returns-in_err-size c =
    let a = c.args in
    let p = err_from_is_err_and c.from_residual.result c.from_residual.ensures.1 in
    rw (p.1, p.2) (write_wrong a.lines.now a.text.now c.in_err-size.field-0.0 c.in_err-size.ensures)

pub returns-then-size-gt32768 : goal.returns-then-size-gt32768
returns-then-size-gt32768 c = let a = c.args in write_long a.lines.now a.text.now c.in_ok-size.size c.in_ok-size.ensures c.if-size-gt32768.true

pub returns-then-text-size : goal.returns-then-text-size
returns-then-text-size c =
    let a = c.args in
    write_short a.lines.now a.text.now c.in_ok-size.size c.in_ok-size.ensures c.if-size-gt32768.false c.if-text-size.true

pub returns : goal.returns
returns c =
    let a = c.args in
    write_good a.lines.now a.text.now c.in_ok-size.size c.in_ok-size.ensures c.if-size-gt32768.false c.if-text-size.false c.fill_text.new.text c.fill_text.ensures
