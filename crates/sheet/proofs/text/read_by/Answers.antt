-- `sheet::text::read_by` meets its contract: a law of `Reading` for each return. Assumes nothing.
use Rattle.std.proofs.Common.{arith}
use Rattle.std.proofs.lemmas.Result.{err_from_is_err_and}
use Rattle.sheet.proofs.Reading.{read_refused, lines_short, lines_held, lines_copied}
use Rattle.sheet.proofs.text.read_by.Goals as goal

pub returns-in_err-n : goal.returns-in_err-n
returns-in_err-n c =
    let p = err_from_is_err_and c.from_residual.result c.from_residual.ensures.1 in
    rw (p.1, p.2) (read_refused c.args.text.now c.args.lines.now c.requires.0 c.in_err-n.field-0.0 c.in_err-n.ensures)

pub returns-then-room-n : goal.returns-then-room-n
returns-then-room-n c = lines_short c.args.text.now c.args.lines.now c.requires.0 c.in_ok-n.ensures c.if-room-n.true

pub copy-requires : goal.copy-requires
copy-requires c = (lines_held c.args.text.now c.args.lines.now c.requires.0 c.in_ok-n.ensures, omega (arith, c.if-room-n.false))

pub returns : goal.returns
returns c =
    lines_copied c.args.text.now c.args.lines.now c.requires.0 c.in_ok-n.ensures c.if-room-n.false c.copy.new.lines c.copy.ensures
