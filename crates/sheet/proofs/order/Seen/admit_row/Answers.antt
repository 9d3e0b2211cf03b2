-- `sheet::order::Seen::admit_row` meets its contract. Assumes nothing.
use Rattle.std.proofs.Common.{arith}
use Rattle.std.proofs.lemmas.Result.{err_from_is_err_and}
use Rattle.sheet.proofs.OrderLaws.{row_misplaced, row_full, row_added}
use Rattle.sheet.proofs.order.Seen.admit_row.Goals as goal

pub returns-in_err-placed : goal.returns-in_err-placed
returns-in_err-placed c =
    let p = err_from_is_err_and c.from_residual.result c.from_residual.ensures.1 in
    row_misplaced c.args.self.now c.args.numbers.now c.args.fields c.in_err-placed.field-0.0 c.in_err-placed.ensures _ (rw (p.1, p.2))

pub returns-then-self-ge1024 : goal.returns-then-self-ge1024
returns-then-self-ge1024 c = row_full c.args.self.now c.args.numbers.now c.args.fields c.in_ok-placed.ensures (let h = c.if-self-ge1024.true in omega arith)

pub returns : goal.returns
returns c = row_added c.args.self.now c.args.numbers.now c.args.fields _ c.in_ok-placed.ensures c.if-self-ge1024.false
