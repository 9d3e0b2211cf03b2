-- `column` meets its contract: the digits where the number is not too large, otherwise blanks. Assumes nothing.
use borrow.Author.Tests.{le-leb, lt-leb}
use Rattle.columns.specs.Column.{largest_number, column}
use Rattle.columns.proofs.column.Goals as goal

pub returns-then-n-gt99999999 : goal.returns-then-n-gt99999999
returns-then-n-gt99999999 c = rw (lt-leb c.args.n largest_number c.if-n-gt99999999.true)

pub returns : goal.returns
unfolding column
returns c = rw (le-leb c.args.n largest_number c.if-n-gt99999999.false) c.justified.ensures
