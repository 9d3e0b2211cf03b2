-- `judging::search::find_row` meets its contract. Each way out is an event of the search for the shapes of the rows. Assumes nothing.
use Rattle.judging.proofs.RowLaws.{tried_seen, tried_push, tried_more}
use Rattle.judging.proofs.search.find_row.Goals as goal

pub returns-then-index-code-ne0 : goal.returns-then-index-code-ne0
returns-then-index-code-ne0 c =
    tried_seen c.requires.0 c.requires.1 c.row_code-code.result c.row_code-code.ensures c.if-index-code-ne0.true

pub returns-then-count-eq512 : goal.returns-then-count-eq512
returns-then-count-eq512 c =
    tried_more c.requires.0 c.requires.1 c.row_code-code.result c.row_code-code.ensures c.if-count-eq512.true c.if-index-code-ne0.false

pub returns : goal.returns
returns c =
    let p = c.push.ensures in
    rw (p.0, p.1, p.2) (tried_push c.requires.0 c.requires.1 c.row_code-code.result c.row_code-code.ensures c.if-count-eq512.false c.if-index-code-ne0.false)
