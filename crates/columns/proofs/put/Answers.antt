-- `columns::put` meets its contract. The loop's invariant: the column's first i bytes are pasted in. Assumes nothing.
use native.Mathlib.Omega.{arith}
use borrow.Author.Rules.{rules}
use Rattle.columns.proofs.ColumnLaws.{column_put_short, putting_begun, putting_more, putting_done}
use Rattle.columns.proofs.put.Goals as goal
use Rattle.columns.proofs.put.Goals.{then-text-lt9-via-then-text-lt9, then-text-lt9-via-else-text-lt9+then-text-at}

pub returns-then-text-lt9 : goal.returns-then-text-lt9
returns-then-text-lt9 c =
    column_put_short _ _ _
    (elim c.then-text-lt9.branch [ then-text-lt9-via-then-text-lt9 w ↦ omega arith | then-text-lt9-via-else-text-lt9+then-text-at w ↦ omega arith ])

pub loop-i-init : goal.loop-i-init
loop-i-init c = putting_begun (search rules) c.column-bytes.ensures

pub loop-i-preserved : goal.loop-i-preserved
loop-i-preserved c = putting_more (search rules) c.loop-i.invariant

pub returns : goal.returns
returns c = putting_done (search rules) c.loop-i.invariant
