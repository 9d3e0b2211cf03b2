-- `digits_in` meets its contract. Assumes nothing.
use mathlib.Core.Path.{◌∙◌}
use mathlib.Core.Logic.{inl, inr}
use Rattle.patterns.proofs.PatternRows.{row_there, row-none}
use Rattle.patterns.proofs.digits_in.Goals as goal
use Rattle.patterns.proofs.digits_in.Goals.{then-number-eq0-via-then-number-eq0, then-number-eq0-via-else-number-eq0+then-table-number}

pub returns-then-number-eq0 : goal.returns-then-number-eq0
returns-then-number-eq0 c =
    row-none _ _
    (elim c.then-number-eq0.branch [ then-number-eq0-via-then-number-eq0 w ↦ inl w.if-number-eq0.true | then-number-eq0-via-else-number-eq0+then-table-number w ↦ inr w.if-table-number.true ])

pub returns : goal.returns
returns c =
    c.row.ensures ∙ row_there _ _ c.if-number-eq0.false c.if-table-number.false
