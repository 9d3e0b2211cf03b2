-- `sheet::order::Seen::admit_kind` meets its contract. Assumes nothing.
use Rattle.std.proofs.Common.{sym, ◌∙◌}
use Rattle.sheet.proofs.OrderLaws.{kind_out, kind_wrong, kind_added}
use Rattle.sheet.proofs.order.Seen.admit_kind.Goals as goal

pub returns-then-not-in_place : goal.returns-then-not-in_place
returns-then-not-in_place c = kind_out (sym c.in_place.ensures ∙ c.if-not-in_place.true)

pub returns-then-not-declared : goal.returns-then-not-declared
returns-then-not-declared c =
    kind_wrong (sym c.in_place.ensures ∙ c.if-not-in_place.false)
    (sym c.declared.ensures ∙ c.if-not-declared.true)

pub returns : goal.returns
returns c =
    kind_added (sym c.in_place.ensures ∙ c.if-not-in_place.false) _
    (sym c.declared.ensures ∙ c.if-not-declared.false)
