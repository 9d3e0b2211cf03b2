-- `spread::follow_note` meets its contract. Assumes nothing.
use Rattle.rules.specs.Table.{row_bytes}
use Rattle.judging.specs.Inner.Noted.{rule_of, line_of, target_of}
use Rattle.judging.proofs.PassLaws.{next, arrived}
use Rattle.judging.proofs.LinkLaws.{place_read, fresh_field, carried_field}
use Rattle.judging.proofs.spread.follow_note.Goals as goal
use Rattle.judging.proofs.spread.follow_note.Goals.{then-place-eq0, else-place-eq0}

pub loop-j-preserved : goal.loop-j-preserved
loop-j-preserved c =
    let a = c.args in
    let r = rule_of a.note in
    let h = line_of a.note in
    let t = target_of a.note in
    let b = row_bytes a.table.now r in
    let j = c.loop-j.j in
    let e = place_read b h j c.rule_byte-mark.ensures.0 c.rule_byte-place.ensures.0 in
    next c.loop-j.invariant
    (elim c.if-place-eq0.branch [
      | then-place-eq0 w ↦
          arrived w.generations-is w.raises-is w.waiting-is w.last-is (fresh_field b r h a.s t j e w.if-place-eq0.true w.follow_fresh-last.ensures)
      | else-place-eq0 w ↦
          arrived w.generations-is w.raises-is w.waiting-is w.last-is (carried_field b r h a.s t j e w.if-place-eq0.false w.follow-last.ensures)
    ])
