-- `sheet::lent::fill_text` meets its contract. The text of the lines so far stands at the front, and the rest is as before. Assumes nothing.
use Rattle.std.proofs.Common.{[], get_or, replicate, refl, arith}
use Rattle.sheet.proofs.OrderLaws.{no_width}
use Rattle.sheet.proofs.LentLines.{Eight, eight_at}
use Rattle.sheet.proofs.Filling.{Putting, fill-begun, fill-line, fill_end}
use Rattle.sheet.proofs.lent.fill_text.Goals as goal
use Rattle.sheet.proofs.lent.fill_text.Goals.{In-loop-numbers, After-used-fields}

eight : (l : In-loop-numbers) → Eight l.args.lines.now l.loop-numbers.numbers-index (get_or l.as_chunks.result.0.now l.loop-numbers.numbers-index [])
eight l = eight_at l.args.lines.now l.as_chunks.result.0.now l.as_chunks.ensures.front l.as_chunks.ensures.front_len l.loop-numbers.numbers-index l.loop-numbers-test.true

putting : (u : After-used-fields)
    → Putting u.args.lines.now u.args.text.now u.loop-numbers.text u.loop-numbers.widths u.loop-numbers.at u.loop-numbers.numbers-index
    (get_or u.as_chunks.result.0.now u.loop-numbers.numbers-index []) u.used-fields.result
putting u =
    let e = eight_at u.args.lines.now u.as_chunks.result.0.now u.as_chunks.ensures.front u.as_chunks.ensures.front_len u.loop-numbers.numbers-index u.loop-numbers-test.true in
    fill-line u.loop-numbers.invariant
    (let room = e.room in omega arith) _ e.is u.used-fields.result u.used-fields.ensures

pub loop-numbers-init : goal.loop-numbers-init
loop-numbers-init c = fill-begun c.args.lines.now c.args.text.now (replicate 65 0) c.requires refl (no_width 65)

pub used-fields-requires : goal.used-fields-requires
used-fields-requires c = (c.loop-numbers.invariant.table.size, (eight (goal.at.used-fields-requires c).In-loop-numbers).size)

pub put_line-requires : goal.put_line-requires
put_line-requires c =
    let here = goal.at.put_line-requires c in
    let p = putting here.After-used-fields in
    (p.few, p.room, p.letter, p.ranges, (eight here.In-loop-numbers).size)

pub declare-requires : goal.declare-requires
declare-requires c =
    let here = goal.at.declare-requires c in
    (c.loop-numbers.invariant.table.size, (putting here.After-used-fields).declares, (eight here.In-loop-numbers).size)

pub overflow_mul-at : goal.overflow_mul-at
overflow_mul-at c = let p = putting (goal.at.overflow_mul-at c).After-used-fields in omega (arith, p.few)

pub overflow_add-at : goal.overflow_add-at
overflow_add-at c = let p = putting (goal.at.overflow_add-at c).After-used-fields in omega (arith, p.few)

pub overflow_add-at-in-loop-numbers : goal.overflow_add-at-in-loop-numbers
overflow_add-at-in-loop-numbers c =
    let p = putting (goal.at.overflow_add-at-in-loop-numbers c).After-used-fields in
    omega (arith, p.room, c.requires)

pub loop-numbers-preserved : goal.loop-numbers-preserved
loop-numbers-preserved c =
    rw c.declare.ensures ((putting (goal.at.loop-numbers-preserved c).After-used-fields).next c.put_line.new.text c.put_line.ensures)

pub returns : goal.returns
returns c =
    fill_end c.loop-numbers.invariant (omega (arith, c.as_chunks.ensures.front_len, c.loop-numbers-test.false))
