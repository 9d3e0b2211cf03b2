-- `notes::note_shape` meets its contract. Each loop keeps that the firings of the rules, or H lines, so far were noted; a rule that is come to fires. Assumes nothing.
use Prim.Native.Nat.{◌+◌}
use native.Mathlib.Omega.{arith}
use Rattle.judging.proofs.KindLaws.{first-place, fired-place, fire_from}
use Rattle.judging.proofs.SearchLaws.{trying}
use Rattle.judging.proofs.NoteLaws.{filling_begun, filling-next, filling_rule, filling_there, filling_note, heads_few}
use Rattle.judging.proofs.notes.note_shape.Goals as goal

pub next_fire-next-requires : goal.next_fire-next-requires
next_fire-next-requires c =
    let l = c.requires.2 in (c.requires.0, c.requires.5, first-place _ (omega arith), (trying c.args.shape _ c.requires.3 c.digits-digits.ensures).digits_fit)

pub loop-next-init : goal.loop-next-init
loop-next-init c =
    let l = c.requires.2 in
    let f = fire_from 0 (omega arith) c.next_fire-next.ensures.fire in
    let on = trying c.args.shape _ c.requires.3 c.digits-digits.ensures in
    (c.next_fire-next.ensures.low, f.fires, on, filling-next (filling_begun c.requires.6) on f)

pub note-requires : goal.note-requires
note-requires c =
    let i = c.loop-h.invariant in
    let x = i.5 in
    let few = c.requires.0.few in
    let low = i.2 in
    let up = i.0 in
    let e = i.1 in
    let t = c.loop-h-test.true in
    let four = heads_few c.requires.0 low in
    (omega arith, filling_there x c.requires.0 c.requires.4 i.4 low (omega arith) i.3 c.made-code.ensures)

pub loop-h-preserved : goal.loop-h-preserved
loop-h-preserved c =
    let i = c.loop-h.invariant in
    let e = i.1 in
    let t = c.loop-h-test.true in (
      omega arith,
      i.1,
      i.2,
      i.3,
      i.4,
      filling_note i.5 c.requires.0 c.requires.4 i.4 i.2 (omega arith) i.3 c.made-code.ensures c.note.ensures,
    )

pub next_fire-next-requires-in-Some : goal.next_fire-next-requires-in-Some
next_fire-next-requires-in-Some c =
    let i = c.loop-h.invariant in
    (c.requires.0, c.requires.5, fired-place _ _ i.4.kind_is i.3 i.2, i.4.digits_fit)

pub loop-next-preserved : goal.loop-next-preserved
loop-next-preserved c =
    let i = c.loop-h.invariant in
    let f = fire_from (c.in-Some.r + 1) (omega arith) c.next_fire-next-in-Some.ensures.fire in
    let e = i.1 in
    let up = i.0 in
    let l = c.loop-h-test.false in
    let four = heads_few c.requires.0 i.2 in
    (c.next_fire-next-in-Some.ensures.low, f.fires, i.4, filling-next (filling_rule i.5 (omega arith) (omega arith)) i.4 f)
