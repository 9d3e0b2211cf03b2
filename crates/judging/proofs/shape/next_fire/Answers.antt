-- `judging::shape::next_fire` meets its contract. The loop's invariant: none of the rules after place `p` up to `q` fires. Assumes nothing.
use mathlib.Core.Path.{sym, subst}
use Prim.Native.Nat.{◌+◌, ◌-◌}
use Rattle.judging.specs.Inner.Firing.{kind_byte, NextOf}
use Rattle.judging.proofs.KindLaws.{place_next, passed_first, passed_next}
use Rattle.judging.proofs.shape.next_fire.Goals as goal
use Rattle.judging.proofs.shape.next_fire.Goals.{After-from-q-in-loop-q}

-- What is read is the next rule of the kind of rule `q`.
next : (c : After-from-q-in-loop-q)
    → NextOf c.args.table.now c.args.rules
    (c.loop-q.q + 1)
    (kind_byte c.args.table.now c.loop-q.q) c.from-q-in-loop-q.result
next c =
    let q = c.loop-q.q in
    subst (NextOf c.args.table.now c.args.rules (q + 1) (kind_byte c.args.table.now q)) (sym c.from-q-in-loop-q.ensures)
    (c.requires.1.next q c.loop-q-test.true)

pub loop-q-init : goal.loop-q-init
loop-q-init c =
    passed_first c.requires.0 (subst (NextOf c.args.table.now c.args.rules (c.args.p - 64) c.args.kind) (sym c.from-q.ensures) (place_next c.requires.1 c.requires.2))

pub loop-q-preserved : goal.loop-q-preserved
loop-q-preserved c =
    passed_next c.requires.0 c.loop-q.invariant c.loop-q-test.true
    (rw c.if-fires.false at c.fires.ensures) (next (goal.at.loop-q-preserved c).After-from-q-in-loop-q)
