-- `judging::shape::next_fire` meets its contract. The loop's invariant: none of the rules after place `p` up to `q` fires. Assumes nothing.
use Prim.Native.Nat.{◌-◌}
use Rattle.judging.proofs.KindLaws.{Passed}
use Rattle.judging.proofs.shape.next_fire.Given as goal

abbrev pub invariant-loop-q : goal.invariant-loop-q
invariant-loop-q l = Passed l.table l.rules (l.p - 64) l.kind l.digits l.q

abbrev pub decreases-loop-q : goal.decreases-loop-q
decreases-loop-q l = l.rules - l.q
