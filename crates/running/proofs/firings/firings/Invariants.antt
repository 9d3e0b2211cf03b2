-- `firings` meets its contract: the pairs of one rule are counted after those of the other. Assumes nothing.
use Prim.Native.Nat.{◌-◌}
use Rattle.running.proofs.CountLaws.{Totalling}
use Rattle.running.proofs.firings.firings.Given as goal

abbrev pub invariant-loop-r : goal.invariant-loop-r
invariant-loop-r l = Totalling l.table l.rows l.index l.rules l.count l.by l.n l.r

abbrev pub decreases-loop-r : goal.decreases-loop-r
decreases-loop-r l = l.rules - l.r
