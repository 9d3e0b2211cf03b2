-- `judging::kinds::by_kind` puts the rules by their kinds. The invariant: those from rule `r` on are put. Assumes nothing.
use Rattle.judging.proofs.KindLaws.{Linked}
use Rattle.judging.proofs.kinds.by_kind.Given as goal

abbrev pub invariant-loop-r : goal.invariant-loop-r
invariant-loop-r l = Linked l.table l.rules l.kinds l.r
