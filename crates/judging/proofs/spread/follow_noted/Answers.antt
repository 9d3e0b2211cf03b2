-- `spread::follow_noted` meets its contract. Assumes nothing.
use native.Mathlib.Omega.{arith}
use Rattle.judging.proofs.PassLaws.{next, whole}
use Rattle.judging.proofs.spread.follow_noted.Goals as goal

pub loop-note-preserved : goal.loop-note-preserved
loop-note-preserved c = next c.loop-note.invariant c.follow_note-last.ensures

pub returns : goal.returns
returns c = whole c.loop-note.invariant (omega arith) (omega arith)
