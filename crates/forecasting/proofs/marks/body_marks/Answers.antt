-- `forecasting::marks::body_marks` marks the marks of the B line. The invariant: what is said of the marks passed is so. Assumes nothing.
use Rattle.forecasting.proofs.MarkLaws.{body_more}
use Rattle.forecasting.proofs.marks.body_marks.Goals as goal

pub loop-mark-preserved : goal.loop-mark-preserved
loop-mark-preserved c = body_more c.loop-mark.invariant c.loop-mark-test.true (rw c.marks_of-marks.ensures c.requires.1)
