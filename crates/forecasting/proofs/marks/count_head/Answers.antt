-- `forecasting::marks::count_head` counts the marks of an H line. The invariant: those passed are counted, each once. Assumes nothing.
use Rattle.forecasting.proofs.MarkLaws.{counted_few, head_more, head_over}
use Rattle.forecasting.proofs.marks.count_head.Goals as goal

pub with_mark-counts-requires : goal.with_mark-counts-requires
with_mark-counts-requires c = counted_few c.loop-mark.invariant.counted

pub loop-mark-preserved : goal.loop-mark-preserved
loop-mark-preserved c =
    head_more c.loop-mark.invariant c.loop-mark-test.true (rw c.marks_of-marks.ensures c.requires.1) c.with_mark-counts.ensures

pub returns : goal.returns
returns c = head_over c.loop-mark.invariant c.loop-mark-test.false c.marks_of-marks.ensures
