-- `record_line` meets its contract: a law of `RecordBytes`. Assumes nothing.
use Rattle.followup.proofs.RecordBytes.{record-line}
use Rattle.followup.proofs.records.record_line.Goals as goal

pub returns : goal.returns
returns c =
    record-line c.args.rows.now c.args.i c.requires.2
