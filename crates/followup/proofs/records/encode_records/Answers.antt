-- `encode_records` meets its contract. The loop's invariant: the bytes of the first i records stand at the front. Assumes nothing.
use mathlib.Core.Path.{◌≡◌}
use native.Mathlib.Omega.{arith}
use Rattle.followup.proofs.ByteLaws.{filled_none}
use Rattle.followup.proofs.RecordBytes.{records_more, records_all}
use Rattle.followup.proofs.records.encode_records.Goals as goal

pub loop-i-init : goal.loop-i-init
loop-i-init c = (omega arith, filled_none _)

pub record_line-line-requires : goal.record_line-line-requires
record_line-line-requires c =
    let l = c.loop-i in
    (omega (arith, c.requires.0.few), omega (arith, c.requires.0.few, c.requires.0.room), c.requires.0.each l.i c.loop-i-test.true)

pub loop-i-preserved : goal.loop-i-preserved
loop-i-preserved c =
    let l = c.loop-i in
    (omega arith, records_more c.args.rows.now c.args.bytes.now l.i c.record_line-line.result (omega (arith, c.requires.1)) c.record_line-line.ensures l.invariant.1 c.encode_u32.ensures)

pub shape_of-bytes : goal.shape_of-bytes
shape_of-bytes c = c.loop-i.invariant.1.size

pub returns : goal.returns
returns c =
    let l = c.loop-i in
    let e : l.i ≡ c.args.count = omega arith in
    rw e at (records_all c.args.rows.now c.args.bytes.now l.i l.invariant.1)
