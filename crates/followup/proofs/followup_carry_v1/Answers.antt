-- `followup::followup_carry_v1` meets its contract: laws of `RecordBytes` for too little room and for lines that are looked at in part. Assumes nothing.
use native.Mathlib.Omega.{arith}
use Rattle.followup.proofs.RecordBytes.{carries_short, carries_truncated}
use Rattle.followup.proofs.followup_carry_v1.Goals as goal

pub returns-then-records-lt32768 : goal.returns-then-records-lt32768
returns-then-records-lt32768 c =
    carries_short c.args.lines.now c.args.records.now c.not_carried.result (λ i. omega (arith, c.type_inv.records i)) (omega (arith, c.if-records-lt32768.true)) c.not_carried.ensures

pub returns : goal.returns
returns c =
    let w = c.with_numbers.ensures in
    carries_truncated _ c.args.lines.now c.args.records.now c.with_numbers.result _ w.gives (rw (w.lends, w.leaves) at w.met)
