-- `followup::followup_judge_v1` meets its contract: laws of `StepBytes` for too few steps and for lines that are looked at in part. Assumes nothing.
use native.Mathlib.Omega.{arith}
use Rattle.followup.proofs.StepBytes.{judges_short, judges_truncated}
use Rattle.followup.proofs.followup_judge_v1.Goals as goal

pub returns-then-steps-lt20480 : goal.returns-then-steps-lt20480
returns-then-steps-lt20480 c =
    let a = c.args in
    judges_short a.lines.now a.steps.now c.no_judgement.result (λ i. omega (arith, c.type_inv.steps i)) (omega (arith, c.if-steps-lt20480.true))
    c.no_judgement.ensures

pub returns : goal.returns
returns c =
    let w = c.with_numbers.ensures in
    judges_truncated _ c.args.lines.now c.args.steps.now c.with_numbers.result _ w.gives (rw (w.lends, w.leaves) at w.met)
