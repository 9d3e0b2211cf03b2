-- `followup::followup_judge_text_v1` meets its contract: with too few steps by a law of `StepBytes`. Assumes nothing.
use native.Mathlib.Omega.{arith}
use Rattle.followup.proofs.StepBytes.{text_short}
use Rattle.followup.proofs.followup_judge_text_v1.Goals as goal

pub returns-then-steps-lt40960 : goal.returns-then-steps-lt40960
returns-then-steps-lt40960 c =
    let a = c.args in
    text_short a.text.now a.steps.now c.no_judgement.result (λ i. omega (arith, c.type_inv.steps i)) (omega (arith, c.if-steps-lt40960.true))
    c.no_judgement.ensures
