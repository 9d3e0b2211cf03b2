-- `followup::step_numbers` meets its contract: a law of `StepAt` for each return. Assumes nothing.
use mathlib.Core.Path.{refl, ap, ◌∙◌}
use lib.ListN.{length}
use Rattle.steps.specs.Showing.{shown_at}
use Rattle.followup.proofs.StepAt.{step_there, step_none}
use Rattle.followup.proofs.step_numbers.Goals as goal

pub returns-then-k-steps : goal.returns-then-k-steps
returns-then-k-steps c =
    let start = c.args in
    let five = c.five_at.ensures in
    (ap length five, ap (λ l. shown_at l 0) five ∙ step_there start.steps.now start.k c.if-k-steps.true)

pub returns : goal.returns
returns c = (refl, step_none c.args.steps.now c.args.k c.if-k-steps.false)
