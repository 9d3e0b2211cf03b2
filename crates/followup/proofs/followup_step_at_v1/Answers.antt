-- `followup::followup_step_at_v1` meets its contract: the step of the five numbers is that of the bytes. Assumes nothing.
use mathlib.Core.Path.{ap, ◌∙◌}
use Rattle.followup.specs.Reply.{step_reply}
use Rattle.followup.proofs.followup_step_at_v1.Goals as goal

pub returns : goal.returns
returns c = ap step_reply (c.shown_at-shown.ensures ∙ c.step_numbers-numbers.ensures.1)
