-- `followup::judge_numbers` meets its contract: a law of `StepBytes` for what judging answers. Assumes nothing.
use Prim.Native.Nat.{ℕ, ◌+◌, ◌≤◌}
use native.Mathlib.Omega.{arith}
use lib.ListN.{replicate, length-replicate}
use Rattle.judging.specs.Answer.{judge_says}
use Rattle.followup.proofs.StepBytes.{judges, steps_few}
use Rattle.followup.proofs.judge_numbers.Goals as goal
use Rattle.followup.proofs.judge_numbers.Goals.{After-judge_reply-said}

-- the steps that are counted
few : (c : After-judge_reply-said) → c.judge_reply-said.result.trail + c.judge_reply-said.result.loop_steps ≤ 4096
few c = steps_few c.args.numbers.now (replicate 20480 0) c.judge.new.steps (judge_says c.judge.result) c.judge_reply-said.result c.judge.ensures c.judge_reply-said.ensures

pub overflow_mul-said : goal.overflow_mul-said
overflow_mul-said c = omega (arith, few (goal.at.overflow_mul-said c).After-judge_reply-said)

pub overflow_mul-said-2 : goal.overflow_mul-said-2
overflow_mul-said-2 c = omega (arith, few (goal.at.overflow_mul-said-2 c).After-judge_reply-said)

pub overflow_add-said : goal.overflow_add-said
overflow_add-said c = omega (arith, few (goal.at.overflow_add-said c).After-judge_reply-said)

pub encode_u16-requires : goal.encode_u16-requires
encode_u16-requires c =
    (omega (arith, few (goal.at.encode_u16-requires c).After-judge_reply-said, c.judge.auto.steps, length-replicate {A = ℕ} 20480 0), omega (arith, few (goal.at.encode_u16-requires c).After-judge_reply-said, c.requires))

pub returns : goal.returns
returns c =
    judges c.args.numbers.now c.args.steps.now (λ i. omega (arith, c.slice_known-1.given i)) c.requires (replicate 20480 0) _ (judge_says c.judge.result) c.judge_reply-said.result
    (omega arith) c.judge.ensures c.judge_reply-said.ensures c.encode_u16.ensures
