-- `report::report_lines` meets its contract: each answer of judging has columns and is put. Assumes nothing.
use mathlib.Core.Path.{◌≡◌, refl, ap₂, ◌∙◌}
use Rattle.std.proofs.Common.{Ok}
use native.Mathlib.Omega.{arith}
use lib.ListN.{replicate}
use Rattle.chase.specs.Judge.{judged, refuses, JudgeMeets, shape_limit}
use Rattle.judging.specs.Answer.{verdict_of, judge_refusal_number, judge_refusal_line}
use Rattle.report.specs.Report.{refusal_text}
use Rattle.report.proofs.Bounds.{figures_in_range, refusal_small}
use Rattle.report.proofs.Reports.{filled_by, judges, refusal-filled, refusal-put}
use Rattle.report.proofs.report_lines.Goals as goal
use Rattle.report.proofs.report_lines.Goals.{In-Ok-Settles, In-Ok-Endless, After-put_refusal}

-- what `judge` answers, by cases
settled : (c : In-Ok-Settles) → JudgeMeets shape_limit c.args.lines.now (replicate 20480 0) (judged (verdict_of 1 c.in-Ok-Settles.f)) c.judge.new.steps
settled c = rw c.in-Ok-Settles.field-0-is at c.in-Ok-Settles.ensures

endless : (c : In-Ok-Endless) → JudgeMeets shape_limit c.args.lines.now (replicate 20480 0) (judged (verdict_of 2 c.in-Ok-Endless.f)) c.judge.new.steps
endless c = rw c.in-Ok-Endless.field-0-is at c.in-Ok-Endless.ensures

pub fill_verdict-requires : goal.fill_verdict-requires
fill_verdict-requires c =
    let out = settled (goal.at.fill_verdict-requires c).In-Ok-Settles in
    (figures_in_range _ _ (verdict_of 1 c.in-Ok-Settles.f) _ c.requires.0 out.1, out.1.room, omega (arith, c.judge.auto.steps), c.requires.1)

pub fill_verdict-requires-in-Ok-Endless : goal.fill_verdict-requires-in-Ok-Endless
fill_verdict-requires-in-Ok-Endless c =
    let out = endless (goal.at.fill_verdict-requires-in-Ok-Endless c).In-Ok-Endless in
    (figures_in_range _ _ (verdict_of 2 c.in-Ok-Endless.f) _ c.requires.0 out.1, out.1.room, omega (arith, c.judge.auto.steps), c.requires.1)

pub returns-in-Ok-Settles : goal.returns-in-Ok-Settles
returns-in-Ok-Settles c =
    filled_by _ _ _ (judges _ _ (judged (verdict_of 1 c.in-Ok-Settles.f)) _ refl (settled (goal.at.returns-in-Ok-Settles c).In-Ok-Settles)) c.fill_verdict.ensures

pub returns-in-Ok-Endless : goal.returns-in-Ok-Endless
returns-in-Ok-Endless c =
    filled_by _ _ _ (judges _ _ (judged (verdict_of 2 c.in-Ok-Endless.f)) _ refl (endless (goal.at.returns-in-Ok-Endless c).In-Ok-Endless))
    c.fill_verdict-in-Ok-Endless.ensures

-- the refusal, which has its 20 bytes of room
refusal : (c : After-put_refusal) → c.put_refusal.result ≡ Ok 20
refusal c =
    let said = c.refusal_numbers-said.ensures in
    let small = refusal_small _ _ _ _ c.requires.0 c.in-Err.ensures.0 in
    refusal-put _ _ _ _ _ c.put_refusal.ensures (omega (arith, said.0, small.0)) (omega (arith, said.1, small.1)) (omega (arith, c.requires.1))

pub unwrap-requires : goal.unwrap-requires
unwrap-requires c = rw (refusal (goal.at.unwrap-requires c).After-put_refusal) refl

pub returns-in-Err : goal.returns-in-Err
returns-in-Err c =
    let said = c.refusal_numbers-said.ensures in
    let small = refusal_small _ _ _ _ c.requires.0 c.in-Err.ensures.0 in
    let twenty : c.unwrap.result ≡ 20 = cc (refusal (goal.at.returns-in-Err c).After-put_refusal) in
    rw twenty (filled_by _ _ _
    (λ p e. judges _ _ (refuses (judge_refusal_number c.in-Err.refusal) (judge_refusal_line c.in-Err.refusal)) c.judge.new.steps refl
    c.in-Err.ensures p (e ∙ ap₂ refusal_text said.0 said.1))
    (refusal-filled _ _ _ _ _ c.put_refusal.ensures (omega (arith, said.0, small.0)) (omega (arith, said.1, small.1)) (omega (arith, c.requires.1))))
