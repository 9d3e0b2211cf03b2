-- `explanation::explanation_lines` meets its contract: the sentences stand in the text, or the refusal is put. Assumes nothing.
use mathlib.Core.Path.{◌≡◌, refl, ap, ap₂, ◌∙◌}
use lib.ListN.{length}
use Rattle.std.proofs.Common.{Ok}
use mathlib.Core.List.{List}
use Prim.Native.Nat.{ℕ}
use native.Mathlib.Omega.{arith}
use Rattle.report.specs.Report.{refusal_text}
use Rattle.report.proofs.Reports.{filled_by, refusal-filled, refusal-put}
use Rattle.explanation.specs.Explanation.{Tells}
use Rattle.explanation.proofs.ExplanationLaws.{sentences-filled, refusal-number, refusal-line}
use Rattle.explanation.proofs.explanation_lines.Goals as goal
use Rattle.explanation.proofs.explanation_lines.Goals.{After-put_refusal}

pub returns-in-Ok : goal.returns-in-Ok
returns-in-Ok c = sentences-filled _ _ _ _ c.in-Ok.ensures

-- the refusal, which has its 20 bytes of room
refusal : (c : After-put_refusal) → c.put_refusal.result ≡ Ok 20
refusal c =
    let said = c.refusal_numbers-said.ensures in
    let refused = c.in-Err.ensures in
    refusal-put _ _ _ _ _ c.put_refusal.ensures (omega (arith, said.0, refusal-number _ _ _ _ refused.0)) (omega (arith, said.1, refusal-line _ _ _ _ c.requires.0 refused.0)) (omega (arith, c.requires.1))

pub unwrap-requires : goal.unwrap-requires
unwrap-requires c = rw (refusal (goal.at.unwrap-requires c).After-put_refusal) refl

pub returns-in-Err : goal.returns-in-Err
returns-in-Err c =
    let said = c.refusal_numbers-said.ensures in
    let refused = c.in-Err.ensures in
    let text : List ℕ = c.args.text.now in
    let twenty : c.unwrap.result ≡ 20 = cc (refusal (goal.at.returns-in-Err c).After-put_refusal) in
    let filled = refusal-filled _ _ _ _ _ c.put_refusal.ensures (omega (arith, said.0, refusal-number _ _ _ _ refused.0)) (omega (arith, said.1, refusal-line _ _ _ _ c.requires.0 refused.0)) (omega (arith, c.requires.1, ap length refused.1)) in
    rw twenty (filled_by text _ _ (λ p e. Tells.unexplained text _ _ c.requires.1 refused.0 (e ∙ ap₂ refusal_text said.0 said.1))
    (rw refused.1 at filled))
