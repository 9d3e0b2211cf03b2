-- `outlook::outlook_lines` meets its contract: each answer of the forecast is put. Assumes nothing.
use mathlib.Core.Path.{◌≡◌, refl, ap₂, ◌∙◌}
use Rattle.std.proofs.Common.{Ok}
use native.Mathlib.Omega.{arith}
use Rattle.growth.specs.Contract.{foretold, refuses}
use Rattle.forecasting.specs.Answer.{figures_of, forecast_refusal_number, forecast_refusal_line}
use Rattle.report.specs.Report.{refusal_text}
use Rattle.report.proofs.Reports.{filled_by, refusal-filled, refusal-put}
use Rattle.outlook.proofs.OutlookLaws.{refusal_small}
use Rattle.outlook.proofs.outlook_lines.Goals as goal
use Rattle.outlook.proofs.outlook_lines.Goals.{After-put_refusal}

pub returns-in-Ok : goal.returns-in-Ok
returns-in-Ok c =
    filled_by _ _ _ (λ p e. record { answer = foretold (figures_of c.in-Ok.figures); meets = c.in-Ok.ensures; text = e }) c.fill_figures.ensures

-- the refusal, which has its 20 bytes of room
refusal : (c : After-put_refusal) → c.put_refusal.result ≡ Ok 20
refusal c =
    let said = c.refusal_numbers-said.ensures in
    let small = refusal_small _ _ _ c.requires.0 c.in-Err.ensures in
    refusal-put _ _ _ _ _ c.put_refusal.ensures (omega (arith, said.0, small.0)) (omega (arith, said.1, small.1)) (omega (arith, c.requires.1))

pub unwrap-requires : goal.unwrap-requires
unwrap-requires c = rw (refusal (goal.at.unwrap-requires c).After-put_refusal) refl

pub returns-in-Err : goal.returns-in-Err
returns-in-Err c =
    let said = c.refusal_numbers-said.ensures in
    let small = refusal_small _ _ _ c.requires.0 c.in-Err.ensures in
    let answer = refuses (forecast_refusal_number c.in-Err.refusal) (forecast_refusal_line c.in-Err.refusal) in
    let twenty : c.unwrap.result ≡ 20 = cc (refusal (goal.at.returns-in-Err c).After-put_refusal) in
    rw twenty (filled_by _ _ _ (λ p e. record { answer = answer; meets = c.in-Err.ensures; text = e ∙ ap₂ refusal_text said.0 said.1 })
    (refusal-filled _ _ _ _ _ c.put_refusal.ensures (omega (arith, said.0, small.0)) (omega (arith, said.1, small.1)) (omega (arith, c.requires.1))))
