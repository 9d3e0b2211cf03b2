-- `listing::list_lines` meets its contract: each answer of carrying out has columns and is put. Assumes nothing.
use mathlib.Core.Path.{◌≡◌, refl, ap₂, ◌∙◌}
use Rattle.std.proofs.Common.{Ok}
use native.Mathlib.Omega.{arith}
use Rattle.report.specs.Report.{refusal_text}
use Rattle.report.proofs.Reports.{filled_by, refusal-filled, refusal-put}
use Rattle.listing.proofs.ListLaws.{out_sheet, out_printable, out_firings, out_carries, refusal_small, refused_carries}
use Rattle.listing.proofs.list_lines.Goals as goal
use Rattle.listing.proofs.list_lines.Goals.{After-put_refusal}

pub kind_widths-widths-requires : goal.kind_widths-widths-requires
kind_widths-widths-requires c = out_sheet c.in-Ok.ensures

pub fill_totals-requires : goal.fill_totals-requires
fill_totals-requires c =
    let out = c.in-Ok.ensures in (out_printable out _ c.kind_widths-widths.ensures, out_firings out, c.requires.1)

pub returns-in-Ok : goal.returns-in-Ok
returns-in-Ok c =
    filled_by _ _ _ (out_carries c.in-Ok.ensures _ c.kind_widths-widths.ensures refl) c.fill_totals.ensures

-- the refusal, which has its 20 bytes of room
refusal : (c : After-put_refusal) → c.put_refusal.result ≡ Ok 20
refusal c =
    let said = c.refusal_numbers-said.ensures in
    let small = refusal_small _ _ _ _ c.requires.0 c.in-Err.ensures.0 in
    refusal-put _ _ _ _ _ c.put_refusal.ensures (omega (arith, said.0, small.0)) (omega (arith, said.1, small.1)) (omega (arith, c.requires.1))

pub unwrap-requires : goal.unwrap-requires
unwrap-requires c = rw (refusal (goal.at.unwrap-requires c).After-put_refusal) refl

pub returns-in-Err : goal.returns-in-Err
returns-in-Err c =
    let said = c.refusal_numbers-said.ensures in
    let small = refusal_small _ _ _ _ c.requires.0 c.in-Err.ensures.0 in
    let twenty : c.unwrap.result ≡ 20 = cc (refusal (goal.at.returns-in-Err c).After-put_refusal) in
    rw twenty (filled_by _ _ _ (λ p e. refused_carries _ _ _ _ c.carry_out.new.records refl c.in-Err.ensures p (e ∙ ap₂ refusal_text said.0 said.1))
    (refusal-filled _ _ _ _ _ c.put_refusal.ensures (omega (arith, said.0, small.0)) (omega (arith, said.1, small.1)) (omega (arith, c.requires.1))))
