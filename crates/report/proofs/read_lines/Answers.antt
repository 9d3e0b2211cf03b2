-- `report::read_lines` meets its contract. Assumes nothing.
use mathlib.Core.Path.{sym, ap₂, ◌∙◌}
use Rattle.std.proofs.Common.{◌*◌, ◌≤◌, arith}
use borrow.Author.Rules.{rules}
use Rattle.patterns.specs.Outcome.{refused}
use Rattle.sheet.proofs.Counts.{read_counts}
use Rattle.report.proofs.Bounds.{read_refusal_small}
use Rattle.report.proofs.Reports.{read_good, read_refused}
use Rattle.report.proofs.read_lines.Goals as goal
use Rattle.report.proofs.read_lines.Goals.{In-Ok}

fits : (c : In-Ok) → 8 * c.in-Ok.count ≤ 13104
fits c = omega (arith, read_counts _ _ _ _ c.in-Ok.ensures, c.told-lines)

pub overflow_mul-result : goal.overflow_mul-result
overflow_mul-result c = let h = fits (goal.at.overflow_mul-result c).In-Ok in search rules

pub returns-in-Ok : goal.returns-in-Ok
returns-in-Ok c =
    let h = fits (goal.at.returns-in-Ok c).In-Ok in
    read_good _ _ _ c.told-lines _ c.in-Ok.ensures (omega (arith, h, c.told-lines, c.read.auto.lines))

pub returns-in-Err : goal.returns-in-Err
returns-in-Err c =
    let said = c.refusal_numbers.ensures in
    let unread = read_refused _ _ _ c.told-lines c.in-Err.refusal c.in-Err.ensures in
    let small = read_refusal_small _ 1638 _ _ (omega arith) unread in
    record { read = unread ∙ ap₂ refused (sym said.0) (sym said.1); number = omega (arith, said.0, small.0); line = omega (arith, said.1, small.1) }
