-- `same` meets its contract: the values at the first places of the carried marks are compared, place by place. Assumes nothing.
use mathlib.Core.Path.{◌≡◌, ◌∙◌, subst}
use Prim.Native.Nat.{◌<◌}
use native.Mathlib.Omega.{arith}
use Rattle.rules.specs.Table.{source_at}
use Rattle.rules.specs.Inner.Tests.{Decides}
use Rattle.rules.proofs.RuleLaws.{row_fits}
use Rattle.running.specs.Inner.Held.{row_at}
use Rattle.running.specs.Inner.Firing.{rule_at}
use Rattle.running.proofs.PairLaws.{same_begun, same_more, same_done, same_not}
use Rattle.running.proofs.pairs.same.Goals as goal
use Rattle.running.proofs.pairs.same.Goals.{After-rule_byte-source}

source : (c : After-rule_byte-source) → c.loop-p.p < 7
    → c.rule_byte-source.result ≡ source_at (rule_at c.args.table.now c.args.r) c.loop-p.p
source c l =
    c.rule_byte-source.ensures.0 ∙ (row_fits c.args.table.now c.args.rules c.args.r c.requires.2 c.requires.3).fits.sources c.loop-p.p (omega arith)

pub loop-p-init : goal.loop-p-init
loop-p-init c =
    let a = c.args in
    same_begun (rule_at a.table.now a.r) (row_at a.rows.now a.i) (row_at a.rows.now a.j)

pub returns-then-differ : goal.returns-then-differ
returns-then-differ c =
    let l = c.loop-p-test.true in
    same_not c.loop-p.p c.rule_byte-source.result c.cell.result c.cell-in-loop-p.result c.loop-p.invariant.low l (source (goal.at.returns-then-differ c).After-rule_byte-source l)
    c.cell.ensures.0 c.cell-in-loop-p.ensures.0
    (subst (Decides ((c.rule_byte-source.result ≡ 1) × (c.cell.result ≡ c.cell-in-loop-p.result → ⊥))) c.if-differ.true c.differ.ensures)

pub loop-p-preserved : goal.loop-p-preserved
loop-p-preserved c =
    let l = c.loop-p-test.true in
    same_more c.loop-p.invariant l c.rule_byte-source.result c.cell.result c.cell-in-loop-p.result (source (goal.at.loop-p-preserved c).After-rule_byte-source l) c.cell.ensures.0 c.cell-in-loop-p.ensures.0
    (subst (Decides ((c.rule_byte-source.result ≡ 1) × (c.cell.result ≡ c.cell-in-loop-p.result → ⊥))) c.if-differ.false c.differ.ensures)

pub returns : goal.returns
returns c = same_done c.loop-p.invariant c.loop-p-test.false
