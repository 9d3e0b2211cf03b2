-- `pairs::bucket` meets its contract: the values at the first places of the carried marks are mixed, place by place. Assumes nothing.
use mathlib.Core.Path.{◌≡◌, ◌∙◌}
use Prim.Native.Nat.{◌<◌}
use native.Mathlib.Omega.{arith}
use Rattle.rules.specs.Table.{source_at}
use Rattle.rules.proofs.RuleLaws.{row_fits}
use Rattle.running.specs.Inner.Held.{row_at}
use Rattle.running.specs.Inner.Firing.{rule_at}
use Rattle.running.proofs.HashLaws.{bucket_small}
use Rattle.running.proofs.PairLaws.{mixing_begun, mixing_more, mixing_done}
use Rattle.running.proofs.pairs.bucket.Goals as goal
use Rattle.running.proofs.pairs.bucket.Goals.{After-rule_byte-source}

source : (c : After-rule_byte-source) → c.loop-p.p < 7
    → c.rule_byte-source.result ≡ source_at (rule_at c.args.table.now c.args.r) c.loop-p.p
source c l =
    c.rule_byte-source.ensures.0 ∙ (row_fits c.args.table.now c.args.rules c.args.r c.requires.1 c.requires.2).fits.sources c.loop-p.p (omega arith)

pub loop-p-init : goal.loop-p-init
loop-p-init c =
    let a = c.args in
    mixing_begun a.by (rule_at a.table.now a.r) (row_at a.rows.now a.i) a.r c.mix-h.result c.mix-h.ensures.0 c.mix-h.ensures.1

pub loop-p-preserved : goal.loop-p-preserved
loop-p-preserved c =
    let l = c.loop-p-test.true in
    mixing_more c.loop-p.invariant l c.rule_byte-source.result c.cell.result c.mix_where-h.result (source (goal.at.loop-p-preserved c).After-rule_byte-source l) c.cell.ensures.0 c.mix_where-h.ensures.0 c.mix_where-h.ensures.1

pub returns : goal.returns
returns c = (mixing_done c.loop-p.invariant c.loop-p-test.false, bucket_small c.loop-p.h c.loop-p.invariant.small)
