-- `forecasting::values::Values::add_all` meets its contract. The invariant: the values passed are added. Assumes nothing.
use native.Mathlib.Omega.{arith}
use mathlib.Core.Path.{sym, ap, ◌∙◌}
use lib.ListN.{length, take, length-take}
use Rattle.std.proofs.Math.Decide.{ℕ_discrete}
use Rattle.patterns.specs.Pattern.{add}
use Rattle.patterns.proofs.PatternLaws.{length-add_all}
use Rattle.forecasting.proofs.ValueLaws.{add_all_more}
use Rattle.forecasting.proofs.values.Values.add_all.Goals as goal

pub add-requires : goal.add-requires
add-requires c =
    let at = c.loop-x in
    let passed = take at.x-index c.args.row.now in
    omega (arith, c.requires, ap length at.invariant, length-add_all ℕ_discrete passed c.args.self.now, length-take at.x-index c.args.row.now)

pub loop-x-preserved : goal.loop-x-preserved
loop-x-preserved c =
    let at = c.loop-x in
    c.add.ensures ∙ ap (add ℕ_discrete _) at.invariant ∙ sym (add_all_more c.args.row.now at.x-index c.args.self.now c.loop-x-test.true)
