-- `visit_rule` meets its contract. Assumes nothing.
use mathlib.Core.Path.{subst}
use Rattle.rules.specs.Inner.Tests.{Decides}
use Rattle.carrying.specs.Carrying.{FiresOn}
use Rattle.running.specs.Inner.Firing.{rule_at, row_no}
use Rattle.running.proofs.FiringLaws.{stored_record}
use Rattle.running.specs.Inner.Visits.{keep_in}
use Rattle.running.proofs.VisitLaws.{over_as, left_fires, left_idle}
use Rattle.running.proofs.visits.visit_rule.Goals as goal

pub fires-requires : goal.fires-requires
fires-requires c =
    (stored_record c.requires.0.stored c.args.i c.requires.3, (c.requires.1.ready c.args.r c.requires.2).fits, c.requires.2)

pub fire_rule-requires : goal.fire_rule-requires
fire_rule-requires c =
    (c.requires.0, c.requires.1, c.requires.2, c.requires.3, subst (Decides (FiresOn (rule_at c.args.table.now c.args.r) (row_no c.args.rows.now c.args.i))) c.if-fires.true c.fires.ensures)

pub returns-then-fires : goal.returns-then-fires
returns-then-fires c =
    over_as c.fire_rule.result (λ d l. left_fires c.requires.0 (keep_in c.args.fresh.now c.args.r) c.args.r c.args.i (subst (Decides (FiresOn (rule_at c.args.table.now c.args.r) (row_no c.args.rows.now c.args.i))) c.if-fires.true c.fires.ensures) l) c.fire_rule.ensures

pub returns : goal.returns
returns c =
    (c.requires.0.stored.few, left_idle c.requires.0 (keep_in c.args.fresh.now c.args.r) c.args.r c.args.i (subst (Decides (FiresOn (rule_at c.args.table.now c.args.r) (row_no c.args.rows.now c.args.i))) c.if-fires.false c.fires.ensures))
