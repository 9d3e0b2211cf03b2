-- `fresh::fresh_kinds` meets its contract: the kinds of the rules passed have their 1. Assumes nothing.
use native.Mathlib.Omega.{arith}
use Rattle.judging.proofs.FreshLaws.{kinds_same, kinds_more}
use Rattle.judging.proofs.KindLaws.{kind_low}
use Rattle.judging.proofs.fresh.fresh_kinds.Goals as goal
use Rattle.judging.proofs.fresh.fresh_kinds.Goals.{then-rule_fresh, else-rule_fresh}

pub bounds-kinds-kind : goal.bounds-kinds-kind
bounds-kinds-kind c =
    let k = kind_low c.requires c.loop-r.r c.loop-r-test.true in
    let e = c.rule_byte-kind.ensures.0 in omega arith

pub loop-r-preserved : goal.loop-r-preserved
loop-r-preserved c =
    let t = c.loop-r-test.true in
    let k = kind_low c.requires c.loop-r.r t in
    elim c.if-rule_fresh.branch [
      | then-rule_fresh w ↦
          let e = w.rule_byte-kind.ensures.0 in
          rw w.kinds-is (kinds_more c.loop-r.invariant w.rule_byte-kind.result e (omega arith))
      | else-rule_fresh w ↦ rw w.kinds-is (kinds_same c.loop-r.invariant (rw w.if-rule_fresh.false at c.rule_fresh.ensures))
    ]
