-- `judging::kinds::by_kind` puts the rules by their kinds. The invariant: those from rule `r` on are put. Assumes nothing.
use Prim.Native.Nat.{ℕ, ◌-◌, ◌≤◌}
use native.Mathlib.Omega.{arith}
use lib.ListN.{length-replicate, get_or-replicate}
use Rattle.judging.proofs.KindLaws.{kind_low, linked_none, linked_more}
use Rattle.judging.proofs.kinds.by_kind.Goals as goal
use Rattle.judging.proofs.kinds.by_kind.Goals.{After-rule_byte-kind}

-- The kind of the rule that is put.
kind : (c : After-rule_byte-kind) → c.rule_byte-kind.result ≤ 64
kind c =
    let l = c.loop-r in
    let low = l.invariant.low in
    let t = c.loop-r-test.true in
    let k = kind_low c.requires (l.r - 1) (omega arith) in
    let e = c.rule_byte-kind.ensures.0 in omega arith

pub loop-r-init : goal.loop-r-init
loop-r-init c = linked_none (length-replicate {A = ℕ} 321 c.args.rules) (λ i l. get_or-replicate {A = ℕ} 321 i c.args.rules 0 l)

pub loop-r-preserved : goal.loop-r-preserved
loop-r-preserved c =
    let l = c.loop-r in
    let t = c.loop-r-test.true in
    linked_more l.invariant (l.r - 1) c.rule_byte-kind.result (omega arith) c.requires.few c.rule_byte-kind.ensures.0 (kind (goal.at.loop-r-preserved c).After-rule_byte-kind)
