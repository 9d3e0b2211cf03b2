-- `spread::spread` meets its contract. Assumes nothing.
use mathlib.Core.Path.{refl, sym, ◌∙◌}
use native.Mathlib.Omega.{arith}
use Rattle.judging.proofs.PassLaws.{calm_is, not_calm}
use Rattle.judging.proofs.RoundLaws.{height, nothing, settled, inside, again, endless, no_turn, some_turn}
use Rattle.judging.proofs.spread.spread.Goals as goal

pub loop-waiting-init : goal.loop-waiting-init
loop-waiting-init c = nothing c.requires.0.table_fits c.requires.0.closed c.requires.1 c.requires.2 c.first_waiting-waiting.ensures

pub returns-then-is_calm : goal.returns-then-is_calm
returns-then-is_calm c =
    settled c.requires.0.table_fits c.requires.0.closed c.loop-waiting.invariant c.sweep-last.ensures refl (calm_is c.sweep-last.result (sym c.is_calm.ensures ∙ c.if-is_calm.true))

pub back-turning-requires : goal.back-turning-requires
back-turning-requires c =
    let calm = not_calm c.sweep-last.result (sym c.is_calm.ensures ∙ c.if-is_calm.false) in
    inside c.requires.0.table_fits c.requires.0.closed c.loop-waiting.invariant c.sweep-last.ensures (λ z. omega arith) c.node.ensures

pub returns-then-is_some : goal.returns-then-is_some
returns-then-is_some c =
    let calm = not_calm c.sweep-last.result (sym c.is_calm.ensures ∙ c.if-is_calm.false) in
    endless c.requires.0.table_fits c.requires.0.closed c.loop-waiting.invariant c.sweep-last.ensures (λ z. omega arith) c.node.ensures c.back-turning.ensures
    (some_turn c.back-turning.result (sym c.is_some.ensures ∙ c.if-is_some.true))

pub loop-waiting-smaller : goal.loop-waiting-smaller
loop-waiting-smaller c =
    let calm = not_calm c.sweep-last.result (sym c.is_calm.ensures ∙ c.if-is_calm.false) in
    let next = again c.requires.0.table_fits c.requires.0.closed c.loop-waiting.invariant c.sweep-last.ensures (λ z. omega arith) c.node.ensures c.back-turning.ensures
    (no_turn c.back-turning.result (sym c.is_some.ensures ∙ c.if-is_some.false)) in
    let h = height next.live in
    let m = c.sweep-last.ensures.more (omega arith) in
    omega arith

pub loop-waiting-preserved : goal.loop-waiting-preserved
loop-waiting-preserved c =
    let calm = not_calm c.sweep-last.result (sym c.is_calm.ensures ∙ c.if-is_calm.false) in
    again c.requires.0.table_fits c.requires.0.closed c.loop-waiting.invariant c.sweep-last.ensures (λ z. omega arith) c.node.ensures c.back-turning.ensures
    (no_turn c.back-turning.result (sym c.is_some.ensures ∙ c.if-is_some.false))
