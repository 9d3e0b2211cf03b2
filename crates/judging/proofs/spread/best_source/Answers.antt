-- `spread::best_source` meets its contract. Assumes nothing.
use mathlib.Core.Path.{◌∙◌}
use native.Mathlib.Omega.{arith}
use Rattle.judging.proofs.PassLaws.{among_same}
use Rattle.judging.proofs.spread.best_source.Goals as goal

pub loop-p-preserved : goal.loop-p-preserved
loop-p-preserved c =
    let b = c.rule_byte.ensures.0 in
    let i = c.loop-p.invariant in
    among_same _ i (omega arith) (λ z. absurd (c.if-rule_byte-eq1.false (b ∙ z)))
