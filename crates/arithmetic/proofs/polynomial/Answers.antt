-- `polynomial` meets its contract: the value of the coefficients passed, the last first. Assumes nothing.
use mathlib.Core.Path.{ap, ◌∙◌}
use Prim.Native.Nat.{ℕ, ◌+◌}
use Rattle.arithmetic.specs.Capped.{capped}
use Rattle.arithmetic.proofs.CappedLaws.{valued_none, valued_more, valued_all}
use Rattle.arithmetic.proofs.polynomial.Goals as goal

pub loop-coefficient-init : goal.loop-coefficient-init
loop-coefficient-init c = valued_none _ _ _ (ap (λ i. i.iter.rest.now) c.into_iter-coefficient-iterator.ensures.into_iter_gives ∙ ap (λ i. i.rest.now) c.rev-coefficient-items.ensures.source ∙ c.iter.ensures.rest)

pub loop-coefficient-preserved : goal.loop-coefficient-preserved
loop-coefficient-preserved c =
    valued_more _ _ _ c.loop-coefficient.invariant c.in-Some.ensures.steps
    (c.plus_capped-sum.ensures ∙ ap (λ (n : ℕ). capped (c.in-Some.field-0.now + n)) c.times_capped.ensures)

pub returns : goal.returns
returns c = valued_all c.loop-coefficient.invariant c.in-None.ensures.steps.0
