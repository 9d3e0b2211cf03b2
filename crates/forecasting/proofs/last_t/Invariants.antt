-- `last_t` meets its contract. The invariant: t is, up to the cap, that of the generations passed. Assumes nothing.
use mathlib.Core.Path.{◌≡◌}
use Rattle.arithmetic.specs.Capped.{capped}
use Rattle.forecasting.specs.Inner.Terms.{grown}
use Rattle.forecasting.proofs.last_t.Given as goal

abbrev pub invariant-loop : goal.invariant-loop
invariant-loop l = capped l.t ≡ capped (grown l.fresh l.first l.counter)
