-- `forecasting::values::count_values` meets its contract. Assumes nothing.
use mathlib.Core.Path.{refl}
use Rattle.rules.proofs.PartLaws.{zero_at}
use Rattle.forecasting.proofs.ValueLaws.{stored_none, without_zeros, with_zeros}
use Rattle.forecasting.proofs.values.count_values.Goals as goal

pub invariant_of-values : goal.invariant_of-values
invariant_of-values c = stored_none c.multiplier.ensures refl (record { size = refl; zeros = zero_at 4096 }) refl

pub returns-then-zeros-eq0 : goal.returns-then-zeros-eq0
returns-then-zeros-eq0 c = rw c.len-different.ensures (without_zeros c.add_rows-zeros.ensures c.if-zeros-eq0.true)

pub returns : goal.returns
returns c = rw c.len-different.ensures (with_zeros c.add_rows-zeros.ensures c.if-zeros-eq0.false)
