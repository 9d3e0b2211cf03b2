-- `forecasting::values::bucket` meets its contract. Assumes nothing.
use native.Mathlib.Omega.{arith}
use Rattle.forecasting.proofs.ValueLaws.{bucket_is}
use Rattle.forecasting.proofs.values.bucket.Goals as goal

pub returns : goal.returns
returns c = (bucket_is c.args.by c.args.x, omega arith)
