-- `running::rows::begin` meets its contract. Assumes nothing.
use native.Mathlib.Omega.{arith}
use Rattle.running.proofs.BeginLaws.{begun_so}
use Rattle.running.proofs.rows.begin.Goals as goal

pub returns : goal.returns
returns c =
    let l = c.largest_value-first in
    begun_so (omega (arith, l.ensures.0)) (omega (arith, l.ensures.1)) c.put_rows.ensures
