-- `followup::followup_write_v1` meets its contract: a law of `Truncated`. Assumes nothing.
use Rattle.followup.proofs.Truncated.{writes}
use Rattle.followup.proofs.followup_write_v1.Goals as goal

pub returns : goal.returns
returns c =
    let w = c.with_numbers.ensures in
    let m = rw (w.lends, w.leaves) at w.met in
    writes m.0 c.with_numbers.result w.gives m.1 m.2
