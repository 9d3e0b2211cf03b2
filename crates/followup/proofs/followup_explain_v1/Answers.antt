-- `followup::followup_explain_v1` meets its contract: a law of `ExplainLaws`. Assumes nothing.
use Rattle.followup.proofs.ExplainLaws.{explains_truncated}
use Rattle.followup.proofs.followup_explain_v1.Goals as goal

pub returns : goal.returns
returns c =
    let w = c.with_numbers.ensures in
    let m = rw (w.lends, w.leaves) at w.met in
    explains_truncated m.0 w.gives m.1 m.2
