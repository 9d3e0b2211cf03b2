-- `judged_depth` meets its contract, by Judge's answer. Assumes nothing.
use Rattle.std.proofs.Common.{refl}
use Rattle.std.proofs.lemmas.Result.{err_from_is_err_and}
use Rattle.forecasting.proofs.DepthLaws.{judged_settles, judged_endless, judged_refused}
use Rattle.forecasting.proofs.judged_depth.Goals as goal

pub returns-in_err-f : goal.returns-in_err-f
returns-in_err-f c =
    let (refusal, is, same) = err_from_is_err_and c.from_residual.result c.from_residual.ensures.1 in
    rw is (judged_refused _ _ _ refl _ c.in_err-f.ensures refusal same)

pub returns-in-Settles : goal.returns-in-Settles
returns-in-Settles c = judged_settles _ _ _ refl _ (rw c.in-Settles.is at c.in_ok-f.ensures)

pub returns-in-Endless : goal.returns-in-Endless
returns-in-Endless c = judged_endless _ _ _ refl _ (rw c.in-Endless.is at c.in_ok-f.ensures)
