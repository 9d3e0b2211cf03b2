-- `explain` meets its contract, by Judge's answer. Assumes nothing.
use Rattle.std.proofs.Common.{refl}
use Rattle.std.proofs.lemmas.Result.{err_from_is_err_and}
use Rattle.explaining.proofs.ExplainLaws.{settled, refused, steps_few, sheet-held, steps_there, steps_named, explained_so}
use Rattle.explaining.proofs.explain.Goals as goal

pub returns-in_err-judge : goal.returns-in_err-judge
returns-in_err-judge c =
    let (refusal, is, same) = err_from_is_err_and c.from_residual.result c.from_residual.ensures.1 in
    rw is (refused _ _ _ refl _ _ c.in_err-judge.ensures refusal same, refl)

pub returns-in-Settles : goal.returns-in-Settles
returns-in-Settles c = (settled _ _ _ refl _ _ (rw c.in-Settles.is at c.in_ok-judge.ensures), refl)

pub write-requires : goal.write-requires
write-requires c =
    let meets = rw c.in-Endless.is at c.in_ok-judge.ensures in
    (sheet-held _ _ _ refl _ meets, steps_there _ _ _ refl _ meets, steps_few _ _ _ refl _ meets, steps_named _ _ _ refl _ meets)

pub returns-in-Endless : goal.returns-in-Endless
returns-in-Endless c =
    explained_so _ _ _ refl _ (rw c.in-Endless.is at c.in_ok-judge.ensures) _ _ c.write.result c.write.ensures
