-- `followup::settles` meets its contract: a law for each answer of Judge. Assumes nothing.
use mathlib.Core.Path.{ap, ◌∙◌}
use native.Mathlib.Omega.{arith}
use Rattle.std.specs.Prelude.{Ok}
use Rattle.std.proofs.lemmas.Result.{err_from_is_err_and}
use Rattle.running.proofs.CarryLaws.{judged_settles, judged_endless, judged_refused}
use Rattle.followup.proofs.settles.Goals as goal

pub returns-in_err-judge : goal.returns-in_err-judge
returns-in_err-judge c =
    let p = err_from_is_err_and c.from_residual.result c.from_residual.ensures.1 in
    rw p.1 (λ before room. judged_refused _ before room c.judge.result (record { steps = c.args.places.now; room = omega (arith, c.requires); left = c.judge.new.steps; meets = c.judge.ensures }) _ c.in_err-judge.was p.0 p.2)

pub returns-in-Settles : goal.returns-in-Settles
returns-in-Settles c = λ before room.
    judged_settles _ before room c.judge.result (record { steps = c.args.places.now; room = omega (arith, c.requires); left = c.judge.new.steps; meets = c.judge.ensures }) _ (c.in_ok-judge.was ∙ ap Ok c.in-Settles.is)

pub returns-in-Endless : goal.returns-in-Endless
returns-in-Endless c = λ before room.
    judged_endless _ before room c.judge.result (record { steps = c.args.places.now; room = omega (arith, c.requires); left = c.judge.new.steps; meets = c.judge.ensures }) _ (c.in_ok-judge.was ∙ ap Ok c.in-Endless.is)
