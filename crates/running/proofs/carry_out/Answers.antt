-- `carry_out` meets its contract: the room, Judge's answer, then the run's. Assumes nothing.
use mathlib.Core.Path.{refl, ap, ◌∙◌}
use native.Mathlib.Omega.{arith}
use borrow.Author.Rules.{rules}
use Rattle.std.specs.Prelude.{Ok}
use Rattle.std.proofs.lemmas.Result.{err_from_is_err_and}
use Rattle.carrying.specs.Contract.{short}
use Rattle.running.proofs.CarryLaws.{judged_settles, judged_endless, judged_refused}
use Rattle.running.proofs.carry_out.Goals as goal

pub returns-then-records-lt32768 : goal.returns-then-records-lt32768
returns-then-records-lt32768 c = (short c.if-records-lt32768.true, refl)

pub returns-in_err-judge : goal.returns-in_err-judge
returns-in_err-judge c =
    let p = err_from_is_err_and c.from_residual.result c.from_residual.ensures.1 in
    rw p.1 (judged_refused _ _ c.if-records-lt32768.false c.judge.result (record { steps = c.no_places-places.result; room = omega (arith, c.no_places-places.ensures); left = c.judge.new.steps; meets = c.judge.ensures }) _ c.in_err-judge.was p.0 p.2, refl)

pub carry_settled-requires : goal.carry_settled-requires
carry_settled-requires c =
    (judged_settles _ _ c.if-records-lt32768.false c.judge.result (record { steps = c.no_places-places.result; room = omega (arith, c.no_places-places.ensures); left = c.judge.new.steps; meets = c.judge.ensures }) _ (c.in_ok-judge.was ∙ ap Ok c.in-Settles.is), search rules)

pub returns-in-Endless : goal.returns-in-Endless
returns-in-Endless c =
    (judged_endless _ _ c.if-records-lt32768.false c.judge.result (record { steps = c.no_places-places.result; room = omega (arith, c.no_places-places.ensures); left = c.judge.new.steps; meets = c.judge.ensures }) _ (c.in_ok-judge.was ∙ ap Ok c.in-Endless.is), refl)
