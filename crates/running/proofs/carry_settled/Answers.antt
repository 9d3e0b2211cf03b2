-- `carry_settled` meets its contract: what the run answers for a sheet that settles. Assumes nothing.
use mathlib.Core.Path.{refl}
use native.Mathlib.Omega.{arith}
use lib.ListN.{length}
use Rattle.std.proofs.lemmas.Result.{err_from_is_err_and}
use Rattle.running.proofs.CarryLaws.{ran_ended, ran_refuses, carry_ended}
use Rattle.running.proofs.CopyLaws.{holds_own}
use Rattle.running.proofs.carry_settled.Goals as goal

pub returns-in_err-totals : goal.returns-in_err-totals
returns-in_err-totals c =
    let p = err_from_is_err_and c.from_residual.result c.from_residual.ensures.1 in
    rw (p.1, p.2) (ran_refuses c.args.lines.now c.no_rows-rows.result c.run.new.rows (length c.args.places.now) c.run.result c.run.ensures c.requires.0 c.no_rows-rows.ensures c.requires.1 _ c.in_err-totals.was, refl)

pub copy_out-requires : goal.copy_out-requires
copy_out-requires c =
    let e = (ran_ended c.args.lines.now c.no_rows-rows.result c.run.new.rows (length c.args.places.now) c.run.result c.run.ensures _ c.in_ok-totals.was) in
    (holds_own e.held, omega (arith, c.requires.0.taken.room, e.held.few))

pub returns : goal.returns
returns c =
    carry_ended c.requires.0 (ran_ended c.args.lines.now c.no_rows-rows.result c.run.new.rows (length c.args.places.now) c.run.result c.run.ensures _ c.in_ok-totals.was) c.copy_out.ensures
