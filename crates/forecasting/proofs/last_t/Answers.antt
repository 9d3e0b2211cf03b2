-- `last_t` meets its contract. The invariant: t is, up to the cap, that of the generations passed. Assumes nothing.
use Rattle.forecasting.proofs.FigureLaws.{grown_more}
use Rattle.forecasting.proofs.last_t.Goals as goal

pub loop-preserved : goal.loop-preserved
loop-preserved c =
    let a = c.args in
    let at = c.loop in
    grown_more a.fresh.now a.first at.t at.counter _ _ at.invariant c.polynomial.ensures c.plus_capped-t.ensures
