-- `firings` meets its contract: the pairs of one rule are counted after those of the other. Assumes nothing.
use mathlib.Core.Path.{sym, ◌∙◌}
use native.Mathlib.Omega.{arith}
use Rattle.running.proofs.CountLaws.{no_pairs, stored_forgotten, totalling_begun, totalling_more, totalling_done}
use Rattle.running.proofs.firings.firings.Goals as goal

pub loop-r-init : goal.loop-r-init
loop-r-init c =
    totalling_begun c.args.table.now c.args.rules c.requires.0

pub clear-requires : goal.clear-requires
clear-requires c = omega (arith, c.loop-r.invariant.stored.size)

pub firings_of-n-requires : goal.firings_of-n-requires
firings_of-n-requires c =
    (stored_forgotten c.loop-r.invariant.stored c.clear.ensures, no_pairs c.loop-r.invariant.stored.size c.clear.ensures, c.requires.1, c.loop-r-test.true)

pub overflow_add-n : goal.overflow_add-n
overflow_add-n c =
    omega (arith, c.loop-r.invariant.few, c.loop-r-test.true, c.requires.1.few, c.firings_of-n.ensures.1)

pub loop-r-preserved : goal.loop-r-preserved
loop-r-preserved c =
    let o = c.firings_of-n in
    totalling_more c.loop-r.invariant c.loop-r-test.true o.result o.ensures.0 o.ensures.1 o.ensures.2

pub shape_of-index : goal.shape_of-index
shape_of-index c = c.loop-r.invariant.stored.size ∙ sym c.requires.0.size

pub returns : goal.returns
returns c = totalling_done c.loop-r.invariant c.loop-r-test.false
