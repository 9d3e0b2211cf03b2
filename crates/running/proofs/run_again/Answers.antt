-- `run_again` meets its contract: the run that keeps fewer pairs, its firings counted afterwards. Assumes nothing.
use mathlib.Core.Path.{refl}
use native.Mathlib.Omega.{arith}
use Rattle.running.proofs.CountLaws.{all_clear}
use Rattle.running.proofs.RunLaws.{ran_stored, run_passes, run_outgrows, run_ended}
use Rattle.running.proofs.run_again.Goals as goal

pub clear-requires : goal.clear-requires
clear-requires c = omega (arith, c.requires.2)

pub run_with-requires : goal.run_with-requires
run_with-requires c = (c.requires.0, c.requires.1, all_clear c.requires.2 c.clear.ensures, c.requires.3, c.requires.4, omega arith)

pub returns-in_default : goal.returns-in_default
returns-in_default c =
    let over = c.in_default.ensures in
    (c.requires.1, run_passes c.requires.0 c.requires.4 over.2 refl over.1)

pub returns-then-last-gt100000000 : goal.returns-then-last-gt100000000
returns-then-last-gt100000000 c =
    let last = c.in-Some.ensures in
    (c.requires.1, run_outgrows c.requires.0 c.requires.4 last.1 refl last.0 c.if-last-gt100000000.true)

pub firings-firings-requires : goal.firings-firings-requires
firings-firings-requires c =
    let last = c.in-Some.ensures in
    (ran_stored c.requires.0 c.requires.4 last.1 last.0, c.requires.3)

pub returns : goal.returns
returns c =
    let last = c.in-Some.ensures in
    (c.requires.1, run_ended c.requires.0 c.requires.4 last.1 refl last.0 c.if-last-gt100000000.false c.requires.1 c.firings-firings.result c.firings-firings.ensures)
