-- `run_rules` meets its contract: with all pairs kept, or else with fewer. Assumes nothing.
use mathlib.Core.Path.{refl}
use native.Mathlib.Omega.{arith}
use Rattle.running.specs.Answer.{run_says}
use Rattle.running.proofs.CountLaws.{all_clear}
use Rattle.running.proofs.RunLaws.{ran_room, noted_outgrows, noted_ended, meets_before}
use Rattle.running.proofs.run_rules.Goals as goal

pub clear-requires : goal.clear-requires
clear-requires c = omega (arith, c.requires.2)

pub run_with-requires : goal.run_with-requires
run_with-requires c = (c.requires.0, c.requires.1, all_clear c.requires.2 c.clear.ensures, c.requires.3, c.requires.4, omega arith)

pub run_again-requires : goal.run_again-requires
run_again-requires c =
    let w = c.in_default.ensures.2 in
    (c.requires.0, omega (arith, c.requires.1, ran_room c.requires.0 c.requires.4 w), w.ended.left.size, c.requires.3, c.requires.4)

pub returns-in_default : goal.returns-in_default
returns-in_default c =
    let w = c.in_default.ensures.2 in
    meets_before c.args.rows.now c.run_with.new.rows c.requires.0 c.requires.1 (ran_room c.requires.0 c.requires.4 w) c.run_again.new.rows _ w.ended.left.size _ c.requires.2 (run_says c.run_again.result)
    c.run_again.ensures

pub returns-then-noted-gt100000000 : goal.returns-then-noted-gt100000000
returns-then-noted-gt100000000 c =
    let noted = c.in-Some.ensures in
    (c.requires.1, noted_outgrows c.requires.0 c.requires.4 noted.1 refl noted.0 c.if-noted-gt100000000.true)

pub returns : goal.returns
returns c =
    let noted = c.in-Some.ensures in
    (c.requires.1, noted_ended c.requires.0 c.requires.4 noted.1 refl noted.0 c.if-noted-gt100000000.false c.requires.1)
