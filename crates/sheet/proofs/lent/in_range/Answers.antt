-- `sheet::lent::in_range` meets its contract. Assumes nothing.
use Rattle.std.proofs.Common.{◌≡◌, ◌+◌, ◌-◌, ◌<◌, ◌≤◌, take, drop, rules, tests}
use Rattle.std.proofs.lemmas.Iterator.{cases_from_all, YieldsList-from_slice}
use Rattle.sheet.specs.Line.{in_range}
use Rattle.sheet.proofs.RangeLaws.{all_in_range, all_zero, ranges_wrong, ranges_left}
use Rattle.sheet.proofs.lent.in_range.Goals as goal
use Rattle.sheet.proofs.lent.in_range.Goals.{After-all}

used : (c : After-all) → c.all.result ≡ in_range (take (c.args.fields + 2 - 1) (drop 1 c.args.numbers.now))
used c =
    all_in_range c.all.result _
    (cases_from_all _ _ _ (λ n. n ≤ 99999999) (λ n. 99999999 < n) c.all.ensures.ran (YieldsList-from_slice _ c.iter.ensures.rest)
    (λ x q k. search (rules, tests)) (λ x q k. search (rules, tests)))

pub returns-else-all : goal.returns-else-all
returns-else-all c = ranges_wrong c.args.numbers.now c.args.fields _ (used (goal.at.returns-else-all c).After-all) c.if-all.false

pub returns-then-all : goal.returns-then-all
returns-then-all c =
    let unused = all_zero c.all-then-all.result _ (cases_from_all _ _ _ (λ n. n ≡ 0) (λ n. n ≡ 0 → ⊥) c.all-then-all.ensures.ran (YieldsList-from_slice _ c.iter-then-all.ensures.rest) (λ x q k. search (rules, tests)) (λ x q k. search (rules, tests))) in
    ranges_left c.args.numbers.now c.args.fields _ _ c.requires.1 (used (goal.at.returns-then-all c).After-all) c.if-all.true unused
