-- `number` meets its contract: the mark's place tells whether its number is in the record or fresh. Assumes nothing.
use mathlib.Core.Path.{◌≡◌, sym, ap, ◌∙◌}
use Prim.Native.Nat.{◌+◌, ◌-◌, ◌<◌, ◌≤◌}
use native.Mathlib.Omega.{arith}
use Rattle.rules.specs.Table.{first_place}
use Rattle.rules.proofs.RuleLaws.{row_fits, place_read, place_few}
use Rattle.running.specs.Inner.Held.{row_at}
use Rattle.running.specs.Inner.Firing.{rule_at, value_from}
use Rattle.running.proofs.FiringLaws.{value_place}
use Rattle.running.proofs.firing.number.Goals as goal
use Rattle.running.proofs.firing.number.Goals.{After-rule_byte-place, Then-place-eq0}

place : (c : After-rule_byte-place) → c.rule_byte-place.result ≡ first_place c.args.mark (rule_at c.args.table.now c.args.r).marks
place c = place_read (row_fits c.args.table.now c.args.rules c.args.r c.requires.1 c.requires.2) c.args.mark c.rule_byte-place.result c.requires.3 c.rule_byte-place.ensures.0

few : (c : After-rule_byte-place) → c.rule_byte-place.result ≤ 6
few c = place_few (row_fits c.args.table.now c.args.rules c.args.r c.requires.1 c.requires.2) c.args.mark c.rule_byte-place.result c.requires.3 c.rule_byte-place.ensures.0

none : (c : Then-place-eq0) → first_place c.args.mark (rule_at c.args.table.now c.args.r).marks ≡ 0
none c =
    sym (place_read (row_fits c.args.table.now c.args.rules c.args.r c.requires.1 c.requires.2) c.args.mark c.rule_byte-place.result c.requires.3 c.rule_byte-place.ensures.0)
    ∙ c.if-place-eq0.true

low-mark : (c : Then-place-eq0) → c.args.low < c.args.mark
low-mark c = c.requires.5 (none c)

pub overflow_sub-result : goal.overflow_sub-result
overflow_sub-result c = omega (arith, low-mark c)

pub overflow_sub-result-then-place-eq0 : goal.overflow_sub-result-then-place-eq0
overflow_sub-result-then-place-eq0 c = omega (arith, low-mark c)

pub returns-then-place-eq0 : goal.returns-then-place-eq0
returns-then-place-eq0 c =
    ap (value_from (row_at c.args.rows.now c.args.i) (c.args.next + (c.args.mark - c.args.low - 1))) (sym (none c))

pub bounds-rows-i : goal.bounds-rows-i
bounds-rows-i c = omega (arith, few (goal.at.bounds-rows-i c).After-rule_byte-place, c.requires.0.inside)

pub returns : goal.returns
returns c =
    value_place c.args.rows.now c.args.i (c.args.next + (c.args.mark - c.args.low - 1)) c.rule_byte-place.result
    (first_place c.args.mark (rule_at c.args.table.now c.args.r).marks) c.if-place-eq0.false (few (goal.at.returns c).After-rule_byte-place) (place (goal.at.returns c).After-rule_byte-place)
