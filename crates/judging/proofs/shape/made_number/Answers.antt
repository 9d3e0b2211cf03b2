-- `judging::shape::made_number` meets its contract: the first place of the mark tells a fresh number from a carried one. Assumes nothing.
use native.Mathlib.Omega.{arith}
use Rattle.rules.specs.Table.{row_bytes}
use Rattle.rules.proofs.RuleLaws.{RowFits, row_fits, place_few}
use Rattle.judging.proofs.RuleLaws.{fresh_number}
use Rattle.judging.proofs.shape.made_number.Goals as goal
use Rattle.judging.proofs.shape.made_number.Goals.{Start}

row : (c : Start) → RowFits (row_bytes c.args.table.now c.args.r)
row c = row_fits c.args.table.now c.args.rules c.args.r c.requires.0 c.requires.1

pub returns-then-place-eq0 : goal.returns-then-place-eq0
returns-then-place-eq0 c =
    fresh_number (row (goal.at.returns-then-place-eq0 c).Start) c.args.digits c.args.mark c.requires.2 c.rule_byte-place.result c.rule_byte.result
    c.rule_byte-place.ensures.0 c.if-place-eq0.true c.rule_byte.ensures.0

pub bounds-digits-place : goal.bounds-digits-place
bounds-digits-place c =
    omega (arith, place_few (row (goal.at.bounds-digits-place c).Start) c.args.mark c.rule_byte-place.result c.requires.2 c.rule_byte-place.ensures.0)
