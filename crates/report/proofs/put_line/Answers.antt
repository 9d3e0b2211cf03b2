-- `report::put_line` meets its contract: a law of `Filling` for each return. Assumes nothing.
use mathlib.Core.Path.{sym, ◌∙◌}
use Prim.Native.Nat.{◌+◌, ◌-◌, ◌*◌}
use native.Mathlib.Omega.{arith}
use borrow.Author.Tests.{ltb-false}
use lib.ListN.{length}
use Rattle.report.proofs.Filling.{put_too_large, put_short, put_good}
use Rattle.report.proofs.Ranges.{all_in_range}
use Rattle.report.proofs.put_line.Goals as goal

pub returns-then-not-in_range : goal.returns-then-not-in_range
returns-then-not-in_range c =
    put_too_large c.args.letter c.args.numbers.now c.args.text.now c.args.at (sym (c.in_range.ensures ∙ all_in_range c.args.numbers.now) ∙ c.if-not-in_range.true)

pub returns-then-is_short : goal.returns-then-is_short
returns-then-is_short c =
    put_short c.args.letter c.args.numbers.now c.args.text.now c.args.at
    (sym (c.in_range.ensures ∙ all_in_range c.args.numbers.now) ∙ c.if-not-in_range.false) (sym c.is_short.ensures ∙ c.if-is_short.true)

pub fill_line-requires : goal.fill_line-requires
fill_line-requires c =
    let short = sym c.is_short.ensures ∙ c.if-is_short.false in (
      sym (c.in_range.ensures ∙ all_in_range c.args.numbers.now) ∙ c.if-not-in_range.false,
      omega (arith, ltb-false (length c.args.text.now - c.args.at) (9 * length c.args.numbers.now + 2) short),
    )

pub returns : goal.returns
returns c =
    put_good c.args.letter c.args.numbers.now c.args.text.now c.args.at _ (sym (c.in_range.ensures ∙ all_in_range c.args.numbers.now) ∙ c.if-not-in_range.false)
    (sym c.is_short.ensures ∙ c.if-is_short.false) c.fill_line.ensures
