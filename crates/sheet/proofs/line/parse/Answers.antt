-- `line::parse` meets its contract. The loop's invariant: what was tested before it, and that the first c columns are filled in. The measure is the columns left. Assumes nothing.
use mathlib.Core.Path.{sym, ap}
use lib.ListN.{length}
use native.Mathlib.Omega.{arith}
use borrow.Author.Rules.{rules}
use Rattle.std.proofs.Common.{None}
use Rattle.sheet.specs.Line.{form_of}
use Rattle.columns.proofs.ColumnLaws.{in_form-some, in_form-none}
use Rattle.sheet.proofs.FormLaws.{form_says_one_to_one}
use Rattle.sheet.proofs.Forms.{whole_columns, filled_size, one_more_filled, size_wrong, end_wrong, form_wrong, column_wrong, parsed_none, parsed_whole}
use Rattle.sheet.proofs.line.parse.Goals as goal

pub returns-then-size-lt2 : goal.returns-then-size-lt2
returns-then-size-lt2 c = (parsed_none c.args.line.now _ (size_wrong c.args.line.now (λ e. omega arith)), ap length c.requires)

pub returns-then-size-columns : goal.returns-then-size-columns
returns-then-size-columns c = (parsed_none c.args.line.now _ (size_wrong c.args.line.now c.if-size-columns.true), ap length c.requires)

pub returns-then-line-size-ne10 : goal.returns-then-line-size-ne10
returns-then-line-size-ne10 c = (parsed_none c.args.line.now _ (end_wrong c.args.line.now c.if-line-size-ne10.true), ap length c.requires)

pub returns-in_err-form : goal.returns-in_err-form
returns-in_err-form c =
    let form_is = form_says_one_to_one None (form_of _ _) c.in_err-form.ensures in
    rw c.from_residual.ensures
    (parsed_none c.args.line.now _ (form_wrong c.args.line.now (rw c.from-letter.ensures at (sym form_is))), ap length c.requires)

pub bounds-numbers-c : goal.bounds-numbers-c
bounds-numbers-c c = omega (arith, whole_columns _ _ _ _ c.loop-c.invariant.0)

pub returns-in_err-numbers : goal.returns-in_err-numbers
returns-in_err-numbers c =
    let loop = c.loop-c in
    rw c.from_residual-in_err-numbers.ensures
    (parsed_none _ _ (column_wrong _ _ _ _ _ loop.invariant.0 c.loop-c-test.true (in_form-none _ (sym c.in_err-numbers.ensures))), filled_size loop.invariant.2)

pub loop-c-preserved : goal.loop-c-preserved
loop-c-preserved c =
    let inv = c.loop-c.invariant in (
      inv.0,
      search rules,
      one_more_filled _ _ _ _ _ inv.2 (omega (arith, whole_columns _ _ _ _ inv.0))
          (in_form-some _ _ (sym c.in_ok-numbers.ensures)),
    )

pub returns : goal.returns
returns c = let inv = c.loop-c.invariant in (parsed_whole _ _ _ _ _ _ inv.0 c.loop-c-test.false inv.1 inv.2, filled_size inv.2)
