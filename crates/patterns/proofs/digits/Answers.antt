-- `digits` meets its contract. Assumes nothing.
use mathlib.Core.Path.{sym, ◌∙◌, ap}
use mathlib.Core.List.{List}
use Prim.Native.Nat.{ℕ}
use lib.ListN.{length}
use Rattle.patterns.specs.Pattern.{digits_in}
use Rattle.patterns.proofs.PatternRows.{length_table, table-rows}
use Rattle.patterns.proofs.digits.Goals as goal

pub pattern_table-table-requires : goal.pattern_table-table-requires
pattern_table-table-requires c = tt

pub slice_bounds-digits_in-end : goal.slice_bounds-digits_in-end
slice_bounds-digits_in-end c = sym (ap length c.pattern_table-table.ensures ∙ length_table)

pub digits_in-requires : goal.digits_in-requires
digits_in-requires c = tt

pub returns : goal.returns
returns c =
    let number = c.args.number in
    c.digits_in.ensures ∙ ap (λ (t : List ℕ). digits_in t number) c.pattern_table-table.ensures ∙ table-rows number
