-- The run of a sheet as the code goes about it: the same rows and numbers with fewer pairs kept, and its firings counted afterwards. Assumes nothing.
use mathlib.Core.Path.{◌≡◌, ap}
use mathlib.Core.List.{List}
use Prim.Native.Nat.{ℕ, suc, ◌+◌, ◌≤◌}
use native.Mathlib.Omega.{arith}
use lib.ListN.{length}
use Rattle.sheet.specs.Line.{Line}
use Rattle.chase.specs.Rules.{rules_of}
use Rattle.carrying.specs.Carrying.{filled_table, begins, table_rows}
use Rattle.carrying.specs.Contract.{top, run, Ends}
use Rattle.carrying.specs.Meaning.{table_meaning}
use Rattle.carrying.specs.Inner.Keys.{key_after, firings_on}
use Rattle.carrying.proofs.KeyLaws.{keys_alike}
use Rattle.carrying.proofs.FiringCount.{firings_by_rule as by-rule}
use Rattle.carrying.proofs.Theorems.{numbering}

module _ (lines : List Line) where
  -- The run with fewer pairs kept has the same rows and the same next number, and has kept at most as many pairs as rows were added.
  pub same_run : (k : ℕ)
      → ((key_after (rules_of lines) (begins (table_rows lines)) k).rows ≡ (run lines k).rows)
      × ((key_after (rules_of lines) (begins (table_rows lines)) k).next ≡ (run lines k).next)
      × (length (key_after (rules_of lines) (begins (table_rows lines)) k).fired + length (begins (table_rows lines)).rows ≤ length (run lines k).rows)
  same_run k =
      let a = keys_alike (rules_of lines) (filled_table (table_rows lines)) (suc (top lines)) (table_meaning lines) (numbering lines) k in
      (a.rows, a.next, omega (arith, a.few, ap length a.rows))

  -- The firings of a run that has ended are counted by its rows, rule by rule.
  pub firings_by_rule : (k : ℕ) → Ends lines k → firings_on 1 (rules_of lines) (run lines k).rows ≡ length (run lines k).fired
  firings_by_rule k ends = by-rule (rules_of lines) (filled_table (table_rows lines)) (suc (top lines)) (table_meaning lines) (numbering lines) k ends
