-- How a run begins in memory. Assumes nothing.
use Rattle.std.specs.Prelude.{◌≡◌, List, [], ℕ, suc, ◌+◌, ◌≤◌, length, get_or}
use Rattle.patterns.specs.Pattern.{add_all}
use Rattle.chase.specs.Lists.{largest}
use Rattle.rules.specs.Table.{lines_in}
use Rattle.carrying.specs.Carrying.{Row-discrete, numbers_in, zeros, filled_rows, last_filled, table_rows}
use Rattle.running.specs.Inner.Held.{rows_at, Stored}
use Rattle.running.specs.Inner.Visits.{state_at, Keeping, Ended}
use Rattle.running.specs.declared.visits.Counts.{Counts}

-- The table's rows are held, their zeros filled from a first number on, repeats dropped, and no pair is noted. There are at most 1,024 rows of six.
pub record RowsIn (lines before rows index : List ℕ) (first : ℕ) (c : Counts) : Type 0 where
  pub room : length rows ≡ length before
  pub stored : Stored rows index c.by c.rows
  pub rows_are : rows_at rows c.rows ≡ add_all Row-discrete (filled_rows first (table_rows (lines_in lines))) []
  pub no_pairs : (j : ℕ) → 8192 ≤ j → get_or index j 0 ≡ 0
  pub pairs : c.pairs ≡ 0
  pub next : c.next ≡ first + zeros (numbers_in (table_rows (lines_in lines)))
  pub low : c.next ≤ first + 6144

-- So a run begins: the zeros get the numbers after the table's largest value.
pub record Begun (lines before rows index : List ℕ) (c : Counts) : Type 0 where
  pub rows_in : RowsIn lines before rows index (suc (largest (numbers_in (table_rows (lines_in lines))))) c
  pub next : c.next ≡ suc (last_filled (table_rows (lines_in lines)))
  pub low : c.next ≤ 100006144

-- A run from its beginning, with some pairs kept, until all records are visited or there is too much.
pub record RanWith (lines before table : List ℕ) (rules least : ℕ) (rows index : List ℕ) (c : Counts) : Type 0 where
  pub first : Counts
  pub numbers : List ℕ
  pub places : List ℕ
  pub begun : Begun lines before numbers places first
  pub fresh : List ℕ
  pub keeping : Keeping table rules least fresh
  pub ended : Ended table numbers rules fresh first rows index c (state_at table numbers places first)
