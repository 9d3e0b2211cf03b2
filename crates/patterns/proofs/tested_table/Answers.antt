-- `tested_table` meets its contract: the test, computed over the constant. Assumes nothing.
use Rattle.patterns.specs.Pattern.{rows}
use Rattle.patterns.specs.PatternTable.{appears, lower, earlier, before_zero, entries_to, entries_of, same, every, digits_right, rising, largest, among, followed_to, followed, complete, entries_test, table_test}
use Rattle.patterns.proofs.tested_table.Goals as goal

pub returns : goal.returns
unfolding table_test entries_test complete followed followed_to among largest rising digits_right every same entries_of entries_to before_zero earlier lower appears rows
returns c = tt
