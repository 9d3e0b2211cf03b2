-- `pattern_table` meets its contract: a table that passes the test is the table of patterns. Assumes nothing.
use Rattle.patterns.proofs.PatternTest.{table_is}
use Rattle.patterns.proofs.pattern_table.Goals as goal

pub tested_table-requires : goal.tested_table-requires
tested_table-requires c = tt

pub returns : goal.returns
returns c = table_is _ c.tested_table.ensures
