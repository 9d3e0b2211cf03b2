-- `wide_column` meets its contract: its twelve places are the last eleven and the digit. Assumes nothing.
use Rattle.columns.specs.Column.{wide_column}
use Rattle.columns.proofs.wide_column.Goals as goal

pub returns : goal.returns
unfolding wide_column
returns c = c.justified.ensures
