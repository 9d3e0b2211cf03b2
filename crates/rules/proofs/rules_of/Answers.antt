-- `rules_of` meets its contract: the refusals in their order, then the table. Assumes nothing.
use Rattle.rules.proofs.TableLaws.{table_held}
use Rattle.rules.proofs.rules_of.Goals as goal

pub returns-in-None : goal.returns-in-None
returns-in-None c =
    let room = c.if-table-lt16384.false in
    (room, table_held c.in-None.ensures room c.fill.ensures)
