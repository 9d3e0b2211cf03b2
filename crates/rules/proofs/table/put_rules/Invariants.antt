-- `rules::table::put_rules` fills the table. The invariant: the rules of the lines passed are in it. Assumes nothing.
use Rattle.rules.proofs.TableLaws.{Filled}
use Rattle.rules.proofs.table.put_rules.Given as goal

abbrev pub invariant-loop-n : goal.invariant-loop-n
invariant-loop-n l = Filled l.lines l.table l.count l.n
