-- `spread::best_source` meets its contract. Assumes nothing.
use Rattle.rules.specs.Table.{row_bytes}
use Rattle.judging.proofs.PassLaws.{Among}
use Rattle.judging.proofs.spread.best_source.Given as goal

abbrev pub invariant-loop-p : goal.invariant-loop-p
invariant-loop-p l = Among (row_bytes l.table l.r) l.generations l.s l.p l.best l.most
