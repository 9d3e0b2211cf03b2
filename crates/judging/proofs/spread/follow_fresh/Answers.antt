-- `spread::follow_fresh` meets its contract. Assumes nothing.
use Rattle.judging.proofs.PassLaws.{fresh-none, fresh-best}
use Rattle.judging.proofs.spread.follow_fresh.Goals as goal

pub returns-in-None : goal.returns-in-None
returns-in-None c = fresh-none c.requires.2 (rw c.in-None.is at c.best_source.ensures)

pub returns-in-Some : goal.returns-in-Some
returns-in-Some c =
    fresh-best (rw c.in-Some.is at c.best_source.ensures) c.follow.ensures
