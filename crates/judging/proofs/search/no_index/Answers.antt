-- `judging::search::no_index` meets its contract. Assumes nothing.
use mathlib.Core.Path.{refl}
use Rattle.rules.proofs.PartLaws.{zero_at}
use Rattle.judging.proofs.search.no_index.Goals as goal

pub returns : goal.returns
returns c = record { size = refl; zeros = zero_at 17792 }
