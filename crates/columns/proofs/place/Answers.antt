-- `place` meets its contract. Assumes nothing.
use Rattle.columns.proofs.ColumnLaws.{place_byte_nonzero}
use Rattle.columns.proofs.place.Goals as goal

pub returns : goal.returns
returns c = place_byte_nonzero _ c.if-rest-eq0.false
