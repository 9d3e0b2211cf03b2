-- `sheet::read` meets its contract: a text over the limit by a law of `Reading`. Assumes nothing.
use native.Mathlib.Omega.{arith}
use Rattle.sheet.proofs.Reading.{read_too_long}
use Rattle.sheet.proofs.read.Goals as goal

pub returns-then-text-gt32768 : goal.returns-then-text-gt32768
returns-then-text-gt32768 c = let a = c.args in read_too_long a.text.now a.lines.now (omega (arith, c.if-text-gt32768.true))
