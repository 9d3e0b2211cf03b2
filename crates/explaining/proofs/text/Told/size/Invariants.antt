-- `text::Told::size` meets its contract. The loop's invariant: the size of the text of the first i steps. Assumes nothing.
use mathlib.Core.Path.{◌≡◌}
use Prim.Native.Nat.{◌*◌, ◌≤◌}
use lib.ListN.{length}
use Rattle.rules.specs.Table.{rules_in}
use Rattle.explaining.specs.Inner.Text.{text_to}
use Rattle.explaining.proofs.text.Told.size.Given as goal

abbrev pub invariant-loop-i : goal.invariant-loop-i
invariant-loop-i l = (l.size ≤ 123 * l.i) × (l.size ≡ length (text_to (rules_in l.self.lines.now) l.self.steps.now l.self.trail l.i))
