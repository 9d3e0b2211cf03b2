-- `text::Told::put` meets its contract. The loop's invariant: the text of the first k steps is put. Assumes nothing.
use Rattle.explaining.specs.Inner.Puts.{Puts}
use Rattle.rules.specs.Table.{rules_in}
use Rattle.explaining.specs.Inner.Text.{text_to}
use Rattle.explaining.proofs.text.Told.put.Given as goal

abbrev pub invariant-loop-k : goal.invariant-loop-k
invariant-loop-k l = Puts l.initial.text 0 (text_to (rules_in l.self.lines.now) l.self.steps.now l.self.trail l.k) l.at l.text
