-- `sheet::lent::fill_text` meets its contract. The text of the lines so far stands at the front, and the rest is as before. Assumes nothing.
use Rattle.sheet.proofs.Filling.{Fills}
use Rattle.sheet.proofs.lent.fill_text.Given as goal

abbrev pub invariant-loop-numbers : goal.invariant-loop-numbers
invariant-loop-numbers l = Fills l.lines l.initial.text l.text l.widths l.at l.numbers-index
