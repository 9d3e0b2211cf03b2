-- `listing::kind_widths` meets its contract. The invariant: the widths that the lines so far declare. Assumes nothing.
use Rattle.listing.proofs.WidthLaws.{Widening}
use Rattle.listing.proofs.kind_widths.Given as goal

abbrev pub invariant-loop-line : goal.invariant-loop-line
invariant-loop-line l = Widening l.lines l.widths l.line-index
