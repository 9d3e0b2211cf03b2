-- `text::rule_starts` meets its contract. The loop's invariant: the rules that begin before line n are found. Assumes nothing.
use Rattle.explaining.proofs.StartLaws.{StartsTo}
use Rattle.explaining.proofs.text.rule_starts.Given as goal

abbrev pub invariant-loop-n : goal.invariant-loop-n
invariant-loop-n l = StartsTo l.lines l.starts l.count l.n
