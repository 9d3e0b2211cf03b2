-- `terms::rule_terms` meets its contract. The invariant: the rules of the lines passed are counted by their carried marks. Assumes nothing.
use Rattle.forecasting.proofs.TermLaws.{RulesSeen}
use Rattle.forecasting.proofs.terms.rule_terms.Given as goal

abbrev pub invariant-loop-n : goal.invariant-loop-n
invariant-loop-n l = RulesSeen l.lines l.n l.fresh l.pairs
