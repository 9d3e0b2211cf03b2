-- `pattern` meets its contract: its loop numbers the fields one by one. Assumes nothing.
use Rattle.patterns.specs.Pattern.{none_at, Label-discrete, labels}
use Rattle.patterns.proofs.PatternSteps.{FieldsNumbered}
use Rattle.patterns.proofs.pattern.Given as goal

abbrev pub invariant-loop-i : goal.invariant-loop-i
invariant-loop-i l =
    FieldsNumbered Label-discrete (none_at 0) (labels l.numbers) l.i l.largest l.number l.digits
