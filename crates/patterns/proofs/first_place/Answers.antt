-- `first_place` meets its contract: a 0 has its own place, and for a label the first equal field up to field i is the first of all. Assumes nothing.
use mathlib.Core.Path.{ap, ◌∙◌}
use Rattle.std.specs.Option.{unwrap_or}
use Rattle.patterns.proofs.LabelLaws.{zero-place}
use Rattle.patterns.proofs.PatternSteps.{place_found}
use Rattle.patterns.proofs.first_place.Goals as goal

pub returns-then-field-eq0 : goal.returns-then-field-eq0
returns-then-field-eq0 c = zero-place c.args.numbers.now c.args.i c.requires c.if-field-eq0.true

pub returns : goal.returns
returns c =
    let xs = c.args.numbers.now in
    c.unwrap_or.ensures ∙ ap (λ o. unwrap_or o c.args.i) c.place_of.ensures ∙ place_found xs c.args.i c.requires c.if-field-eq0.false
