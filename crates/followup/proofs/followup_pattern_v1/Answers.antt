-- `followup::followup_pattern_v1` meets its contract: a law of `PatternLaws` for both returns. Assumes nothing.
use mathlib.Core.Path.{◌≡◌, sym, subst, ap, ◌∙◌}
use native.Mathlib.Omega.{arith}
use lib.Seq.{length-take-le}
use Rattle.patterns.specs.Pattern.{pattern_of, pattern_says}
use Rattle.followup.specs.Bytes.{numbers_of}
use Rattle.followup.specs.Reply.{Replies}
use Rattle.followup.proofs.PatternLaws.{pattern-found}
use Rattle.followup.proofs.followup_pattern_v1.Goals as goal
use Rattle.followup.proofs.followup_pattern_v1.Goals.{After-pattern}

-- what `pattern` answers for the numbers that were decoded it answers for all
found : (c : After-pattern)
    → pattern_says c.pattern.result ≡ pattern_of (numbers_of 4 c.args.fields.now)
found c = c.pattern.ensures ∙ pattern-found _ _ _ _ c.count_of-count.ensures c.decode.ensures

pub slice_bounds-pattern-end : goal.slice_bounds-pattern-end
slice_bounds-pattern-end c = sym (length-take-le _ _ (omega (arith, c.decode.auto.numbers)))

pub returns-in-Some : goal.returns-in-Some
returns-in-Some c =
    subst (λ o. Replies o c.counts.result) (ap pattern_says (sym c.in-Some.is) ∙ found (goal.at.returns-in-Some c).After-pattern)
    c.counts.ensures

pub returns-in-None : goal.returns-in-None
returns-in-None c =
    subst (λ o. Replies o c.no_count.result) (ap pattern_says (sym c.in-None.is) ∙ found (goal.at.returns-in-None c).After-pattern)
    c.no_count.ensures
