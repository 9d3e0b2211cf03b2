-- What is known of a sheet once its shapes are found and the generations are raised. Assumes nothing.
use Rattle.std.specs.Prelude.{Bool, List, ℕ}
use Rattle.sheet.specs.Line.{Line}
use Rattle.chase.specs.Lists.{All}
use Rattle.chase.specs.Rules.{rules_of}
use Rattle.chase.specs.Run.{rows_of}
use Rattle.rules.specs.Table.{RuleFits}
use Rattle.judging.specs.Inner.Found.{Kept, Whole, FiredRules}
use Rattle.judging.specs.Inner.Links.{Spreads}

pub record Facts (lines : List Line) (codes index : List ℕ) (ways : List (List ℕ)) (fired : List Bool) (count : ℕ) (generations : List (List ℕ)) (from link : ℕ → ℕ) (turning : ℕ)
    : Type 0 where
  pub fit : All RuleFits (rules_of lines)
  pub kept : Kept (rules_of lines) (rows_of lines) codes index ways count
  pub whole : Whole (rules_of lines) (rows_of lines) codes count
  pub fired_rules : FiredRules (rules_of lines) codes fired count
  pub spreads : Spreads (rules_of lines) codes count generations from link turning
