-- A rule and one of its H lines by their numbers. Assumes nothing.
use Rattle.std.specs.Prelude.{◌≡◌, List, ℕ}
use Rattle.std.proofs.Math.Option.{some}
use Rattle.chase.specs.Rules.{Head, Rule, nth}

-- Rule n and its H line h are there.
pub record Names (rules : List Rule) (n h : ℕ) : Type 0 where
  pub rule : Rule
  pub named : nth rules n ≡ some rule
  pub head : Head
  pub line : nth rule.heads h ≡ some head
