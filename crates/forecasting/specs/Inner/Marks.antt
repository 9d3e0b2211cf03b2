-- How the marks of a rule are counted: what is met of each mark, and the counts so far. Assumes nothing.
use Rattle.std.specs.Prelude.{◌≡◌, List, ◌++◌, ℕ, ◌+◌, ◌≤◌, length, get_or}
use Rattle.chase.specs.Lists.{In}
use Rattle.chase.specs.Rules.{marks_of}
use Rattle.chase.specs.Counting.{Count}
use Rattle.rules.specs.Inner.Bytes.{marks_at, heads_at}
use Rattle.forecasting.specs.declared.marks.Mark.{Mark}
use Rattle.forecasting.specs.declared.marks.Mark.TheVariants.{Nowhere, InBody, InHead}
use Rattle.forecasting.specs.declared.marks.MarkCounts.{MarkCounts}

-- What s says of mark m, of the marks of a B line and those met in its H lines: that it is in neither, that it is in B only, or that it has been met.
pub record StateOf (body heads : List ℕ) (m : ℕ) (s : Mark) : Type 0 where
  pub nowhere : s ≡ Nowhere → (In m heads → ⊥) × (In m body → ⊥)
  pub in_body : s ≡ InBody → (In m heads → ⊥) × In m body
  pub in_head : s ≡ InHead → In m heads

-- What is said of the marks 0 to 12 is so, and so many different marks of those met in H lines are fresh and carried.
pub record Counted (body heads : List ℕ) (met : List Mark) (fresh carried : ℕ) : Type 0 where
  pub size : length met ≡ 13
  pub small : (m : ℕ) → In m heads → (1 ≤ m) × (m ≤ 12)
  pub states : (m : ℕ) → m ≤ 12 → StateOf body heads m (get_or met m Nowhere)
  pub fresh_ones : Count (λ m. In m heads × (In m body → ⊥)) fresh
  pub carried_ones : Count (λ m. In m heads × In m body) carried

-- This for the rule whose B line is line n, once its first h H lines are passed, and these marks of the next.
pub record HeadsCounted (numbers : List ℕ) (n h : ℕ) (met : List Mark) (c : MarkCounts) (marks : List ℕ) : Type 0 where
  pub counted : Counted (marks_at numbers n) (marks_of (heads_at numbers (n + 1) h) ++ marks) met c.fresh c.carried

-- What a mark that is met in an H line does to the counts, by where it was met before.
pub record MarkMet (s : Mark) (before after : MarkCounts) : Type 0 where
  pub nowhere : s ≡ Nowhere → (after.fresh ≡ before.fresh + 1) × (after.carried ≡ before.carried)
  pub in_body : s ≡ InBody → (after.fresh ≡ before.fresh) × (after.carried ≡ before.carried + 1)
  pub in_head : s ≡ InHead → (after.fresh ≡ before.fresh) × (after.carried ≡ before.carried)
