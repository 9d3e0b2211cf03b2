-- Judge's answer without its steps, and a sheet that settles. Assumes nothing.
use Rattle.std.specs.Prelude.{List, ℕ, ◌*◌, ◌≤◌, length}
use Rattle.sheet.specs.Line.{Line}
use Rattle.chase.specs.Rules.{rules_of}
use Rattle.chase.specs.Run.{rows_of}
use Rattle.chase.specs.Judge.{Bounded, Judgement, JudgeMeets, step_limit, shape_limit}
use Rattle.carrying.specs.Contract.{Taken}

-- Judge answers so where steps enough are lent.
pub record Judged (numbers : List ℕ) (said : Judgement) : Type 0 where
  pub steps : List ℕ
  pub room : 5 * step_limit ≤ length steps
  pub left : List ℕ
  pub meets : JudgeMeets shape_limit numbers steps said left

-- A sheet that settles, with room for the records.
pub record Settled (numbers before : List ℕ) : Type 0 where
  pub lines : List Line
  pub taken : Taken numbers before lines
  pub deepest : ℕ
  pub bounded : Bounded (rules_of lines) (rows_of lines) deepest
