-- The whole contract of the forecast, for all lent lines. It is lent nothing else, and the lines are not written to. Assumes nothing.
use Rattle.std.specs.Prelude.{◌≡◌, List, ◌⊎◌, ℕ, ◌≤◌}
use Rattle.patterns.specs.Outcome.{good, refused}
use Rattle.sheet.specs.Line.{Line}
use Rattle.sheet.specs.Write.{sheet_held}
use Rattle.chase.specs.Rules.{Rule, rules_of}
use Rattle.chase.specs.Value.{Value, generation}
use Rattle.chase.specs.Making.{Record}
use Rattle.chase.specs.Run.{rows_of}
use Rattle.chase.specs.Shape.{Reached}
use Rattle.chase.specs.Counting.{Count, MoreThan}
use Rattle.chase.specs.Judge.{Left, Bounded, Unbounded}
use Rattle.growth.specs.Forecast.{Forecast, forecast}

-- The deepest generation, as Judge's contract fixes it: no list of firings leaves a later one, and some list leaves it, unless it is 0.
pub record Deepest (rules : List Rule) (rows : List Record) (deepest : ℕ) : Type 0 where
  pub bounded : Bounded rules rows deepest
  pub met : (deepest ≡ 0) ⊎ ((v : Value) × Left rules rows v × (generation v ≡ deepest))

-- What is answered: a forecast; or a refusal's number and line.
pub data Foretold : Type 0 where
  foretold : Forecast → Foretold
  refuses : ℕ → ℕ → Foretold

-- What is not refused with 8 or 11: the lines are a sheet, and at most so many shapes are reached.
pub record Taken (limit : ℕ) (numbers : List ℕ) (lines : List Line) : Type 0 where
  pub sheet : sheet_held numbers ≡ good lines
  pub shapes : ℕ
  pub counted : Count (Reached (rules_of lines) (rows_of lines)) shapes
  pub within : shapes ≤ limit

-- A sheet that settles, and its figures.
pub record Right (limit : ℕ) (numbers : List ℕ) (f : Forecast) : Type 0 where
  pub lines : List Line
  pub taken : Taken limit numbers lines
  pub deepest : ℕ
  pub is_deepest : Deepest (rules_of lines) (rows_of lines) deepest
  pub figures : f ≡ forecast lines deepest

-- What is refused, in this order: Judge's 8 and 11, then 21. The conditions shut each other out, so each is given exactly on its own.
pub data Refuses (limit : ℕ) (numbers : List ℕ) : ℕ → ℕ → Type 0 where
  -- No sheet, with the first wrong line.
  wrong : (line : ℕ) → sheet_held numbers ≡ refused 8 line → Refuses limit numbers 8 line
  -- More shapes are reached than the limit.
  many : (lines : List Line) → sheet_held numbers ≡ good lines → MoreThan (Reached (rules_of lines) (rows_of lines)) limit → Refuses limit numbers 11 0
  -- The sheet is endless.
  endless : (lines : List Line) → Taken limit numbers lines → Unbounded (rules_of lines) (rows_of lines) → Refuses limit numbers 21 0

-- The contract: which answer may be given to these lent lines.
abbrev pub ForecastMeets : ℕ → List ℕ → Foretold → Type 0
ForecastMeets limit numbers (foretold f) = Right limit numbers f
ForecastMeets limit numbers (refuses number line) = Refuses limit numbers number line
