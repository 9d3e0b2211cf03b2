-- The steps that are written: the way to a found shape, and the line of links to a node. Assumes nothing.
use Rattle.std.specs.Prelude.{◌≡◌, List, [], ◌∷◌, ◌++◌, ℕ, zero, suc, ◌+◌, ◌-◌, ◌*◌, ◌/◌, ◌%◌, ◌≤◌, ◌<◌, length}
use Rattle.std.proofs.Math.Seq.{paste}
use Rattle.chase.specs.Steps.{Step, step_numbers}
use Rattle.judging.specs.Inner.Found.{parent_at, maker_at, h_line_at}
use Rattle.judging.specs.Inner.Nodes.{at, back, weight}

-- The step of a link from node u to node v.
abbrev pub link_step : ℕ → ℕ → ℕ → Step
link_step u code v = record { rule = code / 8 + 1; head = code / 2 % 4 + 1; from = u % 7; to = v % 7; fresh = code % 2 }

-- The k links that lead to node x, the last one last.
abbrev pub line_to : (ℕ → ℕ) → (ℕ → ℕ) → ℕ → ℕ → List Step
line_to F K zero x = []
line_to F K (suc k) x = line_to F K k (F x) ++ (link_step (F x) (K x) x ∷ [])

-- A step used only to reach a record.
abbrev pub reach_step : ℕ → ℕ → Step
reach_step rule head = record { rule = rule; head = head; from = 0; to = 0; fresh = 0 }

-- The place of the shape that the shape at place s was made of.
abbrev pub made_of : List (List ℕ) → ℕ → ℕ
made_of ways s = parent_at ways s - 1

-- The place that lies k firings back from place s.
abbrev pub way_back : List (List ℕ) → ℕ → ℕ → ℕ
way_back ways zero s = s
way_back ways (suc k) s = way_back ways k (made_of ways s)

-- The last k firings that lead to the shape at place s.
abbrev pub way_to : List (List ℕ) → ℕ → ℕ → List Step
way_to ways zero s = []
way_to ways (suc k) s =
    way_to ways k (made_of ways s) ++ (reach_step (maker_at ways s) (h_line_at ways s) ∷ [])

-- Each shape that is not a row's was made of one that was found before it.
pub record Falls (ways : List (List ℕ)) (n : ℕ) : Type 0 where
  pub size : length ways ≡ 512
  pub few : n ≤ 512
  pub before : (k : ℕ) → k < n → parent_at ways k ≤ k

-- k firings lead from a row's shape to the shape at place s, and no fewer.
pub record WayLength (ways : List (List ℕ)) (s k : ℕ) : Type 0 where
  pub short : k ≤ s
  pub row : parent_at ways (way_back ways k s) ≡ 0
  pub made : (j : ℕ) → j < k → 0 < parent_at ways (way_back ways j s)

-- Steps put into lent numbers at step `at`.
abbrev pub put_steps : List ℕ → ℕ → List Step → List ℕ
put_steps before at steps = paste before (5 * at) (step_numbers steps) (5 * length steps)

abbrev pub one_step : ℕ → ℕ → ℕ → ℕ → ℕ → List Step
one_step rule head from to fresh = record { rule = rule; head = head; from = from; to = to; fresh = fresh } ∷ []

-- The nodes of k links back from x are all within the grid.
abbrev pub StaysBelow : (ℕ → ℕ) → ℕ → ℕ → Type 0
StaysBelow from k x = (j : ℕ) → j ≤ k → back from j x < 3584

-- A node of the largest generation among those of the first n whose link is fresh; node 0, which is no field, where there is none.
pub record Deepest (generations : List (List ℕ)) (link : ℕ → ℕ) (n x : ℕ) : Type 0 where
  pub below : 0 < n → x < n
  pub none : n ≡ 0 → x ≡ 0
  pub made : 0 < x → weight (link x) ≡ 1
  pub largest : (v : ℕ) → v < n → weight (link v) ≡ 1 → at generations v ≤ at generations x

-- Some links lead back from y to itself, all within the first n nodes.
pub record InTurn (from : ℕ → ℕ) (n y : ℕ) : Type 0 where
  pub period : ℕ
  pub some : 0 < period
  pub few : period ≤ n
  pub closes : back from period y ≡ y
  pub nodes : (k : ℕ) → back from k y < n

-- k is the smallest such number.
pub record TurnLength (from : ℕ → ℕ) (n y k : ℕ) : Type 0 where
  pub some : 0 < k
  pub few : k ≤ n
  pub closes : back from k y ≡ y
  pub first : (j : ℕ) → 0 < j → j < k → back from j y ≡ y → ⊥

-- Some links lead back from x to a node of generation 0, all within the first n nodes.
pub record InLine (generations : List (List ℕ)) (from : ℕ → ℕ) (n x : ℕ) : Type 0 where
  pub steps : ℕ
  pub few : steps < n
  pub ends : at generations (back from steps x) ≡ 0
  pub nodes : (j : ℕ) → j ≤ steps → back from j x < n

-- k is the smallest number of such links.
pub record LineLength (generations : List (List ℕ)) (from : ℕ → ℕ) (n x k : ℕ) : Type 0 where
  pub few : k < n
  pub ends : at generations (back from k x) ≡ 0
  pub high : (j : ℕ) → j < k → 0 < at generations (back from j x)
