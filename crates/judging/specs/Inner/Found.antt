-- What the search for shapes leaves. Assumes nothing.
use Rattle.std.specs.Prelude.{◌≡◌, Bool, true, false, cond, List, [], ◌∷◌, ℕ, zero, suc, ◌≤◌, ◌<◌, length, get_or, Option, Some, None}
use Rattle.std.proofs.Math.Option.{some}
use Rattle.chase.specs.Lists.{In}
use Rattle.chase.specs.Rules.{Head, Rule, nth}
use Rattle.chase.specs.Making.{Record}
use Rattle.chase.specs.Shape.{Shape, shape_of}
use Rattle.chase.specs.Counting.{MoreThan}
use Rattle.chase.specs.Simplification.{Applies, Derived}
use Rattle.judging.specs.Inner.Codes.{shape_at, ShapeFits, shape_from}

-- The shape at place k.
abbrev pub shape_no : List ℕ → ℕ → Shape
shape_no codes k = shape_at (get_or codes k 0)

-- A shape is among the first n that were found.
pub record Has (codes : List ℕ) (n : ℕ) (s : Shape) : Type 0 where
  pub place : ℕ
  pub below : place < n
  pub there : shape_no codes place ≡ s

-- How the found shapes were reached, a row of three numbers for each: one more than the place of the shape that it was made of, 0 where a row has it; the number of the rule that made it, or of the row; the number of the rule's H line, 0 where a row has it.
abbrev pub parent_at : List (List ℕ) → ℕ → ℕ
parent_at ways k = get_or (get_or ways k []) 0 0

abbrev pub maker_at : List (List ℕ) → ℕ → ℕ
maker_at ways k = get_or (get_or ways k []) 1 0

abbrev pub h_line_at : List (List ℕ) → ℕ → ℕ
h_line_at ways k = get_or (get_or ways k []) 2 0

-- How the shape at place k was reached, by its row: a row of the sheet has it, or a rule makes it of a shape that was found before.
pub data Via (rules : List Rule) (rows : List Record) (codes : List ℕ) (k : ℕ) (way : List ℕ) : Type 0 where
  via_row : (x : Record) → get_or way 0 0 ≡ 0 → nth rows (get_or way 1 0) ≡ some x → shape_no codes k ≡ shape_of x → Via rules rows codes k way
  via_rule : (s : ℕ) (r : Rule) (h : Head) → get_or way 0 0 ≡ suc s → s < k → nth rules (get_or way 1 0) ≡ some r → nth r.heads (get_or way 2 0) ≡ some h
      → Applies r (shape_no codes s) → shape_no codes k ≡ shape_from r (shape_no codes s) h → Via rules rows codes k way

-- What holds of the first n shapes at any time.
pub record Kept (rules : List Rule) (rows : List Record) (codes index : List ℕ) (ways : List (List ℕ)) (n : ℕ) : Type 0 where
  pub sizes : (length codes ≡ 512) × (length index ≡ 17792) × (length ways ≡ 512)
  pub few : n ≤ 512
  pub small : (k : ℕ) → k < n → get_or codes k 0 < 17792
  pub fits : (k : ℕ) → k < n → ShapeFits (shape_no codes k)
  pub placed : (k : ℕ) → k < n → get_or index (get_or codes k 0) 0 ≡ suc k
  pub marked : (code k : ℕ) → get_or index code 0 ≡ suc k → (k < n) × (get_or codes k 0 ≡ code)
  pub via : (k : ℕ) → k < n → Via rules rows codes k (get_or ways k [])

-- No rule leads out of the first n shapes.
pub record Whole (rules : List Rule) (rows : List Record) (codes : List ℕ) (n : ℕ) : Type 0 where
  pub rows_in : (x : Record) → In x rows → Has codes n (shape_of x)
  pub rules-in : (k m : ℕ) (r : Rule) (h : Head) → k < n → nth rules m ≡ some r → Applies r (shape_no codes k) → In h r.heads
      → Has codes n (shape_from r (shape_no codes k) h)

-- True for each rule that fires on one of the first n shapes: rule i, from 0.
pub record FiredRules (rules : List Rule) (codes : List ℕ) (fired : List Bool) (n : ℕ) : Type 0 where
  pub size : length fired ≡ 256
  pub sound : (i : ℕ) → get_or fired i false ≡ true → (r : Rule) × (nth rules (suc i) ≡ some r) × ((k : ℕ) × (k < n) × Applies r (shape_no codes k))
  pub complete : (i k : ℕ) (r : Rule) → nth rules (suc i) ≡ some r → k < n → Applies r (shape_no codes k) → get_or fired i false ≡ true

-- No rule has fired yet.
pub record NoneFired (fired : List Bool) : Type 0 where
  pub size : length fired ≡ 256
  pub none : (i : ℕ) → get_or fired i false ≡ false

-- What the search answers: how many shapes there are, which it found all, or that there are more than 512.
abbrev pub Searched : List Rule → List Record → List ℕ → List ℕ → List (List ℕ) → List Bool → Option ℕ → Type 0
Searched rules rows codes index ways fired (Some n) = Kept rules rows codes index ways n × Whole rules rows codes n × FiredRules rules codes fired n
Searched rules rows codes index ways fired None = MoreThan (Derived rules rows) 512

-- How many of the first n rules have fired.
abbrev pub fired_in : ℕ → List Bool → ℕ
fired_in zero fired = 0
fired_in (suc n) [] = 0
fired_in (suc n) (m ∷ ms) = cond m (suc (fired_in n ms)) (fired_in n ms)
