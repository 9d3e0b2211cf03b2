-- The links between fields of found shapes, and what raising the generations along them leaves. Assumes nothing.
use Rattle.std.specs.Prelude.{◌≡◌, Option, None, Some, List, ℕ, suc, ◌+◌, ◌*◌, ◌≤◌, ◌<◌, length, get_or}
use Rattle.std.proofs.Math.Option.{some}
use Rattle.chase.specs.Lists.{In}
use Rattle.chase.specs.Rules.{Head, Rule, nth}
use Rattle.chase.specs.Simplification.{Applies}
use Rattle.rules.specs.Table.{first_place, source_at}
use Rattle.judging.specs.Inner.Codes.{code_of, ShapeFits, shape_from}
use Rattle.judging.specs.Inner.Found.{shape_no}
use Rattle.judging.specs.Inner.Nodes.{at, Grid, Stable, Turn, Line}

-- Where a link begins: a carried one at the first place of the mark, a fresh one at a place that fresh numbers come from.
pub data Begins (r : Rule) (mark place fresh : ℕ) : Type 0 where
  carried : In mark r.marks → place ≡ first_place mark r.marks → fresh ≡ 0 → Begins r mark place fresh
  new : (In mark r.marks → ⊥) → place ≤ 6 → source_at r place ≡ 1 → fresh ≡ 1 → Begins r mark place fresh

-- A link from node u to node v: rule n and H line h, from 0, lead from a place of shape s to a field of the shape t that they make.
pub record Link (rules : List Rule) (codes : List ℕ) (count u v code : ℕ) : Type 0 where
  pub s : ℕ
  pub t : ℕ
  pub n : ℕ
  pub h : ℕ
  pub j : ℕ
  pub place : ℕ
  pub fresh : ℕ
  pub mark : ℕ
  pub rule : Rule
  pub head : Head
  pub s_below : s < count
  pub t_below : t < count
  pub named : nth rules (suc n) ≡ some rule
  pub line : nth rule.heads (suc h) ≡ some head
  pub applies : Applies rule (shape_no codes s)
  pub makes : shape_from rule (shape_no codes s) head ≡ shape_no codes t
  pub to : nth head.marks (suc j) ≡ some mark
  pub begins : Begins rule mark place fresh
  pub from_is : u ≡ 7 * s + place
  pub to_is : v ≡ 7 * t + suc j
  pub code_is : code ≡ 8 * n + 2 * h + fresh

-- The first `count` shapes, at their places in the index, which no rule leads out of.
pub record Closed (rules : List Rule) (codes index : List ℕ) (count : ℕ) : Type 0 where
  pub size : length codes ≡ 512
  pub size_index : length index ≡ 17792
  pub few : count ≤ 512
  pub small : (k : ℕ) → k < count → get_or codes k 0 < 17792
  pub fits : (k : ℕ) → k < count → ShapeFits (shape_no codes k)
  pub placed : (k : ℕ) → k < count → get_or index (get_or codes k 0) 0 ≡ suc k
  pub marked : (code k : ℕ) → get_or index code 0 ≡ suc k → (k < count) × (get_or codes k 0 ≡ code)
  pub rules-in : (k m : ℕ) (r : Rule) (h : Head) (code : ℕ) → k < count → nth rules m ≡ some r → Applies r (shape_no codes k) → In h r.heads
      → code ≡ code_of (shape_from r (shape_no codes k) h) → get_or index code 0 ≡ 0 → ⊥

-- A node of a loop as a number: 0 where there is none, and otherwise one more than the node.
abbrev pub turning_number : Option ℕ → ℕ
turning_number None = 0
turning_number (Some y) = suc y

-- What raising the generations leaves. turning is 0 where all is settled, and otherwise one more than a node of a loop.
pub record Spreads (rules : List Rule) (codes : List ℕ) (count : ℕ) (generations : List (List ℕ)) (from link : ℕ → ℕ) (turning : ℕ) : Type 0 where
  pub grid : Grid generations
  pub settled : turning ≡ 0
      → Stable (Link rules codes count) (at generations)
      × ((x : ℕ) → x < 7 * count → (k : ℕ) × (k < 7 * count) × Line (Link rules codes count) (at generations) from link k x (at generations x))
  pub endless : (y : ℕ) → turning ≡ suc y → (y < 7 * count) × ((k : ℕ) × (k ≤ 7 * count) × Turn (Link rules codes count) from link k y)
  pub outside : (x : ℕ) → 7 * count ≤ x → at generations x ≡ 0
