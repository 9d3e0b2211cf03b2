-- What following links leaves: the contracts of the inner functions that raise the generations. Assumes nothing.
use Rattle.std.specs.Prelude.{◌≡◌, Bool, true, false, Option, None, Some, List, ◌⊎◌, ℕ, zero, suc, ◌+◌, ◌*◌, ◌/◌, ◌≤◌, ◌<◌, length, get_or}
use Rattle.std.proofs.Math.Option.{some}
use Rattle.chase.specs.Rules.{Head, nth}
use Rattle.chase.specs.Simplification.{Applies}
use Rattle.rules.specs.Table.{row_bytes, rule_in}
use Rattle.judging.specs.Inner.Codes.{shape_at, code_of, shape_from}
use Rattle.judging.specs.Inner.Nodes.{at, Grid, from_of, link_of, back, weight}
use Rattle.judging.specs.declared.spread.Raised.{Raised}
use Rattle.judging.specs.declared.spread.Raised.TheVariants.{Nothing, Node, Over}

-- A raised node was raised from a node that was at least so high, and by a carried link from one that was raised before it.
pub record Timed (G F K : ℕ → ℕ) : Type 0 where
  pub rise : (v : ℕ) → 0 < G v → G v ≤ G (F v) + weight (K v)
  pub stamp : ℕ → ℕ
  pub clock : ℕ
  pub early : (v : ℕ) → stamp v < clock
  pub older : (v : ℕ) → 0 < G v → weight (K v) ≡ 0 → G (F v) ≤ G v → stamp (F v) < stamp v

-- What was raised last: whether something was, whether it was raised above the number of nodes, and the node.
abbrev pub changes : Raised → ℕ
changes Nothing = 0
changes (Node v) = 1
changes (Over v) = 1

abbrev pub overs : Raised → ℕ
overs Nothing = 0
overs (Node v) = 0
overs (Over v) = 1

abbrev pub is_calm : Raised → Bool
is_calm Nothing = true
is_calm (Node v) = false
is_calm (Over v) = false

abbrev pub is_over : Raised → Bool
is_over Nothing = false
is_over (Node v) = false
is_over (Over v) = true

abbrev pub node_of : Raised → ℕ
node_of Nothing = 0
node_of (Node v) = v
node_of (Over v) = v

-- The state where there are n nodes.
pub record Live (n : ℕ) (g raises : List (List ℕ)) (waiting : List Bool) (last : Raised) : Type 0 where
  pub grid : Grid g
  pub raise_size : length raises ≡ 3584
  pub size : length waiting ≡ 512
  pub small : n ≤ 3584
  pub timed : Timed (at g) (from_of raises) (link_of raises)
  pub node : 0 < changes last → node_of last < n
  pub low : (v : ℕ) → (overs last ≡ 1 → node_of last ≡ v → ⊥) → at g v ≤ n
  pub high : overs last ≡ 1 → n < at g (node_of last)

-- The sum of the first n values.
unfoldable pub sum_to : ℕ → (ℕ → ℕ) → ℕ
sum_to zero f = 0
sum_to (suc n) f = sum_to n f + f n

-- A link can raise nothing, or it is to be followed.
abbrev pub Rests : List (List ℕ) → List Bool → ℕ → ℕ → ℕ → Type 0
Rests g waiting u v code = (get_or waiting (u / 7) false ≡ true) ⊎ (at g u + weight code ≤ at g v)

-- A node is as it was.
pub record Same (g₀ raises₀ g raises : List (List ℕ)) (v : ℕ) : Type 0 where
  pub high : at g v ≡ at g₀ v
  pub from_is : from_of raises v ≡ from_of raises₀ v
  pub link_is : link_of raises v ≡ link_of raises₀ v

-- The links of P were followed.
pub record Done (n : ℕ) (P : ℕ → ℕ → ℕ → Type 0) (g₀ raises₀ : List (List ℕ)) (waiting₀ : List Bool) (last₀ : Raised)
    (g raises : List (List ℕ)) (waiting : List Bool) (last : Raised) : Type 0 where
  pub live : Live n g raises waiting last
  pub begun : changes last ≡ 0 → changes last₀ ≡ 0
  pub still : changes last ≡ 0 → waiting ≡ waiting₀
  pub rests : overs last ≡ 0 → (u v code : ℕ) → P u v code → Rests g waiting u v code
  pub keeps : (u v code : ℕ) → Rests g₀ waiting₀ u v code → Rests g waiting u v code
  pub grown : sum_to n (at g₀) ≤ sum_to n (at g)
  pub more : changes last₀ ≡ 0 → 0 < changes last → sum_to n (at g₀) < sum_to n (at g)
  pub going : overs last ≡ 0 → overs last₀ ≡ 0
  pub edges : (v : ℕ) → Same g₀ raises₀ g raises v ⊎ P (from_of raises v) v (link_of raises v)

-- The waiting shapes' links were followed, those of E in all.
pub record Swept (n : ℕ) (E : ℕ → ℕ → ℕ → Type 0) (s : ℕ) (g₀ raises₀ g raises : List (List ℕ))
    (waiting : List Bool) (last : Raised) : Type 0 where
  pub live : Live n g raises waiting last
  pub rests : overs last ≡ 0 → (u v code : ℕ) → E u v code → Rests g waiting u v code
  pub clear : changes last ≡ 0 → (x : ℕ) → x < s → get_or waiting x false ≡ true → ⊥
  pub grown : sum_to n (at g₀) ≤ sum_to n (at g)
  pub more : 0 < changes last → sum_to n (at g₀) < sum_to n (at g)
  pub edges : (v : ℕ) → Same g₀ raises₀ g raises v ⊎ E (from_of raises v) v (link_of raises v)

-- One link.
pub record Just (x y z u v code : ℕ) : Type 0 where
  pub from_is : u ≡ x
  pub to_is : v ≡ y
  pub code_is : code ≡ z

-- The links of P 0 to P (k - 1).
pub record Upto (k : ℕ) (P : ℕ → ℕ → ℕ → ℕ → Type 0) (u v code : ℕ) : Type 0 where
  pub number : ℕ
  pub below : number < k
  pub here : P number u v code

-- The fresh link to node y from place p of shape s.
pub record FreshLink (bytes : List ℕ) (s y z p u v code : ℕ) : Type 0 where
  pub source : get_or bytes (21 + p) 0 ≡ 1
  pub just : Just (7 * s + p) y z u v code

-- A rule's bytes have no source from place k on.
abbrev pub NoSource : List ℕ → ℕ → Type 0
NoSource bytes k = (q : ℕ) → k ≤ q → q < 7 → get_or bytes (21 + q) 0 ≡ 1 → ⊥

-- Place p is a source of a rule's fresh links, and of those from place k on it has the largest generation in shape s.
pub record BestPlace (bytes : List ℕ) (g : List (List ℕ)) (s k p : ℕ) : Type 0 where
  pub place : p < 7
  pub source : get_or bytes (21 + p) 0 ≡ 1
  pub most : (q : ℕ) → k ≤ q → q < 7 → get_or bytes (21 + q) 0 ≡ 1 → at g (7 * s + q) ≤ at g (7 * s + p)

-- The source from place k on with the largest generation.
abbrev pub BestFrom : List ℕ → List (List ℕ) → ℕ → ℕ → Option ℕ → Type 0
BestFrom bytes g s k (Some p) = BestPlace bytes g s k p
BestFrom bytes g s k None = NoSource bytes k

abbrev pub Best : List ℕ → List (List ℕ) → ℕ → Option ℕ → Type 0
Best bytes g s source = BestFrom bytes g s 0 source

-- The first place of the mark in field j of H line h; 0 for a fresh mark.
abbrev pub place_of : List ℕ → ℕ → ℕ → ℕ
place_of bytes h j = get_or bytes (8 + get_or bytes (34 + 8 * h + j) 0) 0

-- The bytes of H line h: how many fields it has, their marks and the first places of these.
pub record LineBytes (bytes : List ℕ) (h : ℕ) : Type 0 where
  pub below : h < 4
  pub width : get_or bytes (33 + 8 * h) 0 ≤ 6
  pub marks : (j : ℕ) → j < get_or bytes (33 + 8 * h) 0 → get_or bytes (34 + 8 * h + j) 0 ≤ 12
  pub places : (j : ℕ) → j < get_or bytes (33 + 8 * h) 0 → place_of bytes h j ≤ 6

-- The links of rule r and H line h from shape s to field j, from 0, of shape t.
pub data FieldLink (bytes : List ℕ) (r h s t j u v code : ℕ) : Type 0 where
  carried_link : (place_of bytes h j ≡ 0 → ⊥) → Just (7 * s + place_of bytes h j) (7 * t + (j + 1)) (8 * r + 2 * h) u v code → FieldLink bytes r h s t j u v code
  fresh_link : place_of bytes h j ≡ 0 → Upto 7 (FreshLink bytes s (7 * t + (j + 1)) (8 * r + 2 * h + 1)) u v code → FieldLink bytes r h s t j u v code

abbrev pub HeadLink : List ℕ → ℕ → ℕ → ℕ → ℕ → ℕ → ℕ → ℕ → Type 0
HeadLink bytes r h s t = Upto (get_or bytes (33 + 8 * h) 0) (FieldLink bytes r h s t)

-- The links of rule r and H line h from shape s, which has a code, to the shape that they make.
pub record MadeLink (bytes index : List ℕ) (code s r h u v link : ℕ) : Type 0 where
  pub head : Head
  pub line : nth (rule_in bytes).heads (suc h) ≡ some head
  pub t : ℕ
  pub placed : get_or index (code_of (shape_from (rule_in bytes) (shape_at code) head)) 0 ≡ suc t
  pub here : HeadLink bytes r h s t u v link

pub record RuleLink (table index : List ℕ) (code s r u v link : ℕ) : Type 0 where
  pub applies : Applies (rule_in (row_bytes table r)) (shape_at code)
  pub here : Upto (get_or (row_bytes table r) 28 0) (MadeLink (row_bytes table r) index code s r) u v link

-- All links from shape s, which has a code.
abbrev pub ShapeLink : List ℕ → ℕ → List ℕ → ℕ → ℕ → ℕ → ℕ → ℕ → Type 0
ShapeLink table rules index code s = Upto rules (RuleLink table index code s)

-- All links.
abbrev pub EachLink : List ℕ → ℕ → List ℕ → List ℕ → ℕ → ℕ → ℕ → ℕ → Type 0
EachLink table rules codes index count = Upto count (λ s. ShapeLink table rules index (get_or codes s 0) s)

-- Every shape that a rule makes of this one has a place, and its fields are among the n nodes.
pub record Onward (table : List ℕ) (rules : ℕ) (index : List ℕ) (n code : ℕ) : Type 0 where
  pub each : (r h : ℕ) (d : Head) → r < rules → Applies (rule_in (row_bytes table r)) (shape_at code) → nth (rule_in (row_bytes table r)).heads (suc h) ≡ some d
      → (t : ℕ) × (get_or index (code_of (shape_from (rule_in (row_bytes table r)) (shape_at code) d)) 0 ≡ suc t) × (7 * t + 7 ≤ n)

-- k links back from x no node of generation 0 is met.
unfoldable pub Long : (ℕ → ℕ) → (ℕ → ℕ) → ℕ → ℕ → Type 0
Long G F k x = (j : ℕ) → j < k → 0 < G (back F j x)

-- A walk back from x stays below n until it meets a node of generation 0.
pub record Inside (n : ℕ) (g : List (List ℕ)) (from : ℕ → ℕ) (x : ℕ) : Type 0 where
  pub grid : Grid g
  pub node : x < n
  pub small : n ≤ 3584
  pub below : (k : ℕ) → Long (at g) from k x → back from k x < n

-- What a walk back of n links from x finds: r is 0 where a node of generation 0 was met, and otherwise one more than the node it comes to.
pub record Walked (n : ℕ) (g : List (List ℕ)) (from : ℕ → ℕ) (x r : ℕ) : Type 0 where
  pub short : r ≡ 0 → (k : ℕ) × (k < n) × Long (at g) from k x × (at g (back from k x) ≡ 0)
  pub long : 0 < r → (r ≡ back from n x + 1) × Long (at g) from n x
