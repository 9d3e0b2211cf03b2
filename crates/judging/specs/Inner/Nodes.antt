-- Numbers for the fields of 512 shapes, seven for each, and walks back from node to node. Assumes nothing.
use Rattle.std.specs.Prelude.{◌≡◌, List, [], ◌∷◌, ℕ, zero, suc, ◌+◌, ◌/◌, ◌%◌, ◌≤◌, ◌<◌, length, get_or, set}

-- The number at a node: field v % 7 of shape v / 7.
unfoldable pub at : List (List ℕ) → ℕ → ℕ
at g v = get_or (get_or g (v / 7) []) (v % 7) 0

unfoldable pub put : List (List ℕ) → ℕ → ℕ → List (List ℕ)
put g v x = set g (v / 7) (set (get_or g (v / 7) []) (v % 7) x)

-- Seven numbers for each of 512 shapes.
pub record Grid (g : List (List ℕ)) : Type 0 where
  pub size : length g ≡ 512
  pub rows : (s : ℕ) → s < 512 → length (get_or g s []) ≡ 7

-- All numbers are 0.
pub record Zeros (g : List (List ℕ)) : Type 0 where
  pub grid : Grid g
  pub zero_at : (v : ℕ) → at g v ≡ 0

-- How each node was raised last: a row of two numbers for each node, the node that it was raised from and the code of the link.
abbrev pub from_of : List (List ℕ) → ℕ → ℕ
from_of raises v = get_or (get_or raises v []) 0 0

abbrev pub link_of : List (List ℕ) → ℕ → ℕ
link_of raises v = get_or (get_or raises v []) 1 0

abbrev pub put_raise : List (List ℕ) → ℕ → ℕ → ℕ → List (List ℕ)
put_raise raises v u link = set raises v (u ∷ link ∷ [])

-- The node that lies k links back from node x.
abbrev pub back : (ℕ → ℕ) → ℕ → ℕ → ℕ
back F zero x = x
back F (suc k) x = F (back F k x)

-- A link's code ends in 1 where it is a fresh one.
abbrev pub weight : ℕ → ℕ
weight code = code % 2

-- How many of the k links back from x are fresh.
abbrev pub fresh_back : (ℕ → ℕ) → (ℕ → ℕ) → ℕ → ℕ → ℕ
fresh_back F K zero x = 0
fresh_back F K (suc k) x = fresh_back F K k x + weight (K (back F k x))

-- No link can raise a node.
unfoldable pub Stable : (ℕ → ℕ → ℕ → Type 0) → (ℕ → ℕ) → Type 0
Stable E G = (u v code : ℕ) → E u v code → G u + weight code ≤ G v

-- A loop of k links back from x to x, all nodes different, with a fresh link.
pub record Turn (E : ℕ → ℕ → ℕ → Type 0) (F K : ℕ → ℕ) (k x : ℕ) : Type 0 where
  pub some : 0 < k
  pub links : (j : ℕ) → j < k → E (back F (suc j) x) (back F j x) (K (back F j x))
  pub closes : back F k x ≡ x
  pub apart : (i j : ℕ) → i < j → j < k → back F i x ≡ back F j x → ⊥
  pub renews : 0 < fresh_back F K k x

-- A line of k links back from x to a node of generation 0, with m fresh links. It passes no such node before.
pub record Line (E : ℕ → ℕ → ℕ → Type 0) (G F K : ℕ → ℕ) (k x m : ℕ) : Type 0 where
  pub links : (j : ℕ) → j < k → E (back F (suc j) x) (back F j x) (K (back F j x))
  pub starts : G (back F k x) ≡ 0
  pub high : (j : ℕ) → j < k → 0 < G (back F j x)
  pub renews : fresh_back F K k x ≡ m
