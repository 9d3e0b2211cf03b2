-- What an operation answers, in document 01's numbers, and what lent memory then holds. Assumes nothing.
use Rattle.std.specs.Prelude.{List, [], ◌∷◌, ◌++◌, ℕ, zero, suc, length, drop}

-- A good answer, or a refusal with its number and line (line 0 where none is named).
pub data Outcome (A : Type 0) : Type 0 where
  good : A → Outcome A
  refused : ℕ → ℕ → Outcome A

-- A good answer by f; a refusal as it is.
abbrev pub map_good : {A B : Type 0} → (A → B) → Outcome A → Outcome B
map_good f (good a) = good (f a)
map_good f (refused number line) = refused number line

-- How many there are.
abbrev pub counted : {A : Type 0} → Outcome (List A) → Outcome ℕ
counted o = map_good length o

-- Lent memory after a call: a good call puts what it counts at the front and leaves the rest, a refusal leaves all.
abbrev pub held : Outcome (List ℕ) → List ℕ → List ℕ
held (good new) before = new ++ drop (length new) before
held (refused number line) before = before

-- The numbers in so many places, 0 in the unused ones.
abbrev pub padded : ℕ → List ℕ → List ℕ
padded zero ns = []
padded (suc w) [] = 0 ∷ padded w []
padded (suc w) (n ∷ ns) = n ∷ padded w ns
