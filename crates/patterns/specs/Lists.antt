-- Members of lists, and their numbers. Assumes nothing.
use Rattle.std.specs.Prelude.{◌≡◌, ◌⊎◌, List, [], ◌∷◌, map, ℕ, suc}

-- x is in a list.
abbrev pub In : {A : Type 0} → A → List A → Type 0
In x [] = ⊥
In x (y ∷ ys) = (x ≡ y) ⊎ In x ys

-- Every element of a list.
abbrev pub All : {A : Type 0} → (A → Type 0) → List A → Type 0
All P [] = Unit {0}
All P (x ∷ xs) = P x × All P xs

-- An element with its number.
pub record Numbered (A : Type 0) : Type 0 where
  pub number : ℕ
  pub item : A

module _ {A : Type 0} where
  abbrev pub next : Numbered A → Numbered A
  next p = record { number = suc p.number; item = p.item }

  -- The elements of a list with their numbers, which count from 1.
  abbrev pub numbered : List A → List (Numbered A)
  numbered [] = []
  numbered (x ∷ l) = record { number = 1; item = x } ∷ map next (numbered l)
