-- What a walk along a text hands out, in lines and bytes alone. No contract cites this: a theorem shows that it is so. Assumes nothing.
use Rattle.std.specs.Prelude.{◌≡◌, cond, List, [], ◌∷◌, ◌++◌, ℕ, zero, suc, ◌<◌, eqb, length, get_or}
use Rattle.walker.specs.Walk.{lines_of, line_end, line_at}

-- The lines that a walker hands out from `at` on, one after the other, until it says that there is none; k of them at most.
abbrev pub handed : List ℕ → ℕ → ℕ → List (List ℕ)
handed s at zero = []
handed s at (suc k) = cond (eqb (line_end s at) at) [] (line_at s at ∷ handed s (line_end s at) k)

-- The bytes of lines, one line after the other.
abbrev pub together : List (List ℕ) → List ℕ
together [] = []
together (s ∷ ss) = s ++ together ss

-- The last byte; 0 where there is none.
abbrev pub last_byte : List ℕ → ℕ
last_byte [] = 0
last_byte (b ∷ []) = b
last_byte (b ∷ c ∷ s) = last_byte (c ∷ s)

-- Each line ends in byte 10.
abbrev pub AllEnded : List (List ℕ) → Type 0
AllEnded [] = Unit {0}
AllEnded (l ∷ ls) = (last_byte l ≡ 10) × AllEnded ls

-- What is left of a text, as a line of its own; no line where nothing is left.
abbrev pub line_left : List ℕ → List (List ℕ)
line_left [] = []
line_left (b ∷ s) = (b ∷ s) ∷ []

-- Lines that are handed out of a text and what is left of it: together they are the text and its lines; each that is handed out ends in byte 10, and no byte 10 is left.
pub record HandedOut (text : List ℕ) (lines : List (List ℕ)) (left : List ℕ) : Type 0 where
  pub in_order : lines_of text ≡ lines ++ line_left left
  pub bytes : together lines ++ left ≡ text
  pub ended : AllEnded lines
  pub unended : (i : ℕ) → i < length left → get_or left i 0 ≡ 10 → ⊥
