-- Words as bytes, and a number in decimal, unpadded. Assumes nothing.
use Rattle.std.specs.Prelude.{List, [], ◌∷◌, ◌++◌, ℕ, zero, suc, ◌+◌, ◌/◌, ◌%◌}
use Prim.Native.Char.{code}
use Prim.Native.String as Quoted

-- The bytes of words in quotes.
abbrev pub bytes : Quoted.String → List ℕ
bytes Quoted.[] = []
bytes (Quoted.◌∷◌ c s) = code c ∷ bytes s

-- The digits of n, none for 0. Each turn divides by 10, so n turns are enough.
abbrev pub digits : ℕ → ℕ → List ℕ
digits zero n = []
digits (suc turns) zero = []
digits (suc turns) (suc n) = digits turns (suc n / 10) ++ ((48 + suc n % 10) ∷ [])

-- A number in decimal, unpadded: the digits before its last one, and that one, 0 too.
unfoldable pub decimal : ℕ → List ℕ
decimal n = digits n (n / 10) ++ ((48 + n % 10) ∷ [])
