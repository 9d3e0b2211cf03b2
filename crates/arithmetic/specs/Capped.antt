-- Numbers up to a cap, and polynomials. Assumes nothing.
use Rattle.std.specs.Prelude.{List, [], ◌∷◌, ℕ, ◌+◌, ◌*◌, min}

-- One more than the largest figure that is answered as a number.
abbrev pub cap : ℕ
cap = 4294967296

-- A number, or the cap where it is larger.
abbrev pub capped : ℕ → ℕ
capped n = min n cap

-- The value at t of the polynomial with these coefficients, the one of power 0 first.
abbrev pub polynomial : List ℕ → ℕ → ℕ
polynomial [] t = 0
polynomial (c ∷ cs) t = c + t * polynomial cs t
