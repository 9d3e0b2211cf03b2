-- Numbers as bytes, lowest first. Assumes nothing.
use Rattle.std.specs.Prelude.{List, [], ◌∷◌, ◌++◌, ℕ, zero, suc, ◌+◌, ◌*◌, ◌/◌, ◌%◌, length, take, drop}

-- The number whose bytes these are, lowest first.
abbrev pub number : List ℕ → ℕ
number [] = 0
number (b ∷ bs) = b + 256 * number bs

-- The first n numbers of a list of bytes, w bytes each.
abbrev pub numbers_from : ℕ → ℕ → List ℕ → List ℕ
numbers_from w zero bytes = []
numbers_from w (suc n) bytes = number (take w bytes) ∷ numbers_from w n (drop w bytes)

-- The numbers that bytes hold, w bytes each; a last part too short for a number counts as none.
abbrev pub numbers_of : (w : ℕ) → List ℕ → List ℕ
numbers_of w bytes = numbers_from w (length bytes / w) bytes

-- A number as w bytes.
abbrev pub bytes_of : ℕ → ℕ → List ℕ
bytes_of zero n = []
bytes_of (suc w) n = n % 256 ∷ bytes_of w (n / 256)

-- Numbers as bytes, w bytes each.
abbrev pub all_bytes : ℕ → List ℕ → List ℕ
all_bytes w [] = []
all_bytes w (n ∷ ns) = bytes_of w n ++ all_bytes w ns
