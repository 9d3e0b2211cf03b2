-- The lines of a text, each with its byte 10. Assumes nothing.
use Rattle.std.specs.Prelude.{◌≡◌, ℕ, zero, suc, ◌+◌, Bool, true, false, cond, List, [], ◌∷◌, take, drop, eqb}
use Rattle.std.specs.Borrow.{Bor}

-- One byte more in front of the first of the lines.
abbrev pub longer : ℕ → List (List ℕ) → List (List ℕ)
longer b [] = (b ∷ []) ∷ []
longer b (l ∷ ls) = (b ∷ l) ∷ ls

-- A text's lines. What follows the last byte 10 is one more line, which has no byte 10.
abbrev pub lines_of : List ℕ → List (List ℕ)
lines_of [] = []
lines_of (b ∷ s) = cond (eqb b 10) ((b ∷ []) ∷ lines_of s) (longer b (lines_of s))

abbrev pub after : Bool → ℕ → ℕ
after true k = 1
after false zero = 0
after false (suc k) = suc (suc k)

-- How many bytes the line at the text's start has, with its byte 10; 0 where no byte 10 follows.
abbrev pub line_length : List ℕ → ℕ
line_length [] = 0
line_length (b ∷ s) = after (eqb b 10) (line_length s)

-- Where the line at `at` ends, after its byte 10; `at` itself where there is none.
abbrev pub line_end : List ℕ → ℕ → ℕ
line_end s at = at + line_length (drop at s)

-- The line at `at`, with its byte 10; empty where there is none.
abbrev pub line_at : List ℕ → ℕ → List ℕ
line_at s at = take (line_length (drop at s)) (drop at s)

-- How far into a text the part begins that is handed out at `at`, where k bytes are: at `at`, and at the text's start where there are none.
abbrev pub part_start : ℕ → ℕ → ℕ
part_start at zero = 0
part_start at (suc k) = at

-- What is handed out of a text at `at`: the bytes of the line there, and no copy of them. It is a part of that very text, in its block, so far from its first byte.
pub record HandsOut (text : Bor (List ℕ)) (at : ℕ) (part : Bor (List ℕ)) : Type 0 where
  pub bytes : part.now ≡ line_at text.now at
  pub block : part.ref_ptr.0 ≡ text.ref_ptr.0
  pub offset : part.ref_ptr.1 ≡ part_start at (line_length (drop at text.now)) + text.ref_ptr.1

-- Where a walker that begins at `at` stands once it has moved n times. Where no line is left it stays.
abbrev pub stands_at : List ℕ → ℕ → ℕ → ℕ
stands_at s at zero = at
stands_at s at (suc n) = line_end s (stands_at s at n)

-- Where line n + 1 begins: where a walker stands that has passed n lines from the text's start; where it stays if there are fewer.
abbrev pub line_start : List ℕ → ℕ → ℕ
line_start s n = stands_at s 0 n

-- Where line `number`, counted from 1, begins; 0 for number 0. It ends at `line_start s number`.
abbrev pub span_start : List ℕ → ℕ → ℕ
span_start s zero = 0
span_start s (suc n) = line_start s n
