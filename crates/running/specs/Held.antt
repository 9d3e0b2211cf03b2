-- How a run holds its records: seven numbers each, one after the other. Assumes nothing.
use Rattle.std.specs.Prelude.{◌≡◌, List, [], ◌∷◌, ◌++◌, ℕ, zero, suc, ◌+◌, ◌*◌, ◌/◌, ◌%◌, ◌≤◌, ◌<◌, length, get_or, take, drop}
use Rattle.patterns.specs.Outcome.{padded}
use Rattle.carrying.specs.Carrying.{Row}

-- The first of the seven numbers of a row: its kind and how many numbers it has.
abbrev pub code_of : ℕ → ℕ → ℕ
code_of kind width = kind * 8 + width

-- The seven numbers of a row; unused ones are 0.
abbrev pub packed : Row → List ℕ
packed w = code_of w.kind (length w.numbers) ∷ padded 6 w.numbers

-- The row that seven numbers are.
abbrev pub unpacked : List ℕ → Row
unpacked row = record { kind = get_or row 0 0 / 8; numbers = take (get_or row 0 0 % 8) (drop 1 row) }

pub record PackedRow (row : List ℕ) : Type 0 where
  pub of : Row
  pub is : row ≡ packed of
  pub narrow : length of.numbers ≤ 6

-- The row at a place.
abbrev pub row_at : List ℕ → ℕ → List ℕ
row_at numbers i = take 7 (drop (7 * i) numbers)

-- The first so many rows.
abbrev pub rows_at : List ℕ → ℕ → List Row
rows_at numbers zero = []
rows_at numbers (suc n) = rows_at numbers n ++ (unpacked (row_at numbers n) ∷ [])

-- There is room for 4,096 records.
abbrev pub records_fit : List ℕ → Type 0
records_fit numbers = 28672 ≤ length numbers

-- The first so many records are these rows.
pub record Holds (numbers : List ℕ) (count : ℕ) (rows : List Row) : Type 0 where
  pub room : records_fit numbers
  pub few : count ≤ 4096
  pub each : (i : ℕ) → i < count → PackedRow (row_at numbers i)
  pub are : rows_at numbers count ≡ rows
