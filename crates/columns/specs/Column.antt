-- A number and its column: nine places, the number right-justified, blanks before it, no leading zero. Assumes nothing.
use Rattle.std.specs.Prelude.{Option as RustOption, Some, None, Bool, true, false, cond, ◌&&◌, List, [], ◌∷◌, ◌++◌, ℕ, zero, suc, ◌+◌, ◌-◌, ◌*◌, ◌/◌, ◌%◌, eqb, leb, length, replicate, take, drop}
use Rattle.std.proofs.Math.Option.{Option, none, some}
use Rattle.patterns.specs.Outcome.{Outcome, good, refused}

-- The largest number. It has eight digits, so a column's first place is blank.
abbrev pub largest_number : ℕ
largest_number = 99999999

-- The byte at a place that is not the last, where n is the number without the digits to the right of the place.
abbrev pub place_byte : ℕ → ℕ
place_byte zero = 32
place_byte (suc n) = 48 + (suc n % 10)

-- The w places that end at n's last digit.
abbrev pub places : ℕ → ℕ → List ℕ
places zero n = []
places (suc w) n = places w (n / 10) ++ (place_byte n ∷ [])

-- The digits of n right-justified in so many places. The last place holds a digit, 0 too.
abbrev pub justified : ℕ → ℕ → List ℕ
justified zero n = []
justified (suc w) n = places w (n / 10) ++ ((48 + (n % 10)) ∷ [])

-- The column of n, a number up to the largest. Its last place holds a digit, 0 too.
unfoldable pub column : ℕ → List ℕ
column n = places 8 (n / 10) ++ ((48 + (n % 10)) ∷ [])

-- The wide column of n: twelve places, for a number of up to twelve digits.
unfoldable pub wide_column : ℕ → List ℕ
wide_column n = places 11 (n / 10) ++ ((48 + (n % 10)) ∷ [])

-- What `column` answers: the column of n; nine blanks where n is over the largest number.
abbrev pub column_for : ℕ → List ℕ
column_for n = cond (leb n largest_number) (column n) (replicate 9 32)

-- A text with other bytes at a place.
abbrev pub put : List ℕ → ℕ → List ℕ → List ℕ
put text at new = take at text ++ new ++ drop (at + length new) text

-- What the function `put` leaves: the text with those nine bytes at a place that has room for them; otherwise the text as it was.
unfoldable pub column_put : List ℕ → ℕ → ℕ → List ℕ
column_put text at n = cond (leb (at + 9) (length text)) (put text at (column_for n)) text

-- The decimal number that bytes show after the digits of n. A blank is below the byte of 0, so it counts as 0.
abbrev pub decimal : ℕ → List ℕ → ℕ
decimal n [] = n
decimal n (b ∷ bs) = decimal (10 * n + (b - 48)) bs

-- Two lists of numbers are the same.
abbrev pub same : List ℕ → List ℕ → Bool
same [] [] = true
same [] (y ∷ ys) = false
same (x ∷ xs) [] = false
same (x ∷ xs) (y ∷ ys) = eqb x y && same xs ys

-- How a column is read: as the number whose column the bytes are, if there is one.
unfoldable pub number_in : List ℕ → Option ℕ
number_in bytes =
    cond (leb (decimal 0 bytes) largest_number && same (column (decimal 0 bytes)) bytes) (some (decimal 0 bytes)) none

-- What is read as an answer: 2, not in the form, where there is nothing; no line is named.
abbrev pub in_form : {A : Type 0} → Option A → Outcome A
in_form none = refused 2 0
in_form (some a) = good a

-- Document 01's numbers for each answer.
abbrev pub number_says : RustOption ℕ → Outcome ℕ
number_says (Some n) = good n
number_says None = refused 2 0
