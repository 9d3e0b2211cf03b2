-- The rule of the table of patterns: document 01's order, digits by first appearance, none missing; and one test of a table that the
-- checker computes. Assumes nothing.
use Rattle.std.specs.Prelude.{Bool, true, false, ◌&&◌, ◌||◌, List, [], ◌∷◌, ◌++◌, ℕ, zero, suc, ◌/◌, ◌≤◌, max, T, leb, ltb, eqb, length, take, drop}
use Rattle.patterns.specs.Pattern.{rows}

-- Digits go on by first appearance after digits up to m: each is 1 to one more than the largest before it.
unfoldable pub appears : ℕ → List ℕ → Bool
appears m [] = true
appears m (d ∷ ds) = (leb 1 d && leb d (suc m)) && appears (max m d) ds

-- Ascending digits: the first that differs is lower.
unfoldable pub lower : List ℕ → List ℕ → Bool
lower [] ys = false
lower (x ∷ xs) [] = false
lower (x ∷ xs) (y ∷ ys) = ltb x y || (eqb x y && lower xs ys)

-- Document 01's order: shorter ones first, then by ascending digits.
unfoldable pub earlier : List ℕ → List ℕ → Bool
earlier xs ys = ltb (length xs) (length ys) || (eqb (length xs) (length ys) && lower xs ys)

-- A list of one to six digits by first appearance.
pub record Pattern (p : List ℕ) : Type 0 where
  pub some : 1 ≤ length p
  pub most : length p ≤ 6
  pub digits : T (appears 0 p)

-- THE ENTRIES of a table given by its bytes: the digits of each row of six places, up to the first 0.
unfoldable pub before_zero : List ℕ → List ℕ
before_zero [] = []
before_zero (zero ∷ ds) = []
before_zero (suc d ∷ ds) = suc d ∷ before_zero ds

unfoldable pub entries_to : ℕ → List ℕ → List (List ℕ)
entries_to zero table = []
entries_to (suc n) table = before_zero (take 6 table) ∷ entries_to n (drop 6 table)

unfoldable pub entries_of : List ℕ → List (List ℕ)
entries_of table = entries_to (length table / 6) table

-- THE TEST of a table. Whether two lists of numbers are equal.
unfoldable pub same : List ℕ → List ℕ → Bool
same [] [] = true
same [] (y ∷ ys) = false
same (x ∷ xs) [] = false
same (x ∷ xs) (y ∷ ys) = eqb x y && same xs ys

-- Whether each list passes a test.
unfoldable pub every : (List ℕ → Bool) → List (List ℕ) → Bool
every test [] = true
every test (p ∷ ps) = test p && every test ps

-- Digits: whether p has one to six, by first appearance.
unfoldable pub digits_right : List ℕ → Bool
digits_right p = (leb 1 (length p) && leb (length p) 6) && appears 0 p

-- Order: whether each list stands before the next, and `before` before the first.
unfoldable pub rising : List ℕ → List (List ℕ) → Bool
rising before [] = true
rising before (p ∷ ps) = earlier before p && rising p ps

-- The largest of some digits, 0 of none.
unfoldable pub largest : List ℕ → ℕ
largest [] = 0
largest (d ∷ ds) = max d (largest ds)

-- Whether p is an entry.
unfoldable pub among : List (List ℕ) → List ℕ → Bool
among [] p = false
among (q ∷ qs) p = same p q || among qs p

-- Whether p with each of the digits 1 to n at its end is an entry.
unfoldable pub followed_to : List (List ℕ) → List ℕ → ℕ → Bool
followed_to entries p zero = true
followed_to entries p (suc n) = among entries (p ++ (suc n ∷ [])) && followed_to entries p n

-- Whether p has six digits, or with each digit that can come next at its end, 1 to one more than its largest, is an entry.
unfoldable pub followed : List (List ℕ) → List ℕ → Bool
followed entries p = leb 6 (length p) || followed_to entries p (suc (largest p))

-- Completeness: whether this holds of no digits, and of each entry.
unfoldable pub complete : List (List ℕ) → Bool
complete entries = every (followed entries) ([] ∷ entries)

unfoldable pub entries_test : List (List ℕ) → Bool
entries_test entries = every digits_right entries && (rising [] entries && complete entries)

-- The bytes are the entries' digits in six places each; and digits, order and completeness of the entries are right.
unfoldable pub table_test : List ℕ → Bool
table_test table = same table (rows (entries_of table)) && entries_test (entries_of table)
