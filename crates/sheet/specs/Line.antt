-- A line: its letter, kind and numbers; the text that it is rendered as; the eight numbers that a lent line holds. Assumes nothing.
use Rattle.std.specs.Prelude.{Bool, true, false, cond, ◌&&◌, List, [], ◌∷◌, ◌++◌, ℕ, zero, suc, ◌+◌, ◌-◌, ◌*◌, ◌/◌, eqb, leb, length, get_or, take, drop}
use Rattle.std.proofs.Math.Option.{Option, none, some}
use Rattle.std.specs.Prelude.{Option as Maybe, Some, None}
use Rattle.patterns.specs.Outcome.{Outcome, good, refused, padded}
use Rattle.columns.specs.Column.{largest_number, column, number_in}
use Rattle.sheet.specs.declared.Form.{Form}
use Rattle.sheet.specs.declared.Form.TheVariants.{Kind, Body, Head, Row}

-- The letters' bytes.
abbrev pub K : ℕ
K = 75

abbrev pub B : ℕ
B = 66

abbrev pub H : ℕ
H = 72

abbrev pub R : ℕ
R = 82

-- The numbers are a K line's width, a B or H line's marks, or an R line's values.
pub record Line : Type 0 where
  pub letter : ℕ
  pub kind : ℕ
  pub numbers : List ℕ

abbrev pub columns : List ℕ → List ℕ
columns [] = []
columns (n ∷ ns) = column n ++ columns ns

-- A line as text: one letter, its columns, byte 10.
unfoldable pub render : Line → List ℕ
render l = l.letter ∷ (columns (l.kind ∷ l.numbers) ++ (10 ∷ []))

abbrev pub text_of : List Line → List ℕ
text_of [] = []
text_of (l ∷ ls) = render l ++ text_of ls

-- Two to seven columns: a kind and one to six fields.
abbrev pub with_fields : ℕ → (ℕ → Form) → Maybe Form
with_fields c form = cond (leb 2 c) (cond (leb c 7) (Some (form (c - 1))) None) None

-- A letter and a column count decide the form. A form says how many fields there are; a K line has its kind and its width.
unfoldable pub form_of : ℕ → ℕ → Maybe Form
form_of letter c =
    cond (eqb letter K) (cond (eqb c 2) (Some Kind) None)
    (cond (eqb letter B) (with_fields c Body) (cond (eqb letter H) (with_fields c Head) (cond (eqb letter R) (with_fields c Row) None)))

-- Document 01's numbers for each form: the letter's byte and how many fields there are; 2 where there is no such form.
abbrev pub form_says : Maybe Form → Outcome (ℕ × ℕ)
form_says (Some Kind) = good (K, 1)
form_says (Some (Body n)) = good (B, n)
form_says (Some (Head n)) = good (H, n)
form_says (Some (Row n)) = good (R, n)
form_says None = refused 2 0

abbrev pub known : Maybe Form → Bool
known (Some form) = true
known None = false

abbrev pub in_range : List ℕ → Bool
in_range [] = true
in_range (n ∷ ns) = leb n largest_number && in_range ns

abbrev pub form_of_line : Line → Maybe Form
form_of_line l = form_of l.letter (suc (length l.numbers))

-- A line that has a text.
unfoldable pub well_formed : Line → Bool
well_formed l = known (form_of_line l) && in_range (l.kind ∷ l.numbers)

abbrev pub joined : Option ℕ → Option (List ℕ) → Option (List ℕ)
joined none ns = none
joined (some n) none = none
joined (some n) (some ns) = some (n ∷ ns)

-- The numbers of the first c columns.
abbrev pub numbers_in : ℕ → List ℕ → Option (List ℕ)
numbers_in zero bytes = some []
numbers_in (suc c) bytes = joined (number_in (take 9 bytes)) (numbers_in c (drop 9 bytes))

abbrev pub line_with : ℕ → Option (List ℕ) → Option Line
line_with letter none = none
line_with letter (some []) = none
line_with letter (some (n ∷ ns)) = some (record { letter = letter; kind = n; numbers = ns })

-- How many columns so many bytes have, beside the letter and the byte 10.
abbrev pub column_count : ℕ → ℕ
column_count size = (size - 2) / 9

-- How a line is read: its letter, as many columns as its length has room for, byte 10.
unfoldable pub line_in : List ℕ → Option Line
line_in bytes =
    cond
    (eqb (length bytes) (9 * column_count (length bytes) + 2)
    && eqb (get_or bytes (length bytes - 1) 0) 10
    && known (form_of (get_or bytes 0 0) (column_count (length bytes))))
    (line_with (get_or bytes 0 0) (numbers_in (column_count (length bytes)) (drop 1 bytes)))
    none

-- How many numbers a lent line has.
abbrev pub line_size : ℕ
line_size = 8

-- A line as lent: the letter's byte, the kind, six numbers.
unfoldable pub lent : Line → List ℕ
lent l = l.letter ∷ l.kind ∷ padded 6 l.numbers

abbrev pub lent_of : List Line → List ℕ
lent_of [] = []
lent_of (l ∷ ls) = lent l ++ lent_of ls
