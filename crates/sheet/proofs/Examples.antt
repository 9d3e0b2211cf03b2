-- Document 01's sheet read and written, and inputs that are refused, by computing. Assumes nothing.
use mathlib.Core.Path.{◌≡◌, refl}
use mathlib.Core.List.{List, [], ◌∷◌, ◌++◌}
use Prim.Native.Nat.{ℕ}
use Prim.Native.Char.{code}
use Prim.Native.String.{String, [] as ended, ◌∷◌ as ◌then◌}
use Rattle.patterns.specs.Outcome.{good, refused}
use Rattle.columns.specs.Column.{column, number_in}
use Rattle.sheet.specs.Line.{K, B, H, R, Line, render, form_of, well_formed, line_in, lent, lent_of}
use Rattle.sheet.specs.Sheet.{in_place, kind_right, marks_right, room_for, refusal}
use Rattle.sheet.specs.Read.{taken_text, sheet_in, read_of}
use Rattle.sheet.specs.Write.{line_held, line_holds, taken_lent, sheet_held, write_of}

-- The bytes of an ASCII text.
abbrev bytes_of : String → List ℕ
bytes_of ended = []
bytes_of (c then s) = code c ∷ bytes_of s

-- Each line with its byte 10.
abbrev text : List String → List ℕ
text [] = []
text (s ∷ ss) = bytes_of s ++ (10 ∷ text ss)

abbrev line : ℕ → ℕ → List ℕ → Line
line letter kind numbers = record { letter = letter; kind = kind; numbers = numbers }

-- Whoever unfolds this unfolds all that Read and Write are defined by.
all : Unit {0}
unfolding column number_in render form_of well_formed line_in lent in_place kind_right marks_right room_for refusal taken_text sheet_in read_of line_held line_holds taken_lent sheet_held write_of
all = tt

-- The sheet of document 01, "The judging program".
abbrev example : List ℕ
example =
    text
    ("K        1        2"
    ∷ "B        1        1        2"
    ∷ "H        1        2        3"
    ∷ "R        1        7        8"
    ∷ [])

abbrev example_lines : List Line
example_lines = line K 1 (2 ∷ []) ∷ line B 1 (1 ∷ 2 ∷ []) ∷ line H 1 (2 ∷ 3 ∷ []) ∷ line R 1 (7 ∷ 8 ∷ []) ∷ []

-- It means its four lines.
pub example_means : sheet_in example ≡ good example_lines
unfolding all
example_means = refl

-- Read into four lent lines it is good, into three it is refused with the fourth.
pub example_read : (read_of example 4 ≡ good example_lines) × (read_of example 3 ≡ refused 7 4)
unfolding all
example_read = (refl, refl)

-- Written to 107 bytes it is the same text, to 106 it is refused.
pub example_written : (write_of (lent_of example_lines) 107 ≡ good example) × (write_of (lent_of example_lines) 106 ≡ refused 9 0)
unfolding all
example_written = (refl, refl)

-- Empty text is a sheet.
pub empty_text : sheet_in [] ≡ good []
unfolding all
empty_text = refl

-- A leading zero is not in the form.
pub leading_zero : sheet_in (text ("K       01        2" ∷ [])) ≡ refused 2 1
unfolding all
leading_zero = refl

-- Nor is a line without its byte 10.
pub no_final_byte : sheet_in (bytes_of "K        1        2") ≡ refused 2 1
unfolding all
no_final_byte = refl

-- A rule without H at the end is refused with the line after the last.
pub rule_without_head : sheet_in (text ("K        1        2" ∷ "B        1        1        2" ∷ [])) ≡ refused 3 3
unfolding all
rule_without_head = refl

-- A kind that is not declared.
pub undeclared_kind : sheet_in (text ("K        1        2" ∷ "R        2        7        8" ∷ [])) ≡ refused 4 2
unfolding all
undeclared_kind = refl

-- A mark that is more than one above the largest so far.
pub mark_too_large : sheet_in (text ("K        1        2" ∷ "B        1        1        3" ∷ [])) ≡ refused 5 2
unfolding all
mark_too_large = refl

-- A fifth H line of a rule.
pub fifth_head : sheet_in
    (text
    ("K        1        1"
    ∷ "B        1        1"
    ∷ "H        1        1"
    ∷ "H        1        2"
    ∷ "H        1        3"
    ∷ "H        1        4"
    ∷ "H        1        5"
    ∷ []))
    ≡ refused 6 7
unfolding all
fifth_head = refl

-- An unused number of a lent line that is not 0.
pub unused_not_zero : sheet_held (75 ∷ 1 ∷ 2 ∷ 0 ∷ 0 ∷ 0 ∷ 0 ∷ 9 ∷ []) ≡ refused 8 1
unfolding all
unused_not_zero = refl
