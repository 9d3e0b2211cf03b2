-- Write: what it answers for all lent lines and all lent text. Assumes nothing.
use Rattle.std.specs.Prelude.{◌≡◌, Bool, cond, ◌&&◌, List, [], ◌∷◌, ℕ, zero, suc, eqb, ltb, length, get_or, take, drop, Result, Ok, Err}
use Rattle.patterns.specs.Outcome.{Outcome, good, refused, counted, held}
use Rattle.columns.specs.Column.{same}
use Rattle.sheet.specs.Line.{K, Line, well_formed, line_size, lent, text_of}
use Rattle.sheet.specs.Sheet.{width_of, refusal}
use Rattle.sheet.specs.Read.{Taken, takes, refuses, checked, text_limit}
use Rattle.sheet.specs.Answer.{refusal_says}
use Rattle.sheet.specs.declared.Refusal.{Refusal}

-- How many of a lent line's six numbers are used: a K line's width, otherwise one for each field of its kind.
abbrev pub used_numbers : List Line → List ℕ → ℕ
used_numbers before numbers = cond (eqb (get_or numbers 0 0) K) 1 (width_of before (get_or numbers 1 0))

-- The line that lent numbers hold after the lines before.
unfoldable pub line_held : List Line → List ℕ → Line
line_held before numbers =
    record { letter = get_or numbers 0 0; kind = get_or numbers 1 0; numbers = take (used_numbers before numbers) (drop 2 numbers) }

-- The lent numbers are a whole line with 0 in unused places, its numbers are in range, and Read would not refuse it with 2 to 6.
unfoldable pub line_holds : List Line → List ℕ → Bool
line_holds before numbers =
    same (lent (line_held before numbers)) numbers && well_formed (line_held before numbers) && eqb (refusal before (line_held before numbers)) 0

unfoldable pub taken_lent : List Line → List ℕ → Taken
taken_lent before numbers = cond (line_holds before numbers) (takes (line_held before numbers)) (refuses 8)

-- Lent numbers, a line's at a time; the last part may be incomplete. The first number bounds the parts.
abbrev pub parts_of : ℕ → List ℕ → List (List ℕ)
parts_of zero ns = []
parts_of (suc bound) [] = []
parts_of (suc bound) (n ∷ ns) = take line_size (n ∷ ns) ∷ parts_of bound (drop line_size (n ∷ ns))

-- The lines that lent numbers hold, or 8 with the first wrong line.
unfoldable pub sheet_held : List ℕ → Outcome (List Line)
sheet_held numbers = checked taken_lent 8 [] (parts_of (length numbers) numbers)

abbrev pub fits : ℕ → List ℕ → Outcome (List ℕ)
fits room text = cond (ltb text_limit (length text)) (refused 1 0) (cond (ltb room (length text)) (refused 9 0) (good text))

abbrev pub written : ℕ → Outcome (List Line) → Outcome (List ℕ)
written room (good ls) = fits room (text_of ls)
written room (refused number line) = refused number line

-- What Write answers: 8, then 1, then 9.
unfoldable pub write_of : List ℕ → ℕ → Outcome (List ℕ)
write_of numbers room = written room (sheet_held numbers)

-- Document 01's numbers for each answer.
abbrev pub write_says : Result ℕ Refusal → Outcome ℕ
write_says (Ok n) = good n
write_says (Err r) = refusal_says r

-- The contract of write, for all lent lines and all lent text.
pub record WriteMeets (numbers before : List ℕ) (answer : Result ℕ Refusal) (after : List ℕ) : Type 0 where
  pub says : write_says answer ≡ counted (write_of numbers (length before))
  pub text : after ≡ held (write_of numbers (length before)) before
