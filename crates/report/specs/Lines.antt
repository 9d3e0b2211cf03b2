-- A line in the sheet's column form, and what putting one into lent text answers. Assumes nothing.
use Rattle.std.specs.Prelude.{◌≡◌, cond, Result, Ok, Err, List, [], ◌∷◌, ◌++◌, ℕ, ◌-◌, ltb, length}
use Rattle.patterns.specs.Outcome.{Outcome, good, refused, counted}
use Rattle.columns.specs.Column.{put}
use Rattle.sheet.specs.Line.{columns, in_range}
use Rattle.report.specs.declared.PutRefusal.{PutRefusal}
use Rattle.report.specs.declared.PutRefusal.TheVariants.{NumberTooLarge, TextShort}

-- A letter and numbers as text: the letter, a column for each number, byte 10.
unfoldable pub line_text : ℕ → List ℕ → List ℕ
line_text letter numbers = letter ∷ (columns numbers ++ (10 ∷ []))

-- Document 01's numbers for each answer; no line is named.
abbrev pub put_says : Result ℕ PutRefusal → Outcome ℕ
put_says (Ok n) = good n
put_says (Err NumberTooLarge) = refused 8 0
put_says (Err TextShort) = refused 9 0

-- What is put where there is room for so many bytes: 8 where a number has no column, then 9 where the line does not fit.
unfoldable pub put_of : ℕ → List ℕ → ℕ → Outcome (List ℕ)
put_of letter numbers room =
    cond (in_range numbers) (cond (ltb room (length (line_text letter numbers))) (refused 9 0) (good (line_text letter numbers))) (refused 8 0)

-- Lent text with what is put at a place; a refusal leaves all.
abbrev pub held_at : ℕ → Outcome (List ℕ) → List ℕ → List ℕ
held_at at (good new) before = put before at new
held_at at (refused number line) before = before

-- The contract of putting a line, for every letter, all numbers, every lent text and every place.
pub record PutMeets (letter : ℕ) (numbers before : List ℕ) (at : ℕ) (answer : Result ℕ PutRefusal) (after : List ℕ) : Type 0 where
  pub says : put_says answer ≡ counted (put_of letter numbers (length before - at))
  pub text : after ≡ held_at at (put_of letter numbers (length before - at)) before
