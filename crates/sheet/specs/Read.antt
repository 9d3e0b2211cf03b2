-- Read: what it answers for every text and every number of lent lines. Assumes nothing.
use Rattle.std.specs.Prelude.{◌≡◌, cond, List, [], ◌∷◌, ℕ, zero, suc, ◌/◌, eqb, ltb, length, Result, Ok, Err}
use Rattle.std.proofs.Math.Option.{Option, none, some}
use Rattle.patterns.specs.Outcome.{Outcome, good, refused, map_good, counted, held}
use Rattle.sheet.specs.Line.{B, Line, line_in, line_size, lent_of}
use Rattle.sheet.specs.Sheet.{letter_before, refusal}
use Rattle.walker.specs.Walk.{lines_of}
use Rattle.sheet.specs.Answer.{refusal_says}
use Rattle.sheet.specs.declared.Refusal.{Refusal}

-- What one line of the input is taken for, after the lines before it: a line, or a refusal's number.
pub data Taken : Type 0 where
  takes : Line → Taken
  refuses : ℕ → Taken

abbrev pub in_front : Line → Outcome (List Line) → Outcome (List Line)
in_front l o = map_good (λ ls. l ∷ ls) o

abbrev pub go_on : Taken → (Line → Outcome (List Line)) → ℕ → Outcome (List Line)
go_on (takes l) rest number = in_front l (rest l)
go_on (refuses r) rest number = refused r number

-- Line by line, after the lines before, the latest first: the lines, or the first refusal with its line. A rule without H at the end is refused with the line after the last.
module _ {A : Type 0} (taken : List Line → A → Taken) (unfinished : ℕ) where
  abbrev pub checked : List Line → List A → Outcome (List Line)
  checked before [] = cond (eqb (letter_before before) B) (refused unfinished (suc (length before))) (good [])
  checked before (x ∷ xs) = go_on (taken before x) (λ l. checked (l ∷ before) xs) (suc (length before))

abbrev pub tested : ℕ → Line → Taken
tested zero l = takes l
tested (suc n) l = refuses (suc n)

abbrev pub tested_in : List Line → Option Line → Taken
tested_in before none = refuses 2
tested_in before (some l) = tested (refusal before l) l

-- A line of a text: 2 where it is not in the form, then what it gets after the lines before it.
unfoldable pub taken_text : List Line → List ℕ → Taken
taken_text before bytes = tested_in before (line_in bytes)

-- The lines that a text means, or the first of the refusals 2 to 6.
unfoldable pub sheet_in : List ℕ → Outcome (List Line)
sheet_in text = checked taken_text 3 [] (lines_of text)

-- At most 32,768 bytes.
abbrev pub text_limit : ℕ
text_limit = 32768

abbrev pub with_room : ℕ → Outcome (List Line) → Outcome (List Line)
with_room room (good ls) = cond (ltb room (length ls)) (refused 7 (suc room)) (good ls)
with_room room (refused number line) = refused number line

-- What Read answers: 1, then line by line, last of all 7.
unfoldable pub read_of : List ℕ → ℕ → Outcome (List Line)
read_of text room = cond (ltb text_limit (length text)) (refused 1 0) (with_room room (sheet_in text))

-- Document 01's numbers for each answer.
abbrev pub read_says : Result ℕ Refusal → Outcome ℕ
read_says (Ok n) = good n
read_says (Err r) = refusal_says r

-- The contract of read, for every text and all lent lines.
pub record ReadMeets (text before : List ℕ) (answer : Result ℕ Refusal) (after : List ℕ) : Type 0 where
  pub says : read_says answer ≡ counted (read_of text (length before / line_size))
  pub lines : after ≡ held (map_good lent_of (read_of text (length before / line_size))) before
