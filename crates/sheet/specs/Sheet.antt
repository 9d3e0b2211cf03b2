-- When lines are a sheet: the order of lines, kinds and widths, marks, counts. Each line is tested against the lines before it, which stand in `before`, the latest first. Assumes nothing.
use Rattle.std.specs.Prelude.{◌≡◌, Bool, true, cond, not, ◌&&◌, ◌||◌, List, [], ◌∷◌, ℕ, suc, max, eqb, leb, ltb, length, get_or}
use Rattle.sheet.specs.Line.{K, B, H, R, Line, well_formed}

-- The letter of the line before; 0 where there is none.
abbrev pub letter_before : List Line → ℕ
letter_before [] = 0
letter_before (l ∷ before) = l.letter

-- All K lines come first, then rules (a B followed by H lines), then R lines.
unfoldable pub in_place : ℕ → ℕ → Bool
in_place last letter =
    cond (eqb letter K) (eqb last 0 || eqb last K)
    (cond (eqb letter B) (eqb last 0 || eqb last K || eqb last H)
    (cond (eqb letter H) (eqb last B || eqb last H) (not (eqb last B))))

-- The kind of the line before; 0 where there is none. A K line in its place follows K lines alone.
abbrev pub kind_before : List Line → ℕ
kind_before [] = 0
kind_before (l ∷ before) = l.kind

-- The width that is declared for a kind; 0 where none is.
abbrev pub width_of : List Line → ℕ → ℕ
width_of [] kind = 0
width_of (l ∷ before) kind = cond (eqb l.letter K && eqb l.kind kind) (get_or l.numbers 0 0) (width_of before kind)

-- Kinds are 1 to 64, strictly rising; widths 1 to 6. Any other line has a declared kind and one number for each of its fields.
unfoldable pub kind_right : List Line → Line → Bool
kind_right before l =
    cond (eqb l.letter K)
    (leb 1 l.kind && leb l.kind 64 && ltb (kind_before before) l.kind && leb 1 (get_or l.numbers 0 0) && leb (get_or l.numbers 0 0) 6)
    (ltb 0 (width_of before l.kind) && eqb (length l.numbers) (width_of before l.kind))

-- The largest of some marks and m.
abbrev pub top_mark : ℕ → List ℕ → ℕ
top_mark m [] = m
top_mark m (n ∷ ns) = top_mark (max m n) ns

-- The largest mark so far of the rule that the lines before leave open.
abbrev pub mark_before : List Line → ℕ
mark_before [] = 0
mark_before (l ∷ before) = cond (eqb l.letter B) (top_mark 0 l.numbers) (cond (eqb l.letter H) (top_mark (mark_before before) l.numbers) 0)

-- Marks are 1 to 12; a new one is one more than the largest so far, which is m.
abbrev pub marks_from : ℕ → List ℕ → Bool
marks_from m [] = true
marks_from m (n ∷ ns) = leb 1 n && leb n 12 && leb n (suc m) && marks_from (max m n) ns

unfoldable pub marks_right : List Line → Line → Bool
marks_right before l = cond (eqb l.letter B) (marks_from 0 l.numbers) (cond (eqb l.letter H) (marks_from (mark_before before) l.numbers) true)

-- How many lines have this letter.
abbrev pub lines_with : ℕ → List Line → ℕ
lines_with letter [] = 0
lines_with letter (l ∷ before) = cond (eqb l.letter letter) (suc (lines_with letter before)) (lines_with letter before)

-- How many H lines there are since the last line that is none.
abbrev pub heads_before : List Line → ℕ
heads_before [] = 0
heads_before (l ∷ before) = cond (eqb l.letter H) (suc (heads_before before)) 0

-- At most 256 rules, one to four H lines in each, 1,024 rows.
unfoldable pub room_for : List Line → Line → Bool
room_for before l =
    cond (eqb l.letter B) (ltb (lines_with B before) 256)
    (cond (eqb l.letter H) (ltb (heads_before before) 4) (cond (eqb l.letter R) (ltb (lines_with R before) 1024) true))

-- The refusal that a line in its form gets after the lines before it, in document 01's order of tests; 0 where it gets none.
unfoldable pub refusal : List Line → Line → ℕ
refusal before l =
    cond (in_place (letter_before before) l.letter) (cond (kind_right before l) (cond (marks_right before l) (cond (room_for before l) 0 6) 5) 4) 3

-- Lines that go on from the lines before to the end of a sheet. A rule has an H line.
abbrev pub Continues : List Line → List Line → Type 0
Continues before [] = letter_before before ≡ B → ⊥
Continues before (l ∷ ls) = (well_formed l ≡ true) × (refusal before l ≡ 0) × Continues (l ∷ before) ls

-- Lines that are a sheet.
abbrev pub IsSheet : List Line → Type 0
IsSheet ls = Continues [] ls
