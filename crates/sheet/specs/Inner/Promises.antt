-- What the inner functions of this crate promise each other. The public contracts do not rest on it. Assumes nothing.
use Rattle.std.specs.Prelude.{◌≡◌, Bool, true, cond, ◌&&◌, List, [], ◌∷◌, ◌++◌, ℕ, zero, suc, ◌+◌, ◌*◌, ◌≤◌, eqb, leb, ltb, length, get_or, take, drop, Result}
use Rattle.std.proofs.Math.Option.{Option, none, some}
use Rattle.std.specs.Prelude.{Option as Maybe, Some, None, Ok, Err}
use Rattle.patterns.specs.Outcome.{good, refused, map_good, counted, held}
use Rattle.sheet.specs.Answer.{refusal_says}
use Rattle.sheet.specs.Line.{K, B, R, Line, form_says, form_of_line, in_range, render, lent, text_of, lent_of}
use Rattle.sheet.specs.Sheet.{in_place, letter_before, kind_before, width_of, top_mark, marks_from, mark_before, lines_with, heads_before, refusal}
use Rattle.sheet.specs.Read.{sheet_in, read_says}
use Rattle.sheet.specs.Write.{sheet_held}
use Rattle.sheet.specs.declared.Refusal.{Refusal}
use Rattle.sheet.specs.declared.Form.{Form}
use Rattle.sheet.specs.declared.Form.TheVariants.{Kind, Body, Head, Row}
use Rattle.sheet.specs.declared.order.Seen.{Seen}
use Rattle.sheet.specs.declared.order.Fault.{Fault}
use Rattle.sheet.specs.declared.order.Fault.TheVariants.{Place, Width, Mark, Room}

-- What is parsed of a line.
abbrev pub ParsedAs : Option Line → Maybe Form → List ℕ → Type 0
ParsedAs none form numbers = form_says form ≡ refused 2 0
ParsedAs (some l) form numbers = (form_says form ≡ form_says (form_of_line l)) × (numbers ≡ lent l)

-- The widths of the kinds that are declared before, at the kinds' places.
pub record Widths (before : List Line) (widths : List ℕ) : Type 0 where
  pub size : length widths ≡ 65
  pub each : (kind : ℕ) → get_or widths kind 0 ≡ width_of before kind

-- What is kept of the lines before.
pub record Keeps (before : List Line) (seen : Seen) : Type 0 where
  pub letter : seen.letter ≡ letter_before before
  pub kind : seen.kind ≡ kind_before before
  pub mark : seen.mark ≡ mark_before before
  pub rules : seen.rules ≡ lines_with B before
  pub heads : seen.heads ≡ heads_before before
  pub rows : seen.rows ≡ lines_with R before
  pub table : Widths before seen.widths

-- A form that has marks has at most six.
abbrev pub FieldsFit : Form → Type 0
FieldsFit Kind = Unit {0}
FieldsFit (Body n) = n ≤ 6
FieldsFit (Head n) = n ≤ 6
FieldsFit (Row n) = Unit {0}

-- Document 01's number for each fault.
abbrev pub fault_number : Fault → ℕ
fault_number Place = 3
fault_number Width = 4
fault_number Mark = 5
fault_number Room = 6

-- The number of the fault that is found; 0 where none is.
abbrev pub fault_in : {A : Type 0} → Result A Fault → ℕ
fault_in (Ok x) = 0
fault_in (Err fault) = fault_number fault

-- What is answered of a line after the lines before it, where `seen` is kept then.
abbrev pub AdmittedAs : {A : Type 0} → List Line → Line → Result A Fault → Seen → Type 0
AdmittedAs before l (Ok x) seen = (refusal before l ≡ 0) × Keeps (l ∷ before) seen
AdmittedAs before l (Err fault) seen = refusal before l ≡ fault_number fault

-- A line of the form, with these lent numbers, after any lines of which the old is kept; the new is kept with it.
pub record Admits {A : Type 0} (old : Seen) (form : Form) (numbers : List ℕ) (answer : Result A Fault) (new : Seen) : Type 0 where
  pub each : (before : List Line) (l : Line) → Keeps before old → Some form ≡ form_of_line l → numbers ≡ lent l → AdmittedAs before l answer new

-- The refusal of a B, H or R line for its place or its kind, where w is the width declared for the kind; 0 where it gets neither.
abbrev pub placed_of : ℕ → ℕ → ℕ → ℕ → ℕ
placed_of last letter fields w = cond (in_place last letter) (cond (ltb 0 w && eqb fields w) 0 4) 3

-- The kind and the width of a K line are right after the kind before.
abbrev pub declares : ℕ → ℕ → ℕ → Bool
declares last kind width = leb 1 kind && leb kind 64 && ltb last kind && leb 1 width && leb width 6

-- The largest mark where the marks are right after m.
abbrev pub marks_top : ℕ → List ℕ → Maybe ℕ
marks_top m ns = cond (marks_from m ns) (Some (top_mark m ns)) None

-- The fault of a B or H line: for its place or its kind, for its marks, for the room; 0 where it has none.
abbrev pub marked_of : ℕ → Maybe ℕ → Bool → ℕ
marked_of (suc number) marks full = suc number
marked_of zero None full = 5
marked_of zero (Some mark) full = cond full 6 0

-- What a B or H line is answered: its fault, or the largest of its marks.
pub record Marked (placed : ℕ) (marks : Maybe ℕ) (full : Bool) (answer : Result ℕ Fault) : Type 0 where
  pub fault : fault_in answer ≡ marked_of placed marks full
  pub mark : (top : ℕ) → answer ≡ Ok top → marks ≡ Some top

-- What is answered for a text that is scanned; where it is a sheet, the numbers of its lines then stand in front.
pub record Scanned (text : List ℕ) (answer : Result ℕ Refusal) (numbers : List ℕ) : Type 0 where
  pub says : read_says answer ≡ counted (sheet_in text)
  pub lines : (ls : List Line) → sheet_in text ≡ good ls → take (8 * length ls) numbers ≡ lent_of ls

-- Lent lines that are a sheet, and lent text with room for its text.
pub record TextFits (numbers : List ℕ) (room : ℕ) : Type 0 where
  pub lines : List Line
  pub holds : sheet_held numbers ≡ good lines
  pub fit : length (text_of lines) ≤ room

-- The refusal has this number and line.
abbrev pub RefusalIs : Refusal → ℕ → ℕ → Type 0
RefusalIs r number line = refusal_says {A = ℕ} r ≡ refused number line

-- What is filled in: the text of the lines that the numbers hold.
abbrev pub TextFilled : List ℕ → List ℕ → List ℕ → Type 0
TextFilled numbers before after = after ≡ held (map_good text_of (sheet_held numbers)) before

abbrev pub size_of : List Line → ℕ
size_of ls = length (text_of ls)

-- How many of a lent line's six numbers are used, where these are the declared widths.
abbrev pub used_of : List ℕ → List ℕ → ℕ
used_of widths numbers = cond (eqb (get_or numbers 0 0) K) 1 (get_or widths (get_or numbers 1 0) 0)

-- The numbers are all 0.
abbrev pub zeros : List ℕ → Bool
zeros [] = true
zeros (n ∷ ns) = eqb n 0 && zeros ns

-- The kind and the used numbers of a lent line are in range, the unused ones are 0.
abbrev pub ranges_right : List ℕ → ℕ → Bool
ranges_right numbers fields = in_range (take (suc fields) (drop 1 numbers)) && zeros (drop (fields + 2) numbers)

-- A line's text is put at `at`, and the rest is as before.
abbrev pub LinePut : List ℕ → ℕ → List ℕ → ℕ → List ℕ → Type 0
LinePut before at numbers fields after =
    let l : Line = record { letter = get_or numbers 0 0; kind = get_or numbers 1 0; numbers = take fields (drop 2 numbers) } in
    after ≡ take at before ++ render l ++ drop (at + 9 * fields + 11) before
