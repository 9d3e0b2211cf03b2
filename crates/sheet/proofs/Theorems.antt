-- The theorems on reading and writing sheets that a reader relies on. Each stands first as a sentence; its proof cites the laws. Assumes nothing.
use mathlib.Core.Path.{◌≡◌, refl, sym, ◌∙◌, ap}
use mathlib.Core.Logic.{◌↔◌, ◌⊎◌, inl, inr}
use mathlib.Core.List.{List}
use Prim.Native.Nat.{ℕ, suc, ◌*◌, ◌≤◌, ◌<◌}
use native.Mathlib.Omega.{arith}
use lib.ListN.{length}
use Rattle.patterns.specs.Outcome.{good, refused}
use Rattle.sheet.specs.Line.{Line, text_of, lent_of}
use Rattle.sheet.specs.Sheet.{IsSheet}
use Rattle.sheet.specs.Read.{sheet_in, text_limit, read_of}
use Rattle.sheet.specs.Write.{sheet_held, write_of}
use Rattle.sheet.specs.Refusals.{TextRefused, LentRefused}
use Rattle.sheet.proofs.Sheets.{sheet_in_is, sheet_in_text, sheet_held_is, sheet_held-lent, length-lent_of}
use Rattle.sheet.proofs.Refused.{sheet_in_refused, sheet_in-number, sheet_held_refused, sheet_held-number}
use Rattle.sheet.proofs.Outcomes.{
  read_of_good,
  read_of_by,
  write_of_good,
  write_of_by,
  ReadRefused,
  read_of_refused,
  refused_read_of,
  WriteRefused,
  write_of_refused,
  refused_write_of,
}

-- A text is read well exactly where it is not too long, it is the rendering of lines that are a sheet, and they fit; then those are the lines.
pub read_exactly : (text : List ℕ) (room : ℕ) (ls : List Line)
    → (read_of text room ≡ good ls) ↔ ((length text ≤ text_limit) × (length ls ≤ room) × (text ≡ text_of ls) × IsSheet ls)
read_exactly text room ls = (
  λ e.
      let (size, fit, read) = read_of_good text room ls e in
      let (is, sheet) = sheet_in_is text ls read in
      (size, fit, is, sheet),
  λ h. read_of_by text room ls h.0 h.1 (ap sheet_in h.2 ∙ sheet_in_text ls h.3),
)

-- Lent lines are written well exactly where they hold a sheet's lines and its text is not too long and fits; then that is the text.
pub write_exactly : (numbers : List ℕ) (space : ℕ) (text : List ℕ)
    → (write_of numbers space ≡ good text)
    ↔ ((ls : List Line) × (numbers ≡ lent_of ls) × IsSheet ls × (text ≡ text_of ls) × (length text ≤ text_limit) × (length text ≤ space))
write_exactly numbers space text = (
  λ e.
      let (ls, holds, is, size, fit) = write_of_good numbers space text e in
      let (held, sheet) = sheet_held_is numbers ls holds in
      (ls, held, sheet, is, size, fit),
  λ h.
      let (ls, held, sheet, is, size, fit) = h in
      write_of_by numbers space ls (ap sheet_held held ∙ sheet_held-lent ls sheet) (rw is at size) (rw is at fit) ∙ ap good (sym is),
)

-- Two sheets with the same text have the same lines.
pub text_one_to_one : (ls ms : List Line) → IsSheet ls → IsSheet ms → text_of ls ≡ text_of ms → ls ≡ ms
text_one_to_one ls ms p q e = let r = sym (sheet_in_text ls p) ∙ ap sheet_in e ∙ sheet_in_text ms q in cc

-- What was read is written as the same text.
pub write_after_read : (text : List ℕ) (room space : ℕ) (ls : List Line) → read_of text room ≡ good ls → length text ≤ space
    → write_of (lent_of ls) space ≡ good text
write_after_read text room space ls e fit =
    let (size, count, is, sheet) = (read_exactly text room ls).0 e in
    (write_exactly (lent_of ls) space text).1 (ls, refl, sheet, is, size, fit)

-- What was written is read as the same lines.
pub read_after_write : (numbers : List ℕ) (space room : ℕ) (text : List ℕ) → write_of numbers space ≡ good text → length numbers ≤ 8 * room
    → (ls : List Line) × (read_of text room ≡ good ls) × (lent_of ls ≡ numbers)
read_after_write numbers space room text e fit =
    let (ls, held, sheet, is, size, room_for) = (write_exactly numbers space text).0 e in
    let count : length ls ≤ room = omega (arith, length-lent_of ls, ap length held) in
    (ls, (read_exactly text room ls).1 (size, count, is, sheet), sym held)

-- A text means no lines exactly where some lines at its start are taken and what follows them is at fault; it is refused with the fault's number and the line after them.
pub refused_line : (text : List ℕ) (n k : ℕ) → (sheet_in text ≡ refused n k) ↔ TextRefused text n k
refused_line text n k = sheet_in_refused text n k

-- Read refuses with 1 exactly the texts that are too long.
pub read_too_long : (text : List ℕ) (room : ℕ) → (read_of text room ≡ refused 1 0) ↔ (text_limit < length text)
read_too_long text room = (λ e. go (read_of_refused text room 1 0 e), λ h. refused_read_of text room 1 0 (ReadRefused.long h refl refl))
  where
    go : ReadRefused text room 1 0 → text_limit < length text
    go (ReadRefused.long h p q) = h
    go (ReadRefused.wrong h p) = let r = sheet_in-number text 1 0 p in absurd (omega arith)
    go (ReadRefused.short h ls p few q r) = absurd (omega arith)

-- Read refuses with 2 to 6 exactly the texts that are not too long and are refused so line by line.
pub read_wrong_line : (text : List ℕ) (room n k : ℕ) → 2 ≤ n → n ≤ 6 → (read_of text room ≡ refused n k) ↔ ((length text ≤ text_limit) × TextRefused text n k)
read_wrong_line text room n k two six = (
  λ e. go (read_of_refused text room n k e),
  λ h. refused_read_of text room n k (ReadRefused.wrong h.0 ((sheet_in_refused text n k).1 h.1)),
)
  where
    go : ReadRefused text room n k → (length text ≤ text_limit) × TextRefused text n k
    go (ReadRefused.long h p q) = absurd (omega arith)
    go (ReadRefused.wrong h p) = (h, (sheet_in_refused text n k).0 p)
    go (ReadRefused.short h ls p few q r) = absurd (omega arith)

-- Read refuses with 7 exactly the sheets that are not too long and have more lines than were lent, and names the first that does not fit.
pub read_lines_short : (text : List ℕ) (room k : ℕ)
    → (read_of text room ≡ refused 7 k) ↔ ((length text ≤ text_limit) × ((ls : List Line) × (text ≡ text_of ls) × IsSheet ls × (room < length ls)) × (k ≡ suc room))
read_lines_short text room k = (
  λ e. go (read_of_refused text room 7 k e),
  λ h.
      let (size, (ls, is, sheet, few), line) = h in
      refused_read_of text room 7 k (ReadRefused.short size ls (ap sheet_in is ∙ sheet_in_text ls sheet) few refl line),
)
  where
    go : ReadRefused text room 7 k → (length text ≤ text_limit) × ((ls : List Line) × (text ≡ text_of ls) × IsSheet ls × (room < length ls)) × (k ≡ suc room)
    go (ReadRefused.long h p q) = absurd (omega arith)
    go (ReadRefused.wrong h p) = let r = sheet_in-number text 7 k p in absurd (omega arith)
    go (ReadRefused.short h ls p few q r) = let (is, sheet) = sheet_in_is text ls p in (h, (ls, is, sheet, few), r)

-- Read refuses with no other number than 1 to 7.
pub read-numbers : (text : List ℕ) (room n k : ℕ) → read_of text room ≡ refused n k → (1 ≤ n) × (n ≤ 7)
read-numbers text room n k e = go (read_of_refused text room n k e)
  where
    go : ReadRefused text room n k → (1 ≤ n) × (n ≤ 7)
    go (ReadRefused.long h p q) = (omega arith, omega arith)
    go (ReadRefused.wrong h p) = let r = sheet_in-number text n k p in (omega arith, omega arith)
    go (ReadRefused.short h ls p few q r) = (omega arith, omega arith)

-- Write refuses with 8 exactly where some lent lines at the start are taken and the rest begins with a fault, and names the line after them.
pub write_wrong_line : (numbers : List ℕ) (space k : ℕ) → (write_of numbers space ≡ refused 8 k) ↔ LentRefused numbers 8 k
write_wrong_line numbers space k = (
  λ e. go (write_of_refused numbers space 8 k e),
  λ h. refused_write_of numbers space 8 k (WriteRefused.wrong ((sheet_held_refused numbers 8 k).1 h)),
)
  where
    go : WriteRefused numbers space 8 k → LentRefused numbers 8 k
    go (WriteRefused.wrong p) = (sheet_held_refused numbers 8 k).0 p
    go (WriteRefused.long ls p h q r) = absurd (omega arith)
    go (WriteRefused.short ls p h few q r) = absurd (omega arith)

-- Write refuses with 1 exactly the sheets whose text would be too long.
pub write_too_long : (numbers : List ℕ) (space : ℕ)
    → (write_of numbers space ≡ refused 1 0) ↔ ((ls : List Line) × (numbers ≡ lent_of ls) × IsSheet ls × (text_limit < length (text_of ls)))
write_too_long numbers space = (
  λ e. go (write_of_refused numbers space 1 0 e),
  λ h.
      let (ls, held, sheet, long) = h in
      refused_write_of numbers space 1 0 (WriteRefused.long ls (ap sheet_held held ∙ sheet_held-lent ls sheet) long refl refl),
)
  where
    go : WriteRefused numbers space 1 0 → (ls : List Line) × (numbers ≡ lent_of ls) × IsSheet ls × (text_limit < length (text_of ls))
    go (WriteRefused.wrong p) = let r = sheet_held-number numbers 1 0 p in absurd (omega arith)
    go (WriteRefused.long ls p h q r) = let (held, sheet) = sheet_held_is numbers ls p in (ls, held, sheet, h)
    go (WriteRefused.short ls p h few q r) = absurd (omega arith)

-- Write refuses with 9 exactly the sheets whose text is not too long and is longer than the lent text.
pub write_text_short : (numbers : List ℕ) (space : ℕ)
    → (write_of numbers space ≡ refused 9 0)
    ↔ ((ls : List Line) × (numbers ≡ lent_of ls) × IsSheet ls × (length (text_of ls) ≤ text_limit) × (space < length (text_of ls)))
write_text_short numbers space = (
  λ e. go (write_of_refused numbers space 9 0 e),
  λ h.
      let (ls, held, sheet, size, few) = h in
      refused_write_of numbers space 9 0 (WriteRefused.short ls (ap sheet_held held ∙ sheet_held-lent ls sheet) size few refl refl),
)
  where
    go : WriteRefused numbers space 9 0
        → (ls : List Line) × (numbers ≡ lent_of ls) × IsSheet ls × (length (text_of ls) ≤ text_limit) × (space < length (text_of ls))
    go (WriteRefused.wrong p) = let r = sheet_held-number numbers 9 0 p in absurd (omega arith)
    go (WriteRefused.long ls p h q r) = absurd (omega arith)
    go (WriteRefused.short ls p h few q r) = let (held, sheet) = sheet_held_is numbers ls p in (ls, held, sheet, h, few)

-- Write refuses with no other number than 8, 1 and 9.
pub write_numbers : (numbers : List ℕ) (space n k : ℕ) → write_of numbers space ≡ refused n k → (n ≡ 8) ⊎ ((n ≡ 1) ⊎ (n ≡ 9))
write_numbers numbers space n k e = go (write_of_refused numbers space n k e)
  where
    go : WriteRefused numbers space n k → (n ≡ 8) ⊎ ((n ≡ 1) ⊎ (n ≡ 9))
    go (WriteRefused.wrong p) = inl (sheet_held-number numbers n k p)
    go (WriteRefused.long ls p h q r) = inr (inl q)
    go (WriteRefused.short ls p h few q r) = inr (inr q)
