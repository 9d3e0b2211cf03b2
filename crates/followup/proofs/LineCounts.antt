-- How many lines a text can have: each has 20 bytes or more, so more room than for so many changes nothing. Assumes nothing.
use mathlib.Core.Path.{◌≡◌, refl, sym, ap, ◌∙◌}
use mathlib.Core.Bool.{Bool, true, false, cond}
use mathlib.Core.List.{List, [], ◌∷◌}
use Prim.Native.Nat.{ℕ, ◌*◌, ◌/◌, ◌≤◌, min}
use native.Mathlib.Decide.{dec_le}
use native.Mathlib.Omega.{arith}
use borrow.Author.Tests.{le-ltb, ltb-false}
use lib.Dec.{ltb}
use lib.ListN.{length, length-append}
use Rattle.patterns.specs.Outcome.{Outcome, good, refused}
use Rattle.sheet.specs.Line.{Line, render, text_of}
use Rattle.sheet.specs.Read.{text_limit, sheet_in, with_room, read_of}
use Rattle.sheet.proofs.Lines.{Formed}
use Rattle.sheet.proofs.Sheets.{all_well_formed, sheet_in_is, render_size}

text_size : (ls : List Line) → Formed ls → 20 * length ls ≤ length (text_of ls)
text_size [] f = omega arith
text_size (l ∷ ls) f = omega (arith, length-append (render l) (text_of ls), render_size l f.0, text_size ls f.1)

-- A text has at most one line for 20 bytes.
pub lines_few : (text : List ℕ) (ls : List Line) → sheet_in text ≡ good ls → length ls ≤ length text / 20
lines_few text ls e = let (is, sheet) = sheet_in_is text ls e in omega (arith, text_size ls (all_well_formed ls sheet), ap length is)

-- As many lines as a text can have: one that is too long is not read.
abbrev pub lines_in : List ℕ → ℕ
lines_in text = min (length text) text_limit / 20

-- More room than that changes nothing.
pub with-room : (text : List ℕ) (room : ℕ) → lines_in text ≤ room → read_of text room ≡ cond (ltb text_limit (length text)) (refused 1 0) (sheet_in text)
unfolding read_of
with-room text room h = go (ltb text_limit (length text)) refl (sheet_in text) refl
  where
    go : (t : Bool) → ltb text_limit (length text) ≡ t → (o : Outcome (List Line)) → sheet_in text ≡ o → cond t (refused 1 0) (with_room room o) ≡ cond t (refused 1 0) o
    go true p o q = refl
    go false p (refused number line) q = refl
    go false p (good ls) q = rw (le-ltb room (length ls) (omega (arith, lines_few text ls q, ltb-false text_limit (length text) p)))

pub room_enough : (text : List ℕ) (room most : ℕ) → lines_in text ≤ most → read_of text (min room most) ≡ read_of text room
room_enough text room most h = go (dec_le room most)
  where
    go : Dec (room ≤ most) → read_of text (min room most) ≡ read_of text room
    go (yes k) = ap (read_of text) (let e : min room most ≡ room = omega arith in e)
    go (no k) = with-room text (min room most) (omega arith) ∙ sym (with-room text room (omega arith))
