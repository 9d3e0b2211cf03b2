-- What write answers: what is measured decides, and the text is filled where it fits. Assumes nothing.
use mathlib.Core.Path.{◌≡◌, refl, sym, ap, ◌∙◌}
use mathlib.Core.List.{List}
use Prim.Native.Nat.{ℕ, ◌<◌, ◌≤◌}
use native.Mathlib.Omega.{arith}
use Rattle.std.proofs.Common.{Result, Ok, Err}
use lib.ListN.{length}
use Rattle.sheet.specs.Line.{Line, text_of}
use Rattle.patterns.specs.Outcome.{Outcome, good, refused, map_good, held}
use Rattle.sheet.specs.Answer.{refusal_number, refusal_line, refusal_says}
use Rattle.sheet.specs.Write.{sheet_held, WriteMeets, write_of, write_says}
use Rattle.sheet.specs.Inner.Promises.{TextFilled, size_of}
use Rattle.sheet.specs.declared.Refusal.{Refusal}
use Rattle.sheet.specs.declared.Refusal.TheVariants.{TextTooLong, TextShort}
use Rattle.sheet.proofs.Sheets.{refused≢good}
use Rattle.sheet.proofs.Outcomes.{write_of_by, WriteRefused, refused_write_of}

refused_is : (number line : ℕ) (o : Outcome (List Line)) → refused number line ≡ map_good size_of o → o ≡ refused number line
refused_is number line (good ls) e = absurd (refused≢good e)
refused_is number line (refused m k) e = cc

size_is : (size : ℕ) (o : Outcome (List Line)) → good size ≡ map_good size_of o → (ls : List Line) × (o ≡ good ls) × (size ≡ length (text_of ls))
size_is size (good ls) e = (ls, refl, cc)
size_is size (refused number at) e = absurd (refused≢good (sym e))

-- An answer meets the contract where it says what is written, and leaves that.
meets :
    (numbers before : List ℕ) (answer : Result ℕ Refusal) (after : List ℕ) (o : Outcome (List ℕ)) → write_of numbers (length before) ≡ o → write_says answer ≡ map_good length o
    → after ≡ held o before → WriteMeets numbers before answer after
meets numbers before answer after o e says text =
    record { says = says ∙ ap (map_good length) (sym e); text = text ∙ ap (λ (p : Outcome (List ℕ)). held p before) (sym e) }

module _ (numbers before : List ℕ) where
  -- A refusal leaves the text.
  refuses_for : (r : Refusal) → WriteRefused numbers (length before) (refusal_number r) (refusal_line r) → WriteMeets numbers before (Err r) before
  refuses_for r w = meets numbers before (Err r) before (refusal_says r) (refused_write_of numbers (length before) (refusal_number r) (refusal_line r) w) refl refl

  -- The first wrong line.
  pub write_wrong : (r : Refusal) → refusal_says {A = ℕ} r ≡ map_good size_of (sheet_held numbers) → WriteMeets numbers before (Err r) before
  write_wrong r e = refuses_for r (WriteRefused.wrong (refused_is (refusal_number r) (refusal_line r) (sheet_held numbers) e))

  module _ (size : ℕ) (e : good size ≡ map_good size_of (sheet_held numbers)) where
    abbrev found : (ls : List Line) × (sheet_held numbers ≡ good ls) × (size ≡ length (text_of ls))
    found = size_is size (sheet_held numbers) e

    pub write_long : 32768 < size → WriteMeets numbers before (Err TextTooLong) before
    write_long h = let (ls, p, q) = found in refuses_for TextTooLong (WriteRefused.long ls p (omega arith) refl refl)

    pub write_short : size ≤ 32768 → length before < size → WriteMeets numbers before (Err TextShort) before
    write_short h k = let (ls, p, q) = found in refuses_for TextShort (WriteRefused.short ls p (omega arith) (omega arith) refl refl)

    pub write_good : size ≤ 32768 → size ≤ length before → (after : List ℕ) → TextFilled numbers before after → WriteMeets numbers before (Ok size) after
    write_good h k after t =
        let (ls, p, q) = found in
        meets numbers before (Ok size) after (good (text_of ls)) (write_of_by numbers (length before) ls p (omega arith) (omega arith))
        (ap good q)
        (t ∙ ap (λ (o : Outcome (List Line)). held (map_good text_of o) before) p)
