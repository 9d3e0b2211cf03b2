-- What write's answer says of the lent lines: the first wrong one, or that they are a sheet. Assumes nothing.
use mathlib.Core.Path.{◌≡◌, refl, sym, ap, ◌∙◌}
use mathlib.Core.Bool.{Bool, true, false, cond}
use mathlib.Core.List.{List}
use Prim.Native.Nat.{ℕ, ◌<◌}
use native.Mathlib.Omega.{arith}
use lib.Dec.{ltb}
use lib.ListN.{length}
use Rattle.patterns.specs.Outcome.{Outcome, good, refused, counted}
use Rattle.sheet.specs.Line.{Line, text_of}
use Rattle.sheet.specs.Read.{text_limit}
use Rattle.sheet.specs.Write.{sheet_held, fits, written, write_of, write_says}
use Rattle.sheet.specs.Answer.{refusal_says}
use Rattle.sheet.specs.declared.Refusal.{Refusal}
use Rattle.sheet.specs.declared.Refusal.TheVariants.{TextTooLong, FormWrong, OutOfPlace, KindWrong, MarkWrong, OneTooMany, LinesShort, LineWrong, TextShort}
use Rattle.std.proofs.Common.{Result, Ok, Err}
use Rattle.sheet.proofs.Sheets.{refused≢good}
use Rattle.sheet.proofs.Refused.{sheet_held_refused, sheet_held-number}
use Rattle.rules.specs.Table.{SheetHeld}

abbrev Eight : ℕ → ℕ → Type 0
Eight n k = (n ≡ 8) × (0 < k)

refused_number : {A : Type 0} {m n j k : ℕ} → ◌≡◌ {A = Outcome A} (refused m j) (refused n k) → m ≡ n
refused_number e = cc

refused_line : {A : Type 0} {m n j k : ℕ} → ◌≡◌ {A = Outcome A} (refused m j) (refused n k) → j ≡ k
refused_line e = cc

-- Lent lines are refused with 8 and a line from 1.
pub held_refused : (numbers : List ℕ) (n k : ℕ) → sheet_held numbers ≡ refused n k → Eight n k
held_refused numbers n k e = (sheet_held-number numbers n k e, omega (arith, ((sheet_held_refused numbers n k).0 e).after))

fits_not_eight : (room : ℕ) (text : List ℕ) (line : ℕ) → counted (fits room text) ≡ refused 8 line → ⊥
fits_not_eight room text line e = go (ltb text_limit (length text)) (ltb room (length text)) e
  where
    go : (t u : Bool) → counted (cond t (refused 1 0) (cond u (refused 9 0) (good text))) ≡ refused 8 line → ⊥
    go true u e = let p = refused_number e in omega arith
    go false true e = let p = refused_number e in omega arith
    go false false e = refused≢good (sym e)

module _ (numbers : List ℕ) (room : ℕ) (says : Outcome ℕ) (e : says ≡ counted (write_of numbers room)) where
  -- Write answers 8: the line is the first wrong one.
  pub wrong_line : (line : ℕ) → says ≡ refused 8 line → sheet_held numbers ≡ refused 8 line
  unfolding write_of
  wrong_line line p = go (sheet_held numbers) refl (sym e ∙ p)
    where
      go : (o : Outcome (List Line)) → sheet_held numbers ≡ o → counted (written room o) ≡ refused 8 line → sheet_held numbers ≡ refused 8 line
      go (good ls) q h = absurd (fits_not_eight room (text_of ls) line h)
      go (refused n k) q h =
          let (a, b) = held_refused numbers n k q in
          let c = refused_number h in
          let d = refused_line h in
          q ∙ cc

  -- Write answers anything else: the lines are a sheet.
  pub right_lines : ((line : ℕ) → says ≡ refused 8 line → ⊥) → SheetHeld numbers
  unfolding write_of
  right_lines other = go (sheet_held numbers) refl e
    where
      go : (o : Outcome (List Line)) → sheet_held numbers ≡ o → says ≡ counted (written room o) → SheetHeld numbers
      go (good ls) q h = record { lines = ls; holds = q }
      go (refused n k) q h = let (a, b) = held_refused numbers n k q in absurd (other k (h ∙ ap (λ m. refused m k) a))

-- What write's answers mean.

module _ (numbers : List ℕ) (room : ℕ) (answer : Result ℕ Refusal) (e : write_says answer ≡ counted (write_of numbers room)) where
  pub bytes_right : (n : ℕ) → answer ≡ Ok n → SheetHeld numbers
  bytes_right n p = right_lines numbers room (write_says answer) e (λ line q. refused≢good (sym q ∙ ap write_says p))

  pub refusal_wrong : (r : Refusal) (line : ℕ) → answer ≡ Err r → r ≡ LineWrong line → sheet_held numbers ≡ refused 8 line
  refusal_wrong r line p q = wrong_line numbers room (write_says answer) e line (ap write_says p ∙ ap refusal_says q)

  eight_line : (r : Refusal) (line : ℕ) → ◌≡◌ {A = Outcome ℕ} (refusal_says r) (refused 8 line) → r ≡ LineWrong line
  eight_line TextTooLong line q = let z = refused_number q in absurd (omega arith)
  eight_line (FormWrong l) line q = let z = refused_number q in absurd (omega arith)
  eight_line (OutOfPlace l) line q = let z = refused_number q in absurd (omega arith)
  eight_line (KindWrong l) line q = let z = refused_number q in absurd (omega arith)
  eight_line (MarkWrong l) line q = let z = refused_number q in absurd (omega arith)
  eight_line (OneTooMany l) line q = let z = refused_number q in absurd (omega arith)
  eight_line (LinesShort l) line q = let z = refused_number q in absurd (omega arith)
  eight_line (LineWrong l) line q = ap LineWrong (refused_line q)
  eight_line TextShort line q = let z = refused_number q in absurd (omega arith)

  pub refusal_right : (r : Refusal) → answer ≡ Err r → ((line : ℕ) → r ≡ LineWrong line → ⊥) → SheetHeld numbers
  refusal_right r p other =
      right_lines numbers room (write_says answer) e (λ line q. other line (eight_line r line (sym (ap write_says p) ∙ q)))
