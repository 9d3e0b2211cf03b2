-- The number and line that document 01 gives each refusal. Assumes nothing.
use Rattle.std.specs.Prelude.{ℕ}
use Rattle.patterns.specs.Outcome.{Outcome, refused}
use Rattle.sheet.specs.declared.Refusal.{Refusal}
use Rattle.sheet.specs.declared.Refusal.TheVariants.{
  TextTooLong,
  FormWrong,
  OutOfPlace,
  KindWrong,
  MarkWrong,
  OneTooMany,
  LinesShort,
  LineWrong,
  TextShort,
}

abbrev pub refusal_number : Refusal → ℕ
refusal_number TextTooLong = 1
refusal_number (FormWrong line) = 2
refusal_number (OutOfPlace line) = 3
refusal_number (KindWrong line) = 4
refusal_number (MarkWrong line) = 5
refusal_number (OneTooMany line) = 6
refusal_number (LinesShort line) = 7
refusal_number (LineWrong line) = 8
refusal_number TextShort = 9

-- Line 0 where none is named.
abbrev pub refusal_line : Refusal → ℕ
refusal_line TextTooLong = 0
refusal_line (FormWrong line) = line
refusal_line (OutOfPlace line) = line
refusal_line (KindWrong line) = line
refusal_line (MarkWrong line) = line
refusal_line (OneTooMany line) = line
refusal_line (LinesShort line) = line
refusal_line (LineWrong line) = line
refusal_line TextShort = 0

abbrev pub refusal_says : {A : Type 0} → Refusal → Outcome A
refusal_says r = refused (refusal_number r) (refusal_line r)
