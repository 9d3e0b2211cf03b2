-- Where the bytes of an F line go, and that what stands at the front of the output is right to print. Assumes nothing.
use mathlib.Core.Path.{◌≡◌, refl, sym, ap, ap₂, ◌∙◌}
use mathlib.Core.List.{List, [], ◌∷◌, ◌++◌, append_assoc}
use Prim.Native.Nat.{ℕ, ◌+◌, ◌≤◌}
use native.Mathlib.Omega.{arith}
use lib.ListN.{length, set, length-append}
use lib.Seq.{sets-eq}
use Rattle.columns.specs.Column.{wide_column, put}
use Rattle.sheet.proofs.PutLaws.{length-put, put_more}
use Rattle.chase.specs.Judge.{shape_limit}
use Rattle.growth.specs.Forecast.{Figure, exactly, beyond, Forecast}
use Rattle.growth.specs.Contract.{Refuses}
use Rattle.report.specs.Report.{Filled}
use Rattle.report.specs.Inner.Promises.{SheetLent}
use Rattle.report.proofs.Bounds.{sheet_unrefused}
use Rattle.outlook.specs.Outlook.{letter_f, figure_column, figures_line}

-- ---- the F line

pub length-figure_column : (f : Figure) → length (figure_column f) ≡ 12
unfolding figure_column wide_column
length-figure_column (exactly n) = refl
length-figure_column beyond = refl

module _ (f : Forecast) where
  abbrev values : List ℕ
  values = figure_column f.values

  abbrev records : List ℕ
  records = figure_column f.records

  abbrev pairs : List ℕ
  pairs = figure_column f.pairs

  length_two : length (letter_f ∷ values ++ records) ≡ 25
  length_two = omega (arith, length-append values records, length-figure_column f.values, length-figure_column f.records)

  length_three : length ((letter_f ∷ values ++ records) ++ pairs) ≡ 37
  length_three = omega (arith, length-append (letter_f ∷ values ++ records) pairs, length_two, length-figure_column f.pairs)

  line_is : figures_line f ≡ ((letter_f ∷ values ++ records) ++ pairs) ++ (10 ∷ [])
  unfolding figures_line
  line_is = sym (append_assoc (letter_f ∷ values ++ records) pairs (10 ∷ []) ∙ append_assoc (letter_f ∷ values) records (pairs ++ (10 ∷ [])))

  pub length-figures_line : length (figures_line f) ≡ 38
  length-figures_line = omega (arith, ap length line_is, length-append ((letter_f ∷ values ++ records) ++ pairs) (10 ∷ []), length_three)

  -- The letter, the three columns, byte 10.
  module _ (t : List ℕ) (room : 38 ≤ length t) where
    -- What is put next.
    next : {x : List ℕ} (s u : List ℕ) (at : ℕ) → x ≡ put t 0 s → length s ≡ at → at + length u ≤ length t → put x at u ≡ put t 0 (s ++ u)
    next s u at e size h =
        let k : at ≡ 0 + length s = omega arith in
        ap₂ (λ (y : List ℕ) (j : ℕ). put y j u) e k ∙ put_more t 0 s u (omega arith)

    columns-put : put (put (put (set t 0 letter_f) 1 values) 13 records) 25 pairs ≡ put t 0 ((letter_f ∷ values ++ records) ++ pairs)
    columns-put =
        let a = length-figure_column f.values in
        let b = length-figure_column f.records in
        let c = length-figure_column f.pairs in
        next (letter_f ∷ values ++ records) pairs 25
        (next (letter_f ∷ values) records 13 (next (letter_f ∷ []) values 1 (sets-eq (letter_f ∷ []) t 0 (omega arith)) refl (omega arith)) (omega arith) (omega arith))
        length_two (omega arith)

    figures-put : set (put (put (put (set t 0 letter_f) 1 values) 13 records) 25 pairs) 37 10 ≡ put t 0 (figures_line f)
    figures-put =
        let a = length_three in
        let three : List ℕ = (letter_f ∷ values ++ records) ++ pairs in
        ap (λ (x : List ℕ). set x 37 10) columns-put
        ∙ sets-eq (10 ∷ []) (put t 0 three) 37 (omega (arith, length-put t 0 three (omega arith)))
        ∙ next three (10 ∷ []) 37 refl length_three (omega arith)
        ∙ ap (put t 0) (sym line_is)

    -- One after the other.
    pub figures-filled : (x y z : List ℕ) → x ≡ put (set t 0 letter_f) 1 values → y ≡ put x 13 records → z ≡ put y 25 pairs
        → Filled (λ p. p ≡ figures_line f) t 38 (set z 37 10)
    figures-filled x y z e g h =
        record {
          printed = figures_line f;
          right = refl;
          count = sym length-figures_line;
          output = rw (h, g, e) figures-put;
        }

-- ---- refusals, and what was read

-- A sheet's lines are refused with no line.
pub refusal_small : (numbers : List ℕ) (n k : ℕ) → SheetLent numbers → Refuses shape_limit numbers n k → (n ≤ 21) × (k ≡ 0)
refusal_small numbers n k sheet (Refuses.wrong line e) = absurd (sheet_unrefused sheet e)
refusal_small numbers n k sheet (Refuses.many lines e m) = (omega arith, refl)
refusal_small numbers n k sheet (Refuses.endless lines t u) = (omega arith, refl)
