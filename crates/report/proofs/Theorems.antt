-- The theorems on what is printed that a reader relies on. Assumes nothing.
use mathlib.Core.Path.{◌≡◌, refl, ap}
use mathlib.Core.List.{List, [], ◌∷◌, ◌++◌}
use Prim.Native.Nat.{ℕ}
use lib.ListN.{length}
use Rattle.sheet.specs.Line.{Line, render}
use Rattle.chase.specs.Steps.{Step, step_numbers}
use Rattle.report.specs.Lines.{line_text}
use Rattle.report.specs.Report.{letter_s, step_lines}

-- A line's text is how the sheet's own lines are rendered: the kind is the first column.
pub as_a_sheet's_line : (l : Line) → line_text l.letter (l.kind ∷ l.numbers) ≡ render l
unfolding line_text render
as_a_sheet's_line l = refl

-- The S lines of steps, one after the other.
abbrev pub steps_text : List Step → List ℕ
steps_text [] = []
steps_text (s ∷ ss) = line_text letter_s (s.rule ∷ s.head ∷ s.from ∷ s.to ∷ s.fresh ∷ []) ++ steps_text ss

-- What is printed of numbers that hold steps: an S line with the five numbers of each.
pub each_step_printed : (ss : List Step) (rest : List ℕ) → step_lines (length ss) (step_numbers ss ++ rest) ≡ steps_text ss
each_step_printed [] rest = refl
each_step_printed (s ∷ ss) rest =
    ap (λ (r : List ℕ). line_text letter_s (s.rule ∷ s.head ∷ s.from ∷ s.to ∷ s.fresh ∷ []) ++ r) (each_step_printed ss rest)
