-- All entries of the table of small sheets pass a computed check, over the definitions alone. Assumes nothing.
use mathlib.Core.Path.{◌≡◌, refl}
use mathlib.Core.List.{List, [], ◌∷◌}
use Prim.Native.Nat.{ℕ, suc, ◌≤◌, ◌<◌}
use native.Mathlib.Decide.{ℕ_discrete, dec_le, dec_lt}
use lib.ListN.{length}
use Rattle.patterns.specs.Outcome.{Outcome, good}
use Rattle.patterns.specs.Pattern.{lists_discrete}
use Rattle.columns.specs.Column.{largest_number, column, number_in}
use Rattle.sheet.specs.Line.{Line, lent_of, lent, line_in, form_of, well_formed}
use Rattle.sheet.specs.Sheet.{in_place, kind_right, marks_right, room_for, refusal}
use Rattle.sheet.specs.Read.{sheet_in, taken_text}
use Rattle.sheet.specs.Write.{sheet_held, taken_lent, line_held, line_holds}
use Rattle.chase.specs.Lists.{both?, options_discrete, All2}
use Rattle.chase.specs.Rules.{rules_of, nth}
use Rattle.chase.specs.Making.{Record-discrete, carried_marks}
use Rattle.chase.specs.Run.{rows_of}
use Rattle.chase.specs.Shape.{Shape}
use Rattle.chase.specs.Steps.{Step}
use Rattle.chase.specs.Judge.{shape_limit}
use Rattle.chase.proofs.Decisions.{decided, all2?, Shape-discrete}
use Rattle.chase.proofs.SmallChase.{found_in, shapes_in, AllShapes, all_shapes?}
use Rattle.chase.proofs.LoopCheck.{TurnsFrom, turns_from?}
use Rattle.chase.proofs.CaseCheck.{lines_in, same_lines?}
use Rattle.carrying.specs.Carrying.{Row, Row-discrete, Pair-discrete, fresh_marks, State}
use Rattle.carrying.specs.Contract.{run}
use Rattle.carrying.specs.Sheets.{Result, gives, refused, Sheet, sheets}

-- Why a sheet has its result: its run ends with the entry's rows; or it ends after so many visits and needs too large a number; or there is a loop, with the row and the trail that lead to it.
pub data Evidence : Type 0 where
  ends : Evidence
  passes : (visits : ℕ) → Evidence
  turns : (row : ℕ) (trail : List Step) (first : Step) (others : List Step) → Evidence

-- The run ends with these rows, which are few, after so many firings, and within the numbers.
abbrev pub EndsWith : List Row → ℕ → State → Type 0
EndsWith rows firings s = (s.rows ≡ rows) × ((length rows ≤ shape_limit) × ((length s.fired ≡ firings) × (s.next ≤ suc largest_number)))

unfoldable pub ends_with? : (rows : List Row) (firings : ℕ) (s : State) → Dec (EndsWith rows firings s)
unfolding both? lists_discrete Row-discrete ℕ_discrete dec_le
ends_with? rows firings s =
    both? (lists_discrete Row-discrete s.rows rows)
    (both? (dec_le (length rows) shape_limit) (both? (ℕ_discrete (length s.fired) firings) (dec_le s.next (suc largest_number))))

-- It ends after so many visits, which are few, and needs a number past the largest.
abbrev pub PassesIn : ℕ → State → Type 0
PassesIn visits s = (length s.rows ≤ visits) × ((visits ≤ shape_limit) × (suc largest_number < s.next))

unfoldable pub passes_in? : (visits : ℕ) (s : State) → Dec (PassesIn visits s)
unfolding both? dec_le dec_lt
passes_in? visits s = both? (dec_le (length s.rows) visits) (both? (dec_le visits shape_limit) (dec_lt (suc largest_number) s.next))

-- Shapes that are all, and few.
abbrev pub FewShapes : List Line → List Shape → Type 0
FewShapes lines shapes = AllShapes (rules_of lines) (rows_of lines) shapes × (length shapes ≤ shape_limit)

unfoldable pub few_shapes? : (lines : List Line) (shapes : List Shape) → Dec (FewShapes lines shapes)
unfolding both? all_shapes? dec_le
few_shapes? lines shapes = both? (all_shapes? (rules_of lines) (rows_of lines) shapes) (dec_le (length shapes) shape_limit)

abbrev pub shapes_found : List Line → List Shape
shapes_found lines = shapes_in (found_in (rules_of lines) (rows_of lines))

-- The evidence for a result is right.
abbrev pub Shown : Result → Evidence → List Line → Type 0
Shown (gives rows firings) ends lines = EndsWith rows firings (run lines (length rows))
Shown (gives rows firings) (passes visits) lines = ⊥
Shown (gives rows firings) (turns row trail first others) lines = ⊥
Shown (refused number) ends lines = ⊥
Shown (refused number) (passes visits) lines = (number ≡ 23) × PassesIn visits (run lines visits)
Shown (refused number) (turns row trail first others) lines =
    (number ≡ 21) × (FewShapes lines (shapes_found lines) × TurnsFrom (rules_of lines) trail first others (nth (rows_of lines) row))

unfoldable pub shown? : (r : Result) (e : Evidence) (lines : List Line) → Dec (Shown r e lines)
unfolding both? ℕ_discrete lists_discrete options_discrete Row-discrete Pair-discrete fresh_marks carried_marks Record-discrete Shape-discrete ends_with? passes_in? few_shapes? turns_from?
shown? (gives rows firings) ends lines = ends_with? rows firings (run lines (length rows))
shown? (gives rows firings) (passes visits) lines = no (λ s. s)
shown? (gives rows firings) (turns row trail first others) lines = no (λ s. s)
shown? (refused number) ends lines = no (λ s. s)
shown? (refused number) (passes visits) lines = both? (ℕ_discrete number 23) (passes_in? visits (run lines visits))
shown? (refused number) (turns row trail first others) lines =
    both? (ℕ_discrete number 21)
    (both? (few_shapes? lines (shapes_found lines)) (turns_from? (rules_of lines) trail first others (nth (rows_of lines) row)))

-- A text's lines are a sheet, as they are lent too, and the evidence is right.
module _ (r : Result) (e : Evidence) (o : Outcome (List Line)) where
  abbrev pub PassesOn : List Line → Type 0
  PassesOn lines = (o ≡ good lines) × ((sheet_held (lent_of lines) ≡ good lines) × Shown r e lines)

  unfoldable pub passes_on? : (lines : List Line) → Dec (PassesOn lines)
  unfolding both? same_lines? shown? sheet_held taken_lent line_held line_holds lent well_formed form_of refusal in_place kind_right marks_right room_for
  passes_on? lines = both? (same_lines? o lines) (both? (same_lines? (sheet_held (lent_of lines)) lines) (shown? r e lines))

abbrev pub Passes : Sheet → Evidence → Type 0
Passes s e = PassesOn s.result e (sheet_in s.text) (lines_in (sheet_in s.text))

unfoldable pub passes? : (s : Sheet) (e : Evidence) → Dec (Passes s e)
unfolding passes_on? sheet_in taken_text line_in number_in column form_of refusal in_place kind_right marks_right room_for
passes? s e = go (sheet_in s.text)
  where
    go : (o : Outcome (List Line)) → Dec (PassesOn s.result e o (lines_in o))
    go o = passes_on? s.result e o (lines_in o)

-- The evidence for each entry's result, in the order of the table.
abbrev pub evidence : List Evidence
evidence =
    ends ∷ ends ∷ ends ∷ ends ∷ ends ∷ ends ∷ ends ∷ ends ∷ ends ∷ ends ∷ ends ∷ ends ∷ ends ∷ ends ∷ ends ∷ ends ∷ ends ∷ ends
    ∷ ends ∷ ends ∷ ends ∷ ends ∷ ends
    ∷ passes 2 ∷ passes 1
    ∷ turns 1 [] (record { rule = 1; head = 1; from = 2; to = 2; fresh = 1 }) []
    ∷ []

-- All entries pass, by computing.
pub all_pass : All2 Passes sheets evidence
unfolding all2? passes?
all_pass = decided (all2? Passes passes? sheets evidence) refl
