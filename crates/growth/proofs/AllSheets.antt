-- All entries of the table of small sheets pass a computed check, over the definitions alone. Assumes nothing.
use mathlib.Core.Path.{◌≡◌, refl, ap}
use mathlib.Core.Bool.{false≢true}
use mathlib.Core.List.{List, [], ◌∷◌}
use Prim.Native.Nat.{ℕ}
use native.Mathlib.Decide.{ℕ_discrete}
use Rattle.patterns.specs.Outcome.{Outcome, good}
use Rattle.patterns.specs.Pattern.{lists_discrete}
use Rattle.columns.specs.Column.{column, number_in}
use Rattle.sheet.specs.Line.{Line, lent_of, lent, line_in, form_of, well_formed}
use Rattle.sheet.specs.Sheet.{in_place, kind_right, marks_right, room_for, refusal}
use Rattle.sheet.specs.Read.{sheet_in, taken_text}
use Rattle.sheet.specs.Write.{sheet_held, taken_lent, line_held, line_holds}
use Rattle.chase.specs.Lists.{both?, options_discrete, All2}
use Rattle.chase.specs.Rules.{rules_of, nth}
use Rattle.chase.specs.Value.{Value-discrete}
use Rattle.chase.specs.Making.{Record-discrete, carried_marks}
use Rattle.chase.specs.Run.{rows_of}
use Rattle.chase.proofs.Decisions.{decided, all2?, Shape-discrete}
use Rattle.chase.proofs.FiniteLaws.{deepest_in}
use Rattle.chase.proofs.SmallChase.{found_in, AllRecords, settles?}
use Rattle.chase.proofs.LoopCheck.{TurnsFrom, turns_from?}
use Rattle.chase.proofs.CaseCheck.{Evidence, ends, turns, lines_in, same_lines?}
use Rattle.carrying.specs.Carrying.{fresh_marks}
use Rattle.carrying.proofs.AllSheets.{FewShapes, few_shapes?, shapes_found}
use Rattle.growth.specs.Forecast.{values_in, first_t, last_t, Figure, exactly, beyond, figure, Forecast, forecast}
use Rattle.growth.specs.Sheets.{Result, gives, refused, Sheet, sheets}

unfoldable pub Figure-discrete : Discrete Figure
unfolding ℕ_discrete
Figure-discrete (exactly m) (exactly n) = go (ℕ_discrete m n)
  where
    go : Dec (m ≡ n) → Dec (exactly m ≡ exactly n)
    go (yes p) = yes (ap exactly p)
    go (no h) = no (λ e. h cc)
Figure-discrete (exactly m) beyond = no (λ e. false≢true cc)
Figure-discrete beyond (exactly n) = no (λ e. false≢true cc)
Figure-discrete beyond beyond = yes refl

unfoldable pub Forecast-discrete : Discrete Forecast
unfolding Figure-discrete
Forecast-discrete f g = go (Figure-discrete f.values g.values) (Figure-discrete f.records g.records) (Figure-discrete f.pairs g.pairs)
  where
    go : Dec (f.values ≡ g.values) → Dec (f.records ≡ g.records) → Dec (f.pairs ≡ g.pairs) → Dec (f ≡ g)
    go (no h) q r = no (λ e. h (ap (λ (x : Forecast). x.values) e))
    go (yes p) (no h) r = no (λ e. h (ap (λ (x : Forecast). x.records) e))
    go (yes p) (yes q) (no h) = no (λ e. h (ap (λ (x : Forecast). x.pairs) e))
    go (yes p) (yes q) (yes r) = yes (λ i. record { values = p i; records = q i; pairs = r i })

abbrev pub deepest_found : List Line → ℕ
deepest_found lines = deepest_in (found_in (rules_of lines) (rows_of lines))

-- The shapes found are all, and few; so are the records found, and this is the forecast with the deepest generation in them.
abbrev pub SettlesWith : Forecast → List Line → Type 0
SettlesWith f lines =
    FewShapes lines (shapes_found lines)
    × (AllRecords (rules_of lines) (rows_of lines) (found_in (rules_of lines) (rows_of lines)) × (f ≡ forecast lines (deepest_found lines)))

unfoldable pub settles_with? : (f : Forecast) (lines : List Line) → Dec (SettlesWith f lines)
unfolding both? few_shapes? settles? Forecast-discrete Value-discrete Shape-discrete carried_marks fresh_marks values_in first_t last_t figure forecast
settles_with? f lines =
    both? (few_shapes? lines (shapes_found lines)) (both? (settles? (rules_of lines) (rows_of lines)) (Forecast-discrete f (forecast lines (deepest_found lines))))

-- The evidence for a result is right.
abbrev pub Shown : Result → Evidence → List Line → Type 0
Shown (gives f) ends lines = SettlesWith f lines
Shown (gives f) (turns row trail first others) lines = ⊥
Shown (refused number) ends lines = ⊥
Shown (refused number) (turns row trail first others) lines =
    (number ≡ 21) × (FewShapes lines (shapes_found lines) × TurnsFrom (rules_of lines) trail first others (nth (rows_of lines) row))

unfoldable pub shown? : (r : Result) (e : Evidence) (lines : List Line) → Dec (Shown r e lines)
unfolding both? ℕ_discrete lists_discrete options_discrete Record-discrete settles_with? turns_from?
shown? (gives f) ends lines = settles_with? f lines
shown? (gives f) (turns row trail first others) lines = no (λ s. s)
shown? (refused number) ends lines = no (λ s. s)
shown? (refused number) (turns row trail first others) lines =
    both? (ℕ_discrete number 21)
    (both? (few_shapes? lines (shapes_found lines)) (turns_from? (rules_of lines) trail first others (nth (rows_of lines) row)))

-- A text's lines are a sheet, as they are lent too, and the evidence is right.
module _ (r : Result) (e : Evidence) (o : Outcome (List Line)) where
  abbrev pub PassesOn : List Line → Type 0
  PassesOn lines = (o ≡ good lines) × ((sheet_held (lent_of lines) ≡ good lines) × Shown r e lines)

  unfoldable pub passes_on? : (lines : List Line) → Dec (PassesOn lines)
  unfolding both? same_lines? shown? sheet_held taken_lent line_held line_holds lent well_formed form_of refusal in_place kind_right marks_right room_for
  passes_on? lines = both? (same_lines? o lines) (both? (same_lines? (sheet_held (lent_of lines)) lines) (shown? r e lines))

abbrev pub Passes : Sheet → Evidence → Type 0
Passes s e = PassesOn s.result e (sheet_in s.text) (lines_in (sheet_in s.text))

unfoldable pub passes? : (s : Sheet) (e : Evidence) → Dec (Passes s e)
unfolding passes_on? sheet_in taken_text line_in number_in column form_of refusal in_place kind_right marks_right room_for
passes? s e = go (sheet_in s.text)
  where
    go : (o : Outcome (List Line)) → Dec (PassesOn s.result e o (lines_in o))
    go o = passes_on? s.result e o (lines_in o)

-- The evidence for each entry's result, in the order of the table.
abbrev pub evidence : List Evidence
evidence =
    ends ∷ ends ∷ ends ∷ ends ∷ ends ∷ ends ∷ ends ∷ ends ∷ ends ∷ ends ∷ ends ∷ ends ∷ ends ∷ ends ∷ ends
    ∷ turns 1 [] (record { rule = 1; head = 1; from = 2; to = 2; fresh = 1 }) []
    ∷ []

-- All entries pass, by computing.
pub all_pass : All2 Passes sheets evidence
unfolding all2? passes?
all_pass = decided (all2? Passes passes? sheets evidence) refl
