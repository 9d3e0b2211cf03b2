-- The table of small sheets holds: to each sheet's lines the contract allows the entry's result and no other. Assumes nothing.
use mathlib.Core.Path.{◌≡◌, refl, sym, subst}
use mathlib.Core.List.{List}
use Prim.Native.Nat.{ℕ}
use lib.ListN.{length}
use Rattle.patterns.specs.Outcome.{good}
use Rattle.sheet.specs.Line.{Line, lent_of}
use Rattle.sheet.specs.Read.{sheet_in}
use Rattle.sheet.specs.Write.{sheet_held}
use Rattle.chase.specs.Lists.{In}
use Rattle.chase.specs.Rules.{rules_of}
use Rattle.chase.specs.Run.{rows_of}
use Rattle.chase.specs.Judge.{shape_limit}
use Rattle.chase.proofs.JudgeLaws.{says-deepest, says_endless}
use Rattle.chase.proofs.Decisions.{all2_in}
use Rattle.chase.proofs.SmallChase.{found_in, found_reachable, found_settles, shapes_count}
use Rattle.chase.proofs.LoopCheck.{turns_endless}
use Rattle.chase.proofs.CaseCheck.{Evidence, ends, turns, lines_in}
use Rattle.carrying.proofs.AllSheets.{FewShapes, shapes_found}
use Rattle.growth.specs.Forecast.{Forecast}
use Rattle.growth.specs.Contract.{Taken, Right, Refuses, endless, ForecastMeets}
use Rattle.growth.specs.Sheets.{Result, gives, refused, Sheet, sheets, says, Holds}
use Rattle.growth.proofs.Answers.{only_answer}
use Rattle.growth.proofs.AllSheets.{deepest_found, SettlesWith, Shown, Passes, evidence, all_pass}

module _ (lines : List Line) (held : sheet_held (lent_of lines) ≡ good lines) where
  taken : FewShapes lines (shapes_found lines) → Taken shape_limit (lent_of lines) lines
  taken few =
      record {
        sheet = held;
        shapes = length (shapes_found lines);
        counted = shapes_count (rules_of lines) (rows_of lines) (found_in (rules_of lines) (rows_of lines)) (found_reachable (rules_of lines) (rows_of lines)) few.0;
        within = few.1;
      }

  pub settles_right : (f : Forecast) → SettlesWith f lines → Right shape_limit (lent_of lines) f
  settles_right f s =
      let found = found_in (rules_of lines) (rows_of lines) in
      let says = found_settles (rules_of lines) (rows_of lines) found (found_reachable (rules_of lines) (rows_of lines)) s.1.0 in
      let d = says-deepest (rules_of lines) (rows_of lines) 1 (deepest_found lines) says refl in
      record {
        lines = lines;
        taken = taken s.0;
        deepest = deepest_found lines;
        is_deepest = record { bounded = d.0; met = d.1 };
        figures = s.1.1;
      }

  shown_meets : (r : Result) (e : Evidence) → Shown r e lines → ForecastMeets shape_limit (lent_of lines) (says r)
  shown_meets (gives f) ends p = settles_right f p
  shown_meets (gives f) (turns row trail first others) p = absurd p
  shown_meets (refused number) ends p = absurd p
  shown_meets (refused number) (turns row trail first others) p =
      let s = turns_endless (rules_of lines) trail first others (rows_of lines) row p.1.1 in
      subst (λ (n : ℕ). Refuses shape_limit (lent_of lines) n 0) (sym p.0)
      (endless lines (taken p.1.0) ((says_endless (rules_of lines) (rows_of lines) 2 0 s).0 refl))

passes_holds : (s : Sheet) (e : Evidence) → Passes s e → Holds s
passes_holds s e p =
    let lines = lines_in (sheet_in s.text) in
    record {
      lines = lines;
      read = p.0;
      answer = only_answer shape_limit (lent_of lines) (says s.result) (shown_meets lines p.1.0 s.result e p.1.1);
    }

-- THE THEOREM: every entry of the table holds.
pub every_sheet_holds : (s : Sheet) → In s sheets → Holds s
every_sheet_holds s i =
    let t = all2_in Passes s sheets evidence all_pass i in
    passes_holds s t.0 t.1
