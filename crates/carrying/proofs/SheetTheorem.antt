-- The table of small sheets holds: to each sheet's lines the contract allows the entry's result and no other. Assumes nothing.
use mathlib.Core.Path.{◌≡◌, refl, sym, ap, subst}
use mathlib.Core.List.{List, ◌++◌, map}
use Prim.Native.Nat.{ℕ, ◌*◌, ◌≤◌}
use native.Mathlib.Omega.{arith}
use lib.ListN.{length, drop}
use Rattle.patterns.specs.Outcome.{good}
use Rattle.sheet.specs.Line.{Line, line_size, lent_of}
use Rattle.sheet.specs.Read.{sheet_in}
use Rattle.sheet.specs.Write.{sheet_held}
use Rattle.chase.specs.Lists.{In}
use Rattle.chase.specs.Rules.{rules_of}
use Rattle.chase.specs.Run.{rows_of}
use Rattle.chase.specs.Judge.{Unbounded, shape_limit}
use Rattle.chase.proofs.CertificateLaws.{Says, settles, endless as says_endless}
use Rattle.chase.proofs.Decisions.{all2_in}
use Rattle.chase.proofs.SmallChase.{found_in, found_reachable, shapes_count}
use Rattle.chase.proofs.LoopCheck.{turns_endless}
use Rattle.chase.proofs.CaseCheck.{lines_in}
use Rattle.carrying.specs.Carrying.{Row}
use Rattle.carrying.specs.Contract.{record_room, row_line, run, Ends, Taken, CarriedOut, Refuses, endless, CarryMeets}
use Rattle.carrying.specs.Sheets.{Result, gives, refused, Sheet, sheets, says, leaves, Holds}
use Rattle.carrying.proofs.Theorems.{records_count}
use Rattle.carrying.proofs.ShapeCount.{few_shapes}
use Rattle.carrying.proofs.ContractLaws.{large_refused}
use Rattle.carrying.proofs.Answers.{only_answer}
use Rattle.carrying.proofs.AllSheets.{Evidence, ends, passes, turns, EndsWith, PassesIn, FewShapes, shapes_found, Shown, Passes, evidence, all_pass}

module _ (lines : List Line) (held : sheet_held (lent_of lines) ≡ good lines) (before : List ℕ) (room : record_room ≤ length before) where
  -- A run that ends with few rows reaches few shapes.
  taken : (k : ℕ) → Ends lines k → length (run lines k).rows ≤ shape_limit → Taken (lent_of lines) before lines
  taken k e few =
      let s = few_shapes (rules_of lines) (rows_of lines) (length (run lines k).rows) (records_count lines k e) in
      record { room = room; sheet = held; shapes = s.0; counted = s.1; within = omega (arith, s.2, few) }

  ends_carried : (rows : List Row) (firings : ℕ) → EndsWith rows firings (run lines (length rows))
      → CarriedOut (lent_of lines) before (length rows) firings (lent_of (map row_line rows) ++ drop (line_size * length rows) before)
  ends_carried rows firings p =
      let size : length (run lines (length rows)).rows ≡ length rows = ap length p.0 in
      let e : Ends lines (length rows) = omega (arith, size) in
      let t = taken (length rows) e (omega (arith, size, p.1.0)) in
      record {
        lines = lines;
        taken = t;
        visits = length rows;
        ends = e;
        records_are = sym size;
        few = omega (arith, p.1.0);
        small = p.1.1.1;
        firings_are = sym p.1.1.0;
        held = ap (λ (l : List Row). lent_of (map row_line l) ++ drop (line_size * length rows) before) (sym p.0);
      }

  passes_refused : (visits : ℕ) → PassesIn visits (run lines visits) → Refuses (lent_of lines) before 23 0
  passes_refused visits p =
      large_refused (lent_of lines) before lines (taken visits p.0 (omega (arith, p.0, p.1.0))) visits p.0 (omega (arith, p.0, p.1.0)) p.1.1

  unbounded : Says (rules_of lines) (rows_of lines) 2 0 → Unbounded (rules_of lines) (rows_of lines)
  unbounded s = go refl s
    where
      go : {verdict deepest : ℕ} → verdict ≡ 2 → Says (rules_of lines) (rows_of lines) verdict deepest → Unbounded (rules_of lines) (rows_of lines)
      go e (settles d b m) = absurd (omega arith)
      go e (says_endless u) = u

  turns_refused : FewShapes lines (shapes_found lines) → Says (rules_of lines) (rows_of lines) 2 0 → Refuses (lent_of lines) before 21 0
  turns_refused f s =
      endless lines
      (record {
        room = room;
        sheet = held;
        shapes = length (shapes_found lines);
        counted = shapes_count (rules_of lines) (rows_of lines) (found_in (rules_of lines) (rows_of lines)) (found_reachable (rules_of lines) (rows_of lines)) f.0;
        within = f.1;
      })
      (unbounded s)

  shown_meets : (r : Result) (e : Evidence) → Shown r e lines → CarryMeets (lent_of lines) before (says r) (leaves r before)
  shown_meets (gives rows firings) ends p = ends_carried rows firings p
  shown_meets (gives rows firings) (passes visits) p = absurd p
  shown_meets (gives rows firings) (turns row trail first others) p = absurd p
  shown_meets (refused number) ends p = absurd p
  shown_meets (refused number) (passes visits) p =
      (subst (λ (n : ℕ). Refuses (lent_of lines) before n 0) (sym p.0) (passes_refused visits p.1), refl)
  shown_meets (refused number) (turns row trail first others) p = (
    subst (λ (n : ℕ). Refuses (lent_of lines) before n 0) (sym p.0)
        (turns_refused p.1.0 (turns_endless (rules_of lines) trail first others (rows_of lines) row p.1.1)),
    refl,
  )

passes_holds : (s : Sheet) (e : Evidence) → Passes s e → Holds s
passes_holds s e p =
    record {
      lines = lines_in (sheet_in s.text);
      read = p.0;
      answer = λ before now a room. only_answer (lent_of (lines_in (sheet_in s.text))) before (says s.result) (leaves s.result before)
          (shown_meets (lines_in (sheet_in s.text)) p.1.0 before room s.result e p.1.1) a now;
    }

-- THE THEOREM: every entry of the table holds.
pub every_sheet_holds : (s : Sheet) → In s sheets → Holds s
every_sheet_holds s i =
    let t = all2_in Passes s sheets evidence all_pass i in
    passes_holds s t.0 t.1
