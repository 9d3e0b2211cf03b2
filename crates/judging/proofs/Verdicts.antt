-- The verdicts are right: what the code finds, and the steps that it writes, meet the contract of Judge. Assumes nothing.
use mathlib.Core.Path.{◌≡◌, refl, sym, ◌∙◌, ap, subst₂}
use mathlib.Core.Logic.{◌⊎◌, inl, inr}
use mathlib.Core.Bool.{Bool}
use mathlib.Core.List.{List, [], ◌++◌, append-nil}
use Prim.Native.Nat.{ℕ, suc, ◌+◌, ◌*◌, ◌/◌, ◌≤◌, ◌<◌}
use native.Mathlib.Omega.{arith}
use lib.ListN.{length, take, drop, length-append}
use lib.Seq.{take_all, take_at, drop_at, drop-drop, drop-append-add}
use Rattle.patterns.specs.Outcome.{good}
use Rattle.sheet.specs.Line.{Line as SheetLine}
use Rattle.sheet.specs.Write.{sheet_held}
use Rattle.chase.specs.Rules.{Rule, rules_of}
use Rattle.chase.specs.Making.{Record}
use Rattle.chase.specs.Run.{rows_of}
use Rattle.chase.specs.Simplification.{Derived}
use Rattle.chase.specs.Counting.{MoreThan, share}
use Rattle.chase.specs.Steps.{Step, step_numbers}
use Rattle.chase.specs.Certificate.{Listed}
use Rattle.chase.specs.Judge.{Verdict, judged, refuses, SettlesAtOnce, Settles, Endless, Right, many, JudgeMeets}
use Rattle.chase.proofs.BoundLaws.{rows_of_tables}
use Rattle.chase.proofs.StepLaws.{length_numbers, numbers_append}
use Rattle.chase.proofs.CertificateLaws.{settled_certificate, settled_at_once, endless_certificate}
use Rattle.rules.specs.Table.{lines_in, SheetHeld}
use Rattle.judging.specs.Inner.Found.{fired_in, maker_at}
use Rattle.judging.specs.Inner.Nodes.{at, back}
use Rattle.judging.specs.Inner.Written.{line_to, way_back, way_to, WayLength, put_steps, Deepest, TurnLength, LineLength}
use Rattle.judging.specs.Inner.Facts.{Facts}
use Rattle.judging.proofs.Counts.{over}
use Rattle.judging.proofs.ListOf.{list_of}
use Rattle.judging.proofs.FactLaws.{shapes_reached, rules_fired, list_closed, deepest_is, line_found, loop_found}

-- The lines of lent numbers that are a sheet.
pub held_lines : (numbers : List ℕ) → SheetHeld numbers → sheet_held numbers ≡ good (lines_in numbers)
held_lines numbers s = rw s.holds

-- Steps that are put at the front stand there.
pub put-held : (before : List ℕ) (ss : List Step) → put_steps before 0 ss ≡ step_numbers ss ++ drop (5 * length ss) before
put-held before ss =
    let n : ℕ = 5 * length ss in
    let z : 5 * 0 + n ≡ n = omega arith in
    ap (λ (l : List ℕ). l ++ drop (5 * 0 + n) before) (take_all n (step_numbers ss) (omega (arith, length_numbers ss)))
    ∙ ap (λ (k : ℕ). step_numbers ss ++ drop k before) z

-- Steps that are put after others at the front.
pub put_twice : (before : List ℕ) (ss ts : List Step) (n : ℕ) → n ≡ length ss → put_steps (put_steps before 0 ss) n ts ≡ put_steps before 0 (ss ++ ts)
put_twice before ss ts n e =
    let a : length (step_numbers ss) ≡ 5 * n = omega (arith, length_numbers ss) in
    let b : 5 * n + 5 * length ts ≡ length (step_numbers ss) + 5 * length ts = omega arith in
    let c : 5 * length ss + 5 * length ts ≡ 5 * length (ss ++ ts) = omega (arith, length-append ss ts) in
    let D : List ℕ = drop (5 * length ss) before in
    ap (λ (l : List ℕ). put_steps l n ts) (put-held before ss)
    ∙ ap (λ (l : List ℕ). l ++ take (5 * length ts) (step_numbers ts) ++ drop (5 * n + 5 * length ts) (step_numbers ss ++ D)) (take_at (step_numbers ss) D (5 * n) a)
    ∙ ap (λ (l : List ℕ). step_numbers ss ++ l ++ drop (5 * n + 5 * length ts) (step_numbers ss ++ D))
    (take_all (5 * length ts) (step_numbers ts) (omega (arith, length_numbers ts)))
    ∙ ap (λ (k : ℕ). step_numbers ss ++ step_numbers ts ++ drop k (step_numbers ss ++ D)) b
    ∙ ap (λ (l : List ℕ). step_numbers ss ++ step_numbers ts ++ l) (drop-append-add (step_numbers ss) D (5 * length ts) ∙ drop-drop (5 * length ts) (5 * length ss) before)
    ∙ ap (λ (k : ℕ). step_numbers ss ++ step_numbers ts ++ drop k before) c
    ∙ ap (λ (l : List ℕ). l ++ drop (5 * length (ss ++ ts)) before) (sym (numbers_append ss ts))
    ∙ sym (put-held before (ss ++ ts))

-- More than 512 shapes.
pub too_many : (lines : List SheetLine) (numbers before : List ℕ) → sheet_held numbers ≡ good lines → 20480 ≤ length before
    → MoreThan (Derived (rules_of lines) (rows_of lines)) 512 → JudgeMeets 512 numbers before (refuses 11 0) before
too_many lines numbers before sheet room m = (many lines room sheet (over (rules_of lines) (rows_of lines) 512 m), refl)

-- The facts of a sheet, and the figures that every verdict has.
module _ (lines : List SheetLine) (codes index : List ℕ) (ways : List (List ℕ)) (fired : List Bool) (count : ℕ) (generations : List (List ℕ)) (from link : ℕ → ℕ) (turning : ℕ)
    (f : Facts lines codes index ways fired count generations from link turning)
    (numbers before now : List ℕ) (sheet : sheet_held numbers ≡ good lines) (room : 20480 ≤ length before)
    (v : Verdict) (shapes-is : v.shapes ≡ count) (fired_is : v.fired ≡ fired_in (length (rules_of lines)) fired)
    (share_is : v.share ≡ share v.fired (length (rules_of lines))) where
  abbrev rules : List Rule
  rules = rules_of lines

  abbrev rows : List Record
  rows = rows_of lines

  abbrev list : List Listed
  list = list_of codes generations count

  -- A trail and a loop for the answer.
  right : (trail loop : List Step) → length trail ≡ v.trail → length loop ≡ v.loop → v.trail + v.loop ≤ 4096 → now ≡ put_steps before 0 (trail ++ loop)
      → SettlesAtOnce rules rows v trail loop ⊎ (Settles rules rows v trail loop ⊎ Endless rules rows v trail loop) → Right 512 numbers before v now
  right trail loop t l small held answer =
      record {
        lines = lines;
        sheet = sheet;
        shapes = rw shapes-is (shapes_reached lines codes index ways fired count generations from link turning f);
        within = omega (arith, f.kept.few);
        fired = rw fired_is (rules_fired lines codes index ways fired count generations from link turning f);
        share_is = share_is;
        steps = trail ++ loop;
        count = length-append trail loop ∙ omega arith;
        room = small;
        held = held ∙ put-held before (trail ++ loop);
        answer =
            subst₂ (λ (ss ts : List Step). SettlesAtOnce rules rows v ss ts ⊎ (Settles rules rows v ss ts ⊎ Endless rules rows v ss ts))
            (sym (take_at trail loop v.trail t)) (sym (drop_at trail loop v.trail t)) answer;
      }

  -- It settles with deepest generation 0.
  pub settles_at_once : turning ≡ 0 → (x : ℕ) → Deepest generations link (7 * count) x → at generations x ≡ 0
      → v.verdict ≡ 1 → v.deepest ≡ 0 → v.row ≡ 0 → v.trail ≡ 0 → v.loop ≡ 0 → now ≡ before
      → JudgeMeets 512 numbers before (judged v) now
  settles_at_once settled x deep none verdict deepest row trail loop held = (
    room,
    right [] [] (sym trail) (sym loop) (omega arith) held
        (inl
        (record {
          verdict = verdict;
          deepest = deepest;
          bounded =
              settled_at_once rules rows list (rows_of_tables lines)
              (list_closed lines codes index ways fired count generations from link turning f settled)
              (deepest_is lines codes index ways fired count generations from link turning f settled x deep ∙ none);
          row = row;
          no_trail = refl;
          no_loop = refl;
        })),
  )

  settles_from : turning ≡ 0 → (x k w : ℕ) → Deepest generations link (7 * count) x → 0 < at generations x
      → LineLength generations from (7 * count) x k → WayLength ways (back from k x / 7) w
      → v.verdict ≡ 1 → v.deepest ≡ at generations x → v.row ≡ maker_at ways (way_back ways w (back from k x / 7))
      → v.trail ≡ w + k → v.loop ≡ 0
      → now ≡ put_steps before 0 (way_to ways w (back from k x / 7) ++ line_to from link k x)
      → JudgeMeets 512 numbers before (judged v) now
  settles_from settled x k w deep raised size way verdict deepest row trail loop held =
      let start : ℕ = back from k x / 7 in
      let steps : List Step = way_to ways w start ++ line_to from link k x in
      let l = line_found lines codes index ways fired count generations from link turning f settled x k w raised deep size way in
      let c = settled_certificate rules rows list (at generations x) (maker_at ways (way_back ways w start)) l.row steps (rows_of_tables lines)
      (list_closed lines codes index ways fired count generations from link turning f settled)
      (deepest_is lines codes index ways fired count generations from link turning f settled x deep) l.named l.line in (
        room,
        right steps [] (l.size ∙ sym trail) (sym loop) (omega (arith, l.short))
            (held ∙ ap (put_steps before 0) (sym (append-nil steps)))
            (inr
            (inl
            (record {
              verdict = verdict;
              deepest = omega arith;
              bounded = rw deepest c.bounded;
              first = l.row;
              row = rw row l.named;
              fits = c.fits;
              line = rw deepest c.line;
              short = omega (arith, l.size, l.short);
              no_loop = refl;
            }))),
      )

  -- It settles with a deepest generation above 0, which a line to node x makes.
  pub settles : turning ≡ 0 → (x k w start : ℕ) → Deepest generations link (7 * count) x → 0 < at generations x
      → LineLength generations from (7 * count) x k → start ≡ back from k x → WayLength ways (start / 7) w
      → v.verdict ≡ 1 → v.deepest ≡ at generations x → v.row ≡ maker_at ways (way_back ways w (start / 7))
      → v.trail ≡ w + k → v.loop ≡ 0
      → now ≡ put_steps before 0 (way_to ways w (start / 7) ++ line_to from link k x)
      → JudgeMeets 512 numbers before (judged v) now
  settles settled x k w start deep raised size start_is way verdict deepest row trail loop held =
      settles_from settled x k w deep raised size (rw start_is at way) verdict deepest (rw start_is at row) trail loop (rw start_is at held)

  -- It is endless: the loop back from node y.
  pub endless : (y k w : ℕ) → turning ≡ suc y → TurnLength from (7 * count) y k → WayLength ways (y / 7) w
      → v.verdict ≡ 2 → v.deepest ≡ 0 → v.row ≡ maker_at ways (way_back ways w (y / 7))
      → v.trail ≡ w → v.loop ≡ k
      → now ≡ put_steps before 0 (way_to ways w (y / 7) ++ line_to from link k y)
      → JudgeMeets 512 numbers before (judged v) now
  endless y k w turns size way verdict deepest row trail loop held =
      let ss : List Step = way_to ways w (y / 7) in
      let ts : List Step = line_to from link k y in
      let l = loop_found lines codes index ways fired count generations from link turning f y turns k w size way in
      let c = endless_certificate rules rows (maker_at ways (way_back ways w (y / 7))) l.row ss ts l.named l.way l.loop in (
        room,
        right ss ts (l.way_size ∙ sym trail) (l.loop_size ∙ sym loop) (omega (arith, l.short)) held
            (inr
            (inr
            (record {
              verdict = verdict;
              deepest = deepest;
              unbounded = c.unbounded;
              first = l.row;
              row = rw row l.named;
              way = c.way;
              turns = c.turns;
              fits = c.fits;
              deep = c.deep;
            }))),
      )
