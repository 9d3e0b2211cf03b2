-- Judge's answer and the run's, taken together. Assumes nothing.
use mathlib.Core.Path.{◌≡◌, refl, sym, ◌∙◌, ap, subst}
use mathlib.Core.Bool.{false≢true}
use mathlib.Core.Logic.{◌⊎◌, inl, inr}
use mathlib.Core.List.{List, ◌++◌, map}
use Prim.Native.Nat.{ℕ, ◌*◌, ◌≤◌}
use native.Mathlib.Omega.{arith}
use lib.ListN.{length, take, drop}
use Rattle.std.specs.Prelude.{Result, Ok, Err}
use Rattle.patterns.specs.Outcome.{good, refused}
use Rattle.sheet.specs.Line.{Line, lent_of}
use Rattle.sheet.specs.Write.{sheet_held}
use Rattle.chase.specs.Rules.{rules_of}
use Rattle.chase.specs.Run.{Reachable, rows_of}
use Rattle.chase.specs.Counting.{MoreThan}
use Rattle.chase.specs.Judge as Judge
use Rattle.chase.specs.Judge.{Verdict, judged, shape_limit, Right, SettlesAtOnce, Settles, Endless, JudgeMeets}
use Rattle.judging.specs.Answer.{verdict_of, judge_says, judge_refusal_number, judge_refusal_line}
use Rattle.judging.specs.declared.Figures.{Figures}
use Rattle.judging.specs.declared.JudgeRefusal.{JudgeRefusal}
use Rattle.judging.specs.declared.Verdict.{Verdict as Judgement}
use Rattle.judging.specs.declared.Verdict.TheVariants.{Settles as JudgeSettles, Endless as JudgeEndless}
use Rattle.carrying.specs.Carrying.{Row}
use Rattle.carrying.specs.Contract.{record_limit, record_room, row_line, Taken, CarriedOut, Refuses, wrong, many_shapes, endless, many_records, large_number}
use Rattle.carrying.proofs.ContractLaws.{one_sheet}
use Rattle.running.specs.Held.{rows_at, records_fit}
use Rattle.running.specs.Run.{Ended, Passes, Outgrows, RunMeets}
use Rattle.running.specs.Answer.{run_says, carry_refusal_number, carry_refusal_line, carry_refusal_of}
use Rattle.running.specs.declared.Totals.{Totals}
use Rattle.running.specs.declared.CarryRefusal.{CarryRefusal}
use Rattle.running.specs.declared.RunRefusal.{RunRefusal}
use Rattle.running.specs.declared.RunRefusal.TheVariants.{RecordsOver, NumberOver, LineWrong, RoomWrong}
use Rattle.running.specs.Inner.Carry.{Judged, Settled}

module _ (numbers before : List ℕ) (room : record_room ≤ length before) where
  -- Judge's refusals are those of carrying out, since steps enough were lent.
  pub judge-refuses : (steps : List ℕ) → 20480 ≤ length steps → (number line : ℕ) → Judge.Refuses shape_limit numbers steps number line → Refuses numbers before number line
  judge-refuses steps enough number line (Judge.short h) = absurd (omega arith)
  judge-refuses steps enough number line (Judge.wrong l h e) = wrong l room e
  judge-refuses steps enough number line (Judge.many lines h e m) = many_shapes lines room e m

  module _ (steps left : List ℕ) (v : Verdict) (r : Right shape_limit numbers steps v left) where
    taken : Taken numbers before r.lines
    taken = record { room = room; sheet = r.sheet; shapes = v.shapes; counted = r.shapes; within = r.within }

    -- A good answer with verdict 1 says that the sheet settles, one with verdict 2 that it is endless.
    pub judge_settles : v.verdict ≡ 1 → Settled numbers before
    judge_settles one = go r.answer
      where
        go : SettlesAtOnce (rules_of r.lines) (rows_of r.lines) v (take v.trail r.steps) (drop v.trail r.steps)
            ⊎ (Settles (rules_of r.lines) (rows_of r.lines) v (take v.trail r.steps) (drop v.trail r.steps)
            ⊎ Endless (rules_of r.lines) (rows_of r.lines) v (take v.trail r.steps) (drop v.trail r.steps)) → Settled numbers before
        go (inl s) = record { lines = r.lines; taken = taken; deepest = 0; bounded = s.bounded }
        go (inr (inl s)) = record { lines = r.lines; taken = taken; deepest = v.deepest; bounded = s.bounded }
        go (inr (inr s)) = absurd (omega (arith, s.verdict))

    pub judge_endless : v.verdict ≡ 2 → Refuses numbers before 21 0
    judge_endless two = go r.answer
      where
        go : SettlesAtOnce (rules_of r.lines) (rows_of r.lines) v (take v.trail r.steps) (drop v.trail r.steps)
            ⊎ (Settles (rules_of r.lines) (rows_of r.lines) v (take v.trail r.steps) (drop v.trail r.steps)
            ⊎ Endless (rules_of r.lines) (rows_of r.lines) v (take v.trail r.steps) (drop v.trail r.steps)) → Refuses numbers before 21 0
        go (inl s) = absurd (omega (arith, s.verdict))
        go (inr (inl s)) = absurd (omega (arith, s.verdict))
        go (inr (inr s)) = endless r.lines taken s.unbounded

-- What the run answers for a sheet that settles.
module _ {numbers before : List ℕ} (s : Settled numbers before) where
  pub not_wrong : (line : ℕ) → sheet_held numbers ≡ refused 8 line → ⊥
  not_wrong line e = let q : good s.lines ≡ refused 8 line = sym s.taken.sheet ∙ e in false≢true cc

  module _ {rows now : List ℕ} where
    pub carry_over : Passes numbers rows now → Refuses numbers before 22 0
    carry_over p =
        many_records s.lines s.taken s.deepest s.bounded
        (subst (λ (ls : List Line). MoreThan (Reachable (rules_of ls) (rows_of ls)) record_limit) (one_sheet numbers p.lines s.lines p.sheet s.taken.sheet) p.many)

    pub carry_large : Outgrows numbers rows now → Refuses numbers before 23 0
    carry_large o =
        large_number o.lines (subst (Taken numbers before) (one_sheet numbers s.lines o.lines s.taken.sheet o.sheet) s.taken)
        o.records o.counted o.few o.fresh o.made o.large

    pub carry_ended : {records firings : ℕ} (e : Ended numbers rows now records firings) → {left : List ℕ}
        → left ≡ lent_of (map row_line (rows_at now records)) ++ drop (8 * records) before → CarriedOut numbers before records firings left
    carry_ended {records} {firings} e {left} copied =
        record {
          lines = e.lines;
          taken = subst (Taken numbers before) (one_sheet numbers s.lines e.lines s.taken.sheet e.sheet) s.taken;
          visits = e.visits;
          ends = e.ends;
          records_are = e.records_are;
          few = e.held.few;
          small = e.small;
          firings_are = e.firings_are;
          held = copied ∙ ap (λ (ws : List Row). lent_of (map row_line ws) ++ drop (8 * records) before) e.held.are;
        }

-- ---- by the answers

-- What the run has answered.
module _ (numbers rows now : List ℕ) (places : ℕ) (answer : Result Totals RunRefusal) (meets : RunMeets numbers rows now places (run_says answer)) where
  says : {a : Result Totals RunRefusal} → answer ≡ a → RunMeets numbers rows now places (run_says a)
  says e = subst (λ (a : Result Totals RunRefusal). RunMeets numbers rows now places (run_says a)) e meets

  pub ran_ended : (t : Totals) → answer ≡ Ok t → Ended numbers rows now t.records t.firings
  ran_ended t e = (says e).1

  -- A refusal of the run is one of carrying out, where the sheet settles and there was room.
  pub ran_refuses : {before : List ℕ} → Settled numbers before → records_fit rows → places ≡ 24576 → (r : RunRefusal) → answer ≡ Err r
      → Refuses numbers before (carry_refusal_number (carry_refusal_of r)) (carry_refusal_line (carry_refusal_of r))
  ran_refuses s fits room RecordsOver e = carry_over s (says e).1
  ran_refuses s fits room NumberOver e = carry_large s (says e).1
  ran_refuses s fits room (LineWrong line) e = absurd (not_wrong s line (says e).1)
  ran_refuses s fits room RoomWrong e = absurd (elim (says e).0 [ inl h ↦ omega arith | inr h ↦ h room ])

-- What Judge has answered.
module _ (numbers before : List ℕ) (room : record_room ≤ length before) (answer : Result Judgement JudgeRefusal) (judged : Judged numbers (judge_says answer)) where
  answers : {a : Result Judgement JudgeRefusal} → answer ≡ a → JudgeMeets shape_limit numbers judged.steps (judge_says a) judged.left
  answers e = subst (λ (a : Result Judgement JudgeRefusal). JudgeMeets shape_limit numbers judged.steps (judge_says a) judged.left) e judged.meets

  pub judged_settles : (f : Figures) → answer ≡ Ok (JudgeSettles f) → Settled numbers before
  judged_settles f e = judge_settles numbers before room judged.steps judged.left (verdict_of 1 f) (answers e).1 refl

  pub judged_endless : (f : Figures) → answer ≡ Ok (JudgeEndless f) → Refuses numbers before 21 0
  judged_endless f e = judge_endless numbers before room judged.steps judged.left (verdict_of 2 f) (answers e).1 refl

  pub judged_refused : (r : JudgeRefusal) → answer ≡ Err r → (c : CarryRefusal) → (carry_refusal_number c ≡ judge_refusal_number r) × (carry_refusal_line c ≡ judge_refusal_line r)
      → Refuses numbers before (carry_refusal_number c) (carry_refusal_line c)
  judged_refused r e c same =
      subst (λ (n : ℕ). Refuses numbers before n (carry_refusal_line c)) (sym same.0)
      (subst (Refuses numbers before (judge_refusal_number r)) (sym same.1)
      (judge-refuses numbers before room judged.steps judged.room (judge_refusal_number r) (judge_refusal_line r) (answers e).0))
