-- The theorems on the contract of the forecast: one answer, each refusal on its condition alone, a forecast holds; what Judge's answer says. Assumes nothing.
use mathlib.Core.Path.{◌≡◌, refl, sym, subst}
use mathlib.Core.Logic.{inl, inr, ◌↔◌}
use mathlib.Core.List.{List}
use Prim.Native.Nat.{ℕ, ◌*◌, ◌≤◌}
use native.Mathlib.Omega.{arith}
use lib.ListN.{length}
use Rattle.patterns.specs.Outcome.{good}
use Rattle.sheet.specs.Line.{Line}
use Rattle.sheet.specs.Sheet.{IsSheet}
use Rattle.sheet.specs.Write.{sheet_held}
use Rattle.sheet.proofs.Sheets.{sheet_held_is}
use Rattle.chase.specs.Rules.{rules_of}
use Rattle.chase.specs.Run.{Firing, rows_of}
use Rattle.chase.specs.Judge.{Verdict, Judgement, judged, refuses as judge_refuses, step_limit, Bounded, Right as JudgeRight, Refuses as JudgeRefuses, short, wrong as judge_wrong, many as judge_many, JudgeMeets}
use Rattle.chase.proofs.JudgeLaws.{right_shapes, verdict_deepest, verdict_endless}
use Rattle.carrying.specs.Contract.{carried, CarryMeets}
use Rattle.carrying.proofs.ContractLaws.{one_sheet}
use Rattle.growth.specs.Forecast.{Forecast, forecast}
use Rattle.growth.specs.Counted.{UpTo, Promised, PromisedRun}
use Rattle.growth.specs.Contract.{Foretold, foretold, refuses, Taken, Refuses, wrong, many, endless, ForecastMeets}
use Rattle.growth.proofs.Theorems.{forecast_holds, run_holds}
use Rattle.growth.proofs.OneAnswer.{one_answer as one}

module _ (limit : ℕ) (numbers : List ℕ) where
  -- Two answers that meet the contract for the same lent lines are the same.
  pub one_answer : (a b : Foretold) → ForecastMeets limit numbers a → ForecastMeets limit numbers b → a ≡ b
  one_answer = one limit numbers

  -- So an answer that meets it is met by no other.
  pub only_answer : (b : Foretold) → ForecastMeets limit numbers b → (a : Foretold) → ForecastMeets limit numbers a ↔ (a ≡ b)
  only_answer b m a = (λ n. one_answer a b n m, λ e. subst (ForecastMeets limit numbers) (sym e) m)

  -- A refusal is given just if its condition holds.
  pub refused_just_if : (number line : ℕ) → Refuses limit numbers number line
      → (a : Foretold) → ForecastMeets limit numbers a ↔ (a ≡ refuses number line)
  refused_just_if number line r = only_answer (refuses number line) r

  -- A FORECAST HOLDS

  module _ (f : Forecast) (meets : ForecastMeets limit numbers (foretold f)) (lines : List Line) (held : sheet_held numbers ≡ good lines) where
    -- What holds of every bounded sheet with its forecast holds of this sheet with this one.
    of_sheet : (P : List Line → Forecast → Type 0)
        → ((ls : List Line) → IsSheet ls → (d : ℕ) → Bounded (rules_of ls) (rows_of ls) d → P ls (forecast ls d)) → P lines f
    of_sheet P h =
        subst (λ (ls : List Line). P ls f) (one_sheet numbers meets.lines lines meets.taken.sheet held)
        (subst (P meets.lines) (sym meets.figures)
        (h meets.lines (sheet_held_is numbers meets.lines meets.taken.sheet).1 meets.deepest meets.is_deepest.bounded))

    -- Whatever forecast is answered, it holds of every list of firings,
    pub foretold_holds : (firings : List Firing) → Promised lines f firings
    foretold_holds firings = of_sheet (λ ls g. Promised ls g firings) (λ ls s d b. forecast_holds ls s d b firings)

    -- and of the rules carried out, after any number of visits.
    pub foretold_run : (k : ℕ) → PromisedRun lines f k
    foretold_run k = of_sheet (λ ls g. PromisedRun ls g k) (λ ls s d b. run_holds ls s d b k)

  -- And where carrying out answers records and firings for the same lent lines, they are at most as many as the forecast says.
  pub carried_as_foretold : (f : Forecast) → ForecastMeets limit numbers (foretold f) → (before now : List ℕ) (records firings : ℕ)
      → CarryMeets numbers before (carried records firings) now → UpTo records f.records × UpTo firings f.pairs
  carried_as_foretold f meets before now records firings c =
      let p = foretold_run f meets c.lines c.taken.sheet c.visits in
      (subst (λ (n : ℕ). UpTo n f.records) (sym c.records_are) p.records, subst (λ (n : ℕ). UpTo n f.pairs) (sym c.firings_are) p.firings)

  -- JUDGE'S ANSWER

  module _ (steps left : List ℕ) where
    judged_taken : (v : Verdict) (lines : List Line) → JudgeRight limit numbers steps v left → sheet_held numbers ≡ good lines → Taken limit numbers lines
    judged_taken v lines r e =
        record { sheet = e; shapes = v.shapes; counted = right_shapes limit numbers steps v left lines r e; within = r.within }

    -- Where Judge answers "settles", the forecast with its deepest generation is the answer.
    pub settled_foretold : (v : Verdict) → JudgeMeets limit numbers steps (judged v) left → v.verdict ≡ 1
        → (lines : List Line) → sheet_held numbers ≡ good lines → ForecastMeets limit numbers (foretold (forecast lines v.deepest))
    settled_foretold v j p lines e =
        let d = verdict_deepest limit numbers steps v left lines j.1 e p in
        record {
          lines = lines;
          taken = judged_taken v lines j.1 e;
          deepest = v.deepest;
          is_deepest = record { bounded = d.0; met = d.1 };
          figures = refl;
        }

    -- Where Judge answers "endless", 21 is.
    pub endless_refused : (v : Verdict) → JudgeMeets limit numbers steps (judged v) left → v.verdict ≡ 2 → ForecastMeets limit numbers (refuses 21 0)
    endless_refused v j p =
        let r = j.1 in
        endless r.lines (judged_taken v r.lines r r.sheet) ((verdict_endless limit numbers steps v left r.lines r r.sheet).0 p)

    -- Judge's own refusals but 12 are the forecast's.
    pub refused_foretold : (n k : ℕ) → JudgeMeets limit numbers steps (judge_refuses n k) left → (n ≡ 12 → ⊥)
        → ForecastMeets limit numbers (refuses n k)
    refused_foretold n k j h = go j.0 h
      where
        go : {n k : ℕ} → JudgeRefuses limit numbers steps n k → (n ≡ 12 → ⊥) → Refuses limit numbers n k
        go (short s) h = absurd (h refl)
        go (judge_wrong line s e) h = wrong line e
        go (judge_many lines s e m) h = many lines e m

    -- With steps enough lent Judge does not say 12.
    pub not_twelve : 5 * step_limit ≤ length steps → {n k : ℕ} → JudgeRefuses limit numbers steps n k → n ≡ 12 → ⊥
    not_twelve lent (short s) p = omega arith
    not_twelve lent (judge_wrong line s e) p = omega arith
    not_twelve lent (judge_many lines s e m) p = omega arith

    -- Wherever Judge, lent its steps, has an answer, there is one.
    pub some_answer : (j : Judgement) → 5 * step_limit ≤ length steps → JudgeMeets limit numbers steps j left
        → (a : Foretold) × ForecastMeets limit numbers a
    some_answer (judged v) lent j =
        let settled : v.verdict ≡ 1 → (a : Foretold) × ForecastMeets limit numbers a =
        λ p. (foretold (forecast j.1.lines v.deepest), settled_foretold v j p j.1.lines j.1.sheet) in
        elim j.1.answer [
          | inl s ↦ settled s.verdict
          | inr t ↦ elim t [ inl s ↦ settled s.verdict | inr s ↦ (refuses 21 0, endless_refused v j s.verdict) ]
        ]
    some_answer (judge_refuses n k) lent j = (refuses n k, refused_foretold n k j (not_twelve lent j.0))
