-- The contract of the forecast leaves one answer. Assumes nothing.
use mathlib.Core.Path.{◌≡◌, refl, sym, ◌∙◌, ap, subst}
use mathlib.Core.List.{List}
use Prim.Native.Nat.{ℕ}
use native.Mathlib.Omega.{arith}
use Rattle.patterns.specs.Outcome.{good, refused}
use Rattle.sheet.specs.Line.{Line}
use Rattle.sheet.specs.Write.{sheet_held}
use Rattle.sheet.proofs.Sheets.{refused≢good}
use Rattle.chase.specs.Rules.{rules_of}
use Rattle.chase.specs.Run.{rows_of}
use Rattle.chase.specs.Shape.{Reached}
use Rattle.chase.specs.Counting.{MoreThan}
use Rattle.chase.specs.Judge.{Unbounded}
use Rattle.chase.proofs.CountLaws.{more_than_count}
use Rattle.chase.proofs.CertificateLaws.{not_both, deepest_one}
use Rattle.carrying.proofs.ContractLaws.{one_sheet}
use Rattle.growth.specs.Forecast.{Forecast, forecast}
use Rattle.growth.specs.Contract.{Deepest, Foretold, foretold, refuses, Taken, Right, Refuses, wrong, many, endless, ForecastMeets}

module _ (limit : ℕ) (numbers : List ℕ) where
  -- What rules out what.
  good_wrong : (ls : List Line) (line : ℕ) → sheet_held numbers ≡ good ls → sheet_held numbers ≡ refused 8 line → ⊥
  good_wrong ls line p q = refused≢good (sym q ∙ p)

  no_many : (ls ms : List Line) → Taken limit numbers ls → sheet_held numbers ≡ good ms → MoreThan (Reached (rules_of ms) (rows_of ms)) limit → ⊥
  no_many ls ms t q m =
      let more = subst (λ (l : List Line). MoreThan (Reached (rules_of l) (rows_of l)) limit) (one_sheet numbers ms ls q t.sheet) m in
      omega (arith, t.within, more_than_count (Reached (rules_of ls) (rows_of ls)) limit t.shapes more t.counted)

  no_both : (ls ms : List Line) → Taken limit numbers ls → Taken limit numbers ms → Unbounded (rules_of ls) (rows_of ls)
      → (d : ℕ) → Deepest (rules_of ms) (rows_of ms) d → ⊥
  no_both ls ms t u forever d deep =
      not_both (rules_of ms) (rows_of ms) d deep.bounded
      (subst (λ (l : List Line). Unbounded (rules_of l) (rows_of l)) (one_sheet numbers ls ms t.sheet u.sheet) forever)

  -- Two forecasts are the same.
  forecast_one : (f g : Forecast) → Right limit numbers f → Right limit numbers g → f ≡ g
  forecast_one f g r s =
      let same = one_sheet numbers s.lines r.lines s.taken.sheet r.taken.sheet in
      let d = subst (λ (ls : List Line). Deepest (rules_of ls) (rows_of ls) s.deepest) same s.is_deepest in
      let deep =
      deepest_one (rules_of r.lines) (rows_of r.lines) r.deepest s.deepest r.is_deepest.bounded r.is_deepest.met d.bounded d.met in
      r.figures ∙ ap (forecast r.lines) deep ∙ ap (λ (ls : List Line). forecast ls s.deepest) (sym same) ∙ sym s.figures

  -- No sheet with a forecast is refused.
  foretold_not_refused : (f : Forecast) (n k : ℕ) → Right limit numbers f → Refuses limit numbers n k → ⊥
  foretold_not_refused f n k r (wrong line e) = good_wrong r.lines line r.taken.sheet e
  foretold_not_refused f n k r (many ls e m) = no_many r.lines ls r.taken e m
  foretold_not_refused f n k r (endless ls t u) = no_both ls r.lines t r.taken u r.deepest r.is_deepest

  -- Two refusals are the same.
  refusal_one : (n k m l : ℕ) → Refuses limit numbers n k → Refuses limit numbers m l → ◌≡◌ {A = Foretold} (refuses n k) (refuses m l)
  refusal_one n k m l (wrong line e) (wrong other f) = let p : line ≡ other = cc in ap (refuses 8) p
  refusal_one n k m l (wrong line e) (many ls f c) = absurd (good_wrong ls line f e)
  refusal_one n k m l (wrong line e) (endless ls t u) = absurd (good_wrong ls line t.sheet e)
  refusal_one n k m l (many ls e c) (wrong line f) = absurd (good_wrong ls line e f)
  refusal_one n k m l (many ls e c) (many ms f d) = refl
  refusal_one n k m l (many ls e c) (endless ms t u) = absurd (no_many ms ls t e c)
  refusal_one n k m l (endless ls t u) (wrong line f) = absurd (good_wrong ls line t.sheet f)
  refusal_one n k m l (endless ls t u) (many ms f d) = absurd (no_many ls ms t f d)
  refusal_one n k m l (endless ls t u) (endless ms v w) = refl

  pub one_answer : (a b : Foretold) → ForecastMeets limit numbers a → ForecastMeets limit numbers b → a ≡ b
  one_answer (foretold f) (foretold g) r s = ap foretold (forecast_one f g r s)
  one_answer (foretold f) (refuses n k) r s = absurd (foretold_not_refused f n k r s)
  one_answer (refuses n k) (foretold g) r s = absurd (foretold_not_refused g n k s r)
  one_answer (refuses n k) (refuses m l) r s = refusal_one n k m l r s
