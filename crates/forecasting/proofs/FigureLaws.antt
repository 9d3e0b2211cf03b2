-- The figures by coefficients and with caps are those of the forecast. Assumes nothing.
use mathlib.Core.Path.{◌≡◌, refl, sym, ◌∙◌, ap}
use mathlib.Core.List.{List}
use Prim.Native.Nat.{ℕ, zero, suc, ◌+◌, ◌<◌}
use native.Mathlib.Decide.{ℕ_discrete}
use native.Mathlib.Numerals.{add-one}
use native.Mathlib.Omega.{arith}
use Rattle.std.specs.Prelude.{Result, Ok, Err, OkIff}
use Rattle.std.specs.Result.{result_ok}
use Rattle.std.proofs.lemmas.Result.{OkIff-at_ok, OkIff-at_err}
use Rattle.sheet.specs.Line.{Line}
use Rattle.chase.specs.Rules.{Rule, rules_of}
use Rattle.arithmetic.specs.Capped.{capped, polynomial}
use Rattle.arithmetic.proofs.CappedLaws.{capped_once, plus_alike, polynomial_alike}
use Rattle.growth.specs.Forecast.{sum_of, new_with, values_after, first_t, last_t, kind_lines, records_with, pairs_with, Figure, exactly, figure, Forecast, forecast}
use Rattle.growth.proofs.GrowthLaws.{figure_exactly, figure_beyond}
use Rattle.forecasting.specs.Answer.{figure_of}
use Rattle.forecasting.specs.Inner.Terms.{KindsCounted, RulesCounted, grown}
use Rattle.forecasting.specs.declared.terms.RuleTerms.{RuleTerms}

-- A number that fits 32 bits is its figure, one that doesn't is beyond.
pub figure_read : {E : Type 0} (n : ℕ) (r : Result ℕ E) → OkIff r (n < 4294967296) n → figure_of (result_ok r) ≡ figure n
figure_read {E} n (Ok m) h =
    let (low, is) = OkIff-at_ok {E = E} (Ok m) (n < 4294967296) n m h refl in
    ap exactly is ∙ sym (figure_exactly n (omega arith))
figure_read {E} n (Err e) h =
    let over = OkIff-at_err {E = E} (Err e) (n < 4294967296) n e h refl in
    sym (figure_beyond n (omega (arith, over)))

-- Numbers that are equal up to the cap have the same figure.
pub figure_alike : (a b : ℕ) → capped a ≡ capped b → figure a ≡ figure b
figure_alike a b h = go (ℕ_discrete a b)
  where
    go : Dec (a ≡ b) → figure a ≡ figure b
    go (yes e) = ap figure e
    go (no k) = figure_beyond a (omega arith) ∙ sym (figure_beyond b (omega arith))

-- One generation more, with a cap on what is made of t and on the sum.
pub grown_more : (fresh : List ℕ) (first t d made next : ℕ) → capped t ≡ capped (grown fresh first d) → made ≡ capped (polynomial fresh t)
    → next ≡ capped (first + made) → capped next ≡ capped (grown fresh first (d + 1))
grown_more fresh first t d made next at is sum =
    let value : ℕ = polynomial fresh (grown fresh first d) in
    let same : capped made ≡ capped value = ap capped is ∙ capped_once (polynomial fresh t) ∙ polynomial_alike fresh t (grown fresh first d) at in
    ap capped sum ∙ capped_once (first + made) ∙ plus_alike first first made value refl same ∙ ap (λ (n : ℕ). capped (grown fresh first n)) (sym (add-one d))

-- With the coefficients of a sheet's rules it is the t of the forecast.
grown_is : (rules : List Rule) (fresh : List ℕ) → ((t : ℕ) → polynomial fresh t ≡ sum_of (new_with t) rules) → (first d : ℕ)
    → grown fresh first d ≡ values_after rules first d
grown_is rules fresh sum first zero = refl
grown_is rules fresh sum first (suc d) =
    ap (λ (n : ℕ). first + n) (sum (grown fresh first d) ∙ ap (λ (t : ℕ). sum_of (new_with t) rules) (grown_is rules fresh sum first d))

module _ (lines : List Line) (deepest first t : ℕ) {kinds : List ℕ} {rules : RuleTerms}
    (k : KindsCounted lines kinds) (r : RulesCounted lines rules)
    (at_first : first ≡ first_t lines) (at_last : capped t ≡ capped (grown rules.fresh first deepest)) where
  last_alike : capped t ≡ capped (last_t lines deepest)
  unfolding last_t
  last_alike =
      at_last ∙ ap capped (grown_is (rules_of lines) rules.fresh r.fresh first deepest ∙ ap (λ (n : ℕ). values_after (rules_of lines) n deepest) at_first)

  -- A capped polynomial at a capped last t has the figure of the sum at the last t.
  sum-figure : (cs : List ℕ) (of : ℕ → ℕ) → ((u : ℕ) → polynomial cs u ≡ of u) → figure (capped (polynomial cs t)) ≡ figure (of (last_t lines deepest))
  sum-figure cs of sum =
      figure_alike (capped (polynomial cs t)) (of (last_t lines deepest))
      (capped_once (polynomial cs t) ∙ polynomial_alike cs t (last_t lines deepest) last_alike ∙ ap capped (sum (last_t lines deepest)))

  pub figures_are : (values records pairs : Figure) → values ≡ figure t → records ≡ figure (capped (polynomial kinds t))
      → pairs ≡ figure (capped (polynomial rules.pairs t)) → ◌≡◌ {A = Forecast} (record { values = values; records = records; pairs = pairs }) (forecast lines deepest)
  unfolding forecast
  figures_are values records pairs v c p =
      let a = v ∙ figure_alike t (last_t lines deepest) last_alike in
      let b = c ∙ sum-figure kinds (records_with (kind_lines lines)) k.sum in
      let d = p ∙ sum-figure rules.pairs (pairs_with (rules_of lines)) r.pairs in
      λ i. record { values = a i; records = b i; pairs = d i }
