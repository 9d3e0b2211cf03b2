-- The theorems on triggers and derivations that a reader relies on: what document 000's definitions 3.1 and 3.2 have to do with firing, making, generations and Judge's answer. Each stands first as a sentence; its proof cites the laws. Assumes nothing.
use mathlib.Core.Path.{◌≡◌, sym, ◌∙◌, subst}
use mathlib.Core.Logic.{◌↔◌, ◌⊎◌, inl, inr}
use mathlib.Core.List.{List, map}
use mathlib.Core.Option.{some}
use Prim.Native.Nat.{ℕ}
use Rattle.sheet.specs.Line.{Line}
use Rattle.sheet.specs.Write.{sheet_held}
use Rattle.patterns.specs.Outcome.{good}
use Rattle.patterns.proofs.PatternLaws.{pick_yes, pick_no}
use Rattle.chase.specs.Lists.{In}
use Rattle.chase.specs.Rules.{Rule, rules_of, nth}
use Rattle.chase.specs.Value.{table}
use Rattle.chase.specs.Making.{Record, carried_marks, Fires, made}
use Rattle.chase.specs.Run.{rows_of, Reachable}
use Rattle.chase.specs.Shape.{Reached, Fired}
use Rattle.chase.specs.Counting.{Count}
use Rattle.chase.specs.Homomorphism.{Substitution, image, body, Frontier, frontier?, SameOnFrontier, null, μ}
use Rattle.chase.specs.Chase.{Instance, InfiniteDerivation, SomeFinite, SomeInfinite, AllFinite, ChaseResult, of_finite, of_fair, Triggered, ShapeIn}
use Rattle.chase.specs.Judge.{Verdict, judged, Bounded, Unbounded, JudgeMeets}
use Rattle.chase.proofs.HomomorphismLaws.{frontier_carried, carried_frontier, fires_image, given_by, image_given, image_determines, made_is_result, result_same, null_determines, null_determined}
use Rattle.chase.proofs.PublishedLaws.{result_is_reachable, reached_in_result, result_reached, fired_triggered, triggered_fired}
use Rattle.chase.proofs.CountLaws.{count_iff}
use Rattle.chase.proofs.CertificateLaws.{not_both}
use Rattle.chase.proofs.FiniteLaws.{bounded_finite}
use Rattle.chase.proofs.SequenceLaws.{not_infinite}
use Rattle.chase.proofs.DepthLaws.{infinite_unbounded}
use Rattle.chase.proofs.DerivationLaws.{by_queue, finite_derivation, finite_derivation_bounded, fair_derivation}
use Rattle.chase.proofs.JudgeLaws.{right_shapes, right_fired, verdict_settles, verdict_endless}
use Rattle.chase.proofs.Theorems.{fresh_not_table}

-- TRIGGERS AND RESULTS (document 000, definition 3.1)

-- A rule fires on a record exactly where the record is the image of its body under some substitution.
pub fires_is_homomorphism : (r : Rule) (x : Record) → Fires r x ↔ ((h : Substitution) × (x ≡ image h (body r)))
fires_is_homomorphism r x = (
  λ f. (given_by r x, image_given r x f),
  λ s. subst (Fires r) (sym s.1) (fires_image r s.0),
)

-- The record determines the substitution on the marks of the body.
pub one_homomorphism : (r : Rule) (x : Record) (h g : Substitution) → x ≡ image h (body r) → x ≡ image g (body r)
    → (m : ℕ) → In m r.marks → h m ≡ g m
one_homomorphism r x h g p q m i = image_determines r h g (sym p ∙ q) m i

-- The carried marks are the frontier.
pub carried_is_frontier : (r : Rule) (m : ℕ) → In m (carried_marks r) ↔ Frontier r m
carried_is_frontier r m = (carried_frontier r m, frontier_carried r m)

-- The records that a rule makes of a record are its head under μ.
pub made_is_μ : (n : ℕ) (r : Rule) (x : Record) (h : Substitution) → x ≡ image h (body r)
    → map (made n r x) r.heads ≡ map (image (μ n r h)) r.heads
made_is_μ n r x h e = made_is_result n r h x e

-- μ gives a mark of the frontier what h gives it, and any other mark its null.
pub μ-frontier : (n : ℕ) (r : Rule) (h : Substitution) (m : ℕ) → Frontier r m → μ n r h m ≡ h m
μ-frontier n r h m f = pick_yes (h m) (null n r h m) (frontier? r m) f

pub μ-other : (n : ℕ) (r : Rule) (h : Substitution) (m : ℕ) → (Frontier r m → ⊥) → μ n r h m ≡ null n r h m
μ-other n r h m f = pick_no (h m) (null n r h m) (frontier? r m) f

-- Two nulls are equal exactly where rule, mark and the restriction to the frontier are; none is a table value.
pub null_fixed : (rules : List Rule) (n k : ℕ) (r s : Rule) → nth rules n ≡ some r → nth rules k ≡ some s → (h g : Substitution) (m l : ℕ)
    → (null n r h m ≡ null k s g l) ↔ ((n ≡ k) × (m ≡ l) × SameOnFrontier r h g)
null_fixed rules n k r s p q h g m l = (
  null_determines rules n k r s p q h g m l,
  λ t. null_determined rules n k r s p q h g m l t.0 t.1 t.2,
)

pub null_not_table : (n : ℕ) (r : Rule) (h : Substitution) (m k : ℕ) → null n r h m ≡ table k → ⊥
null_not_table n r h m k e = fresh_not_table n m k (map h (carried_marks r)) e

-- So the result depends on h|fr(σ) alone.
pub result_by_frontier : (n : ℕ) (r : Rule) (h g : Substitution) → SameOnFrontier r h g
    → map (image (μ n r h)) r.heads ≡ map (image (μ n r g)) r.heads
result_by_frontier n r h g f = result_same n r h g f

-- DERIVATIONS (document 000, definition 3.2)

module _ (rules : List Rule) (rows : List Record) where
  -- Whichever way the chase is carried out, its result has just the reachable records.
  pub chase_is_reachable : (chase : Instance) → ChaseResult rules rows chase → (x : Record) → Reachable rules rows x ↔ chase x
  chase_is_reachable = result_is_reachable rules rows

  -- So two results are the same.
  pub one_result : (chase other : Instance) → ChaseResult rules rows chase → ChaseResult rules rows other → (x : Record) → chase x ↔ other x
  one_result chase other c d x =
      let (to, from) = result_is_reachable rules rows chase c x in
      let (on, back) = result_is_reachable rules rows other d x in
      (λ i. on (from i), λ j. to (back j))

  -- There is a finite derivation exactly where generations have a bound.
  pub finite_derivation_is_bounded : SomeFinite rules rows ↔ ((deepest : ℕ) × Bounded rules rows deepest)
  finite_derivation_is_bounded = (
    λ e. finite_derivation_bounded rules rows e.0 e.1.0 e.1.1,
    λ b.
        let (list, all) = bounded_finite rules rows b.0 b.1 in
        let (size, d) = finite_derivation rules rows list all in
        (size, (by_queue rules rows, d)),
  )

  -- Then no derivation is infinite, fair or not.
  pub bounded_not_infinite : (deepest : ℕ) → Bounded rules rows deepest → (I : ℕ → Instance) → InfiniteDerivation rules rows I → ⊥
  bounded_not_infinite deepest b I d =
      let (list, all) = bounded_finite rules rows deepest b in
      not_infinite rules rows list all I d

  -- There is an infinite and fair derivation exactly where generations have no bound.
  pub fair_derivation_is_unbounded : SomeInfinite rules rows ↔ Unbounded rules rows
  fair_derivation_is_unbounded = (
    λ s. infinite_unbounded rules rows s.0 s.1.infinite,
    λ u. (by_queue rules rows, fair_derivation rules rows u),
  )

  -- Then none is finite.
  pub unbounded_not_finite : Unbounded rules rows → SomeFinite rules rows → ⊥
  unbounded_not_finite u e = let (d, b) = finite_derivation_is_bounded.0 e in not_both rules rows d b u

-- THE CONTRACT OF JUDGE

module _ (limit : ℕ) (numbers before : List ℕ) (v : Verdict) (now : List ℕ) (lines : List Line)
    (meets : JudgeMeets limit numbers before (judged v) now) (sheet : sheet_held numbers ≡ good lines) where
  settled_or_endless : (v.verdict ≡ 1) ⊎ (v.verdict ≡ 2)
  settled_or_endless =
      elim meets.1.answer [ inl a ↦ inl a.verdict | inr b ↦ elim b [ inl s ↦ inl s.verdict | inr e ↦ inr e.verdict ] ]

  bounded : v.verdict ≡ 1 → (d : ℕ) × Bounded (rules_of lines) (rows_of lines) d
  bounded = (verdict_settles limit numbers before v now lines meets.1 sheet).0

  unbounded : v.verdict ≡ 2 → Unbounded (rules_of lines) (rows_of lines)
  unbounded = (verdict_endless limit numbers before v now lines meets.1 sheet).0

  -- "Settles" is answered exactly where there is a finite derivation: where the rules are in the class CT∃ of document 000 for this table.
  pub settles_is_some_finite : (v.verdict ≡ 1) ↔ SomeFinite (rules_of lines) (rows_of lines)
  settles_is_some_finite = (
    λ p. (finite_derivation_is_bounded (rules_of lines) (rows_of lines)).1 (bounded p),
    λ e. (verdict_settles limit numbers before v now lines meets.1 sheet).1 ((finite_derivation_is_bounded (rules_of lines) (rows_of lines)).0 e),
  )

  -- It is answered exactly where every valid derivation is finite: where they are in CT∀, which is the same class.
  pub settles_is_all_finite : (v.verdict ≡ 1) ↔ AllFinite (rules_of lines) (rows_of lines)
  settles_is_all_finite = (
    λ p s. let (d, b) = bounded p in bounded_not_infinite (rules_of lines) (rows_of lines) d b s.0 s.1.infinite,
    λ h.
        elim settled_or_endless [
          | inl p ↦ p
          | inr q ↦ absurd (h ((fair_derivation_is_unbounded (rules_of lines) (rows_of lines)).1 (unbounded q)))
        ],
  )

  -- Then no derivation is infinite, fair or not.
  pub settles_not_infinite : v.verdict ≡ 1 → (I : ℕ → Instance) → InfiniteDerivation (rules_of lines) (rows_of lines) I → ⊥
  settles_not_infinite p I d = let (deepest, b) = bounded p in bounded_not_infinite (rules_of lines) (rows_of lines) deepest b I d

  -- "Endless" is answered exactly where there is an infinite and fair derivation,
  pub endless_is_some_infinite : (v.verdict ≡ 2) ↔ SomeInfinite (rules_of lines) (rows_of lines)
  endless_is_some_infinite = (
    λ p. (fair_derivation_is_unbounded (rules_of lines) (rows_of lines)).1 (unbounded p),
    λ s. (verdict_endless limit numbers before v now lines meets.1 sheet).1 ((fair_derivation_is_unbounded (rules_of lines) (rows_of lines)).0 s),
  )

  -- and then none is finite.
  pub endless_not_finite : v.verdict ≡ 2 → SomeFinite (rules_of lines) (rows_of lines) → ⊥
  endless_not_finite p = unbounded_not_finite (rules_of lines) (rows_of lines) (unbounded p)

  -- The counts of reached shapes and of fired rules are those of the published chase, whichever way it is carried out: of the shapes in its result, and of the rules with a trigger on it.
  pub counts_are_published : (chase : Instance) → ChaseResult (rules_of lines) (rows_of lines) chase
      → Count (ShapeIn chase) v.shapes × Count (Triggered (rules_of lines) chase) v.fired
  counts_are_published chase c = (
    count_iff (Reached (rules_of lines) (rows_of lines)) (ShapeIn chase) v.shapes (reached_in_result (rules_of lines) (rows_of lines) chase c)
        (result_reached (rules_of lines) (rows_of lines) chase c) (right_shapes limit numbers before v now lines meets.1 sheet),
    count_iff (Fired (rules_of lines) (rows_of lines)) (Triggered (rules_of lines) chase) v.fired (fired_triggered (rules_of lines) (rows_of lines) chase c)
        (triggered_fired (rules_of lines) (rows_of lines) chase c) (right_fired limit numbers before v now lines meets.1 sheet),
  )

  -- A judged sheet has such a result, of a derivation.
  pub chase_is_there : (chase : Instance) × ChaseResult (rules_of lines) (rows_of lines) chase
  chase_is_there =
      elim settled_or_endless [
        | inl p ↦ (let (size, (I, d)) = settles_is_some_finite.0 p in (I size, of_finite size I d))
        | inr q ↦ (let (I, d) = endless_is_some_infinite.0 q in ((λ y. (i : ℕ) × I i y), of_fair I d))
      ]
