-- The pairs of firings that all fit are the pairs that are listed for them. Assumes nothing.
use mathlib.Core.Logic.{inl, inr}
use mathlib.Core.List.{List, [], ◌∷◌, map}
use native.Mathlib.Decide.{ℕ_discrete}
use lib.ListN.{length, length-map}
use Rattle.patterns.specs.Pattern.{lists_discrete}
use Rattle.chase.specs.Lists.{In, both?, options_discrete}
use Rattle.chase.specs.Rules.{Rule}
use Rattle.chase.specs.Value.{Value, Value-discrete, table}
use Rattle.chase.specs.Making.{Record, Record-discrete, carried_marks}
use Rattle.chase.specs.Run.{Firing, fire, AllFit}
use Rattle.chase.specs.Counting.{NoTwo, Count}
use Rattle.chase.proofs.ListLaws.{in_map}
use Rattle.chase.proofs.RunLaws.{fits?}
use Rattle.chase.proofs.Decisions.{no_two?}
use Rattle.carrying.specs.Carrying.{Pair}
use Rattle.carrying.specs.Meaning.{pair_fired}
use Rattle.growth.specs.Counted.{FittedPair}

no_two_back : {A B : Type 0} (f : A → B) (l : List A) → NoTwo (map f l) → NoTwo l
no_two_back f [] n = tt
no_two_back f (x ∷ l) n = ((λ i. n.0 (in_map f x l i)), no_two_back f l n.1)

module _ (rules : List Rule) where
  fitted_in : (fs : List Firing) (records : List Record) (p : Pair Value) → FittedPair rules fs records p → In p (map (pair_fired rules) fs)
  fitted_in [] records p h = absurd h
  fitted_in (f ∷ fs) records p (inl s) = inl s.1
  fitted_in (f ∷ fs) records p (inr h) = inr (fitted_in fs (fire rules f records) p h)

  in_fitted : (fs : List Firing) (records : List Record) → AllFit rules fs records → (p : Pair Value) → In p (map (pair_fired rules) fs)
      → FittedPair rules fs records p
  in_fitted [] records a p i = absurd i
  in_fitted (f ∷ fs) records a p (inl e) = inl (a.0, e)
  in_fitted (f ∷ fs) records a p (inr i) = inr (in_fitted fs (fire rules f records) a.1 p i)

  -- A firing's pair of rule and carried values as a list of values.
  abbrev key_of : Pair Value → List Value
  key_of p = table p.rule ∷ p.carried

  -- All fit, and no pair comes twice.
  module _ (fs : List Firing) (records : List Record) where
    abbrev pub FitOnce : Type 0
    FitOnce = AllFit rules fs records × NoTwo (map key_of (map (pair_fired rules) fs))

    -- Then there are as many pairs as firings.
    pub fitted_count : FitOnce → Count (FittedPair rules fs records) (length fs)
    fitted_count f =
        record {
          list = map (pair_fired rules) fs;
          different = no_two_back key_of (map (pair_fired rules) fs) f.1;
          sound = in_fitted fs records f.0;
          complete = fitted_in fs records;
          size = length-map fs (pair_fired rules);
        }

  unfoldable all_fit? : (fs : List Firing) (records : List Record) → Dec (AllFit rules fs records)
  unfolding both? fits? ℕ_discrete lists_discrete options_discrete Value-discrete Record-discrete carried_marks
  all_fit? [] records = yes tt
  all_fit? (f ∷ fs) records = both? (fits? rules f records) (all_fit? fs (fire rules f records))

  unfoldable pub fit_once? : (fs : List Firing) (records : List Record) → Dec (FitOnce fs records)
  unfolding all_fit? no_two?
  fit_once? fs records = both? (all_fit? fs records) (no_two? (lists_discrete Value-discrete) (map key_of (map (pair_fired rules) fs)))
