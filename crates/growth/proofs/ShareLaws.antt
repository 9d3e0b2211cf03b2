-- What a list of firings and the rules carried out have of the chase is not more than the chase has. Assumes nothing.
use mathlib.Core.Path.{◌∙◌, ap}
use mathlib.Core.Logic.{inl, inr}
use mathlib.Core.List.{List, [], ◌∷◌, map}
use mathlib.Core.Option.{Option}
use Prim.Native.Nat.{ℕ, ◌≤◌, ◌<◌}
use native.Mathlib.Omega.{arith}
use lib.ListN.{length, length-map}
use Rattle.sheet.specs.Line.{Line}
use Rattle.chase.specs.Lists.{In}
use Rattle.chase.specs.Rules.{Rule, rules_of, nth}
use Rattle.chase.specs.Value.{Value}
use Rattle.chase.specs.Making.{Record}
use Rattle.chase.specs.Run.{Firing, start, fire, run, rows_of, Reachable, row, made_from}
use Rattle.chase.specs.Judge.{Left}
use Rattle.chase.proofs.ListLaws.{in_map}
use Rattle.chase.proofs.RunLaws.{start_in, start_no_two, run_no_two, keep_run, run_reachable, reachable_left}
use Rattle.carrying.specs.Carrying.{Pair}
use Rattle.carrying.specs.Meaning.{meant, meant_pair, carried_by, FiredWith}
use Rattle.carrying.specs.Contract.{run as carried_to}
use Rattle.carrying.proofs.Theorems.{meaning, one_to_one_renaming}
use Rattle.growth.specs.Counted.{AtMost, Held, FittedPair, Written}
use Rattle.growth.proofs.CountedLaws.{at_most_mapped, at_most_fewer}

-- ---- a list of firings

module _ (rules : List Rule) (rows : List Record) where
  fitted_from : (fs : List Firing) (records : List Record) → ((x : Record) → In x records → Reachable rules rows x)
      → (p : Pair Value) → FittedPair rules fs records p → FiredWith rules rows p
  fitted_from [] records all p h = absurd h
  fitted_from (f ∷ fs) records all p (inl (fits, is)) =
      record {
        rule = fits.rule;
        named = ap (λ (q : Pair Value). nth rules q.rule) is ∙ fits.named;
        on = f.on;
        reachable = all f.on fits.there;
        fires = fits.fires;
        carried = ap (λ (q : Pair Value). q.carried) is ∙ ap (λ (o : Option Rule). carried_by o f.on.fields) fits.named;
      }
  fitted_from (f ∷ fs) records all p (inr h) =
      fitted_from fs (fire rules f records)
      (λ x i. keep_run rules (Reachable rules rows) (λ n r y g e w q j. made_from n r g e w q j) (f ∷ []) records all x i) p h

  module _ (fs : List Firing) (n : ℕ) where
    pub held_most : AtMost (Left rules rows) n → AtMost (Held (run rules fs (start rows))) n
    held_most =
        at_most_fewer (Held (run rules fs (start rows))) (Left rules rows) (λ v h. record { firings = fs; on = h.on; left = h.there; holds = h.holds }) n

    pub left_most : AtMost (Reachable rules rows) n → length (run rules fs (start rows)) ≤ n
    left_most a = a.bound (run rules fs (start rows)) (run_no_two rules fs (start rows) (start_no_two rows)) (run_reachable rules rows fs)

    pub fitted_most : AtMost (FiredWith rules rows) n → AtMost (FittedPair rules fs (start rows)) n
    fitted_most =
        at_most_fewer (FittedPair rules fs (start rows)) (FiredWith rules rows) (λ p h. fitted_from fs (start rows) (λ x i. row (start_in rows x i)) p h) n

-- ---- the rules carried out

module _ (lines : List Line) (k n : ℕ) where
  written_below : (a : ℕ) → Written (carried_to lines k).rows a → a < (carried_to lines k).next
  written_below a w = (one_to_one_renaming lines k).numbered w.on a w.there w.holds

  -- A number in the rows means a value of the chase.
  written_left : (a : ℕ) → Written (carried_to lines k).rows a → Left (rules_of lines) (rows_of lines) (meaning lines k a)
  written_left a w =
      reachable_left (rules_of lines) (rows_of lines) (meaning lines k a) (meant (meaning lines k) w.on)
      ((one_to_one_renaming lines k).reachable (meant (meaning lines k) w.on)
      (in_map (meant (meaning lines k)) w.on (carried_to lines k).rows w.there))
      (in_map (meaning lines k) a w.on.numbers w.holds)

  pub written_most : AtMost (Left (rules_of lines) (rows_of lines)) n → AtMost (Written (carried_to lines k).rows) n
  written_most =
      at_most_mapped (meaning lines k) (Written (carried_to lines k).rows) (Left (rules_of lines) (rows_of lines)) written_left
      (λ a b v w e. (one_to_one_renaming lines k).one_to_one a b (written_below a v) (written_below b w) e) n

  -- Renamed, the rows are different reachable records and the pairs different pairs of the chase.
  pub rows_most : AtMost (Reachable (rules_of lines) (rows_of lines)) n → length (carried_to lines k).rows ≤ n
  rows_most a =
      let r = one_to_one_renaming lines k in
      let rows = (carried_to lines k).rows in
      omega (arith, length-map rows (meant (meaning lines k)), a.bound (map (meant (meaning lines k)) rows) r.once r.reachable)

  pub fired_most : AtMost (FiredWith (rules_of lines) (rows_of lines)) n → length (carried_to lines k).fired ≤ n
  fired_most a =
      let r = one_to_one_renaming lines k in
      let fired = (carried_to lines k).fired in
      omega (arith, length-map fired (meant_pair (meaning lines k)), a.bound (map (meant_pair (meaning lines k)) fired) r.pairs_once r.pairs)
