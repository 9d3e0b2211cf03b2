-- Whatever a sheet with bounded generations can make stands in lists whose lengths the forecast says. Assumes nothing.
use mathlib.Core.Path.{◌≡◌, refl, ◌∙◌, ap, subst}
use mathlib.Core.List.{List, map}
use Prim.Native.Nat.{ℕ, zero, suc, ◌+◌}
use lib.ListN.{length, length-append}
use Rattle.sheet.specs.Line.{Line}
use Rattle.sheet.specs.Sheet.{IsSheet}
use Rattle.chase.specs.Lists.{In}
use Rattle.chase.specs.Rules.{Rule, rules_of}
use Rattle.chase.specs.Value.{Value}
use Rattle.chase.specs.Making.{Record, fresh_of, carried_marks, carried_values}
use Rattle.chase.specs.Run.{rows_of, Reachable}
use Rattle.chase.specs.Judge.{Left, Bounded}
use Rattle.chase.proofs.ListLaws.{in_map, all_of}
use Rattle.chase.proofs.MakingLaws.{carried_values_in_fields, carried_values-length}
use Rattle.chase.proofs.RunLaws.{left_reachable, reachable_left}
use Rattle.chase.proofs.Goings.{Numbered, numbered, in_numbered, each, in_each}
use Rattle.chase.proofs.FiniteLaws.{lists, in_lists, new_by, values_to, value_to}
use Rattle.carrying.specs.Carrying.{Pair, fresh_marks}
use Rattle.carrying.specs.Meaning.{FiredWith}
use Rattle.carrying.proofs.MarkLaws.{no_value_fresh}
use Rattle.growth.specs.Forecast.{values_in, first_t, power, new_with, next, values_after, last_t, kind_lines, width_in, records_with, pairs_with}
use Rattle.growth.specs.Counted.{AtMost}
use Rattle.growth.proofs.CountedLaws.{sum_constant, sum-numbered, each_length, mapped_length, at_most_listed}
use Rattle.growth.proofs.ValueLaws.{in_values_in}
use Rattle.growth.proofs.KindLaws.{reachable_declared}

-- ---- the lists and their lengths

new_by_length : (vs : List Value) (n : Numbered Rule) → length (new_by fresh_marks vs n) ≡ new_with (length vs) n.item
new_by_length vs n =
    let carried : ℕ = length (carried_marks n.item) in
    each_length (λ m. map (fresh_of n.number m) (lists vs carried)) (λ m. power (length vs) carried)
    (λ m. mapped_length (fresh_of n.number m) vs carried) (fresh_marks n.item)
    ∙ sum_constant (power (length vs) carried) (fresh_marks n.item)

-- The values up to a generation.
values_to_length : (rules : List Rule) (first : List Value) (d : ℕ) → length (values_to fresh_marks rules first d) ≡ values_after rules (length first) d
values_to_length rules first zero = refl
values_to_length rules first (suc d) =
    let vs : List Value = values_to fresh_marks rules first d in
    length-append first (each (new_by fresh_marks vs) (numbered rules))
    ∙ ap (λ (n : ℕ). length first + n)
    (each_length (new_by fresh_marks vs) (λ (n : Numbered Rule). new_with (length vs) n.item) (new_by_length vs) (numbered rules)
    ∙ sum-numbered (new_with (length vs)) rules)
    ∙ ap (next rules (length first)) (values_to_length rules first d)

-- The records of a kind over some values.
abbrev records_of : List Value → Line → List Record
records_of vs k = map (λ fields. record { kind = k.kind; fields = fields }) (lists vs (width_in k))

records_of_length : (vs : List Value) (kinds : List Line) → length (each (records_of vs) kinds) ≡ records_with kinds (length vs)
records_of_length vs kinds =
    each_length (records_of vs) (λ k. power (length vs) (width_in k))
    (λ k. mapped_length (λ fields. record { kind = k.kind; fields = fields }) vs (width_in k)) kinds

-- The pairs of a rule over some values.
abbrev pairs_of : List Value → Numbered Rule → List (Pair Value)
pairs_of vs n = map (λ cs. record { rule = n.number; carried = cs }) (lists vs (length (carried_marks n.item)))

pairs_of_length : (vs : List Value) (rules : List Rule) → length (each (pairs_of vs) (numbered rules)) ≡ pairs_with rules (length vs)
pairs_of_length vs rules =
    each_length (pairs_of vs) (λ (n : Numbered Rule). power (length vs) (length (carried_marks n.item)))
    (λ n. mapped_length (λ cs. record { rule = n.number; carried = cs }) vs (length (carried_marks n.item))) (numbered rules)
    ∙ sum-numbered (λ r. power (length vs) (length (carried_marks r))) rules

-- ---- what they hold

module _ (lines : List Line) (d : ℕ) (b : Bounded (rules_of lines) (rows_of lines) d) where
  abbrev all : List Value
  all = values_to fresh_marks (rules_of lines) (values_in (rows_of lines)) d

  all_length : length all ≡ last_t lines d
  unfolding last_t first_t
  all_length = values_to_length (rules_of lines) (values_in (rows_of lines)) d

  value_in : {x : Record} → Reachable (rules_of lines) (rows_of lines) x → (v : Value) → In v x.fields → In v all
  value_in {x} w v j =
      value_to fresh_marks (rules_of lines) (values_in (rows_of lines)) (rows_of lines) (in_values_in (rows_of lines))
      (λ r xs a h m i k e. no_value_fresh r xs a h m i k e) d w v j
      (b v (reachable_left (rules_of lines) (rows_of lines) v x w j))

  pub at_most_values : AtMost (Left (rules_of lines) (rows_of lines)) (last_t lines d)
  at_most_values =
      at_most_listed (Left (rules_of lines) (rows_of lines)) all (last_t lines d) all_length
      (λ v l. let (x, w, j) = left_reachable (rules_of lines) (rows_of lines) v l in value_in w v j)

  pair_in : (p : Pair Value) → FiredWith (rules_of lines) (rows_of lines) p → In p (each (pairs_of all) (numbered (rules_of lines)))
  pair_in p c =
      let k : ℕ = length (carried_marks c.rule) in
      let cs : List Value = carried_values c.rule c.on.fields in
      let here : In cs (lists all k) =
      in_lists all cs k (carried_values-length c.rule c.on.fields c.fires.1)
      (all_of (λ v. In v all) cs (λ v i. value_in c.reachable v (carried_values_in_fields c.rule c.on.fields v i))) in
      in_each (pairs_of all) (record { number = p.rule; item = c.rule }) p (numbered (rules_of lines))
      (in_numbered (rules_of lines) p.rule c.rule c.named)
      (in_map (λ cs. record { rule = p.rule; carried = cs }) p.carried (lists all k) (rw c.carried here))

  pub at_most_pairs : AtMost (FiredWith (rules_of lines) (rows_of lines)) (pairs_with (rules_of lines) (last_t lines d))
  at_most_pairs =
      at_most_listed (FiredWith (rules_of lines) (rows_of lines)) (each (pairs_of all) (numbered (rules_of lines))) (pairs_with (rules_of lines) (last_t lines d))
      (pairs_of_length all (rules_of lines) ∙ ap (pairs_with (rules_of lines)) all_length) pair_in

  module _ (sheet : IsSheet lines) where
    record_in : (x : Record) → Reachable (rules_of lines) (rows_of lines) x → In x (each (records_of all) (kind_lines lines))
    record_in x w =
        let k = reachable_declared lines sheet w in
        let width : ℕ = width_in k.line in
        let here : In x.fields (lists all width) =
        in_lists all x.fields width k.width_is (all_of (λ v. In v all) x.fields (λ v j. value_in w v j)) in
        in_each (records_of all) k.line x (kind_lines lines) k.there
        (subst (λ (n : ℕ). In x (map (λ fields. record { kind = n; fields = fields }) (lists all width))) k.kind_is
        (in_map (λ fields. record { kind = x.kind; fields = fields }) x.fields (lists all width) here))

    pub at_most_records : AtMost (Reachable (rules_of lines) (rows_of lines)) (records_with (kind_lines lines) (last_t lines d))
    at_most_records =
        at_most_listed (Reachable (rules_of lines) (rows_of lines)) (each (records_of all) (kind_lines lines)) (records_with (kind_lines lines) (last_t lines d))
        (records_of_length all (kind_lines lines) ∙ ap (records_with (kind_lines lines)) all_length) record_in
