-- The different values of some records are just the values that stand in them. Assumes nothing.
use mathlib.Core.Path.{refl, subst}
use mathlib.Core.Logic.{◌⊎◌, inl, inr}
use mathlib.Core.List.{List, [], ◌∷◌}
use lib.ListN.{length}
use Rattle.patterns.proofs.PatternLaws.{add_all-has}
use Rattle.chase.specs.Lists.{In}
use Rattle.chase.specs.Value.{Value, Value-discrete}
use Rattle.chase.specs.Making.{Record}
use Rattle.chase.specs.Counting.{Count}
use Rattle.chase.proofs.ListLaws.{in_left, in_right, in_append, in_add_all, no_two_add_all}
use Rattle.growth.specs.Forecast.{fields_of, values_in}
use Rattle.growth.specs.Counted.{Held}

in_fields_of : (records : List Record) (x : Record) (v : Value) → In x records → In v x.fields → In v (fields_of records)
in_fields_of [] x v i j = absurd i
in_fields_of (y ∷ records) x v (inl p) j = in_left v y.fields (fields_of records) (subst (λ (z : Record). In v z.fields) p j)
in_fields_of (y ∷ records) x v (inr i) j = in_right v y.fields (fields_of records) (in_fields_of records x v i j)

fields_of_in : (records : List Record) (v : Value) → In v (fields_of records) → Held records v
fields_of_in [] v i = absurd i
fields_of_in (y ∷ records) v i = go (in_append v y.fields (fields_of records) i) (λ j. fields_of_in records v j)
  where
    go : In v y.fields ⊎ In v (fields_of records) → (In v (fields_of records) → Held records v) → Held (y ∷ records) v
    go (inl j) ih = record { on = y; there = inl refl; holds = j }
    go (inr j) ih = let h = ih j in record { on = h.on; there = inr h.there; holds = h.holds }

pub in_values_in : (records : List Record) (x : Record) (v : Value) → In x records → In v x.fields → In v (values_in records)
unfolding values_in
in_values_in records x v i j = add_all-has Value-discrete v (fields_of records) [] (in_fields_of records x v i j)

values_in_in : (records : List Record) (v : Value) → In v (values_in records) → Held records v
unfolding values_in
values_in_in records v i = elim (in_add_all Value-discrete v (fields_of records) [] i) [ inl j ↦ fields_of_in records v j | inr k ↦ absurd k ]

-- They are counted by length.
pub values_in_count : (records : List Record) → Count (Held records) (length (values_in records))
unfolding values_in
values_in_count records =
    record {
      list = values_in records;
      different = no_two_add_all Value-discrete (fields_of records) [] tt;
      sound = values_in_in records;
      complete = λ v h. in_values_in records h.on v h.there h.holds;
      size = refl;
    }
