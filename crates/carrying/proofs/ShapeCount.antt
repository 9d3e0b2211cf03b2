-- Few records have few shapes. Assumes nothing.
use mathlib.Core.Path.{refl, sym, subst}
use mathlib.Core.Logic.{inl, inr}
use mathlib.Core.List.{List, [], map}
use Prim.Native.Nat.{ℕ, ◌≤◌}
use native.Mathlib.Omega.{arith}
use lib.ListN.{length, length-map}
use Rattle.patterns.specs.Pattern.{add_all}
use Rattle.patterns.proofs.PatternLaws.{add_all-has, length-add_all}
use Rattle.chase.specs.Lists.{In}
use Rattle.chase.specs.Rules.{Rule}
use Rattle.chase.specs.Making.{Record}
use Rattle.chase.specs.Run.{Reachable}
use Rattle.chase.specs.Shape.{Shape, shape_of, Reached}
use Rattle.chase.specs.Counting.{Count}
use Rattle.chase.proofs.ListLaws.{in_map, map_in, in_add_all, no_two_add_all}
use Rattle.chase.proofs.Decisions.{Shape-discrete}

-- At most as many shapes are reached as there are reachable records.
module _ (rules : List Rule) (rows : List Record) (n : ℕ) (c : Count (Reachable rules rows) n) where
  abbrev shapes : List Shape
  shapes = add_all Shape-discrete (map shape_of c.list) []

  shape_reached : (s : Shape) → In s shapes → Reached rules rows s
  shape_reached s i =
      elim (in_add_all Shape-discrete s (map shape_of c.list) [] i) [
        | inl j ↦ let t = map_in shape_of c.list s j in record { on = t.0; reachable = c.sound t.0 t.1; shape = sym t.2 }
        | inr k ↦ absurd k
      ]

  pub few_shapes : (m : ℕ) × Count (Reached rules rows) m × (m ≤ n)
  few_shapes = (
    length shapes,
    record {
      list = shapes;
      different = no_two_add_all Shape-discrete (map shape_of c.list) [] tt;
      sound = shape_reached;
      complete = λ s w. subst (λ (t : Shape). In t shapes) w.shape
          (add_all-has Shape-discrete (shape_of w.on) (map shape_of c.list) [] (in_map shape_of w.on c.list (c.complete w.on w.reachable)));
      size = refl;
    },
    omega (arith, length-add_all Shape-discrete (map shape_of c.list) [], length-map c.list shape_of, c.size),
  )
