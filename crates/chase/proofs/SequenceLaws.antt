-- Laws of sequences of applications: what they have is decided, finite and reachable, and each application adds a record. Assumes nothing.
use mathlib.Core.Path.{◌≡◌, sym, subst}
use mathlib.Core.Logic.{◌⊎◌, inl, inr}
use mathlib.Core.List.{List, ◌∷◌, ◌++◌}
use Prim.Native.Nat.{ℕ, zero, suc, ◌+◌, ◌≤◌, ◌<◌}
use native.Mathlib.Omega.{arith}
use lib.ListN.{length}
use Rattle.chase.specs.Lists.{In}
use Rattle.chase.specs.Rules.{Rule}
use Rattle.chase.specs.Making.{Record}
use Rattle.chase.specs.Run.{start, Reachable}
use Rattle.chase.specs.Chase.{Instance, Applied, Begins, FiniteDerivation, InfiniteDerivation}
use Rattle.chase.specs.Counting.{NoTwo}
use Rattle.chase.proofs.ListLaws.{in_left, in_right, all_or_not}
use Rattle.chase.proofs.RunLaws.{start_no_two, start_in}
use Rattle.chase.proofs.CountLaws.{pigeonhole}
use Rattle.chase.proofs.PublishedLaws.{result_of, derivation_reachable, derivation?}

-- One application.
module _ (rules : List Rule) (I J : Instance) (a : Applied rules I J) where
  abbrev results : List Record
  results = result_of rules a.trigger

  -- It adds a record.
  adds : ((y : Record) → Dec (I y)) → (y : Record) × J y × (I y → ⊥)
  adds d = go (all_or_not I d results)
    where
      go : ((y : Record) → In y results → I y) ⊎ ((y : Record) × In y results × (I y → ⊥)) → (y : Record) × J y × (I y → ⊥)
      go (inl all) = absurd (a.active all)
      go (inr (y, i, h)) = (y, a.new y i, h)

  applied_listed : (l : List Record) → ((y : Record) → I y → In y l) → (y : Record) → J y → In y (results ++ l)
  applied_listed l b y j = elim (a.only y j) [ inl i ↦ in_right y results l (b y i) | inr s ↦ in_left y results l s ]

-- So many applications, from the rows on.
pub record Applications (rules : List Rule) (rows : List Record) (size : ℕ) (I : ℕ → Instance) : Type 1 where
  pub begins : Begins rules rows (I 0)
  pub applied : (i : ℕ) → i < size → Applied rules (I i) (I (suc i))

module _ (rules : List Rule) (rows : List Record) (size : ℕ) (I : ℕ → Instance) (a : Applications rules rows size I) where
  abbrev Within : ℕ → Type 0
  Within i = i ≤ size

  within_down : (i : ℕ) → Within (suc i) → Within i
  within_down i l = omega arith

  decided : (i : ℕ) → i ≤ size → (y : Record) → Dec (I i y)
  decided = derivation? rules rows I a.begins Within within_down a.applied

  pub reachable : (i : ℕ) → i ≤ size → (y : Record) → I i y → Reachable rules rows y
  reachable = derivation_reachable rules rows I a.begins Within within_down a.applied

  -- A list has whatever an instance has.
  pub listed : (i : ℕ) → i ≤ size → (list : List Record) × ((y : Record) → I i y → In y list)
  listed zero l = (rows, a.begins.only)
  listed (suc i) l =
      let (list, all) = listed i (omega arith) in
      (results rules (I i) (I (suc i)) (a.applied i l) ++ list, applied_listed rules (I i) (I (suc i)) (a.applied i l) list all)

  -- After i applications there are at least i more records than at the start.
  pub record Many (i : ℕ) : Type 0 where
    pub list : List Record
    pub different : NoTwo list
    pub there : (y : Record) → In y list → I i y
    pub count : length list ≡ i + length (start rows)

  pub many : (i : ℕ) → i ≤ size → Many i
  many zero l =
      record {
        list = start rows;
        different = start_no_two rows;
        there = λ y j. a.begins.has y (start_in rows y j);
        count = omega arith;
      }
  many (suc i) l =
      let m = many i (omega arith) in
      let (y, new, h) = adds rules (I i) (I (suc i)) (a.applied i l) (decided i (omega arith)) in
      record {
        list = y ∷ m.list;
        different = ((λ j. h (m.there y j)), m.different);
        there = λ z j. elim j [ inl e ↦ subst (I (suc i)) (sym e) new | inr k ↦ (a.applied i l).old z (m.there z k) ];
        count = omega (arith, m.count);
      }

  -- There are at most as many applications as reachable records that are no rows.
  pub no_longer : (list : List Record) → ((y : Record) → Reachable rules rows y → In y list) → size + length (start rows) ≤ length list
  no_longer list all =
      let m = many size (omega arith) in
      omega (arith, m.count, pigeonhole m.list list m.different (λ y i. all y (reachable size (omega arith) y (m.there y i))))

-- The applications of a finite derivation, and the first ones of an infinite one.
pub of-finite : (rules : List Rule) (rows : List Record) (size : ℕ) (I : ℕ → Instance) → FiniteDerivation rules rows size I
    → Applications rules rows size I
of-finite rules rows size I d = record { begins = d.begins; applied = d.applied }

pub of_infinite : (rules : List Rule) (rows : List Record) (size : ℕ) (I : ℕ → Instance) → InfiniteDerivation rules rows I
    → Applications rules rows size I
of_infinite rules rows size I d = record { begins = d.begins; applied = λ i l. d.applied i }

-- Where finitely many records are reachable no derivation is infinite.
pub not_infinite : (rules : List Rule) (rows : List Record) (list : List Record) → ((y : Record) → Reachable rules rows y → In y list)
    → (I : ℕ → Instance) → InfiniteDerivation rules rows I → ⊥
not_infinite rules rows list all I d =
    omega (arith, no_longer rules rows (suc (length list)) I (of_infinite rules rows (suc (length list)) I d) list all)
