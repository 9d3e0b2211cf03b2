-- An infinite derivation makes numbers of ever later generations. Assumes nothing.
use mathlib.Core.Logic.{◌⊎◌, inl, inr}
use mathlib.Core.List.{List}
use Prim.Native.Nat.{ℕ, suc, ◌≤◌, ◌<◌}
use native.Mathlib.Decide.{dec_le}
use native.Mathlib.Omega.{arith}
use lib.ListN.{length}
use Rattle.chase.specs.Lists.{In}
use Rattle.chase.specs.Rules.{Rule}
use Rattle.chase.specs.Value.{Value, generation}
use Rattle.chase.specs.Making.{Record}
use Rattle.chase.specs.Run.{Reachable}
use Rattle.chase.specs.Counting.{NoTwo}
use Rattle.chase.specs.Chase.{Instance, InfiniteDerivation}
use Rattle.chase.specs.Judge.{Left, Unbounded}
use Rattle.chase.proofs.ListLaws.{all_or_not}
use Rattle.chase.proofs.CountLaws.{pigeonhole}
use Rattle.chase.proofs.RunLaws.{reachable_left}
use Rattle.chase.proofs.FiniteLaws.{finite_to}
use Rattle.chase.proofs.SequenceLaws.{of_infinite, reachable, many}

-- No value of a record is of a later generation than d.
abbrev Small : ℕ → Record → Type 0
Small d x = (v : Value) → In v x.fields → generation v ≤ d

-- Or one is.
small_or_deep : (d : ℕ) (x : Record) → Small d x ⊎ ((v : Value) × In v x.fields × (d < generation v))
small_or_deep d x = go (all_or_not (λ v. generation v ≤ d) (λ v. dec_le (generation v) d) x.fields)
  where
    go : Small d x ⊎ ((v : Value) × In v x.fields × (generation v ≤ d → ⊥)) → Small d x ⊎ ((v : Value) × In v x.fields × (d < generation v))
    go (inl s) = inl s
    go (inr (v, i, h)) = inr (v, i, omega (arith, h))

small? : (d : ℕ) (x : Record) → Dec (Small d x)
small? d x = go (small_or_deep d x)
  where
    go : Small d x ⊎ ((v : Value) × In v x.fields × (d < generation v)) → Dec (Small d x)
    go (inl s) = yes s
    go (inr (v, i, l)) = no (λ s. omega (arith, s v i, l))

module _ (rules : List Rule) (rows : List Record) where
  -- Of more reachable records than there are with small values one has a value that is not.
  deep_among : (d : ℕ) (list found : List Record) → ((x : Record) → Reachable rules rows x → Small d x → In x list) → NoTwo found
      → ((x : Record) → In x found → Reachable rules rows x) → length list < length found → (v : Value) × Left rules rows v × (d < generation v)
  deep_among d list found all n r l = go (all_or_not (Small d) (small? d) found)
    where
      go : ((x : Record) → In x found → Small d x) ⊎ ((x : Record) × In x found × (Small d x → ⊥)) → (v : Value) × Left rules rows v × (d < generation v)
      go (inl s) = absurd (omega (arith, l, pigeonhole found list n (λ x i. all x (r x i) (s x i))))
      go (inr (x, i, h)) = deep (small_or_deep d x)
        where
          deep : Small d x ⊎ ((v : Value) × In v x.fields × (d < generation v)) → (v : Value) × Left rules rows v × (d < generation v)
          deep (inl s) = absurd (h s)
          deep (inr (v, j, k)) = (v, reachable_left rules rows v x (r x i) j, k)

  pub infinite_unbounded : (I : ℕ → Instance) → InfiniteDerivation rules rows I → Unbounded rules rows
  infinite_unbounded I u d =
      let (list, all) = finite_to rules rows d in
      let size = suc (length list) in
      let a = of_infinite rules rows size I u in
      let m = many rules rows size I a size (omega arith) in
      deep_among d list m.list all m.different (λ y i. reachable rules rows size I a size (omega arith) y (m.there y i)) (omega (arith, m.count))
