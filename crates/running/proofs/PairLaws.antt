-- Pairs of a rule and its carried values: the same, found, noted. Assumes nothing.
use mathlib.Core.Path.{◌≡◌, refl, sym, ◌∙◌, ap}
use mathlib.Core.Logic.{◌⊎◌, inl, inr}
use mathlib.Core.Bool.{Bool, true, false, cond}
use mathlib.Core.List.{List, [], ◌∷◌, ◌++◌, map}
use mathlib.Core.Option.{Option, some, some-injective}
use Prim.Native.Nat.{ℕ, zero, suc, ◌+◌, ◌-◌, ◌≤◌, ◌<◌}
use native.Mathlib.Decide.{ℕ_discrete}
use native.Mathlib.Numerals.{add-one}
use native.Mathlib.Omega.{arith}
use lib.Dec.{eqb}
use borrow.Author.Tests.{eqb-true}
use lib.ListN.{length, get_or}
use Rattle.chase.specs.Lists.{In}
use Rattle.chase.specs.Rules.{Rule}
use Rattle.chase.specs.Making.{value_of, carried_marks, carried_values, present}
use Rattle.chase.proofs.MakingLaws.{agree_length, agree_has_value, carried_in}
use Rattle.rules.specs.Table.{source_at, first_place}
use Rattle.rules.proofs.Sources.{Source, nothing, first, source_is, carried_source, first_at, first_within}
use Rattle.rules.proofs.FirstPlaces.{at_place, value_first}
use Rattle.carrying.specs.Carrying.{FiresOn}
use Rattle.chase.proofs.ListLaws.{map_same}
use Rattle.running.specs.Inner.Chains.{mixed, bucket_in}
use Rattle.running.specs.Inner.Held.{unpacked, PackedRow, row_at}
use Rattle.running.specs.Inner.Firing.{rule_at}
use Rattle.running.specs.Inner.Pairs.{mixed_from, pair_bucket, SameCarried, record_of, IsPair, bucket_of_pair}
use Rattle.running.proofs.FiringLaws.{packed-number}

-- ---- lists

-- Where marks have values in two ways and these values are the same list, each mark has the same value.
present_same : {A : Type 0} (g h : ℕ → Option A) (ms : List ℕ)
    → ((m : ℕ) → In m ms → (x : A) × (g m ≡ some x)) → ((m : ℕ) → In m ms → (x : A) × (h m ≡ some x))
    → present (map g ms) ≡ present (map h ms) → (m : ℕ) → In m ms → g m ≡ h m
present_same g h [] s t e m i = absurd i
present_same {A = A} g h (k ∷ ms) s t e m i =
    let u = s k (inl refl) in
    let v = t k (inl refl) in
    let same : u.0 ∷ present (map g ms) ≡ v.0 ∷ present (map h ms) = rw (u.1, v.1) at e in
    go i (u.1 ∙ ap some (mathlib.Core.List.head-eq_of_cons-eq same) ∙ sym v.1)
    (λ j. present_same g h ms (λ n a. s n (inr a)) (λ n a. t n (inr a)) (mathlib.Core.List.tail-eq_of_cons-eq same) m j)
  where
    go : (m ≡ k) ⊎ In m ms → g k ≡ h k → (In m ms → g m ≡ h m) → g m ≡ h m
    go (inl p) q ih = ap g p ∙ q ∙ ap h (sym p)
    go (inr j) q ih = ih j

-- ---- the bucket

pub record Mixing (by : ℕ) (r : Rule) (row : List ℕ) (number h p : ℕ) : Type 0 where
  pub low : 1 ≤ p
  pub within : p ≤ 7
  pub small : h < 4294967296
  pub same : bucket_in (mixed_from by r row h p (7 - p)) ≡ pair_bucket by r number row

pub mixing_begun : (by : ℕ) (r : Rule) (row : List ℕ) (number h : ℕ) → h ≡ mixed by 1 number → h < 4294967296 → Mixing by r row number h 1
unfolding pair_bucket
mixing_begun by r row number h e l =
    record { low = omega arith; within = omega arith; small = l; same = ap (λ (z : ℕ). bucket_in (mixed_from by r row z 1 6)) e }

pub mixing_more : {by : ℕ} {r : Rule} {row : List ℕ} {number h p : ℕ} → Mixing by r row number h p → p < 7 → (s x k : ℕ) → s ≡ source_at r p → x ≡ get_or row p 0
    → k ≡ cond (eqb s 1) (mixed by h x) h → k < 4294967296 → Mixing by r row number k (p + 1)
mixing_more {by} {r} {row} {number} {h} {p} m l s x k e f q small =
    let a : 7 - p ≡ suc (7 - (p + 1)) = omega arith in
    record {
      low = omega arith;
      within = omega arith;
      small = small;
      same =
          ap (λ (z : ℕ). bucket_in (mixed_from by r row z (p + 1) (7 - (p + 1)))) (q ∙ ap (λ (t : ℕ). cond (eqb t 1) (mixed by h x) h) e ∙ ap (λ (y : ℕ). cond (eqb (source_at r p) 1) (mixed by h y) h) f)
          ∙ ap (λ (z : ℕ). bucket_in (mixed_from by r row (cond (eqb (source_at r p) 1) (mixed by h (get_or row p 0)) h) z (7 - (p + 1)))) (add-one p)
          ∙ sym (ap (λ (z : ℕ). bucket_in (mixed_from by r row h p z)) a) ∙ m.same;
    }

pub mixing_done : {by : ℕ} {r : Rule} {row : List ℕ} {number h p : ℕ} → Mixing by r row number h p → 7 ≤ p → bucket_in h ≡ pair_bucket by r number row
mixing_done {by} {r} {row} {number} {h} {p} m l =
    let a : 0 ≡ 7 - p = omega (arith, m.within) in
    ap (λ (z : ℕ). bucket_in (mixed_from by r row h p z)) a ∙ m.same

mixed_same : (by : ℕ) (r : Rule) (row other : List ℕ) → SameCarried r row other → (n h p : ℕ) → 1 ≤ p → p + n ≤ 7 → mixed_from by r row h p n ≡ mixed_from by r other h p n
mixed_same by r row other s zero h p l k = refl
mixed_same by r row other s (suc n) h p l k =
    mixed_same by r row other s n (cond (eqb (source_at r p) 1) (mixed by h (get_or row p 0)) h) (suc p) (omega arith) (omega arith)
    ∙ ap (λ (z : ℕ). mixed_from by r other z (suc p) n) (go (eqb (source_at r p) 1) refl)
  where
    go : (t : Bool) → eqb (source_at r p) 1 ≡ t → cond t (mixed by h (get_or row p 0)) h ≡ cond t (mixed by h (get_or other p 0)) h
    go true e = ap (mixed by h) (s.each p l (omega arith) (eqb-true (source_at r p) 1 e))
    go false e = refl

pub bucket_same : (by : ℕ) (r : Rule) (row other : List ℕ) (number : ℕ) → SameCarried r row other → pair_bucket by r number row ≡ pair_bucket by r number other
unfolding pair_bucket
bucket_same by r row other number s = ap bucket_in (mixed_same by r row other s 6 (mixed by 1 number) 1 (omega arith) (omega arith))

-- ---- the same carried values

pub record SameTo (r : Rule) (row other : List ℕ) (p : ℕ) : Type 0 where
  pub low : 1 ≤ p
  pub within : p ≤ 7
  pub each : (q : ℕ) → 1 ≤ q → q < p → source_at r q ≡ 1 → get_or row q 0 ≡ get_or other q 0

pub same_begun : (r : Rule) (row other : List ℕ) → SameTo r row other 1
same_begun r row other = record { low = omega arith; within = omega arith; each = λ q l h. absurd (omega arith) }

pub same_more : {r : Rule} {row other : List ℕ} {p : ℕ} → SameTo r row other p → p < 7 → (s x y : ℕ) → s ≡ source_at r p → x ≡ get_or row p 0 → y ≡ get_or other p 0
    → ((s ≡ 1) × (x ≡ y → ⊥) → ⊥) → SameTo r row other (p + 1)
same_more {r} {row} {other} {p} m l s x y e f g h =
    record { low = omega arith; within = omega arith; each = λ q k u c. go q k u c (ℕ_discrete q p) }
  where
    go : (q : ℕ) → 1 ≤ q → q < p + 1 → source_at r q ≡ 1 → Dec (q ≡ p) → get_or row q 0 ≡ get_or other q 0
    go q k u c (no w) = m.each q k (omega arith) c
    go q k u c (yes w) = here (ℕ_discrete x y)
      where
        here : Dec (x ≡ y) → get_or row q 0 ≡ get_or other q 0
        here (yes z) = ap (λ (n : ℕ). get_or row n 0) w ∙ sym f ∙ z ∙ g ∙ ap (λ (n : ℕ). get_or other n 0) (sym w)
        here (no z) = absurd (h (e ∙ ap (source_at r) (sym w) ∙ c, z))

pub same_done : {r : Rule} {row other : List ℕ} {p : ℕ} → SameTo r row other p → 7 ≤ p → SameCarried r row other
same_done m l = record { each = λ p k u e. m.each p k (omega arith) e }

pub same_not : {r : Rule} {row other : List ℕ} (p s x y : ℕ) → 1 ≤ p → p < 7 → s ≡ source_at r p → x ≡ get_or row p 0 → y ≡ get_or other p 0
    → (s ≡ 1) × (x ≡ y → ⊥) → SameCarried r row other → ⊥
same_not p s x y l k e f g h c = h.1 (f ∙ c.each p l k (sym e ∙ h.0) ∙ sym g)

value_row : (r : Rule) → length r.marks ≤ 6 → {row : List ℕ} → PackedRow row → FiresOn r (unpacked row) → (m i : ℕ) → first_place m r.marks ≡ suc i → value_of r.marks (unpacked row).numbers m ≡ some (get_or row (suc i) 0)
value_row r few {row} p a m i e =
    value_first r.marks (unpacked row).numbers 0 m (agree_length r.marks (unpacked row).numbers a.1)
    ∙ ap (at_place (unpacked row).numbers 0) e
    ∙ ap some (packed-number p i (omega (arith, first_within m r.marks, few, e))
    ∙ ap (λ (n : ℕ). get_or row n 0) (let z : 1 + i ≡ suc i = omega arith in z))

-- Of two records on which the rule fires, they are the same just if the carried values are.
module _ (r : Rule) {row other : List ℕ} (p : PackedRow row) (q : PackedRow other) (a : FiresOn r (unpacked row)) (b : FiresOn r (unpacked other)) (few : length r.marks ≤ 6) where
  pub same_carried : SameCarried r row other → carried_values r (unpacked row).numbers ≡ carried_values r (unpacked other).numbers
  same_carried s =
      ap present (map_same (value_of r.marks (unpacked row).numbers) (value_of r.marks (unpacked other).numbers) (carried_marks r)
      (λ m i. let f = first_at m r.marks (carried_in r m i).0 in
      value_row r few p a m f.0 f.1
      ∙ ap some (s.each (suc f.0) (omega arith) (omega (arith, first_within m r.marks, few, f.1)) (ap (source_at r) (sym f.1) ∙ carried_source r m i))
      ∙ sym (value_row r few q b m f.0 f.1)))

  pub carried_same : carried_values r (unpacked row).numbers ≡ carried_values r (unpacked other).numbers → SameCarried r row other
  carried_same e = record { each = λ n l k s. go n l (source_is r n s) }
    where
      at : (n m : ℕ) → 1 ≤ n → In m (carried_marks r) → n ≡ first_place m r.marks → get_or row n 0 ≡ get_or other n 0
      at zero m l i z = absurd (omega arith)
      at (suc j) m l i z =
          some-injective (get_or row (suc j) 0) (get_or other (suc j) 0)
          (sym (value_row r few p a m j (sym z))
          ∙ present_same (value_of r.marks (unpacked row).numbers) (value_of r.marks (unpacked other).numbers) (carried_marks r)
          (λ k c. agree_has_value r.marks (unpacked row).numbers k a.1 (carried_in r k c).0)
          (λ k c. agree_has_value r.marks (unpacked other).numbers k b.1 (carried_in r k c).0) e m i
          ∙ value_row r few q b m j (sym z))

      go : (n : ℕ) → 1 ≤ n → Source r n → get_or row n 0 ≡ get_or other n 0
      go n l (nothing z w) = absurd (omega arith)
      go n l (first m i z) = at n m l i z

-- ---- found

-- A pair that is looked for is in its bucket.
pub pair_falls : (by : ℕ) (table numbers index : List ℕ) (r i b : ℕ) → b ≡ pair_bucket by (rule_at table r) r (row_at numbers i) → (j : ℕ) → IsPair table numbers index r i j
    → bucket_of_pair by table numbers index j ≡ b
pair_falls by table numbers index r i b e j p =
    ap (λ (n : ℕ). pair_bucket by (rule_at table n) n (row_at numbers (record_of index j))) p.rule
    ∙ bucket_same by (rule_at table r) (row_at numbers (record_of index j)) (row_at numbers i) r p.carried ∙ sym e
