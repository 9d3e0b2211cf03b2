-- The pairs of a rule and its carried values that are noted. Assumes nothing.
use Rattle.std.specs.Prelude.{◌≡◌, cond, List, [], ◌∷◌, ◌++◌, ℕ, zero, suc, ◌+◌, ◌≤◌, ◌<◌, eqb, length, get_or}
use Rattle.chase.specs.Rules.{Rule}
use Rattle.rules.specs.Table.{source_at}
use Rattle.carrying.specs.Carrying.{Pair, FiresOn, pair_of}
use Rattle.running.specs.Inner.Chains.{mixed, bucket_in, Chains}
use Rattle.running.specs.Inner.Held.{section, row_at}
use Rattle.running.specs.Inner.Firing.{rule_at, row_no, RecordIn}

-- The values at the first places of the carried marks, mixed: n places from p on.
abbrev pub mixed_from : ℕ → Rule → List ℕ → ℕ → ℕ → ℕ → ℕ
mixed_from by r row h p zero = h
mixed_from by r row h p (suc n) = mixed_from by r row (cond (eqb (source_at r p) 1) (mixed by h (get_or row p 0)) h) (suc p) n

-- The bucket of a rule, by its number, with a record.
unfoldable pub pair_bucket : ℕ → Rule → ℕ → List ℕ → ℕ
pair_bucket by r number row = bucket_in (mixed_from by r row (mixed by 1 number) 1 6)

-- Two records have the same values at the first places of the carried marks.
pub record SameCarried (r : Rule) (row other : List ℕ) : Type 0 where
  pub each : (p : ℕ) → 1 ≤ p → p < 7 → source_at r p ≡ 1 → get_or row p 0 ≡ get_or other p 0

-- The rule and the record of pair j.
abbrev pub rule_of : List ℕ → ℕ → ℕ
rule_of index j = get_or index (16384 + j) 0

abbrev pub record_of : List ℕ → ℕ → ℕ
record_of index j = get_or index (20480 + j) 0

-- Pair j is rule r with the carried values of record i.
pub record IsPair (table numbers index : List ℕ) (r i j : ℕ) : Type 0 where
  pub rule : rule_of index j ≡ r
  pub carried : SameCarried (rule_at table r) (row_at numbers (record_of index j)) (row_at numbers i)

-- The bucket of pair j.
abbrev pub bucket_of_pair : ℕ → List ℕ → List ℕ → List ℕ → ℕ → ℕ
bucket_of_pair by table numbers index j = pair_bucket by (rule_at table (rule_of index j)) (rule_of index j) (row_at numbers (record_of index j))

-- The records of so many pairs are held.
pub record RecordsIn (numbers index : List ℕ) (count : ℕ) : Type 0 where
  pub each : (j : ℕ) → j < count → RecordIn numbers (record_of index j)

-- So many pairs are noted, of so many rules and records, and found by the next two sections.
pub record Noted (by : ℕ) (table numbers index : List ℕ) (rules rows count : ℕ) : Type 0 where
  pub size : length index ≡ 24576
  pub rules_there : (j : ℕ) → j < count → rule_of index j < rules
  pub records_there : (j : ℕ) → j < count → record_of index j < rows
  pub fired : (j : ℕ) → j < count → FiresOn (rule_at table (rule_of index j)) (row_no numbers (record_of index j))
  pub chain : Chains (bucket_of_pair by table numbers index) (section 2 index) (section 3 index) count

-- They are noted under some multiplier, by which b is the bucket of rule r with record i.
pub record InBucket (table numbers index : List ℕ) (rules count r i b : ℕ) : Type 0 where
  pub by : ℕ
  pub noted : Noted by table numbers index rules 4096 count
  pub is : b ≡ pair_bucket by (rule_at table r) r (row_at numbers i)

-- The first so many pairs.
abbrev pub pairs_at : List ℕ → List ℕ → List ℕ → ℕ → List (Pair ℕ)
pairs_at table numbers index zero = []
pairs_at table numbers index (suc n) =
    pairs_at table numbers index n ++ (pair_of (suc (rule_of index n)) (rule_at table (rule_of index n)) (row_no numbers (record_of index n)) ∷ [])
