-- Different values, held in places and found by a hash. Assumes nothing.
use Rattle.std.specs.Prelude.{◌≡◌, List, [], ℕ, ◌*◌, ◌/◌, ◌%◌, ◌≤◌, ◌<◌, length, get_or}
use Rattle.std.proofs.Math.Decide.{ℕ_discrete}
use Rattle.patterns.specs.Pattern.{add_all}
use Rattle.rules.specs.Table.{lines_in}
use Rattle.carrying.specs.Carrying.{numbers_in, zeros as zeros_in, table_rows}
use Rattle.chains.specs.Inner.Chains.{Chains}

-- The bucket of a value under a multiplier: the highest twelve of 32 bits of the product.
unfoldable pub bucket_of : ℕ → ℕ → ℕ
bucket_of by x = x * by % 4294967296 / 1048576

-- The bucket of the value at a place.
abbrev pub bucket_at : ℕ → List ℕ → ℕ → ℕ
bucket_at by values i = bucket_of by (get_or values i 0)

-- A value is at a place.
abbrev pub IsAt : List ℕ → ℕ → ℕ → Type 0
IsAt values x i = get_or values i 0 ≡ x

-- So many values are held, and found by the chains of their buckets.
pub record Stored (by : ℕ) (values heads next : List ℕ) (count : ℕ) : Type 0 where
  pub room : length values ≡ 6144
  pub mixing : by < 2147483648
  pub chain : Chains 4096 6144 (bucket_at by values) heads next count

-- So many different numbers the rows of lent lines have, 0 among them, and so many zeros.
pub record ValuesAre (lines : List ℕ) (count zeros : ℕ) : Type 0 where
  pub different_are : count ≡ length (add_all ℕ_discrete (numbers_in (table_rows (lines_in lines))) [])
  pub zeros_are : zeros ≡ zeros_in (numbers_in (table_rows (lines_in lines)))
  pub few : count ≤ 6144
  pub few_zeros : zeros ≤ 6144
