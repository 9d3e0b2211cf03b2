-- What the memory of a run holds: its records, and an index of six sections. Assumes nothing.
use Rattle.std.specs.Prelude.{◌≡◌, Option, Some, None, List, ℕ, ◌*◌, ◌≤◌, ◌<◌, length, get_or, take, drop}
use Rattle.carrying.specs.Carrying.{Row}
use Rattle.running.specs.Inner.Chains.{bucket_of, Chains}
pub use Rattle.running.specs.Held.{code_of, packed, unpacked, PackedRow, row_at, rows_at, records_fit}

-- The bucket of a record.
abbrev pub bucket_at : ℕ → List ℕ → ℕ → ℕ
bucket_at by numbers i = bucket_of by (row_at numbers i)

-- A section of the index.
abbrev pub section : ℕ → List ℕ → List ℕ
section c index = take 4096 (drop (4096 * c) index)

-- So many records are held, and found by the first two sections.
pub record Stored (numbers index : List ℕ) (by count : ℕ) : Type 0 where
  pub room : records_fit numbers
  pub size : length index ≡ 24576
  pub mixing : by < 2147483648
  pub few : count ≤ 4096
  pub each : (i : ℕ) → i < count → PackedRow (row_at numbers i)
  pub chain : Chains (bucket_at by numbers) (section 0 index) (section 1 index) count

-- The records are these, with those from before in their places; or there are more than there is room for. The other sections stay.
pub record Grown (numbers index : List ℕ) (by count : ℕ) (numbers' index' : List ℕ) (r : ℕ) (new : List Row) : Type 0 where
  pub room : length numbers' ≡ length numbers
  pub size : length index' ≡ 24576
  pub more : count ≤ r
  pub stored : r ≤ 4096 → Stored numbers' index' by r
  pub rows_are : r ≤ 4096 → rows_at numbers' r ≡ new
  pub over : 4096 < r → 4096 < length new
  pub same : (i : ℕ) → i < count → row_at numbers' i ≡ row_at numbers i
  pub beyond : (j : ℕ) → 8192 ≤ j → get_or index' j 0 ≡ get_or index j 0

-- What is said of an answer with so many records, or, where none is given, of more records than there is room for.
abbrev pub OrOver : {A : Type 0} → (A → ℕ) → (A → Type 0) → Option A → Type 0
OrOver records Said (Some a) = (records a ≤ 4096) × Said a
OrOver {A} records Said None = (a : A) × (4096 < records a) × Said a
