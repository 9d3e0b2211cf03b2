-- For each bucket a chain of the places that fall into it, the latest first, whatever has a bucket. Assumes nothing.
use Rattle.std.specs.Prelude.{◌≡◌, List, ℕ, zero, suc, ◌≤◌, ◌<◌, length, get_or}
use Rattle.std.proofs.Math.Decide.{ℕ_discrete}

abbrev pub choose : {P : Type 0} → Dec P → ℕ → ℕ → ℕ
choose (yes p) a b = a
choose (no h) a b = b

-- The last place below n whose bucket is b, counted from 1; 0 where there is none.
abbrev pub last_in : (ℕ → ℕ) → ℕ → ℕ → ℕ
last_in bucket b zero = 0
last_in bucket b (suc n) = choose (ℕ_discrete (bucket n) b) (suc n) (last_in bucket b n)

-- The chains of the first so many places, each in its bucket: where each chain begins, and where each place leads. There is room for so many buckets and places.
pub record Chains (buckets places : ℕ) (bucket : ℕ → ℕ) (heads next : List ℕ) (count : ℕ) : Type 0 where
  pub small : count ≤ places
  pub heads_room : length heads ≡ buckets
  pub next_room : length next ≡ places
  pub heads_are : (b : ℕ) → b < buckets → get_or heads b 0 ≡ last_in bucket b count
  pub next_are : (i : ℕ) → i < count → get_or next i 0 ≡ last_in bucket (bucket i) i

-- Found at a place, or nowhere: then `count` is answered.
pub record FoundAt (Is : ℕ → Type 0) (count r : ℕ) : Type 0 where
  pub within : r ≤ count
  pub there : r < count → Is r
  pub nowhere : r ≡ count → (j : ℕ) → j < count → Is j → ⊥
