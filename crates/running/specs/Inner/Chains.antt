-- Chains of 4,096 places in 4,096 buckets, and the buckets of records. Assumes nothing.
use Rattle.std.specs.Prelude.{Option, Some, None, List, [], ◌∷◌, ℕ, ◌+◌, ◌*◌, ◌/◌, ◌%◌, ◌<◌}
use Rattle.chains.specs.Inner.Chains.{Chains as ChainsOf}

-- For each bucket a chain of the places that fall into it.
abbrev pub Chains : (ℕ → ℕ) → List ℕ → List ℕ → ℕ → Type 0
Chains = ChainsOf 4096 4096

-- Found at a place, or nowhere.
abbrev pub FoundIn : (ℕ → Type 0) → ℕ → Option ℕ → Type 0
FoundIn Is count (Some at) = (at < count) × Is at
FoundIn Is count None = (j : ℕ) → j < count → Is j → ⊥

-- ---- buckets

-- One number more, under a multiplier: 32 bits of the product.
abbrev pub mixed : ℕ → ℕ → ℕ → ℕ
mixed by h x = (h + x) * by % 4294967296

-- The bucket of what is mixed: its highest twelve bits.
abbrev pub bucket_in : ℕ → ℕ
bucket_in h = h / 1048576

abbrev pub mixed_all : ℕ → ℕ → List ℕ → ℕ
mixed_all by h [] = h
mixed_all by h (x ∷ xs) = mixed_all by (mixed by h x) xs

-- The bucket of a record, number by number.
unfoldable pub bucket_of : ℕ → List ℕ → ℕ
bucket_of by row = bucket_in (mixed_all by 0 row)
