-- Laws of the buckets. Assumes nothing.
use mathlib.Core.Path.{◌≡◌, refl, sym, ◌∙◌, ap}
use mathlib.Core.List.{List}
use Prim.Native.Nat.{ℕ, suc, ◌+◌, ◌≤◌, ◌<◌}
use native.Mathlib.Omega.{arith}
use lib.ListN.{length, get_or, drop, drop_of_length-le}
use lib.Seq.{drop-cons}
use Rattle.running.specs.Inner.Chains.{mixed, bucket_in, mixed_all, bucket_of}

pub bucket_small : (h : ℕ) → h < 4294967296 → bucket_in h < 4096
bucket_small h l = omega arith

-- A row's bucket, number by number.
pub bucket_begin : (by : ℕ) (row : List ℕ) → bucket_in (mixed_all by 0 (drop 0 row)) ≡ bucket_of by row
unfolding bucket_of
bucket_begin by row = refl

pub bucket_step : (by : ℕ) (row : List ℕ) (h k r : ℕ) → k < length row → r ≡ mixed by h (get_or row k 0) → bucket_in (mixed_all by h (drop k row)) ≡ bucket_of by row
    → bucket_in (mixed_all by r (drop (k + 1) row)) ≡ bucket_of by row
bucket_step by row h k r l e q =
    let more : k + 1 ≡ suc k = omega arith in
    ap (λ (j : ℕ). bucket_in (mixed_all by r (drop j row))) more ∙ ap (λ (j : ℕ). bucket_in (mixed_all by j (drop (suc k) row))) e
    ∙ sym (ap (λ (l : List ℕ). bucket_in (mixed_all by h l)) (drop-cons row k 0 l)) ∙ q

pub bucket_end : (by : ℕ) (row : List ℕ) (h k : ℕ) → length row ≤ k → bucket_in (mixed_all by h (drop k row)) ≡ bucket_of by row → bucket_in h ≡ bucket_of by row
bucket_end by row h k l q = sym (ap (λ (l : List ℕ). bucket_in (mixed_all by h l)) (drop_of_length-le row l)) ∙ q
