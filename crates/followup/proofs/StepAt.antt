-- Step k of lent bytes by its five numbers alone. Assumes nothing.
use mathlib.Core.Path.{◌≡◌, refl, sym, ap, ap₂, ◌∙◌}
use mathlib.Core.List.{List, [], ◌∷◌}
use Prim.Native.Nat.{ℕ, suc, ◌+◌, ◌-◌, ◌*◌, ◌/◌, ◌≤◌, ◌<◌}
use native.Mathlib.Omega.{arith}
use borrow.Author.Tests.{le-leb}
use lib.ListN.{length, take, drop, length-drop}
use lib.Seq.{take_all, drop-drop}
use Rattle.steps.specs.Showing.{shown_at}
use Rattle.steps.proofs.ShowingLaws.{shown_at-part, shown_at-none}
use Rattle.followup.specs.Bytes.{number, numbers_from, numbers_of}
use Rattle.followup.proofs.ByteLaws.{length-numbers_from, drop_numbers}

-- Of more than five numbers the first step is by the first five.
first_five : (m : ℕ) (xs : List ℕ) → shown_at (numbers_from 2 (suc (suc (suc (suc (suc m))))) xs) 0 ≡ shown_at (numbers_from 2 5 xs) 0
first_five m xs =
    let more = numbers_from 2 m (drop 2 (drop 2 (drop 2 (drop 2 (drop 2 xs))))) in
    rw (le-leb 5 (suc (suc (suc (suc (suc (length more)))))) (omega arith)) refl

pub step_there : (bytes : List ℕ) (k : ℕ) → k < length bytes / 10 → shown_at (numbers_from 2 5 (drop (10 * k) bytes)) 0 ≡ shown_at (numbers_of 2 bytes) k
step_there bytes k there =
    let n : ℕ = length bytes / 2 in
    let m : ℕ = n - (k * 5 + 5) in
    let size : length (numbers_of 2 bytes) ≡ n = length-numbers_from 2 n bytes in
    let split : n ≡ k * 5 + suc (suc (suc (suc (suc m)))) = omega (arith, there) in
    let bytes_at : 2 * (k * 5) ≡ 10 * k = omega arith in
    let five : ℕ = suc (suc (suc (suc (suc m)))) in
    let rest : drop (k * 5) (numbers_of 2 bytes) ≡ numbers_from 2 five (drop (10 * k) bytes) =
    ap (λ (l : ℕ). drop (k * 5) (numbers_from 2 l bytes)) split ∙ drop_numbers 2 (k * 5) five bytes ∙ ap (λ (l : ℕ). numbers_from 2 five (drop l bytes)) bytes_at in
    let part = shown_at-part (numbers_of 2 bytes) k (omega (arith, there, size)) in
    let all = take_all (length (numbers_of 2 bytes) - k * 5) (drop (k * 5) (numbers_of 2 bytes)) (omega (arith, length-drop (k * 5) (numbers_of 2 bytes))) in
    sym (first_five m (drop (10 * k) bytes)) ∙ ap (λ l. shown_at l 0) (sym (all ∙ rest)) ∙ part

pub step_none : (bytes : List ℕ) (k : ℕ) → length bytes / 10 ≤ k → shown_at (0 ∷ 0 ∷ 0 ∷ 0 ∷ 0 ∷ []) 0 ≡ shown_at (numbers_of 2 bytes) k
step_none bytes k few = sym (shown_at-none (numbers_of 2 bytes) k (omega (arith, length-numbers_from 2 (length bytes / 2) bytes, few)))

-- Five numbers, each two bytes after the one before.
pub five_numbers : (bytes : List ℕ) (at : ℕ) {a b c d e : ℕ} → a ≡ number (take 2 (drop at bytes)) → b ≡ number (take 2 (drop (at + 2) bytes))
    → c ≡ number (take 2 (drop (at + 4) bytes)) → d ≡ number (take 2 (drop (at + 6) bytes)) → e ≡ number (take 2 (drop (at + 8) bytes))
    → a ∷ b ∷ c ∷ d ∷ e ∷ [] ≡ numbers_from 2 5 (drop at bytes)
five_numbers bytes at pa pb pc pd pe =
    let second = next at (at + 2) (omega arith) in
    let third = ap (drop 2) second ∙ next (at + 2) (at + 4) (omega arith) in
    let fourth = ap (drop 2) third ∙ next (at + 4) (at + 6) (omega arith) in
    let fifth = ap (drop 2) fourth ∙ next (at + 6) (at + 8) (omega arith) in
    put pa (put (from pb second) (put (from pc third) (put (from pd fourth) (put (from pe fifth) refl))))
  where
    next : (i j : ℕ) → j ≡ i + 2 → drop 2 (drop i bytes) ≡ drop j bytes
    next i j e = drop-drop 2 i bytes ∙ ap (λ (k : ℕ). drop k bytes) (sym e)

    from : {n : ℕ} {xs ys : List ℕ} → n ≡ number (take 2 ys) → xs ≡ ys → n ≡ number (take 2 xs)
    from p q = p ∙ ap (λ (l : List ℕ). number (take 2 l)) (sym q)

    put : {m n : ℕ} {ms ns : List ℕ} → m ≡ n → ms ≡ ns → m ∷ ms ≡ n ∷ ns
    put p q = ap₂ (λ (x : ℕ) (xs : List ℕ). x ∷ xs) p q
