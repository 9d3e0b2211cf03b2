-- Seven numbers of a record are enough: more than six have no pattern. Assumes nothing.
use mathlib.Core.Path.{◌≡◌, sym, ap, ◌∙◌}
use mathlib.Core.List.{List, ◌++◌}
use Prim.Native.Nat.{ℕ, ◌/◌, ◌≤◌, ◌<◌, min}
use native.Mathlib.Decide.{dec_le}
use native.Mathlib.Omega.{arith}
use borrow.Author.Tests.{ne_eqb, lt-ltb}
use lib.ListN.{length, take}
use Rattle.patterns.specs.Outcome.{refused}
use Rattle.patterns.specs.Pattern.{pattern_of}
use Rattle.followup.specs.Bytes.{numbers_from, numbers_of}
use Rattle.followup.proofs.ByteLaws.{length-numbers_from, numbers_taken}

many_numbers : (xs : List ℕ) → 6 < length xs → pattern_of xs ≡ refused 10 0
many_numbers xs h = rw (ne_eqb (length xs) 0 (λ e. omega arith), lt-ltb 6 (length xs) h)

seven_enough : (n : ℕ) (bytes : List ℕ) → pattern_of (numbers_from 4 (min n 7) bytes) ≡ pattern_of (numbers_from 4 n bytes)
seven_enough n bytes = go (dec_le n 7)
  where
    go : Dec (n ≤ 7) → pattern_of (numbers_from 4 (min n 7) bytes) ≡ pattern_of (numbers_from 4 n bytes)
    go (yes h) = ap (λ k. pattern_of (numbers_from 4 k bytes)) (let e : min n 7 ≡ n = omega arith in e)
    go (no h) =
        many_numbers (numbers_from 4 (min n 7) bytes) (omega (arith, length-numbers_from 4 (min n 7) bytes))
        ∙ sym (many_numbers (numbers_from 4 n bytes) (omega (arith, length-numbers_from 4 n bytes)))

-- The pattern of the numbers that were decoded is that of all.
pub pattern-found :
    (bytes after rest : List ℕ) (count : ℕ) → count ≡ min (length bytes / 4) 7 → after ≡ numbers_from 4 count bytes ++ rest
    → pattern_of (take count after) ≡ pattern_of (numbers_of 4 bytes)
pattern-found bytes after rest count e d =
    ap pattern_of (numbers_taken 4 count bytes after rest d) ∙ ap (λ k. pattern_of (numbers_from 4 k bytes)) e ∙ seven_enough (length bytes / 4) bytes
