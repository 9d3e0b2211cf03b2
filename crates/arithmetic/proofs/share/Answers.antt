-- `share` meets its contract: each number that it returns is within a half, and even where it is a half away. Assumes nothing.
use mathlib.Core.Path.{◌≡◌, sym, ap, ◌∙◌}
use Prim.Native.Nat.{ℕ, ◌+◌, ◌*◌, ◌/◌, ◌%◌, ◌≤◌, ◌<◌}
use native.Mathlib.Nat.{mod-le, mod-lt, div-le_self, div-add-mod'}
use native.Mathlib.Omega.{arith}
use Rattle.chase.specs.Counting.{share as share_of}
use Rattle.chase.specs.Rounding.{Even}
use Rattle.chase.proofs.Share.{share_means, share_of_nothing, rounds_down, rounds_up}
use Rattle.arithmetic.proofs.share.Goals as goal

-- The two numbers that can be returned.
module _ (part whole : ℕ) (some : 0 < whole) where
  down_is_share : 2 * (100 * part % whole) ≤ whole → (2 * (100 * part % whole) ≡ whole → Even (100 * part / whole)) → 100 * part / whole ≡ share_of part whole
  down_is_share most even =
      (share_means part whole (100 * part / whole) some).1
      (rounds_down part whole (100 * part / whole) (100 * part % whole) (div-add-mod' (100 * part) whole) (mod-lt (100 * part) some) most even)

  up_is_share : whole ≤ 2 * (100 * part % whole) → (2 * (100 * part % whole) ≡ whole → Even (100 * part / whole + 1)) → 100 * part / whole + 1 ≡ share_of part whole
  up_is_share least even =
      (share_means part whole (100 * part / whole + 1) some).1
      (rounds_up part whole (100 * part / whole) (100 * part % whole) (div-add-mod' (100 * part) whole) (mod-lt (100 * part) some) least even)

pub returns-then-whole-eq0 : goal.returns-then-whole-eq0
returns-then-whole-eq0 c = sym (ap (share_of c.args.part) c.if-whole-eq0.true ∙ share_of_nothing c.args.part)

pub overflow_mul-twice_rest : goal.overflow_mul-twice_rest
overflow_mul-twice_rest c = let a = c.args in omega (arith, mod-le (100 * a.part) a.whole)

pub returns-then-twice_rest-by : goal.returns-then-twice_rest-by
returns-then-twice_rest-by c =
    let a = c.args in
    let some = c.if-whole-eq0.false in
    let less = c.if-twice_rest-by.true in
    down_is_share a.part a.whole (omega arith) (omega arith) (λ h. omega arith)

pub overflow_add-result : goal.overflow_add-result
overflow_add-result c = let a = c.args in omega (arith, div-le_self (100 * a.part) a.whole)

pub returns-then-by-twice_rest : goal.returns-then-by-twice_rest
returns-then-by-twice_rest c =
    let a = c.args in
    let some = c.if-whole-eq0.false in
    let more = c.if-by-twice_rest.true in
    up_is_share a.part a.whole (omega arith) (omega arith) (λ h. omega arith)

pub returns-then-down-eq0 : goal.returns-then-down-eq0
returns-then-down-eq0 c =
    let a = c.args in
    let some = c.if-whole-eq0.false in
    let least = c.if-twice_rest-by.false in
    let most = c.if-by-twice_rest.false in
    let even = c.if-down-eq0.true in
    down_is_share a.part a.whole (omega arith) (omega arith) (λ h. omega arith)

pub overflow_add-result-2 : goal.overflow_add-result-2
overflow_add-result-2 c = let a = c.args in omega (arith, div-le_self (100 * a.part) a.whole)

pub returns : goal.returns
returns c =
    let a = c.args in
    let some = c.if-whole-eq0.false in
    let least = c.if-twice_rest-by.false in
    let most = c.if-by-twice_rest.false in
    let odd = c.if-down-eq0.false in
    up_is_share a.part a.whole (omega arith) (omega arith) (λ h. omega arith)
