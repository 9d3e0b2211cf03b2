-- The share said without its formula: within a half of what is rounded, even where it is just a half away, and no other number is so. Assumes nothing.
use mathlib.Core.Path.{◌≡◌, refl, sym}
use mathlib.Core.Logic.{◌↔◌}
use Prim.Native.Nat.{ℕ, zero, suc, ◌+◌, ◌*◌, ◌/◌, ◌%◌, ◌≤◌, ◌<◌}
use native.Mathlib.Decide.{ℕ_discrete, dec_lt}
use native.Mathlib.Nat.{mul-le-mul_right, mod-lt, div-add-mod', suc-mul, add-mul}
use native.Mathlib.Omega.{arith}
use borrow.Author.Tests.{eq-eqb, ne_eqb, lt-ltb, le-ltb}
use Rattle.chase.specs.Counting.{nearest, share}
use Rattle.chase.specs.Rounding.{Even, Rounds}

-- ---- the neighbours of a quotient

module _ (part whole down rest : ℕ) (divided : down * whole + rest ≡ 100 * part) (left : rest < whole) where
  -- The one below, where at most a half is left over.
  pub rounds_down : 2 * rest ≤ whole → (2 * rest ≡ whole → Even down) → Rounds part whole down
  rounds_down most even =
      record {
        not_above = omega arith;
        not_below = omega arith;
        half_above = λ h. absurd (omega arith);
        half_below = λ h. even (omega arith);
      }

  -- The one above, where at least a half is.
  pub rounds_up : whole ≤ 2 * rest → (2 * rest ≡ whole → Even (down + 1)) → Rounds part whole (down + 1)
  rounds_up least even =
      let more = add-mul down 1 whole in
      record {
        not_above = omega arith;
        not_below = omega arith;
        half_above = λ h. even (omega arith);
        half_below = λ h. absurd (omega arith);
      }

  -- Less than a half, more, and a half with an even or an odd number below it.
  nearest-rounds : Rounds part whole (nearest down rest whole)
  unfolding nearest
  nearest-rounds = go (dec_lt (2 * rest) whole) (dec_lt whole (2 * rest)) (ℕ_discrete (down % 2) 0)
    where
      go : Dec (2 * rest < whole) → Dec (whole < 2 * rest) → Dec (Even down) → Rounds part whole (nearest down rest whole)
      go (yes l) _ _ = rw (lt-ltb (2 * rest) whole l) (rounds_down (omega arith) (λ e. omega arith))
      go (no f) (yes g) _ = rw (le-ltb (2 * rest) whole (omega arith), lt-ltb whole (2 * rest) g) (rounds_up (omega arith) (λ e. omega arith))
      go (no f) (no g) (yes e) =
          rw (le-ltb (2 * rest) whole (omega arith), le-ltb whole (2 * rest) (omega arith), eq-eqb (down % 2) 0 e)
          (rounds_down (omega arith) (λ _. e))
      go (no f) (no g) (no o) =
          rw (le-ltb (2 * rest) whole (omega arith), le-ltb whole (2 * rest) (omega arith), ne_eqb (down % 2) 0 o)
          (rounds_up (omega arith) (λ _. omega arith))

-- ---- no two numbers are so

module _ (part whole s t : ℕ) (some-whole : 0 < whole) (p : Rounds part whole s) (q : Rounds part whole t) where
  -- One below the other is a half below, the other a half above; but even numbers are two apart.
  not_below_another : s < t → ⊥
  not_below_another l =
      let a = p.not_below in
      let b = q.not_above in
      let one : suc s * whole ≤ t * whole = mul-le-mul_right whole l in
      let e = suc-mul s whole in
      let even_s : Even s = p.half_below (omega arith) in
      let even_t : Even t = q.half_above (omega arith) in
      let two : suc (suc s) * whole ≤ t * whole = mul-le-mul_right whole (omega arith) in
      let f = suc-mul (suc s) whole in
      omega arith

rounds_one : (part whole s t : ℕ) → 0 < whole → Rounds part whole s → Rounds part whole t → s ≡ t
rounds_one part whole s t w p q = go (dec_lt s t) (dec_lt t s)
  where
    go : Dec (s < t) → Dec (t < s) → s ≡ t
    go (yes l) _ = absurd (not_below_another part whole s t w p q l)
    go (no f) (yes g) = absurd (not_below_another part whole t s w q p g)
    go (no f) (no g) = omega arith

share-rounds : (part whole : ℕ) → 0 < whole → Rounds part whole (share part whole)
unfolding share
share-rounds part whole w =
    rw (ne_eqb whole 0 (λ e. omega arith))
    (nearest-rounds part whole (100 * part / whole) (100 * part % whole) (div-add-mod' (100 * part) whole) (mod-lt (100 * part) w))

-- THE THEOREM: the share is the one number that is within a half of 100 × part / whole, and even where it is just a half away.
pub share_means : (part whole s : ℕ) → 0 < whole → (s ≡ share part whole) ↔ Rounds part whole s
share_means part whole s w = (
  λ e. rw e (share-rounds part whole w),
  λ r. rounds_one part whole s (share part whole) w r (share-rounds part whole w),
)

-- Where the whole is 0, it is 0.
pub share_of_nothing : (part : ℕ) → share part 0 ≡ 0
unfolding share
share_of_nothing part = refl

-- DOCUMENT 02'S EXAMPLES

-- One of eight is 12, between 12 and 13; three of eight 38, between 37 and 38.
pub one_of_eight : share 1 8 ≡ 12
unfolding share
one_of_eight = refl

pub three_of_eight : share 3 8 ≡ 38
unfolding share
three_of_eight = refl

-- More that are a half away from two numbers; a share can be 0 though a rule fired.
pub more_halves : (share 5 8 ≡ 62) × (share 7 8 ≡ 88) × (share 1 40 ≡ 2) × (share 1 200 ≡ 0) × (share 3 200 ≡ 2)
unfolding share
more_halves = (refl, refl, refl, refl, refl)

-- DOCUMENT 01'S OTHER SHARES

-- Where s × whole is 100 × part, s is the share.
share_exact : (part whole s : ℕ) → 0 < whole → s * whole ≡ 100 * part → share part whole ≡ s
share_exact part whole s w e =
    sym ((share_means part whole s w).1
    (record { not_above = omega arith; not_below = omega arith; half_above = λ h. absurd (omega arith); half_below = λ h. absurd (omega arith) }))

-- Of no part it is 0.
pub share_of_no_part : (whole : ℕ) → share 0 whole ≡ 0
share_of_no_part zero = share_of_nothing 0
share_of_no_part (suc n) = share_exact 0 (suc n) 0 (omega arith) (omega arith)

-- Of the whole it is 100.
pub share_of_the_whole : (whole : ℕ) → 0 < whole → share whole whole ≡ 100
share_of_the_whole whole w = share_exact whole whole 100 w refl

-- Of a part of the whole it is at most 100.
pub share_at_most_100 : (part whole : ℕ) → part ≤ whole → share part whole ≤ 100
share_at_most_100 part zero l = rw (share_of_nothing part) (omega arith)
share_at_most_100 part (suc n) l = go (dec_lt 100 (share part (suc n)))
  where
    go : Dec (100 < share part (suc n)) → share part (suc n) ≤ 100
    go (no f) = omega arith
    go (yes g) =
        let most = (share-rounds part (suc n) (omega arith)).not_above in
        let more : 101 * suc n ≤ share part (suc n) * suc n = mul-le-mul_right (suc n) g in
        absurd (omega arith)
