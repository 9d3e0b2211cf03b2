-- The laws of decimals: the two cases of a number in decimal, its length, and how it is read back. Assumes nothing.
use mathlib.Core.Path.{◌≡◌, refl, ap, ◌∙◌}
use mathlib.Core.Bool.{false}
use mathlib.Core.List.{List, [], ◌∷◌, ◌++◌, append_assoc}
use mathlib.Core.Logic.{by_cases}
use Prim.Native.Nat.{ℕ, zero, suc, ◌+◌, ◌-◌, ◌*◌, ◌/◌, ◌%◌, ◌^◌, ◌≤◌, ◌<◌}
use native.Mathlib.Nat.{add-sub_cancel_left, div-add-mod, pow-suc}
use native.Mathlib.Decide.{dec_lt}
use native.Mathlib.Omega.{arith}
use lib.ListN.{length, length-append}
use borrow.Author.Tests.{le-leb}
use Rattle.sentences.specs.Decimal.{digits, decimal}
use Rattle.sentences.specs.Reader.{is_digit, number}

-- More fuel than the number changes nothing.
digits_fuel : (f g n : ℕ) → n ≤ f → n ≤ g → digits f n ≡ digits g n
digits_fuel zero zero n hf hg = refl
digits_fuel zero (suc g) zero hf hg = refl
digits_fuel zero (suc g) (suc n) hf hg = absurd (omega arith)
digits_fuel (suc f) zero zero hf hg = refl
digits_fuel (suc f) zero (suc n) hf hg = absurd (omega arith)
digits_fuel (suc f) (suc g) zero hf hg = refl
digits_fuel (suc f) (suc g) (suc n) hf hg = rw (digits_fuel f g (suc n / 10) (omega arith) (omega arith))

digits_decimal : (f n : ℕ) → 0 < n → n ≤ f → digits f n ≡ decimal n
unfolding decimal
digits_decimal zero n positive enough = absurd (omega arith)
digits_decimal (suc f) zero positive enough = absurd (omega arith)
digits_decimal (suc f) (suc n) positive enough = rw (digits_fuel f (suc n) (suc n / 10) (omega arith) (omega arith))

-- A number below 10 is one digit.
pub decimal_one : (n : ℕ) → n < 10 → decimal n ≡ (48 + n) ∷ []
unfolding decimal
decimal_one n h =
    let none_before : n / 10 ≡ 0 = omega arith in
    let last : n % 10 ≡ n = omega arith in
    ap (λ (k : ℕ). digits n k ++ ((48 + n % 10) ∷ [])) none_before ∙ ap (λ (k : ℕ). digits n 0 ++ ((48 + k) ∷ [])) last ∙ digits-zero n
  where
    digits-zero : (f : ℕ) → digits f 0 ++ ((48 + n) ∷ []) ≡ (48 + n) ∷ []
    digits-zero zero = refl
    digits-zero (suc f) = refl

decimal_opened : (n : ℕ) → decimal n ≡ digits n (n / 10) ++ ((48 + n % 10) ∷ [])
unfolding decimal
decimal_opened n = refl

-- Any other number is that without its last digit, and the digit.
pub decimal_more : (n : ℕ) → 10 ≤ n → decimal n ≡ decimal (n / 10) ++ ((48 + n % 10) ∷ [])
decimal_more n h =
    decimal_opened n ∙ ap (λ (l : List ℕ). l ++ ((48 + n % 10) ∷ [])) (digits_decimal n (n / 10) (omega arith) (omega arith))

pub length-decimal_one : (n : ℕ) → n < 10 → length (decimal n) ≡ 1
length-decimal_one n h = ap length (decimal_one n h)

pub length-decimal_more : (n : ℕ) → 10 ≤ n → length (decimal n) ≡ length (decimal (n / 10)) + 1
length-decimal_more n h = ap length (decimal_more n h) ∙ length-append (decimal (n / 10)) ((48 + n % 10) ∷ [])

power-some : (k : ℕ) → 1 ≤ 10 ^ k
power-some zero = omega arith
power-some (suc k) = omega (arith, pow-suc 10 k, power-some k)

-- A number has one digit more than the largest power of 10 in it.
pub length-decimal_power : (k n : ℕ) → 10 ^ k ≤ n → n < 10 * 10 ^ k → length (decimal n) ≡ k + 1
length-decimal_power zero n low high = length-decimal_one n (omega arith)
length-decimal_power (suc k) n low high =
    let e = pow-suc 10 k in
    let some = power-some k in
    omega (arith, length-decimal_more n (omega arith), length-decimal_power k (n / 10) (omega arith) (omega arith))

-- A number below a power of 10 has no more digits than the power says.
pub length-decimal_most : (k n : ℕ) → n < 10 ^ suc k → length (decimal n) ≤ suc k
length-decimal_most zero n h = omega (arith, length-decimal_one n (omega arith))
length-decimal_most (suc k) n h =
    by_cases (dec_lt n 10)
    (λ small. omega (arith, length-decimal_one n small))
    (λ large. omega (arith, length-decimal_more n (omega arith), length-decimal_most k (n / 10) (omega (arith, pow-suc 10 (suc k)))))

number_digit : (n d : ℕ) (rest : List ℕ) → d < 10 → number n ((48 + d) ∷ rest) ≡ number (10 * n + d) rest
number_digit n d rest h =
    rw (le-leb 48 (48 + d) (omega arith), le-leb (48 + d) 57 (omega arith), add-sub_cancel_left)

number_digits : (f n : ℕ) (rest : List ℕ) → n ≤ f → number 0 (digits f n ++ rest) ≡ number n rest
number_digits zero zero rest h = refl
number_digits zero (suc n) rest h = absurd (omega arith)
number_digits (suc f) zero rest h = refl
number_digits (suc f) (suc n) rest h =
    rw (append_assoc, number_digits f (suc n / 10) ((48 + suc n % 10) ∷ rest) (omega arith))
    (number_digit (suc n / 10) (suc n % 10) rest (omega arith) ∙ ap (λ (k : ℕ). number k rest) (div-add-mod (suc n) 10))

-- Bytes that do not begin with a digit.
abbrev pub NoDigit : List ℕ → Type 0
NoDigit [] = Unit {0}
NoDigit (b ∷ bs) = is_digit b ≡ false

number_ends : (n : ℕ) (rest : List ℕ) → NoDigit rest → number n rest ≡ record { value = n; rest = rest }
number_ends n [] h = refl
number_ends n (b ∷ bs) h = rw h

-- A number in decimal is read as the number, up to what follows it and does not begin with a digit.
pub number-decimal : (n : ℕ) (rest : List ℕ) → NoDigit rest → number 0 (decimal n ++ rest) ≡ record { value = n; rest = rest }
unfolding decimal
number-decimal n rest other =
    rw (append_assoc, number_digits n (n / 10) ((48 + n % 10) ∷ rest) (omega arith))
    (number_digit (n / 10) (n % 10) rest (omega arith) ∙ ap (λ (k : ℕ). number k rest) (div-add-mod n 10) ∙ number_ends n rest other)
