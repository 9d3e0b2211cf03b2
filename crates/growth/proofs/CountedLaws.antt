-- Laws of counting: sums, how many lists of choices there are, and how many there may be of something. Assumes nothing.
use mathlib.Core.Path.{◌≡◌, refl, sym, ◌∙◌, ap}
use mathlib.Core.Bool.{Bool, true, false, cond}
use mathlib.Core.List.{List, [], ◌∷◌, map}
use Prim.Native.Nat.{ℕ, zero, suc, ◌+◌, ◌*◌, ◌≤◌}
use native.Mathlib.Nat.{zero-mul, suc-mul}
use native.Mathlib.Omega.{arith}
use lib.Dec.{leb}
use lib.ListN.{length, length-append, length-map}
use Rattle.chase.specs.Lists.{In}
use Rattle.chase.proofs.ListLaws.{map_in}
use Rattle.chase.proofs.CountLaws.{pigeonhole}
use Rattle.chase.proofs.Goings.{Numbered, next, numbered, each}
use Rattle.chase.proofs.FiniteLaws.{lists}
use Rattle.carrying.proofs.ListLaws.{no_two_map}
use Rattle.growth.specs.Forecast.{power, sum_of, exactly, beyond, figure_limit, figure}
use Rattle.growth.specs.Counted.{AtMost, Within, UpTo}

-- ---- sums

module _ {A : Type 0} where
  pub sum_constant : (c : ℕ) (xs : List A) → sum_of (λ x. c) xs ≡ length xs * c
  sum_constant c [] = sym (zero-mul c)
  sum_constant c (x ∷ xs) = rw (suc-mul (length xs) c) (omega (arith, sum_constant c xs))

  pub sum-le : (f g : A → ℕ) → ((x : A) → f x ≤ g x) → (xs : List A) → sum_of f xs ≤ sum_of g xs
  sum-le f g e [] = omega arith
  sum-le f g e (x ∷ xs) = omega (arith, e x, sum-le f g e xs)

sum-map : {A B : Type 0} (f : A → B) (g : B → ℕ) (xs : List A) → sum_of g (map f xs) ≡ sum_of (λ x. g (f x)) xs
sum-map f g [] = refl
sum-map f g (x ∷ xs) = ap (λ (n : ℕ). g (f x) + n) (sum-map f g xs)

-- A sum that asks for no number is the same over the elements with their numbers.
pub sum-numbered : {A : Type 0} (g : A → ℕ) (xs : List A) → sum_of (λ (n : Numbered A). g n.item) (numbered xs) ≡ sum_of g xs
sum-numbered g [] = refl
sum-numbered {A = A} g (x ∷ xs) =
    ap (λ (n : ℕ). g x + n) (sum-map next (λ (n : Numbered A). g n.item) (numbered xs) ∙ sum-numbered g xs)

-- ---- lists of choices

pub each_length : {A B : Type 0} (f : A → List B) (g : A → ℕ) → ((x : A) → length (f x) ≡ g x) → (l : List A) → length (each f l) ≡ sum_of g l
each_length f g e [] = refl
each_length f g e (x ∷ l) = omega (arith, length-append (f x) (each f l), e x, each_length f g e l)

-- There are as many lists of n elements as the power says.
pub lists_length : {A : Type 0} (vs : List A) (n : ℕ) → length (lists vs n) ≡ power (length vs) n
lists_length vs zero = refl
lists_length vs (suc n) =
    each_length (λ v. map (λ l. v ∷ l) (lists vs n)) (λ v. power (length vs) n) (λ v. length-map (lists vs n) (λ l. v ∷ l) ∙ lists_length vs n) vs
    ∙ sum_constant (power (length vs) n) vs

pub mapped_length : {A B : Type 0} (f : List A → B) (vs : List A) (n : ℕ) → length (map f (lists vs n)) ≡ power (length vs) n
mapped_length f vs n = length-map (lists vs n) f ∙ lists_length vs n

-- ---- how many there may be

pub at_most_listed : {A : Type 0} (P : A → Type 0) (list : List A) (n : ℕ) → length list ≡ n → ((x : A) → P x → In x list) → AtMost P n
at_most_listed P list n e all = record { bound = λ l d s. omega (arith, pigeonhole l list d (λ x i. all x (s x i))) }

-- What a one_to_one function takes to such elements is not more.
module _ {A B : Type 0} (f : A → B) (P : A → Type 0) (Q : B → Type 0) (to : (x : A) → P x → Q (f x))
    (one_to_one : (x y : A) → P x → P y → f x ≡ f y → x ≡ y) where
  pub at_most_mapped : (n : ℕ) → AtMost Q n → AtMost P n
  at_most_mapped n a =
      record {
        bound = λ l d s.
            omega (
              arith,
              length-map l f,
              a.bound (map f l) (no_two_map f l (λ x y i j e. one_to_one x y (s x i) (s y j) e) d) (mapped l s),
            );
      }
    where
      mapped : (l : List A) → ((x : A) → In x l → P x) → (y : B) → In y (map f l) → Q y
      mapped l s y i = let (x, j, e) = map_in f l y i in rw e (to x (s x j))

pub at_most_fewer : {A : Type 0} (P Q : A → Type 0) → ((x : A) → P x → Q x) → (n : ℕ) → AtMost Q n → AtMost P n
at_most_fewer P Q f n a = record { bound = λ l d s. a.bound l d (λ x i. f x (s x i)) }

-- ---- the same with a figure

module _ (n : ℕ) where
  pub within_figure : {A : Type 0} (P : A → Type 0) → AtMost P n → Within P (figure n)
  unfolding figure
  within_figure P a = go (leb n figure_limit)
    where
      go : (b : Bool) → Within P (cond b (exactly n) beyond)
      go true = a
      go false = tt

  pub up_to_figure : (count : ℕ) → count ≤ n → UpTo count (figure n)
  unfolding figure
  up_to_figure count h = go (leb n figure_limit)
    where
      go : (b : Bool) → UpTo count (cond b (exactly n) beyond)
      go true = h
      go false = tt
