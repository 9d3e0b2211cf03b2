-- Laws of labels: which are equal, and where they say what the numbers say. Assumes nothing.
use mathlib.Core.Path.{◌≡◌, refl, sym, ◌∙◌, ap, subst}
use mathlib.Core.Bool.{false≢true}
use mathlib.Core.Logic.{◌⊎◌, inl, inr, ◌↔◌}
use mathlib.Core.List.{List}
use Prim.Native.Nat.{ℕ, zero, suc, ◌<◌}
use native.Mathlib.Decide.{ℕ_discrete}
use native.Mathlib.Omega.{arith}
use lib.ListN.{length, get_or, length-map}
use Rattle.patterns.specs.Lists.{In, Numbered, numbered}
use Rattle.patterns.specs.Pattern.{index, pattern, Label, none_at, Label-discrete, label_at, labels, numbers_pattern}
use Rattle.patterns.proofs.ListLaws.{all_of, in_get_or, map_at}
use Rattle.patterns.proofs.NumberedLaws.{numbered_items, numbered-length, numbered_at, item_in}
use Rattle.patterns.proofs.PatternLaws.{index_first, index_is, get_or-index, same_pattern}

-- Two labels are equal just if the numbers are equal and not 0, or both are 0 at one place.
pub label_equal : (i j m n : ℕ) → label_at i m ≡ label_at j n → ((m ≡ n) × (m ≡ 0 → ⊥)) ⊎ ((m ≡ 0) × (n ≡ 0) × (i ≡ j))
label_equal i j zero zero e = inr (refl, refl, cc)
label_equal i j zero (suc n) e = absurd (false≢true cc)
label_equal i j (suc m) zero e = absurd (false≢true cc)
label_equal i j (suc m) (suc n) e = inl (cc, λ z. omega arith)

pub label_same : (i j m n : ℕ) → m ≡ n → (m ≡ 0 → ⊥) → label_at i m ≡ label_at j n
label_same i j zero n e h = absurd (h refl)
label_same i j (suc m) zero e h = absurd (omega arith)
label_same i j (suc m) (suc n) e h = cc

-- The label of each field: of a place i it is that of the number there, at the place i + 1 as numbers count.
pub length-labels : (xs : List ℕ) → length (labels xs) ≡ length xs
length-labels xs = length-map (numbered xs) (λ (n : Numbered ℕ). label_at n.number n.item) ∙ numbered-length xs

pub labels_at : (xs : List ℕ) (i : ℕ) → i < length xs → get_or (labels xs) i (none_at 0) ≡ label_at (suc i) (get_or xs i 0)
labels_at xs i h =
    let f : Numbered ℕ → Label = λ n. label_at n.number n.item in
    let o : Numbered ℕ = record { number = 0; item = 0 } in
    map_at f (numbered xs) i o (none_at 0) (omega (arith, numbered-length xs)) ∙ ap f (numbered_at xs i 0 o h)

-- Two fields have the same label exactly when they are one, or their numbers are equal and not 0.
pub same_label : (xs : List ℕ) (i j : ℕ) → i < length xs → j < length xs
    → (get_or (labels xs) i (none_at 0) ≡ get_or (labels xs) j (none_at 0)) ↔ ((i ≡ j) ⊎ ((get_or xs i 0 ≡ get_or xs j 0) × (get_or xs i 0 ≡ 0 → ⊥)))
same_label xs i j l m =
    let p = labels_at xs i l in
    let q = labels_at xs j m in (
      λ e. elim (label_equal (suc i) (suc j) (get_or xs i 0) (get_or xs j 0) (sym p ∙ e ∙ q)) [
        | inl s ↦ inr s
        | inr s ↦ inl (omega (arith, s.2))
      ],
      λ t. elim t [
        | inl e ↦ ap (λ (k : ℕ). get_or (labels xs) k (none_at 0)) e
        | inr s ↦ p ∙ label_same (suc i) (suc j) (get_or xs i 0) (get_or xs j 0) s.0 s.1 ∙ sym q
      ],
    )

-- The first field with the label of field i: itself, where its number is 0;
pub zero-place : (xs : List ℕ) (i : ℕ) → i < length xs → get_or xs i 0 ≡ 0
    → i ≡ index Label-discrete (get_or (labels xs) i (none_at 0)) (labels xs)
zero-place xs i h z =
    sym (index_is Label-discrete (get_or (labels xs) i (none_at 0)) (labels xs) i (none_at 0) (omega (arith, length-labels xs)) refl
    (λ j l e. elim ((same_label xs j i (omega arith) h).0 e) [ inl s ↦ omega arith | inr s ↦ s.1 (s.0 ∙ z) ]))

-- the first with its number, where that is not 0.
pub given_place : (xs : List ℕ) (i : ℕ) → i < length xs → (get_or xs i 0 ≡ 0 → ⊥)
    → index ℕ_discrete (get_or xs i 0) xs ≡ index Label-discrete (get_or (labels xs) i (none_at 0)) (labels xs)
given_place xs i h n =
    let place = index ℕ_discrete (get_or xs i 0) xs in
    let b = index_first ℕ_discrete xs i 0 h in
    let e = get_or-index ℕ_discrete (get_or xs i 0) xs 0 (in_get_or xs i 0 h) in
    sym (index_is Label-discrete (get_or (labels xs) i (none_at 0)) (labels xs) place (none_at 0) (omega (arith, length-labels xs))
    ((same_label xs place i (omega arith) h).1 (inr (e, λ z. n (sym e ∙ z))))
    (λ j l f. elim ((same_label xs j i (omega arith) h).0 f) [
      | inl s ↦ omega arith
      | inr s ↦ omega (arith, index_first ℕ_discrete xs j 0 (omega arith), ap (λ (x : ℕ). index ℕ_discrete x xs) s.0)
    ]))

-- Numbers without 0 have the pattern that they have as numbers.
pub without_zero : (xs : List ℕ) → (In 0 xs → ⊥) → numbers_pattern xs ≡ pattern ℕ_discrete xs
without_zero xs h =
    same_pattern Label-discrete ℕ_discrete (λ n. label_at n.number n.item) (λ (n : Numbered ℕ). n.item) Given
    (λ a b p q. to a.number b.number a.item b.item p) (λ a b p q e. label_same a.number b.number a.item b.item e p)
    (numbered xs) (all_of Given (numbered xs) (λ n i z. h (subst (λ (m : ℕ). In m xs) z (item_in xs n i))))
    ∙ ap (pattern ℕ_discrete) (numbered_items xs)
  where
    Given : Numbered ℕ → Type 0
    Given n = n.item ≡ 0 → ⊥

    to : (i j m n : ℕ) → (m ≡ 0 → ⊥) → label_at i m ≡ label_at j n → m ≡ n
    to i j m n z e = elim (label_equal i j m n e) [ inl s ↦ s.0 | inr s ↦ absurd (z s.0) ]
