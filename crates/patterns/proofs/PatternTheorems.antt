-- What is true of patterns and their table, stated for a reader. Assumes nothing.
use mathlib.Core.Path.{◌≡◌, refl, sym, ◌∙◌, ap}
use mathlib.Core.Logic.{◌⊎◌, inl, inr, ◌↔◌}
use mathlib.Core.List.{List, [], ◌∷◌}
use Prim.Native.Nat.{ℕ, suc, ◌<◌, ◌≤◌}
use native.Mathlib.Decide.{ℕ_discrete}
use native.Mathlib.Omega.{arith}
use borrow.Author.Tests.{eq-eqb, ne_eqb, lt-ltb, le-ltb}
use lib.Dec.{T}
use lib.ListN.{length, get_or}
use Rattle.patterns.specs.Lists.{In}
use Rattle.patterns.specs.Outcome.{good, refused, padded}
use Rattle.patterns.specs.Pattern.{index, pattern, patterns, patterns_to, going_on, led, lists_discrete, number_of, none_at, Label-discrete, labels, numbers_pattern, pattern_of, digits_of, pattern_table, digits_in}
use Rattle.patterns.specs.PatternTable.{appears, earlier, Pattern, entries_of, table_test}
use Rattle.patterns.proofs.ListLaws.{in_get_or}
use Rattle.patterns.proofs.PatternLaws.{same_places, pattern-places, digits_same, index-lt, get_or-index}
use Rattle.patterns.proofs.LabelLaws.{length-labels, same_label, without_zero}
use Rattle.patterns.proofs.PatternOrder.{up_next, up_index}
use Rattle.patterns.proofs.PatternList.{patterns_in, patterns_up}
use Rattle.patterns.proofs.PatternRank.{count, placed, has-pattern, pattern-appears, appears_own}
use Rattle.patterns.proofs.PatternRows.{length_table, table-rows}
use Rattle.patterns.proofs.PatternTest.{passed, entries_are, table_is}

-- THE PATTERNS of the definitions. The contract of `digits` says that the digits of the number k + 1 are entry k, in six places.
pub rows : (k : ℕ) → digits_of (suc k) ≡ padded 6 (get_or patterns k [])
unfolding digits_of
rows k = refl

pub entries_278 : length patterns ≡ 278
entries_278 = count

-- Each entry stands before the next in document 01's order.
pub entries_rise : (k : ℕ) → suc k < 278 → T (earlier (get_or patterns k []) (get_or patterns (suc k) []))
entries_rise k h = up_next patterns k patterns_up (omega (arith, count))

-- Each entry has one to six digits, by first appearance.
pub entries_appear : (k : ℕ) → k < 278 → Pattern (get_or patterns k [])
entries_appear k h = patterns_in (get_or patterns k []) (in_get_or patterns k [] (omega (arith, count)))

-- Every list of one to six digits by first appearance is an entry.
pub none_missing : (p : List ℕ) → Pattern p → (k : ℕ) × (k < 278) × (get_or patterns k [] ≡ p)
none_missing p h = let r = placed p h in (r.place, r.below, r.there)

-- Every record of one to six fields has an entry for its pattern, whatever its fields are.
pub record_has_entry : {A : Type 0} (d : Discrete A) (xs : List A) → 1 ≤ length xs → length xs ≤ 6 → Pattern (pattern d xs)
record_has_entry d xs lo hi = has-pattern d xs lo hi

-- Digits are by first appearance exactly where they are the pattern of a record: of themselves, for one.
pub patterns_appear : {A : Type 0} (d : Discrete A) (xs : List A) → T (appears 0 (pattern d xs))
patterns_appear d xs = pattern-appears d xs

pub own_pattern : (p : List ℕ) → T (appears 0 p) → pattern ℕ_discrete p ≡ p
own_pattern p t = appears_own p t

-- THE NUMBERS. The entry at place k has the number k + 1.
pub number_of_entry : (k : ℕ) → k < 278 → number_of (get_or patterns k []) ≡ suc k
unfolding number_of
number_of_entry k h = ap suc (up_index (lists_discrete ℕ_discrete) patterns k patterns_up (omega (arith, count)))

pub number_in_range : (p : List ℕ) → Pattern p → (1 ≤ number_of p) × (number_of p ≤ 278)
number_in_range p h = let r = placed p h in omega (arith, r.number, r.below)

-- Two patterns with one number are the same.
pub number_one_to_one : (p q : List ℕ) → Pattern p → Pattern q → number_of p ≡ number_of q → p ≡ q
number_one_to_one p q g h e =
    let r = placed p g in
    let s = placed q h in
    let l : r.place ≡ s.place = omega (arith, r.number, s.number) in
    sym r.there ∙ ap (λ (k : ℕ). get_or patterns k []) l ∙ s.there

-- The digits of a pattern's number are the pattern.
pub digits_of_number : (p : List ℕ) → Pattern p → digits_of (number_of p) ≡ padded 6 p
unfolding digits_of
digits_of_number p h = let r = placed p h in ap digits_of r.number ∙ ap (padded 6) r.there

-- THE TABLE. The contract of `tested_table` says that the constant passes `table_test`. Every table that passes has 278 entries, in six
-- places each,
module _ (table : List ℕ) (passes : T (table_test table)) where
  pub table_278 : (length table ≡ 1668) × (length (entries_of table) ≡ 278)
  table_278 = (ap length (table_is table passes) ∙ length_table, ap length (entries_are table passes) ∙ count)

  pub table_row : (k : ℕ) → digits_in table (suc k) ≡ padded 6 (get_or (entries_of table) k [])
  table_row k =
      ap (λ (t : List ℕ). digits_in t (suc k)) (table_is table passes)
      ∙ table-rows (suc k)
      ∙ rows k
      ∙ ap (λ (l : List (List ℕ)). padded 6 (get_or l k [])) (sym (entries_are table passes))

  -- each before the next in document 01's order,
  pub table_rises : (k : ℕ) → suc k < 278 → T (earlier (get_or (entries_of table) k []) (get_or (entries_of table) (suc k) []))
  table_rises k h = up_next (entries_of table) k (passed table passes).order (omega (arith, table_278.1))

  -- each of one to six digits, by first appearance;
  pub table_appears : (k : ℕ) → k < 278 → Pattern (get_or (entries_of table) k [])
  table_appears k h =
      (passed table passes).digits (get_or (entries_of table) k []) (in_get_or (entries_of table) k [] (omega (arith, table_278.1)))

  -- every list of one to six digits by first appearance is an entry;
  pub table_complete : (p : List ℕ) → Pattern p → (k : ℕ) × (k < 278) × (get_or (entries_of table) k [] ≡ p)
  table_complete p h =
      let i = (passed table passes).has p h in
      let d = lists_discrete ℕ_discrete in
      (index d p (entries_of table), omega (arith, index-lt d p (entries_of table) i, table_278.1), get_or-index d p (entries_of table) [] i)

  -- the entry at place k is the pattern with the number k + 1;
  pub table_numbers : (k : ℕ) → k < 278 → number_of (get_or (entries_of table) k []) ≡ suc k
  table_numbers k h = ap (λ (l : List (List ℕ)). number_of (get_or l k [])) (entries_are table passes) ∙ number_of_entry k h

  -- and so it is the table that `pattern_table` promises.
  pub table_one : table ≡ pattern_table
  table_one = table_is table passes

-- RECORDS. A record of one to six numbers is numbered, any other is refused.
pub numbered : (xs : List ℕ) → 1 ≤ length xs → length xs ≤ 6 → pattern_of xs ≡ good (number_of (numbers_pattern xs))
numbered xs lo hi = rw (ne_eqb (length xs) 0 (λ e. omega arith), le-ltb 6 (length xs) hi)

pub not_numbered : (xs : List ℕ) → (length xs ≡ 0) ⊎ (6 < length xs) → pattern_of xs ≡ refused 10 0
not_numbered xs (inl e) = rw (eq-eqb (length xs) 0 e)
not_numbered xs (inr l) = rw (ne_eqb (length xs) 0 (λ e. omega arith), lt-ltb 6 (length xs) l)

-- Two records have the same pattern exactly when the same places are equal.
pub same_pattern_same_places : {A B : Type 0} (d_a : Discrete A) (d_b : Discrete B) (xs : List A) (ys : List B) (a : A) (b : B) → length xs ≡ length ys
    → (pattern d_a xs ≡ pattern d_b ys)
    ↔ ((i j : ℕ) → i < length xs → j < length xs → (get_or xs i a ≡ get_or xs j a) ↔ (get_or ys i b ≡ get_or ys j b))
same_pattern_same_places d_a d_b xs ys a b e = (pattern-places d_a d_b xs ys a b e, same_places d_a d_b xs ys a b e)

-- Two places of a record of numbers have the same digit exactly when they are one, or their numbers are equal and not 0.
pub same_digit : (xs : List ℕ) (i j : ℕ) → i < length xs → j < length xs
    → (get_or (numbers_pattern xs) i 0 ≡ get_or (numbers_pattern xs) j 0) ↔ ((i ≡ j) ⊎ ((get_or xs i 0 ≡ get_or xs j 0) × (get_or xs i 0 ≡ 0 → ⊥)))
same_digit xs i j l m =
    let n = length-labels xs in
    let p = digits_same Label-discrete (labels xs) i j (none_at 0) (omega arith) (omega arith) in
    let q = same_label xs i j l m in
    (λ e. q.0 (p.0 e), λ s. p.1 (q.1 s))

-- Numbers without 0 have the pattern that they have as numbers.
pub no_zero : (xs : List ℕ) → (In 0 xs → ⊥) → numbers_pattern xs ≡ pattern ℕ_discrete xs
no_zero xs h = without_zero xs h

-- EXAMPLES of document 01.
pub pattern_7479 : numbers_pattern (7 ∷ 4 ∷ 7 ∷ 9 ∷ []) ≡ 1 ∷ 2 ∷ 1 ∷ 3 ∷ []
unfolding ℕ_discrete Label-discrete
pattern_7479 = refl

pub named_numbers : (number_of (1 ∷ []) ≡ 1)
    × (number_of (1 ∷ 1 ∷ []) ≡ 2)
    × (number_of (1 ∷ 2 ∷ []) ≡ 3)
    × (number_of (1 ∷ 2 ∷ 1 ∷ 3 ∷ []) ≡ 16)
    × (number_of (1 ∷ 2 ∷ 3 ∷ 4 ∷ 5 ∷ 6 ∷ []) ≡ 278)
unfolding number_of patterns patterns_to going_on led lists_discrete ℕ_discrete
named_numbers = (refl, refl, refl, refl, refl)

-- The starred cases. Two zeros are two different fields,
pub zero-zero : pattern_of (0 ∷ 0 ∷ []) ≡ good 3
unfolding number_of patterns patterns_to going_on led lists_discrete ℕ_discrete Label-discrete
zero-zero = refl

-- two equal labels are one,
pub seven_seven : pattern_of (7 ∷ 7 ∷ []) ≡ good 2
unfolding number_of patterns patterns_to going_on led lists_discrete ℕ_discrete Label-discrete
seven_seven = refl

-- and zeros between equal labels leave these equal.
pub zeros_between : numbers_pattern (7 ∷ 0 ∷ 7 ∷ 0 ∷ []) ≡ 1 ∷ 2 ∷ 1 ∷ 3 ∷ []
unfolding ℕ_discrete Label-discrete
zeros_between = refl

-- The number of that pattern.
pub zeros_between_number : pattern_of (7 ∷ 0 ∷ 7 ∷ 0 ∷ []) ≡ good 16
unfolding number_of patterns patterns_to going_on led lists_discrete ℕ_discrete Label-discrete
zeros_between_number = refl

-- No number at all is refused.
pub no_number : pattern_of [] ≡ refused 10 0
no_number = refl
