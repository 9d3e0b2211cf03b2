-- The constant tables: six places for each pattern, the counts of ways, and the first numbers. Assumes nothing.
use mathlib.Core.Path.{◌≡◌, refl, sym, ◌∙◌, ap}
use mathlib.Core.Bool.{cond}
use mathlib.Core.Logic.{◌⊎◌, inl, inr, by_cases}
use mathlib.Core.List.{List, [], ◌∷◌, ◌++◌}
use Prim.Native.Nat.{ℕ, zero, suc, ◌+◌, ◌-◌, ◌*◌, ◌/◌, ◌<◌, ◌≤◌}
use native.Mathlib.Nat.{add-zero, zero-add, add-suc, suc-add}
use native.Mathlib.Omega.{arith}
use native.Mathlib.Decide.{dec_le}
use borrow.Author.Tests.{le-leb, lt-leb}
use lib.Dec.{leb}
use lib.ListN.{length, get_or, take, drop, length-append, get_or-eq_default}
use lib.Seq.{take_at, drop-append-add}
use Rattle.patterns.specs.Outcome.{padded}
use Rattle.patterns.specs.Pattern.{patterns, digits_of, rows, pattern_table, digits_in}
use Rattle.patterns.proofs.ListLaws.{length-padded}
use Rattle.patterns.proofs.PatternRank.{count, ways, first}

rows_row : (ps : List (List ℕ)) (k : ℕ) → k < length ps → take 6 (drop (6 * k) (rows ps)) ≡ padded 6 (get_or ps k [])
unfolding rows
rows_row [] k h = let z : ⊥ = omega arith in absurd z
rows_row (p ∷ ps) zero h = take_at (padded 6 p) (rows ps) 6 (length-padded 6 p)
rows_row (p ∷ ps) (suc k) h =
    let s = length-padded 6 p in
    let e : 6 * suc k ≡ length (padded 6 p) + 6 * k = omega arith in
    ap (λ (j : ℕ). take 6 (drop j (padded 6 p ++ rows ps))) e
    ∙ ap (take 6) (drop-append-add (padded 6 p) (rows ps) (6 * k))
    ∙ rows_row ps k (omega arith)

length-rows : (ps : List (List ℕ)) → length (rows ps) ≡ 6 * length ps
unfolding rows
length-rows [] = refl
length-rows (p ∷ ps) = length-append (padded 6 p) (rows ps) ∙ omega (arith, length-padded 6 p, length-rows ps)

-- A row of a lent table, and where there is none.
pub row_there : (table : List ℕ) (number : ℕ) → (number ≡ 0 → ⊥) → number ≤ length table / 6 → take 6 (drop (6 * (number - 1)) table) ≡ digits_in table number
row_there table zero lo hi = absurd (lo refl)
row_there table (suc k) lo hi =
    let e : 6 * (suc k - 1) ≡ 6 * k = omega arith in
    ap (λ (j : ℕ). take 6 (drop j table)) e ∙ rw (le-leb (6 * suc k) (length table) (omega arith))

pub row-none : (table : List ℕ) (number : ℕ) → (number ≡ 0) ⊎ (length table / 6 < number) → 0 ∷ 0 ∷ 0 ∷ 0 ∷ 0 ∷ 0 ∷ [] ≡ digits_in table number
row-none table zero h = refl
row-none table (suc k) (inl e) = let z : ⊥ = omega arith in absurd z
row-none table (suc k) (inr l) = rw (lt-leb (6 * suc k) (length table) (omega arith))

pub length_table : length pattern_table ≡ 1668
unfolding pattern_table
length_table = length-rows patterns ∙ omega (arith, count)

-- THE ROWS. The rows of the table of patterns are the patterns' digits.
pub table-rows : (number : ℕ) → digits_in pattern_table number ≡ digits_of number
unfolding pattern_table digits_of
table-rows zero = refl
table-rows (suc k) = by_cases (dec_le (suc k) 278) there none
  where
    size : length (rows patterns) ≡ 1668
    size = length_table

    there : suc k ≤ 278 → digits_in (rows patterns) (suc k) ≡ padded 6 (get_or patterns k [])
    there h = rw (le-leb (6 * suc k) (length (rows patterns)) (omega (arith, size))) (rows_row patterns k (omega (arith, count)))

    none : (suc k ≤ 278 → ⊥) → digits_in (rows patterns) (suc k) ≡ padded 6 (get_or patterns k [])
    none h =
        rw (lt-leb (6 * suc k) (length (rows patterns)) (omega (arith, size)))
        (ap (padded 6) (sym (get_or-eq_default patterns [] {n = k} (omega (arith, count)))))

-- A list by its entries: f k, f (k + 1), and so on, n of them.
unfoldable pub entries : {A : Type 0} → (ℕ → A) → ℕ → ℕ → List A
entries f k zero = []
entries f k (suc n) = f k ∷ entries f (suc k) n

get_or-entries : {A : Type 0} (f : ℕ → A) (k n j : ℕ) (e : A) → j < n → get_or (entries f k n) j e ≡ f (k + j)
unfolding entries
get_or-entries f k zero j e h = let z : ⊥ = omega arith in absurd z
get_or-entries f k (suc n) zero e h = rw add-zero
get_or-entries f k (suc n) (suc j) e h = get_or-entries f (suc k) n j e (omega arith) ∙ ap f (suc-add k j ∙ sym (add-suc k j))

entry : {A : Type 0} (f : ℕ → A) (n j : ℕ) (e : A) → j < n → get_or (entries f 0 n) j e ≡ f j
entry f n j e h = get_or-entries f 0 n j e h ∙ ap f (zero-add j)

-- The counts that come up: n fields and m different ones before them are at most five.
unfoldable pub ways_row : ℕ → List ℕ
ways_row n = entries (λ m. cond (leb (n + m) 5) (ways n m) 0) 0 6

unfoldable pub ways_table : List (List ℕ)
ways_table = entries ways_row 0 6

pub ways_at : (n m : ℕ) → n + m ≤ 5 → get_or (get_or ways_table n []) m 0 ≡ ways n m
unfolding ways_table ways_row
ways_at n m h =
    ap (λ (row : List ℕ). get_or row m 0) (entry ways_row 6 n [] (omega arith))
    ∙ entry (λ k. cond (leb (n + k) 5) (ways n k) 0) 6 m 0 (omega arith)
    ∙ rw (le-leb (n + m) 5 h)

unfoldable pub first_table : List ℕ
first_table = entries first 0 7

pub first_at : (n : ℕ) → n < 7 → get_or first_table n 0 ≡ first n
unfolding first_table
first_at n h = entry first 7 n 0 h
