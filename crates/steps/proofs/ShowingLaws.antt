-- Laws of records in which steps are shown; what is shown of the numbers of steps is these steps. Assumes nothing.
use mathlib.Core.Path.{◌≡◌, refl, sym, ◌∙◌, ap}
use mathlib.Core.Bool.{Bool, true, false}
use mathlib.Core.List.{List, [], ◌∷◌, ◌++◌, map, map-append, append-nil}
use Prim.Native.Nat.{ℕ, zero, suc, ◌+◌, ◌*◌, ◌-◌, ◌/◌, ◌<◌, ◌≤◌}
use native.Mathlib.Nat.{add-zero}
use native.Mathlib.Numerals.{add-one}
use native.Mathlib.Omega.{arith}
use lib.Dec.{T, leb, leb→le}
use lib.ListN.{length, get_or, take, drop, set, length-append, length-drop, length-map, drop_of_length-le}
use lib.Seq.{length-take-le, take_all, get_or-append-add, get_or-drop, drop-cons, append_snoc, set_at, take_at, drop_at}
use borrow.Author.Tests.{le-leb, lt-leb}
use Rattle.chase.specs.Steps.{Step, step_numbers}
use Rattle.chase.specs.Judge.{Verdict, Right}
use Rattle.chase.proofs.StepLaws.{length_numbers}
use Rattle.steps.specs.declared.StepRecord.{StepRecord}
use Rattle.steps.specs.Showing.{step_at, steps_in, record_of, step_of, record_at, no_record, or_none, shown_at, showing, all_or_none, count_of, Exactly}

-- The first n steps are n.
pub length-steps_in : (numbers : List ℕ) (n : ℕ) → length (steps_in numbers n) ≡ n
length-steps_in numbers zero = refl
length-steps_in numbers (suc n) = length-append (steps_in numbers n) (step_at numbers n ∷ []) ∙ add-one (length (steps_in numbers n)) ∙ ap suc (length-steps_in numbers n)

length_shown : (numbers : List ℕ) (n : ℕ) → length (map record_of (steps_in numbers n)) ≡ n
length_shown numbers n = length-map (steps_in numbers n) record_of ∙ length-steps_in numbers n

-- As many records as before.
pub length-showing : (numbers : List ℕ) (before : List StepRecord) (n : ℕ) → n ≤ length before → length (showing numbers before n) ≡ length before
length-showing numbers before n within = length-append (map record_of (steps_in numbers n)) (drop n before) ∙ sum (length_shown numbers n) (length-drop n before)
  where
    sum : {a b : ℕ} → a ≡ n → b ≡ length before - n → a + b ≡ length before
    sum p q = omega (arith, p, q, within)

-- One step more.
pub showing-suc : (numbers : List ℕ) (before : List StepRecord) (n : ℕ) → n < length before → set (showing numbers before n) n (record_at numbers n) ≡ showing numbers before (suc n)
showing-suc numbers before n within =
    ap (λ l. set (first ++ l) n (record_at numbers n)) (drop-cons before n (record_at numbers n) within)
    ∙ set_at first _ (drop (suc n) before) (record_at numbers n) n (length_shown numbers n)
    ∙ sym (append_snoc first (record_at numbers n) (drop (suc n) before))
    ∙ ap (λ l. l ++ drop (suc n) before) (sym (map-append record_of (steps_in numbers n) (step_at numbers n ∷ [])))
  where
    first : List StepRecord
    first = map record_of (steps_in numbers n)

-- Showing in the first n records shows in all.
pub showing_front : (numbers : List ℕ) (before : List StepRecord) (n : ℕ) → n ≤ length before
    → showing numbers (take n before) n ++ drop n before ≡ showing numbers before n
showing_front numbers before n within =
    let none : drop n (take n before) ≡ [] = drop_of_length-le (take n before) (omega (arith, length-take-le n before within)) in
    rw (none, append-nil) refl

-- All are shown where the records and the numbers are enough, and none where one of them is too few.
pub count_of_all : (records numbers n : ℕ) → n ≤ records → n * 5 ≤ numbers → count_of records numbers n ≡ n
count_of_all records numbers n r m = simp (le-leb n records r, le-leb (n * 5) numbers m)

pub count_of_few_numbers : (records numbers n : ℕ) → n ≤ records → numbers < n * 5 → count_of records numbers n ≡ 0
count_of_few_numbers records numbers n r m = simp (le-leb n records r, lt-leb (n * 5) numbers m)

pub count_of_few_records : (records numbers n : ℕ) → records < n → count_of records numbers n ≡ 0
count_of_few_records records numbers n r = simp (lt-leb n records r)

-- What is shown fits the records and the numbers.
pub count_of-fits : (records numbers n : ℕ) → (count_of records numbers n ≤ records) × (count_of records numbers n * 5 ≤ numbers)
count_of-fits records numbers n = by_tests (leb n records) (leb (n * 5) numbers) (leb→le n records) (leb→le (n * 5) numbers)
  where
    by_tests : (s t : Bool) → (T s → n ≤ records) → (T t → n * 5 ≤ numbers) → (all_or_none s t n ≤ records) × (all_or_none s t n * 5 ≤ numbers)
    by_tests true true r m = (r tt, m tt)
    by_tests true false r m = (omega arith, omega arith)
    by_tests false t r m = (omega arith, omega arith)

-- After the five numbers of a step come those of the next.
step_at-suc : (a b c d e : ℕ) (numbers : List ℕ) (i : ℕ) → step_at (a ∷ b ∷ c ∷ d ∷ e ∷ numbers) (suc i) ≡ step_at numbers i
step_at-suc a b c d e numbers i = simp (at (suc i * 5) (i * 5) (omega arith), at (suc i * 5 + 1) (i * 5 + 1) (omega arith), at (suc i * 5 + 2) (i * 5 + 2) (omega arith), at (suc i * 5 + 3) (i * 5 + 3) (omega arith), at (suc i * 5 + 4) (i * 5 + 4) (omega arith))
  where
    at : (j k : ℕ) → j ≡ 5 + k → get_or (a ∷ b ∷ c ∷ d ∷ e ∷ numbers) j 0 ≡ get_or numbers k 0
    at j k is = ap (λ m. get_or (a ∷ b ∷ c ∷ d ∷ e ∷ numbers) m 0) is ∙ get_or-append-add (a ∷ b ∷ c ∷ d ∷ e ∷ []) numbers k 0

steps_in-suc : (s : Step) (numbers : List ℕ) (n : ℕ) → steps_in (s.rule ∷ s.head ∷ s.from ∷ s.to ∷ s.fresh ∷ numbers) (suc n) ≡ s ∷ steps_in numbers n
steps_in-suc s numbers zero = refl
steps_in-suc s numbers (suc n) = ap (λ l. l ++ (step_at (s.rule ∷ s.head ∷ s.from ∷ s.to ∷ s.fresh ∷ numbers) (suc n) ∷ [])) (steps_in-suc s numbers n)
    ∙ ap (λ (t : Step). s ∷ steps_in numbers n ++ (t ∷ [])) (step_at-suc s.rule s.head s.from s.to s.fresh numbers n)

-- The steps that the numbers of steps hold are these steps.
pub steps_in-step_numbers : (steps : List Step) (rest : List ℕ) → steps_in (step_numbers steps ++ rest) (length steps) ≡ steps
steps_in-step_numbers [] rest = refl
steps_in-step_numbers (s ∷ steps) rest = steps_in-suc s (step_numbers steps ++ rest) (length steps) ∙ ap (λ l. s ∷ l) (steps_in-step_numbers steps rest)

-- Numbers that begin with those of some steps: where the records are enough, showing as many gives exactly these steps.
pub show_gives_the_steps : (steps : List Step) (rest numbers : List ℕ) (before : List StepRecord) → numbers ≡ step_numbers steps ++ rest → length steps ≤ length before → Exactly steps numbers before
show_gives_the_steps steps rest numbers before are within = record {
  count = count_of_all (length before) (length numbers) (length steps) within enough;
  filled = ap (λ l. map step_of (take (length steps) l)) shows ∙ ap (map step_of) (take_at (map record_of steps) (drop (length steps) before) (length steps) (length-map steps record_of)) ∙ back steps;
  others = ap (drop (length steps)) shows ∙ drop_at (map record_of steps) (drop (length steps) before) (length steps) (length-map steps record_of);
}
  where
    shows : showing numbers before (length steps) ≡ map record_of steps ++ drop (length steps) before
    shows = ap (λ l. map record_of l ++ drop (length steps) before) (ap (λ l. steps_in l (length steps)) are ∙ steps_in-step_numbers steps rest)

    enough : length steps * 5 ≤ length numbers
    enough = omega (arith, ap length are, length-append (step_numbers steps) rest, length_numbers steps)

    back : (l : List Step) → map step_of (map record_of l) ≡ l
    back [] = refl
    back (s ∷ l) = ap (λ r. s ∷ r) (back l)

-- So the steps that a judged sheet's lent memory holds are shown exactly.
pub show_gives_the_judged_steps : (limit : ℕ) (lines before numbers : List ℕ) (v : Verdict) (records : List StepRecord) (right : Right limit lines before v numbers) → length right.steps ≤ length records → Exactly right.steps numbers records
show_gives_the_judged_steps limit lines before numbers v records right within = show_gives_the_steps right.steps (drop (5 * length right.steps) before) numbers records right.held within

-- One step, shown in one record.
pub showing_in_one : (numbers : List ℕ) → get_or (showing numbers (no_record ∷ []) (count_of 1 (length numbers) 1)) 0 no_record ≡ shown_at numbers 0
showing_in_one numbers = by_test (leb 5 (length numbers))
  where
    by_test : (t : Bool) → get_or (showing numbers (no_record ∷ []) (all_or_none true t 1)) 0 no_record ≡ or_none t (record_at numbers 0)
    by_test true = refl
    by_test false = refl

-- Where there is a step i, it is the first of the numbers from its own on; where there is none, all is zero.
shown_at-drop : (numbers : List ℕ) (i : ℕ) → i < length numbers / 5 → shown_at (drop (i * 5) numbers) 0 ≡ shown_at numbers i
shown_at-drop numbers i there = simp (le-leb 5 (length (drop (i * 5) numbers)) enough, le-leb (i * 5 + 5) (length numbers) (omega (arith, there)), get_or-drop (i * 5) numbers 0 0, add-zero (i * 5), get_or-drop (i * 5) numbers 1 0, get_or-drop (i * 5) numbers 2 0, get_or-drop (i * 5) numbers 3 0, get_or-drop (i * 5) numbers 4 0)
  where
    enough : 5 ≤ length (drop (i * 5) numbers)
    enough = omega (arith, length-drop (i * 5) numbers, there)

pub shown_at-part : (numbers : List ℕ) (i : ℕ) → i < length numbers / 5 → shown_at (take (length numbers - i * 5) (drop (i * 5) numbers)) 0 ≡ shown_at numbers i
shown_at-part numbers i there = ap (λ l. shown_at l 0) (take_all (length numbers - i * 5) (drop (i * 5) numbers) (omega (arith, length-drop (i * 5) numbers))) ∙ shown_at-drop numbers i there

pub shown_at-none : (numbers : List ℕ) (i : ℕ) → length numbers / 5 ≤ i → shown_at numbers i ≡ no_record
shown_at-none numbers i few = simp (lt-leb (i * 5 + 5) (length numbers) (omega (arith, few)))
