-- A sheet has at most 2,368 lines: what comes after 2,369 lent lines changes no answer. Assumes nothing.
use mathlib.Core.Path.{◌≡◌, refl, sym, subst, ap, ap₂, ◌∙◌}
use mathlib.Core.List.{List, [], ◌∷◌, ◌++◌}
use Prim.Native.Nat.{ℕ, zero, suc, ◌+◌, ◌*◌, ◌/◌, ◌<◌, min}
use native.Mathlib.Omega.{arith}
use lib.ListN.{length, take, drop, length-take}
use lib.Seq.{take-take, take-nil}
use Rattle.sheet.specs.Line.{Line}
use Rattle.patterns.specs.Outcome.{Outcome, counted, held}
use Rattle.sheet.specs.Read.{Taken, takes, refuses, in_front, go_on, checked}
use Rattle.sheet.specs.Write.{taken_lent, parts_of, sheet_held, written, write_of, write_says, WriteMeets}
use Rattle.std.proofs.Common.{Result}
use Rattle.sheet.specs.declared.Refusal.{Refusal}
use Rattle.sheet.proofs.Sheets.{parts_next, lent_shows}
use Rattle.sheet.proofs.LineCount.{Few, few_none, few_more, at_most_2368_lines}
use Rattle.followup.specs.Bytes.{number, numbers_from, numbers_of}
use Rattle.followup.specs.Reply.{Replies, WritesBytes}
use Rattle.followup.specs.declared.Reply.{Reply}
use Rattle.followup.proofs.ByteLaws.{numbers_taken}
use Rattle.followup.proofs.Kept.{kept_written}

-- One more line than k begins with the first line.
take_first : (k : ℕ) (xs : List ℕ) → take 8 (take (8 * suc k) xs) ≡ take 8 xs
take_first k xs = take-take 8 (8 * suc k) xs (omega arith)

drop-take : (m n j : ℕ) (xs : List ℕ) → j ≡ m + n → drop m (take j xs) ≡ take n (drop m xs)
drop-take zero n j xs e = let q : j ≡ n = omega arith in rw q
drop-take (suc m) n zero xs e = absurd (omega arith)
drop-take (suc m) n (suc j) [] e = sym (take-nil n)
drop-take (suc m) n (suc j) (x ∷ xs) e = drop-take m n j xs (omega arith)

-- All parts of lent numbers, after the lines before.
abbrev onward : List Line → List ℕ → Outcome (List Line)
onward before xs = checked taken_lent 8 before (parts_of (length xs) xs)

onward_next : (before : List Line) (xs : List ℕ) → 0 < length xs
    → onward before xs ≡ go_on (taken_lent before (take 8 xs)) (λ l. onward (l ∷ before) (drop 8 xs)) (suc (length before))
onward_next before xs h = ap (checked taken_lent 8 before) (parts_next (length xs) (length (drop 8 xs)) xs h (omega arith) (omega arith))

-- Of 2,369 lines one is refused, and what comes after it is not looked at.
onward_bound : (k : ℕ) (before : List Line) (xs : List ℕ) → Few before → length before + k ≡ 2369 → onward before xs ≡ onward before (take (8 * k) xs)
onward_bound zero before xs few e = absurd (omega (arith, at_most_2368_lines before few))
onward_bound (suc k) before [] few e = ap (onward before) (sym (take-nil (8 * suc k)))
onward_bound (suc k) before (x ∷ xs) few e =
    onward_next before (x ∷ xs) (omega arith)
    ∙ go (taken_lent before (take 8 (x ∷ xs))) refl (λ l. onward_bound k (l ∷ before) (drop 8 (x ∷ xs)))
    ∙ sym (onward_next before (take (8 * suc k) (x ∷ xs)) (omega (arith, length-take (8 * suc k) (x ∷ xs)))
    ∙ ap₂ (λ y ys. go_on (taken_lent before y) (λ l. onward (l ∷ before) ys) (suc (length before)))
    (take_first k (x ∷ xs)) (drop-take 8 (8 * k) (8 * suc k) (x ∷ xs) (omega arith)))
  where
    go : (t : Taken) → taken_lent before (take 8 (x ∷ xs)) ≡ t
        → ((l : Line) → Few (l ∷ before) → length (l ∷ before) + k ≡ 2369
        → onward (l ∷ before) (drop 8 (x ∷ xs)) ≡ onward (l ∷ before) (take (8 * k) (drop 8 (x ∷ xs))))
        → go_on t (λ l. onward (l ∷ before) (drop 8 (x ∷ xs))) (suc (length before))
        ≡ go_on t (λ l. onward (l ∷ before) (take (8 * k) (drop 8 (x ∷ xs)))) (suc (length before))
    go (refuses r) p more = refl
    go (takes l) p more =
        let (is, formed, passed) = lent_shows.only before (take 8 (x ∷ xs)) l p in
        ap (in_front l) (more l (few_more before l few formed passed) (omega arith))

-- The lines that lent numbers hold, or the first wrong line, by the first 2,369 lines.
pub sheet_truncated : (numbers : List ℕ) → sheet_held numbers ≡ sheet_held (take 18952 numbers)
unfolding sheet_held
sheet_truncated numbers = onward_bound 2369 [] numbers few_none refl

write_truncated : (numbers : List ℕ) (room : ℕ) → write_of numbers room ≡ write_of (take 18952 numbers) room
unfolding write_of
write_truncated numbers room = ap (written room) (sheet_truncated numbers)

-- ---- the numbers that are decoded

take_numbers : (w m n k : ℕ) (bytes : List ℕ) → k ≡ min n m → take m (numbers_from w n bytes) ≡ numbers_from w k bytes
take_numbers w zero n zero bytes e = refl
take_numbers w zero n (suc k) bytes e = absurd (omega arith)
take_numbers w (suc m) zero zero bytes e = refl
take_numbers w (suc m) zero (suc k) bytes e = absurd (omega arith)
take_numbers w (suc m) (suc n) zero bytes e = absurd (omega arith)
take_numbers w (suc m) (suc n) (suc k) bytes e = ap (λ (ns : List ℕ). number (take w bytes) ∷ ns) (take_numbers w m n k (drop w bytes) (omega arith))

-- They are the numbers of the first 2,369 lines.
pub decoded : (lines rest after : List ℕ) (count : ℕ) → count ≡ min (length lines / 4) 18952 → after ≡ numbers_from 4 count lines ++ rest
    → take count after ≡ take 18952 (numbers_of 4 lines)
decoded lines rest after count is e =
    numbers_taken 4 count lines after rest e
    ∙ sym (take_numbers 4 18952 (length lines / 4) count lines is)

-- From what write answers for these to what is answered for all.
pub writes : {first lines before after : List ℕ} (answer : Result ℕ Refusal) (r : Reply) → first ≡ take 18952 (numbers_of 4 lines) → WriteMeets first before answer after
    → Replies (write_says answer) r → WritesBytes lines before r after
writes {first} {lines} {before} {after} answer r e m says =
    let same = ap (λ (ns : List ℕ). write_of ns (length before)) e ∙ sym (write_truncated (numbers_of 4 lines) (length before)) in
    let Says-All = subst (λ o. Replies o r) (m.says ∙ ap counted same) says in
    let text-all = m.text ∙ ap (λ o. held o before) same in
    record { replies = Says-All; text = text-all; kept = kept_written (write_of (numbers_of 4 lines) (length before)) r before after Says-All text-all }
