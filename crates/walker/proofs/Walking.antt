-- The laws of a text's lines: how a search along the text finds a line's end, and that the part from `at` to that end is the line. Assumes nothing.
use mathlib.Core.Path.{◌≡◌, refl, sym, ap, ◌∙◌}
use mathlib.Core.Logic.{⊎_elim, by_cases}
use Prim.Native.Nat.{ℕ, zero, suc, ◌+◌, ◌-◌, ◌<◌, ◌≤◌}
use native.Mathlib.Nat.{add-zero, eq-or-lt_of_le}
use native.Mathlib.Decide.{dec_lt}
use native.Mathlib.Numerals.{add-one}
use native.Mathlib.Omega.{arith}
use mathlib.Core.Bool.{Bool, true, false, not, ◌&&◌, false≢true}
use mathlib.Core.List.{List, [], ◌∷◌}
use lib.Dec.{eqb}
use lib.ListN.{length, get_or, take, drop, length-drop, drop_of_length-le}
use lib.Seq.{drop-cons}
use borrow.Author.Tests.{eq-eqb, ne_eqb}
use Rattle.walker.specs.Walk.{after, line_length, line_end, line_at, part_start}
use Rattle.walker.specs.Inner.Clear.{Clear}

-- The end of the line at `at` as seen from i, where the line at i has k bytes.
abbrev pub reach : ℕ → ℕ → ℕ → ℕ
reach at i zero = at
reach at i (suc k) = i + suc k

pub reach_start : (at k : ℕ) → at + k ≡ reach at at k
reach_start at zero = add-zero at
reach_start at (suc k) = refl

reach_longer : (at i k : ℕ) → reach at i (after false k) ≡ reach at (suc i) k
reach_longer at i zero = refl
reach_longer at i (suc k) = omega arith

-- A byte that is not 10 is passed.
pub reach_on : (s : List ℕ) (at i : ℕ) → i < length s → (get_or s i 0 ≡ 10 → ⊥) → reach at i (line_length (drop i s)) ≡ reach at (i + 1) (line_length (drop (i + 1) s))
reach_on s at i l ne = rw (add-one, drop-cons s i 0, ne_eqb (get_or s i 0) 10 ne) (reach_longer at i (line_length (drop (suc i) s)))

-- The byte 10 ends the line.
pub reach_found : (s : List ℕ) (at i : ℕ) → i < length s → get_or s i 0 ≡ 10 → reach at i (line_length (drop i s)) ≡ i + 1
reach_found s at i l is10 = rw (drop-cons s i 0, eq-eqb (get_or s i 0) 10 is10)

-- At or past the end there is no line.
pub none_past_end : (s : List ℕ) (at : ℕ) → length s ≤ at → line_length (drop at s) ≡ 0
none_past_end s at l = rw (drop_of_length-le s l)

-- Where no byte 10 follows there is no line.
pub none_without_10 : (s : List ℕ) → ((i : ℕ) → i < length s → get_or s i 0 ≡ 10 → ⊥) → line_length s ≡ 0
none_without_10 [] never = refl
none_without_10 (b ∷ s) never = rw (ne_eqb b 10 (never 0 (omega arith)), none_without_10 s (λ i l. never (suc i) (omega arith)))

-- Where there is no line, its end is `at` and it is empty.
pub none_stays : (s : List ℕ) (at : ℕ) → line_length (drop at s) ≡ 0 → (line_end s at ≡ at) × (line_at s at ≡ [])
none_stays s at none = (omega arith, rw none)

pub reach_past : (s : List ℕ) (at i : ℕ) → length s ≤ i → reach at i (line_length (drop i s)) ≡ at
reach_past s at i l = rw (none_past_end s i l)

reach_pass : (s : List ℕ) (at i : ℕ) → (get_or s i 0 ≡ 10 → ⊥) → reach at i (line_length (drop i s)) ≡ reach at (suc i) (line_length (drop (suc i) s))
reach_pass s at i ne =
    by_cases (dec_lt i (length s)) (λ l. rw add-one at (reach_on s at i l ne)) (λ l. reach_past s at i (omega arith) ∙ sym (reach_past s at (suc i) (omega arith)))

-- Where no byte is 10, all are passed.
pub reach_over : (s : List ℕ) (at i e : ℕ) → Clear s i e → reach at i (line_length (drop i s)) ≡ reach at e (line_length (drop e s))
reach_over s at i zero clear = let start : i ≡ 0 = omega (arith, clear.ahead) in rw start
reach_over s at i (suc e) clear =
    ⊎_elim
    (λ same. rw same)
    (λ less.
    reach_over s at i e (record { ahead = omega arith; never = λ j low high. clear.never j low (omega arith) })
    ∙ reach_pass s at e (clear.never e (omega arith) (omega arith)))
    (eq-or-lt_of_le clear.ahead)

pub clear_start : (s : List ℕ) (i e : ℕ) → i ≡ e → Clear s i e
clear_start s i e here = record { ahead = omega arith; never = λ j low high is10. omega arith }

-- One byte more that is not 10.
pub clear_more : (s : List ℕ) (i k : ℕ) → Clear s i (i + k) → (get_or s (i + k) 0 ≡ 10 → ⊥) → Clear s i (i + (k + 1))
clear_more s i k clear ne = record {
  ahead = omega arith;
  never = λ j low high is10. let near : j ≤ i + k = omega arith in ⊎_elim (λ here. ne (rw here at is10)) (λ less. clear.never j low less is10) (eq-or-lt_of_le near);
}

-- One byte more, tested.
pub clear_tested : (s : List ℕ) (i k : ℕ) (t : Bool) → (t ≡ true → Clear s i (i + k)) → t && not (eqb (get_or s (i + k) 0) 10) ≡ true → Clear s i (i + (k + 1))
clear_tested s i k true clear e = clear_more s i k (clear refl) (λ is10. false≢true (sym (ap not (eq-eqb (get_or s (i + k) 0) 10 is10)) ∙ e))
clear_tested s i k false clear e = absurd (false≢true e)

pub clear_join : (s : List ℕ) (i m e : ℕ) → Clear s i m → Clear s m e → Clear s i e
clear_join s i m e front rest = record {
  ahead = omega (arith, front.ahead, rest.ahead);
  never = λ j low high is10. by_cases (dec_lt j m) (λ l. front.never j low l is10) (λ l. rest.never j (omega arith) high is10);
}

after_le : (t : Bool) (k n : ℕ) → k ≤ n → after t k ≤ suc n
after_le true k n l = omega arith
after_le false zero n l = omega arith
after_le false (suc k) n l = omega arith

pub line_length-le : (s : List ℕ) → line_length s ≤ length s
line_length-le [] = omega arith
line_length-le (b ∷ s) = after_le (eqb b 10) (line_length s) (length s) (line_length-le s)

module _ (s : List ℕ) (at e : ℕ) (ends : e ≡ line_end s at) where
  -- Where there is a line, it ends within the text.
  pub line_within : at < e → e ≤ length s
  line_within l = omega (arith, line_length-le (drop at s), length-drop at s)

  pub part_is_line : take (e - at) (drop at s) ≡ line_at s at
  part_is_line = let n : e - at ≡ line_length (drop at s) = omega arith in rw n

  pub part_starts : (o : ℕ) → at < e → at + o ≡ part_start at (line_length (drop at s)) + o
  part_starts o l = some (line_length (drop at s)) (omega arith)
    where
      some : (k : ℕ) → 0 < k → at + o ≡ part_start at k + o
      some zero h = omega arith
      some (suc k) h = refl

  -- Where the end is no further than `at`, there is none.
  pub line_none : e ≤ at → line_length (drop at s) ≡ 0
  line_none l = omega arith

  pub part_none : e ≤ at → [] ≡ line_at s at
  part_none l = sym (ap (λ k. take k (drop at s)) (line_none l))

  pub part-none_starts : (o : ℕ) → e ≤ at → 0 + o ≡ part_start at (line_length (drop at s)) + o
  part-none_starts o l = sym (ap (λ k. part_start at k + o) (line_none l))
