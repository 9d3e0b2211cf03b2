-- The lines of a text, one after the other, and that a walk from the text's start hands out exactly those that end in byte 10. Assumes nothing.
use mathlib.Core.Path.{◌≡◌, refl, sym, ◌∙◌, ap, subst}
use mathlib.Core.Logic.{◌⊎◌, inl, inr, ⊎_elim}
use mathlib.Core.Bool.{Bool, true, false, cond}
use mathlib.Core.List.{List, [], ◌∷◌, ◌++◌, append_assoc, append-nil}
use Prim.Native.Nat.{ℕ, zero, suc, ◌-◌, ◌≤◌, ◌<◌}
use native.Mathlib.Nat.{add-zero, eq-or-lt_of_le}
use native.Mathlib.Omega.{arith}
use borrow.Author.Tests.{eqb-true, eqb-false, eq-eqb, ne_eqb}
use lib.Dec.{eqb}
use lib.ListN.{length, get_or, take, drop, length-append, length-take, length-drop, take-append-drop}
use lib.Seq.{drop-drop}
use Rattle.walker.specs.Walk.{longer, lines_of, after, line_length, line_end, stands_at, line_start, span_start}
use Rattle.walker.specs.Handed.{handed, together, last_byte, AllEnded, line_left, HandedOut}
use Rattle.walker.proofs.Walking.{line_length-le}

-- The first line of a text.

split_step : (b : ℕ) (s : List ℕ) (t : Bool) (k : ℕ) → (0 < k → lines_of s ≡ take k s ∷ lines_of (drop k s)) → 0 < after t k
    → cond t ((b ∷ []) ∷ lines_of s) (longer b (lines_of s)) ≡ take (after t k) (b ∷ s) ∷ lines_of (drop (after t k) (b ∷ s))
split_step b s true k ih h = refl
split_step b s false zero ih h = absurd (omega arith)
split_step b s false (suc k) ih h = ap (longer b) (ih (omega arith))

pub lines_of_split : (s : List ℕ) → 0 < line_length s → lines_of s ≡ take (line_length s) s ∷ lines_of (drop (line_length s) s)
lines_of_split [] h = absurd (omega arith)
lines_of_split (b ∷ s) h = split_step b s (eqb b 10) (line_length s) (lines_of_split s) h

pub after_none : (t : Bool) (k : ℕ) → after t k ≡ 0 → (t ≡ false) × (k ≡ 0)
after_none true k e = absurd (omega arith)
after_none false zero e = (refl, refl)
after_none false (suc k) e = absurd (omega arith)

pub lines_of_last : (s : List ℕ) → 0 < length s → line_length s ≡ 0 → lines_of s ≡ s ∷ []
lines_of_last [] h e = absurd (omega arith)
lines_of_last (b ∷ []) h e = rw (after_none (eqb b 10) 0 e).0
lines_of_last (b ∷ c ∷ s) h e =
    let (p, q) = after_none (eqb b 10) (line_length (c ∷ s)) e in
    rw p (ap (longer b) (lines_of_last (c ∷ s) (omega arith) q))

-- The lines one after the other are the text.

together-longer : (b : ℕ) (ss : List (List ℕ)) → together (longer b ss) ≡ b ∷ together ss
together-longer b [] = refl
together-longer b (s ∷ ss) = refl

together_step : (b : ℕ) (s : List ℕ) (t : Bool) → together (lines_of s) ≡ s → together (cond t ((b ∷ []) ∷ lines_of s) (longer b (lines_of s))) ≡ b ∷ s
together_step b s true e = ap (λ r. b ∷ r) e
together_step b s false e = together-longer b (lines_of s) ∙ ap (λ r. b ∷ r) e

pub together-lines_of : (s : List ℕ) → together (lines_of s) ≡ s
together-lines_of [] = refl
together-lines_of (b ∷ s) = together_step b s (eqb b 10) (together-lines_of s)

-- A line that is handed out ends in byte 10.

last_byte_more : (b : ℕ) (s : List ℕ) → 0 < length s → last_byte (b ∷ s) ≡ last_byte s
last_byte_more b [] h = absurd (omega arith)
last_byte_more b (c ∷ s) h = refl

ends_in_10 : (s : List ℕ) → 0 < line_length s → last_byte (take (line_length s) s) ≡ 10
ends_in_10 [] h = absurd (omega arith)
ends_in_10 (b ∷ s) h = by_byte (eqb b 10) refl (line_length s) refl (ends_in_10 s) h
  where
    by_byte : (t : Bool) → eqb b 10 ≡ t → (k : ℕ) → line_length s ≡ k → (0 < line_length s → last_byte (take (line_length s) s) ≡ 10) → 0 < after t k → last_byte (take (after t k) (b ∷ s)) ≡ 10
    by_byte true e k n ih some = eqb-true b 10 e
    by_byte false e zero n ih some = absurd (omega arith)
    by_byte false e (suc k) n ih some =
        let more : 0 < length (take (suc k) s) = omega (arith, n, line_length-le s, length-take (suc k) s) in
        last_byte_more b (take (suc k) s) more ∙ rw n at (ih (omega (arith, n)))

no_10_left : (s : List ℕ) → line_length s ≡ 0 → (i : ℕ) → i < length s → get_or s i 0 ≡ 10 → ⊥
no_10_left [] e i l is10 = omega arith
no_10_left (b ∷ s) e zero l is10 = eqb-false b 10 (after_none (eqb b 10) (line_length s) e).0 is10
no_10_left (b ∷ s) e (suc i) l is10 = no_10_left s (after_none (eqb b 10) (line_length s) e).1 i (omega arith) is10

-- Where a walker stands after its moves.

stands_at_next : (s : List ℕ) (at n : ℕ) → stands_at s at (suc n) ≡ stands_at s (line_end s at) n
stands_at_next s at zero = refl
stands_at_next s at (suc n) = ap (line_end s) (stands_at_next s at n)

-- A walker that stays once stays.
pub stands_at_stays : (s : List ℕ) (at n : ℕ) → line_end s at ≡ at → stands_at s at n ≡ at
stands_at_stays s at zero e = refl
stands_at_stays s at (suc n) e = ap (line_end s) (stands_at_stays s at n e) ∙ e

line_start_stays : (s : List ℕ) (n number : ℕ) → n ≤ number → line_end s (line_start s n) ≡ line_start s n → line_start s number ≡ line_start s n
line_start_stays s n zero l e = let start : n ≡ 0 = omega arith in rw start
line_start_stays s n (suc number) l e =
    ⊎_elim (λ same. rw same) (λ less. ap (line_end s) (line_start_stays s n number (omega arith) e) ∙ e) (eq-or-lt_of_le l)

span_start_stays : (s : List ℕ) (n number : ℕ) → n < number → line_end s (line_start s n) ≡ line_start s n → span_start s number ≡ line_start s n
span_start_stays s n zero l e = absurd (omega arith)
span_start_stays s n (suc number) l e = line_start_stays s n number (omega arith) e

-- Where a walker stays, every later line begins and ends.
pub span_stays : (s : List ℕ) (n number start end : ℕ) → n < number → start ≡ line_start s n → end ≡ line_end s start → end ≡ start
    → (start ≡ span_start s number) × (end ≡ line_start s number)
span_stays s n number start end l here ends stays =
    let none : line_end s (line_start s n) ≡ line_start s n = rw here at (sym ends ∙ stays) in
    (here ∙ sym (span_start_stays s n number l none), stays ∙ here ∙ sym (line_start_stays s n number (omega arith) none))

-- A walk.

none_left : (s : List ℕ) → line_length s ≡ 0 → HandedOut s [] s
none_left s e = record { in_order = alone s e; bytes = refl; ended = tt; unended = no_10_left s e }
  where
    alone : (t : List ℕ) → line_length t ≡ 0 → lines_of t ≡ line_left t
    alone [] e' = refl
    alone (b ∷ t) e' = lines_of_last (b ∷ t) (omega arith) e'

one_more : (s left : List ℕ) (lines : List (List ℕ)) → 0 < line_length s → HandedOut (drop (line_length s) s) lines left → HandedOut s (take (line_length s) s ∷ lines) left
one_more s left lines h rest = record {
  in_order = lines_of_split s h ∙ ap (λ r. take (line_length s) s ∷ r) rest.in_order;
  bytes = append_assoc (take (line_length s) s) (together lines) left ∙ ap (λ r. take (line_length s) s ++ r) rest.bytes ∙ take-append-drop (line_length s) s;
  ended = (ends_in_10 s h, rest.ended);
  unended = rest.unended;
}

hands_out_from : (s : List ℕ) (at k : ℕ) → length (drop at s) ≤ k → HandedOut (drop at s) (handed s at k) (drop (stands_at s at k) s)
hands_out_from s at zero few = none_left (drop at s) (omega (arith, line_length-le (drop at s), few))
hands_out_from s at (suc k) few = by_length (line_length (drop at s)) refl (hands_out_from s (line_end s at) k)
  where
    by_length : (n : ℕ) → line_length (drop at s) ≡ n
        → (length (drop (line_end s at) s) ≤ k → HandedOut (drop (line_end s at) s) (handed s (line_end s at) k) (drop (stands_at s (line_end s at) k) s))
        → HandedOut (drop at s) (handed s at (suc k)) (drop (stands_at s at (suc k)) s)
    by_length zero e further =
        let stays : line_end s at ≡ at = rw e (add-zero at) in
        rw (stands_at_stays s at (suc k) stays, eq-eqb (line_end s at) at stays) (none_left (drop at s) e)
    by_length (suc n) e further =
        let moves : line_end s at ≡ at → ⊥ = λ stays. omega (arith, stays, e) in
        let some : 0 < line_length (drop at s) = omega (arith, e) in
        let past : drop (line_length (drop at s)) (drop at s) ≡ drop (line_end s at) s = drop-drop (line_length (drop at s)) at s in
        let short : length (drop (line_end s at) s) ≤ k = omega (arith, few, some, line_length-le (drop at s), length-drop at s, length-drop (line_end s at) s) in
        rw (stands_at_next s at k, ne_eqb (line_end s at) at moves)
        (one_more (drop at s) (drop (stands_at s (line_end s at) k) s) (handed s (line_end s at) k) some
        (subst (λ (t : List ℕ). HandedOut t (handed s (line_end s at) k) (drop (stands_at s (line_end s at) k) s)) (sym past) (further short)))

-- A walk from the text's start hands out the text's lines, one after the other, but for a last part without a byte 10; that is what is left where the walker stays. A text has no more lines than bytes.
pub walk_hands_out_lines : (text : List ℕ) (k : ℕ) → length text ≤ k → HandedOut text (handed text 0 k) (drop (line_start text k) text)
walk_hands_out_lines text k few = hands_out_from text 0 k few

-- When something is left.

last_byte-append : (xs ys : List ℕ) → 0 < length ys → last_byte (xs ++ ys) ≡ last_byte ys
last_byte-append [] ys h = refl
last_byte-append (x ∷ xs) ys h = last_byte_more x (xs ++ ys) (omega (arith, length-append xs ys, h)) ∙ last_byte-append xs ys h

last_byte_at : (s : List ℕ) → 0 < length s → last_byte s ≡ get_or s (length s - 1) 0
last_byte_at [] h = absurd (omega arith)
last_byte_at (b ∷ []) h = refl
last_byte_at (b ∷ c ∷ s) h =
    let more : suc (suc (length s)) - 1 ≡ suc (length s) = omega arith in
    let less : suc (length s) - 1 ≡ length s = omega arith in
    rw more (rw less at (last_byte_at (c ∷ s) (omega arith)))

together_ends : (ls : List (List ℕ)) → AllEnded ls → 0 < length (together ls) → last_byte (together ls) ≡ 10
together_ends [] all h = absurd (omega arith)
together_ends (l ∷ ls) all h = by_rest (together ls) refl (together_ends ls all.1)
  where
    by_rest : (r : List ℕ) → together ls ≡ r → (0 < length (together ls) → last_byte (together ls) ≡ 10) → last_byte (l ++ together ls) ≡ 10
    by_rest [] e ih = rw (e, append-nil l) all.0
    by_rest (b ∷ r) e ih = let some : 0 < length (together ls) = omega (arith, ap length e) in last_byte-append l (together ls) some ∙ ih some

module _ (text : List ℕ) (lines : List (List ℕ)) (left : List ℕ) (out : HandedOut text lines left) where
  -- Of an empty text, and of one that ends in byte 10, nothing is left.
  pub nothing_left : (text ≡ []) ⊎ (last_byte text ≡ 10) → left ≡ []
  nothing_left (inl none) = by_left left (omega (arith, ap length (out.bytes ∙ none), length-append (together lines) left))
    where
      by_left : (r : List ℕ) → length r ≡ 0 → r ≡ []
      by_left [] e = refl
      by_left (b ∷ r) e = absurd (omega arith)
  nothing_left (inr is10) = by_left left refl
    where
      by_left : (r : List ℕ) → left ≡ r → r ≡ []
      by_left [] e = refl
      by_left (b ∷ r) e =
          let some : 0 < length left = omega (arith, ap length e) in
          absurd (out.unended (length left - 1) (omega arith)
          (sym (last_byte_at left some) ∙ sym (last_byte-append (together lines) left some) ∙ ap last_byte out.bytes ∙ is10))

  -- Of any other text something is left.
  pub something_left : 0 < length text → (last_byte text ≡ 10 → ⊥) → 0 < length left
  something_left some not10 = by_left left refl
    where
      by_left : (r : List ℕ) → left ≡ r → 0 < length r
      by_left [] e =
          let all : together lines ≡ text = sym (append-nil (together lines)) ∙ ap (λ r. together lines ++ r) (sym e) ∙ out.bytes in
          absurd (not10 (sym (ap last_byte all) ∙ together_ends lines out.ended (omega (arith, ap length all, some))))
      by_left (b ∷ r) e = omega arith
