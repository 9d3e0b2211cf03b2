-- Where the bytes of lines go: a line's letter, columns and byte 10; one S line after the other. Assumes nothing.
use mathlib.Core.Path.{◌≡◌, refl, sym, ap, ◌∙◌}
use mathlib.Core.Bool.{true, false}
use Rattle.std.specs.Prelude.{Result, Ok, Err}
use mathlib.Core.List.{List, [], ◌∷◌, ◌++◌, append_assoc, append-nil}
use Prim.Native.Nat.{ℕ, zero, suc, ◌+◌, ◌-◌, ◌*◌, ◌<◌, ◌≤◌}
use native.Mathlib.Nat.{add_comm, mul-zero, mul-suc}
use native.Mathlib.Numerals.{add-one}
use native.Mathlib.Omega.{arith}
use lib.Dec.{ltb}
use borrow.Author.Tests.{le-ltb}
use lib.ListN.{length, get_or, take, drop, set, length-append, length-drop}
use Rattle.std.specs.Simd.{first_chunks}
use lib.Seq.{take-length, length-take-le, drop-drop}
use Rattle.columns.specs.Column.{put}
use Rattle.patterns.specs.Outcome.{Outcome, good, refused, counted}
use Rattle.sheet.specs.Line.{columns, in_range}
use Rattle.sheet.proofs.Lines.{length-columns}
use Rattle.sheet.proofs.PutLaws.{put_more, ended-put}
use Rattle.report.specs.Lines.{line_text, put_of, put_says, held_at, PutMeets}
use Rattle.chase.specs.Judge.{Verdict, judged}
use Rattle.report.specs.Report.{letter_v, letter_s, verdict_numbers, step_lines, judgement_text}
use Rattle.report.specs.declared.PutRefusal.{PutRefusal}
use Rattle.report.specs.declared.PutRefusal.TheVariants.{NumberTooLarge, TextShort}

-- ---- a line

pub length-line_text : (letter : ℕ) (ns : List ℕ) → length (line_text letter ns) ≡ 9 * length ns + 2
unfolding line_text
length-line_text letter ns = omega (arith, length-append (columns ns) (10 ∷ []), length-columns ns)

-- The letter, all columns, byte 10.
pub line_put : (ns : List ℕ) (letter : ℕ) (t : List ℕ) (at : ℕ) → at + 9 * length ns + 2 ≤ length t
    → set (put (set t at letter) (at + 1) (columns (take (length ns) ns))) (at + 9 * length ns + 1) 10 ≡ put t at (line_text letter ns)
unfolding line_text
line_put ns letter t at room =
    ended-put ns t at letter (length ns) (omega arith) room ∙ ap (λ (r : List ℕ). put t at (letter ∷ (columns r ++ (10 ∷ [])))) (take-length ns)

-- ---- what putting a line answers

module _ (letter : ℕ) (ns before : List ℕ) (at : ℕ) where
  -- By what is put.
  answered : (o : Outcome (List ℕ)) (answer : Result ℕ PutRefusal) (after : List ℕ) → put_of letter ns (length before - at) ≡ o → put_says answer ≡ counted o
      → after ≡ held_at at o before → PutMeets letter ns before at answer after
  answered o answer after e s t = record { says = s ∙ sym (ap counted e); text = t ∙ sym (ap (λ (p : Outcome (List ℕ)). held_at at p before) e) }

  pub put_too_large : in_range ns ≡ false → PutMeets letter ns before at (Err NumberTooLarge) before
  unfolding put_of
  put_too_large r = answered (refused 8 0) (Err NumberTooLarge) before (rw r refl) refl refl

  pub put_short : in_range ns ≡ true → ltb (length before - at) (9 * length ns + 2) ≡ true → PutMeets letter ns before at (Err TextShort) before
  unfolding put_of
  put_short r s = answered (refused 9 0) (Err TextShort) before (rw r (rw (length-line_text letter ns) (rw s refl))) refl refl

  fits : in_range ns ≡ true → ltb (length before - at) (9 * length ns + 2) ≡ false → put_of letter ns (length before - at) ≡ good (line_text letter ns)
  unfolding put_of
  fits r s = rw r (rw (length-line_text letter ns) (rw s refl))

  pub put_good : (after : List ℕ) → in_range ns ≡ true → ltb (length before - at) (9 * length ns + 2) ≡ false → after ≡ put before at (line_text letter ns)
      → PutMeets letter ns before at (Ok (9 * length ns + 2)) after
  put_good after r s q =
      answered (good (line_text letter ns)) (Ok (9 * length ns + 2)) after (fits r s) (ap good (sym (length-line_text letter ns))) q

  -- Numbers that have columns are put where there is room.
  pub put-fits : (answer : Result ℕ PutRefusal) (after : List ℕ) → PutMeets letter ns before at answer after → in_range ns ≡ true → at + 9 * length ns + 2 ≤ length before
      → after ≡ put before at (line_text letter ns)
  put-fits answer after m r room =
      let s = le-ltb (length before - at) (9 * length ns + 2) (omega arith) in
      m.text ∙ ap (λ (o : Outcome (List ℕ)). held_at at o before) (fits r s)

  -- and this is answered.
  pub put_ok : (answer : Result ℕ PutRefusal) (after : List ℕ) → PutMeets letter ns before at answer after → in_range ns ≡ true → at + 9 * length ns + 2 ≤ length before
      → answer ≡ Ok (9 * length ns + 2)
  put_ok answer after m r room = go answer (m.says ∙ ap counted (fits r (le-ltb (length before - at) (9 * length ns + 2) (omega arith))))
    where
      go : (a : Result ℕ PutRefusal) → put_says a ≡ good (length (line_text letter ns)) → a ≡ Ok (9 * length ns + 2)
      go (Ok n) e = let size = length-line_text letter ns in cc
      go (Err NumberTooLarge) e = cc
      go (Err TextShort) e = cc

-- ---- the lines of steps

-- One step more.
steps_suc : (k : ℕ) (ns : List ℕ) → step_lines (suc k) ns ≡ step_lines k ns ++ line_text letter_s (take 5 (drop (5 * k) ns))
steps_suc zero ns = append-nil (line_text letter_s (take 5 ns))
steps_suc (suc k) ns =
    let e : 5 + 5 * k ≡ 5 * suc k = omega arith in
    ap (λ (r : List ℕ). line_text letter_s (take 5 ns) ++ r)
    (steps_suc k (drop 5 ns)
    ∙ ap (λ (r : List ℕ). step_lines k (drop 5 ns) ++ line_text letter_s (take 5 r)) (drop-drop (5 * k) 5 ns ∙ ap (λ (j : ℕ). drop j ns) e))
    ∙ sym (append_assoc (line_text letter_s (take 5 ns)) (step_lines k (drop 5 ns)) (line_text letter_s (take 5 (drop (5 * suc k) ns))))

pub steps_more : (k : ℕ) (ns : List ℕ) → step_lines (k + 1) ns ≡ step_lines k ns ++ line_text letter_s (take 5 (drop (5 * k) ns))
steps_more k ns = ap (λ (j : ℕ). step_lines j ns) (add-one k) ∙ steps_suc k ns

pub length_five : (k : ℕ) (ns : List ℕ) → 5 * (k + 1) ≤ length ns → length (take 5 (drop (5 * k) ns)) ≡ 5
length_five k ns h = length-take-le 5 (drop (5 * k) ns) (omega (arith, length-drop (5 * k) ns))

pub length-step_lines : (k : ℕ) (ns : List ℕ) → 5 * k ≤ length ns → length (step_lines k ns) ≡ 47 * k
length-step_lines zero ns h = refl
length-step_lines (suc k) ns h =
    let e : length (take 5 ns) ≡ 5 = length-take-le 5 ns (omega arith) in
    omega (
      arith,
      length-append (line_text letter_s (take 5 ns)) (step_lines k (drop 5 ns)),
      length-line_text letter_s (take 5 ns),
      length-step_lines k (drop 5 ns) (omega (arith, length-drop 5 ns)),
    )

-- Part n of a list that is cut into parts of w.
pub part_at : (w k : ℕ) (xs : List ℕ) (n : ℕ) → n < k → get_or (first_chunks w k xs) n [] ≡ take w (drop (w * n) xs)
part_at w zero xs n h = absurd (omega arith)
part_at w (suc k) xs zero h = rw mul-zero refl
part_at w (suc k) xs (suc n) h =
    part_at w k (drop w xs) n (omega arith) ∙ ap (take w) (drop-drop (w * n) w xs ∙ ap (λ (j : ℕ). drop j xs) (sym (mul-suc w n ∙ add_comm (w * n) w)))

-- One S line more in the text.
pub step_put : (t : List ℕ) (k : ℕ) (ns five : List ℕ) → five ≡ take 5 (drop (5 * k) ns) → 5 * (k + 1) ≤ length ns → 74 + 47 * (k + 1) ≤ length t
    → put (put t 74 (step_lines k ns)) (74 + 47 * k) (line_text letter_s five) ≡ put t 74 (step_lines (k + 1) ns)
step_put t k ns five is h room =
    let e : length (step_lines k ns) ≡ 47 * k = length-step_lines k ns (omega arith) in
    let new : List ℕ = line_text letter_s (take 5 (drop (5 * k) ns)) in
    let five_long : length (take 5 (drop (5 * k) ns)) ≡ 5 = length_five k ns h in
    let p : 74 + 47 * k ≡ 74 + length (step_lines k ns) = omega arith in
    ap (λ (f : List ℕ). put (put t 74 (step_lines k ns)) (74 + 47 * k) (line_text letter_s f)) is
    ∙ ap (λ (j : ℕ). put (put t 74 (step_lines k ns)) j new) p
    ∙ put_more t 74 (step_lines k ns) new (omega (arith, length-line_text letter_s (take 5 (drop (5 * k) ns))))
    ∙ ap (put t 74) (sym (steps_more k ns))

-- The steps' lines go after the V line.
pub verdict_put : (t : List ℕ) (v : Verdict) (ns : List ℕ) → 5 * (v.trail + v.loop) ≤ length ns → 74 + 47 * (v.trail + v.loop) ≤ length t
    → put (put t 0 (line_text letter_v (verdict_numbers v))) 74 (step_lines (v.trail + v.loop) ns) ≡ put t 0 (judgement_text (judged v) ns)
verdict_put t v ns h room =
    let line : List ℕ = line_text letter_v (verdict_numbers v) in
    let lines : List ℕ = step_lines (v.trail + v.loop) ns in
    let e : length line ≡ 74 = length-line_text letter_v (verdict_numbers v) in
    let p : 74 ≡ 0 + length line = omega arith in
    ap (λ (k : ℕ). put (put t 0 line) k lines) p ∙ put_more t 0 line lines (omega (arith, length-step_lines (v.trail + v.loop) ns h))

pub length_judged : (v : Verdict) (ns : List ℕ) → 5 * (v.trail + v.loop) ≤ length ns
    → 74 + 47 * (v.trail + v.loop) ≡ length (judgement_text (judged v) ns)
length_judged v ns h =
    omega (
      arith,
      length-append (line_text letter_v (verdict_numbers v)) (step_lines (v.trail + v.loop) ns),
      length-line_text letter_v (verdict_numbers v),
      length-step_lines (v.trail + v.loop) ns h,
    )
