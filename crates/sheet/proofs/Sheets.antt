-- Sheets: the text and the lent numbers of a sheet's lines are read back as these lines, and nothing else is read. Assumes nothing.
use mathlib.Core.Path.{◌≡◌, refl, sym, ◌∙◌, ap, ap₂, subst}
use mathlib.Core.Bool.{Bool, true, false, cond, ◌&&◌, and-eq-true_iff, false≢true}
use mathlib.Core.List.{List, [], ◌∷◌, ◌++◌, map}
use mathlib.Core.Option.{Option, none, some}
use Prim.Native.Nat.{ℕ, zero, suc, ◌*◌, ◌≤◌, ◌<◌}
use native.Mathlib.Omega.{arith}
use borrow.Author.Tests.{eqb-true, eqb-false, eq-eqb, ne_eqb}
use lib.Dec.{eqb, ltb}
use lib.ListN.{length, take, drop, length-append, length-drop, take-append-drop}
use lib.Seq.{take_at, drop_at}
use Rattle.patterns.specs.Outcome.{Outcome, good, refused, padded}
use Rattle.columns.specs.Column.{same}
use Rattle.sheet.specs.Line.{K, B, Line, render, text_of, well_formed, line_in, lent, lent_of}
use Rattle.sheet.specs.Sheet.{letter_before, width_of, in_place, kind_right, marks_right, room_for, refusal, Continues, IsSheet}
use Rattle.walker.specs.Walk.{lines_of}
use Rattle.walker.specs.Handed.{together}
use Rattle.walker.proofs.TextLines.{together-lines_of}
use Rattle.sheet.specs.Read.{Taken, takes, refuses, in_front, go_on, checked, tested, tested_in, taken_text, sheet_in}
use Rattle.sheet.specs.Write.{used_numbers, line_held, line_holds, taken_lent, parts_of, sheet_held}
use Rattle.columns.proofs.ColumnLaws.{same_refl, same_true}
use Rattle.sheet.proofs.FormLaws.{known_columns, formed_known, formed_few, formed_K, take-padded}
use Rattle.sheet.proofs.Lines.{both, drop_twice, Formed, line_in-render, line_in_is, length-render, length-lent, lines_of_text}

-- A good outcome is no refusal.

pub refused≢good : {A : Type 0} {a : A} {n k : ℕ} → refused n k ≡ good a → ⊥
refused≢good e = false≢true cc

in_front_is : (l : Line) (o : Outcome (List Line)) (ls : List Line) → in_front l o ≡ good ls → (ms : List Line) × (o ≡ good ms) × (ls ≡ l ∷ ms)
in_front_is l (good ms) ls e = (ms, refl, cc)
in_front_is l (refused n k) ls e = absurd (refused≢good e)

-- Inputs of which each is taken for the line that it shows, and only for that one.
pub record Shows {A : Type 0} (taken : List Line → A → Taken) (shows : Line → A) : Type 0 where
  pub only : (before : List Line) (x : A) (l : Line) → taken before x ≡ takes l → (x ≡ shows l) × (well_formed l ≡ true) × (refusal before l ≡ 0)
  pub each : (before : List Line) (l : Line) → well_formed l ≡ true → refusal before l ≡ 0 → taken before (shows l) ≡ takes l

end_is : (t : Bool) (n k : ℕ) (ls : List Line) → cond t (refused n k) (good []) ≡ good ls → (t ≡ false) × (ls ≡ [])
end_is true n k ls e = absurd (refused≢good e)
end_is false n k ls e = (refl, cc)

go_on_is : (t : Taken) (rest : Line → Outcome (List Line)) (k : ℕ) (ls : List Line) → go_on t rest k ≡ good ls
    → (l : Line) × (ms : List Line) × (t ≡ takes l) × (rest l ≡ good ms) × (ls ≡ l ∷ ms)
go_on_is (takes l) rest k ls e = let (ms, p, q) = in_front_is l (rest l) ls e in (l, ms, refl, p, q)
go_on_is (refuses r) rest k ls e = absurd (refused≢good e)

module _ {A : Type 0} (taken : List Line → A → Taken) (unfinished : ℕ) (shows : Line → A) (s : Shows taken shows) where
  pub checked_is : (before : List Line) (xs : List A) (ls : List Line) → checked taken unfinished before xs ≡ good ls
      → (xs ≡ map shows ls) × Continues before ls
  checked_is before [] ls e =
      let (p, q) = end_is (eqb (letter_before before) B) unfinished (suc (length before)) ls e in
      subst (λ ms. ([] ≡ map shows ms) × Continues before ms) (sym q) (refl, eqb-false (letter_before before) B p)
  checked_is before (x ∷ xs) ls e =
      let (l, ms, p, q, r) = go_on_is (taken before x) (λ l. checked taken unfinished (l ∷ before) xs) (suc (length before)) ls e in
      let (x-is, form, passed) = s.only before x l p in
      let (xs-are, rest) = checked_is (l ∷ before) xs ms q in
      subst (λ ms. (x ∷ xs ≡ map shows ms) × Continues before ms) (sym r) (ap₂ ◌∷◌ x-is xs-are, (form, passed, rest))

  pub checked_shown : (before ls : List Line) → Continues before ls → checked taken unfinished before (map shows ls) ≡ good ls
  checked_shown before [] c = rw (ne_eqb (letter_before before) B c)
  checked_shown before (l ∷ ls) c =
      ap (λ t. go_on t (λ m. checked taken unfinished (m ∷ before) (map shows ls)) (suc (length before))) (s.each before l c.0 c.1)
      ∙ ap (in_front l) (checked_shown (l ∷ before) ls c.2)

formed_continues : (before ls : List Line) → Continues before ls → Formed ls
formed_continues before [] c = tt
formed_continues before (l ∷ ls) c = (c.0, formed_continues (l ∷ before) ls c.2)

pub all_well_formed : (ls : List Line) → IsSheet ls → Formed ls
all_well_formed ls c = formed_continues [] ls c

-- Text.

tested_is : (n : ℕ) (l m : Line) → tested n l ≡ takes m → (n ≡ 0) × (l ≡ m)
tested_is zero l m e = (refl, cc)
tested_is (suc n) l m e = absurd (false≢true cc)

tested_in_is : (before : List Line) (o : Option Line) (l : Line) → tested_in before o ≡ takes l → (o ≡ some l) × (refusal before l ≡ 0)
tested_in_is before none l e = absurd (false≢true cc)
tested_in_is before (some m) l e = let (p, q) = tested_is (refusal before m) m l e in (ap some q, rw q at p)

pub text_shows : Shows taken_text render
unfolding taken_text
text_shows =
    record {
      only = λ before x l e.
          let (p, q) = tested_in_is before (line_in x) l e in
          let (is, form) = line_in_is x l p in
          (is, form, q);
      each = λ before l form passed. ap (tested_in before) (line_in-render l form) ∙ ap (λ n. tested n l) passed;
    }

pub together-render : (ls : List Line) → together (map render ls) ≡ text_of ls
together-render [] = refl
together-render (l ∷ ls) = ap (λ r. render l ++ r) (together-render ls)

pub sheet_in_is : (text : List ℕ) (ls : List Line) → sheet_in text ≡ good ls → (text ≡ text_of ls) × IsSheet ls
unfolding sheet_in
sheet_in_is text ls e =
    let (lines, sheet) = checked_is taken_text 3 render text_shows [] (lines_of text) ls e in
    (sym (together-lines_of text) ∙ ap together lines ∙ together-render ls, sheet)

pub sheet_in_text : (ls : List Line) → IsSheet ls → sheet_in (text_of ls) ≡ good ls
unfolding sheet_in
sheet_in_text ls c = ap (checked taken_text 3 []) (lines_of_text ls (all_well_formed ls c)) ∙ checked_shown taken_text 3 render text_shows [] ls c

-- Lent numbers, a line's at a time.

-- The bound does not matter once it is at least the length.
pub parts_bound : (a b : ℕ) (xs : List ℕ) → length xs ≤ a → length xs ≤ b → parts_of a xs ≡ parts_of b xs
parts_bound zero zero xs h k = refl
parts_bound zero (suc b) [] h k = refl
parts_bound zero (suc b) (x ∷ xs) h k = absurd (omega arith)
parts_bound (suc a) zero [] h k = refl
parts_bound (suc a) zero (x ∷ xs) h k = absurd (omega arith)
parts_bound (suc a) (suc b) [] h k = refl
parts_bound (suc a) (suc b) (x ∷ xs) h k =
    ap (λ r. take 8 (x ∷ xs) ∷ r)
    (parts_bound a b (drop 8 (x ∷ xs)) (omega (arith, length-drop 8 (x ∷ xs))) (omega (arith, length-drop 8 (x ∷ xs))))

pub parts_next : (a b : ℕ) (xs : List ℕ) → 0 < length xs → length xs ≤ a → length (drop 8 xs) ≤ b → parts_of a xs ≡ take 8 xs ∷ parts_of b (drop 8 xs)
parts_next a b [] h k m = absurd (omega arith)
parts_next zero b (x ∷ xs) h k m = absurd (omega arith)
parts_next (suc a) b (x ∷ xs) h k m =
    ap (λ r. take 8 (x ∷ xs) ∷ r) (parts_bound a b (drop 8 (x ∷ xs)) (omega (arith, length-drop 8 (x ∷ xs))) m)

-- One line more from line n on.
pub parts_at : (numbers : List ℕ) (n : ℕ) → 8 * n < length numbers
    → parts_of (length (drop (8 * n) numbers)) (drop (8 * n) numbers)
    ≡ take 8 (drop (8 * n) numbers) ∷ parts_of (length (drop (8 * suc n) numbers)) (drop (8 * suc n) numbers)
parts_at numbers n h =
    let next : drop 8 (drop (8 * n) numbers) ≡ drop (8 * suc n) numbers = drop_twice 8 (8 * n) (8 * suc n) numbers (omega arith) in
    parts_next (length (drop (8 * n) numbers)) (length (drop 8 (drop (8 * n) numbers))) (drop (8 * n) numbers)
    (omega (arith, length-drop (8 * n) numbers)) (omega arith) (omega arith)
    ∙ ap (λ r. take 8 (drop (8 * n) numbers) ∷ parts_of (length r) r) next

pub together_parts : (a : ℕ) (xs : List ℕ) → length xs ≤ a → together (parts_of a xs) ≡ xs
together_parts zero [] h = refl
together_parts zero (x ∷ xs) h = absurd (omega arith)
together_parts (suc a) [] h = refl
together_parts (suc a) (x ∷ xs) h =
    ap (λ r. take 8 (x ∷ xs) ++ r) (together_parts a (drop 8 (x ∷ xs)) (omega (arith, length-drop 8 (x ∷ xs)))) ∙ take-append-drop 8 (x ∷ xs)

-- A lent line at the front is the first part.
pub parts_front : (l : Line) (rest : List ℕ) → parts_of (length (lent l ++ rest)) (lent l ++ rest) ≡ lent l ∷ parts_of (length rest) rest
parts_front l rest =
    let size = length-append (lent l) rest in
    let tail = drop_at (lent l) rest 8 (length-lent l) in
    parts_next (length (lent l ++ rest)) (length rest) (lent l ++ rest) (omega (arith, size, length-lent l)) (omega arith) (omega (arith, ap length tail))
    ∙ ap₂ (λ x r. x ∷ parts_of (length rest) r) (take_at (lent l) rest 8 (length-lent l)) tail

parts_lent : (ls : List Line) → parts_of (length (lent_of ls)) (lent_of ls) ≡ map lent ls
parts_lent [] = refl
parts_lent (l ∷ ls) = parts_front l (lent_of ls) ∙ ap (λ r. lent l ∷ r) (parts_lent ls)

pub length-lent_of : (ls : List Line) → length (lent_of ls) ≡ 8 * length ls
length-lent_of [] = refl
length-lent_of (l ∷ ls) = omega (arith, length-append (lent l) (lent_of ls), length-lent l, length-lent_of ls)

pub together-lent : (ls : List Line) → together (map lent ls) ≡ lent_of ls
together-lent [] = refl
together-lent (l ∷ ls) = ap (λ r. lent l ++ r) (together-lent ls)

-- A line's text has 20 bytes or more.
pub render_size : (l : Line) → well_formed l ≡ true → 20 ≤ length (render l)
render_size l h =
    let count = known_columns l.letter (suc (length l.numbers)) (formed_known l h) in
    omega (arith, length-render l)

-- A line that gets no refusal passes all four tests.
pub record Passes (before : List Line) (l : Line) : Type 0 where
  pub place : in_place (letter_before before) l.letter ≡ true
  pub kind : kind_right before l ≡ true
  pub marks : marks_right before l ≡ true
  pub room : room_for before l ≡ true

pub refusal_passes : (before : List Line) (l : Line) → refusal before l ≡ 0 → Passes before l
unfolding refusal
refusal_passes before l e = go (in_place (letter_before before) l.letter) (kind_right before l) (marks_right before l) (room_for before l) refl refl refl refl e
  where
    go : (p k m r : Bool)
        → in_place (letter_before before) l.letter ≡ p → kind_right before l ≡ k → marks_right before l ≡ m → room_for before l ≡ r
        → ◌≡◌ {A = ℕ} (cond p (cond k (cond m (cond r 0 6) 5) 4) 3) 0 → Passes before l
    go true true true true a b c d e = record { place = a; kind = b; marks = c; room = d }
    go true true true false a b c d e = absurd (omega arith)
    go true true false r a b c d e = absurd (omega arith)
    go true false m r a b c d e = absurd (omega arith)
    go false k m r a b c d e = absurd (omega arith)

-- The refusals of a line in the form are 3 to 6.
pub refusal-number : (before : List Line) (l : Line) → 0 < refusal before l → (3 ≤ refusal before l) × (refusal before l ≤ 6)
unfolding refusal
refusal-number before l h = go (in_place (letter_before before) l.letter) (kind_right before l) (marks_right before l) (room_for before l) h
  where
    go : (p k m r : Bool) → 0 < cond p (cond k (cond m (cond r 0 6) 5) 4) 3
        → (3 ≤ cond p (cond k (cond m (cond r 0 6) 5) 4) 3) × (cond p (cond k (cond m (cond r 0 6) 5) 4) 3 ≤ 6)
    go true true true true h = absurd (omega arith)
    go true true true false h = (omega arith, omega arith)
    go true true false r h = (omega arith, omega arith)
    go true false m r h = (omega arith, omega arith)
    go false k m r h = (omega arith, omega arith)

-- Lent lines.

-- Of a line that is not a K line, as many numbers are used as its kind has fields.
kind_right_width : (before : List Line) (l : Line) → eqb l.letter K ≡ false → kind_right before l ≡ true → length l.numbers ≡ width_of before l.kind
unfolding kind_right
kind_right_width before l k e =
    eqb-true (length l.numbers) (width_of before l.kind)
    ((and-eq-true_iff (ltb 0 (width_of before l.kind)) (eqb (length l.numbers) (width_of before l.kind))).0 (rw k at e)).1

pub used_all : (before : List Line) (l : Line) → well_formed l ≡ true → Passes before l → used_numbers before (lent l) ≡ length l.numbers
unfolding lent
used_all before l form p = go (eqb l.letter K) refl
  where
    go : (t : Bool) → eqb l.letter K ≡ t → cond t 1 (width_of before l.kind) ≡ length l.numbers
    go true k = sym (formed_K l form (eqb-true l.letter K k))
    go false k = sym (kind_right_width before l k p.kind)

held-lent : (before : List Line) (l : Line) → well_formed l ≡ true → Passes before l → line_held before (lent l) ≡ l
unfolding line_held lent
held-lent before l form p =
    ap (λ ns. record { letter = l.letter; kind = l.kind; numbers = ns })
    (ap (λ k. take k (padded 6 l.numbers)) (used_all before l form p) ∙ take-padded 6 l.numbers (formed_few l form))

cond_takes : (t : Bool) (l m : Line) (n : ℕ) → cond t (takes l) (refuses n) ≡ takes m → (t ≡ true) × (l ≡ m)
cond_takes true l m n e = (refl, cc)
cond_takes false l m n e = absurd (false≢true cc)

-- The three tests of a lent line, where it holds the line l.
held_tests : (before : List Line) (x : List ℕ) (l : Line) → line_held before x ≡ l → line_holds before x ≡ (same (lent l) x && well_formed l && eqb (refusal before l) 0)
unfolding line_holds
held_tests before x l e = ap (λ m. same (lent m) x && well_formed m && eqb (refusal before m) 0) e

pub lent_shows : Shows taken_lent lent
unfolding taken_lent
lent_shows =
    record {
      only = λ before x l e.
          let (t, q) = cond_takes (line_holds before x) (line_held before x) l 8 e in
          let (u, passed) = (and-eq-true_iff (same (lent l) x && well_formed l) (eqb (refusal before l) 0)).0 (sym (held_tests before x l q) ∙ t) in
          let (is, form) = (and-eq-true_iff (same (lent l) x) (well_formed l)).0 u in
          (sym (same_true (lent l) x is), form, eqb-true (refusal before l) 0 passed);
      each = λ before l form passed.
          let q = held-lent before l form (refusal_passes before l passed) in
          ap₂ (λ t m. cond t (takes m) (refuses 8))
          (held_tests before (lent l) l q ∙ both (both (same_refl (lent l)) form) (eq-eqb (refusal before l) 0 passed))
          q;
    }

pub sheet_held_is : (numbers : List ℕ) (ls : List Line) → sheet_held numbers ≡ good ls → (numbers ≡ lent_of ls) × IsSheet ls
unfolding sheet_held
sheet_held_is numbers ls e =
    let (parts, sheet) = checked_is taken_lent 8 lent lent_shows [] (parts_of (length numbers) numbers) ls e in
    (sym (together_parts (length numbers) numbers (omega arith)) ∙ ap together parts ∙ together-lent ls, sheet)

pub sheet_held-lent : (ls : List Line) → IsSheet ls → sheet_held (lent_of ls) ≡ good ls
unfolding sheet_held
sheet_held-lent ls c =
    ap (checked taken_lent 8 []) (parts_lent ls) ∙ checked_shown taken_lent 8 lent lent_shows [] ls c
