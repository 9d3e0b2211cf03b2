-- What Read and Write answer, taken apart into their tests. Assumes nothing.
use mathlib.Core.Path.{◌≡◌, refl, sym, ◌∙◌, ap, ap₂}
use mathlib.Core.Bool.{Bool, true, false, cond}
use mathlib.Core.Logic.{◌⊎◌, inl, inr}
use mathlib.Core.List.{List}
use Prim.Native.Nat.{ℕ, suc, ◌≤◌, ◌<◌}
use borrow.Author.Tests.{ltb-true, ltb-false, lt-ltb, le-ltb}
use lib.Dec.{ltb}
use lib.ListN.{length}
use Rattle.patterns.specs.Outcome.{Outcome, good, refused}
use Rattle.sheet.specs.Line.{Line, text_of}
use Rattle.sheet.specs.Read.{sheet_in, text_limit, with_room, read_of}
use Rattle.sheet.specs.Write.{sheet_held, written, write_of}
use Rattle.sheet.proofs.Sheets.{refused≢good}

refused_number : {A : Type 0} {m n j k : ℕ} → ◌≡◌ {A = Outcome A} (refused m j) (refused n k) → n ≡ m
refused_number e = cc

refused_line : {A : Type 0} {m n j k : ℕ} → ◌≡◌ {A = Outcome A} (refused m j) (refused n k) → k ≡ j
refused_line e = cc

-- A test that refuses, and the outcome behind it.
module _ {A : Type 0} (a b n k : ℕ) (o : Outcome A) where
  guard_is : (r : Outcome A) → cond (ltb a b) (refused n k) o ≡ r → ((a < b) × (refused n k ≡ r)) ⊎ ((b ≤ a) × (o ≡ r))
  guard_is r e = go (ltb a b) refl e
    where
      go : (t : Bool) → ltb a b ≡ t → cond t (refused n k) o ≡ r → ((a < b) × (refused n k ≡ r)) ⊎ ((b ≤ a) × (o ≡ r))
      go true p e = inl (ltb-true a b p, e)
      go false p e = inr (ltb-false a b p, e)

  guard_stops : a < b → cond (ltb a b) (refused n k) o ≡ refused n k
  guard_stops h = rw (lt-ltb a b h)

  guard_passes : b ≤ a → cond (ltb a b) (refused n k) o ≡ o
  guard_passes h = rw (le-ltb a b h)

  guard_good : (x : A) → cond (ltb a b) (refused n k) o ≡ good x → (b ≤ a) × (o ≡ good x)
  guard_good x e = elim (guard_is (good x) e) [ inl s ↦ absurd (refused≢good s.1) | inr s ↦ s ]

with_room_good : (room : ℕ) (o : Outcome (List Line)) (ls : List Line) → with_room room o ≡ good ls → (length ls ≤ room) × (o ≡ good ls)
with_room_good room (good ms) ls e =
    let (fit, same) = guard_good room (length ms) 7 (suc room) (good ms) ls e in
    (let q : ms ≡ ls = cc in rw q at fit, same)
with_room_good room (refused n k) ls e = absurd (refused≢good e)

-- What a good Read says.
pub read_of_good : (text : List ℕ) (room : ℕ) (ls : List Line) → read_of text room ≡ good ls
    → (length text ≤ text_limit) × (length ls ≤ room) × (sheet_in text ≡ good ls)
unfolding read_of
read_of_good text room ls e =
    let (size, rest) = guard_good text_limit (length text) 1 0 (with_room room (sheet_in text)) ls e in
    let (fit, read) = with_room_good room (sheet_in text) ls rest in
    (size, fit, read)

pub read_of_by : (text : List ℕ) (room : ℕ) (ls : List Line) → length text ≤ text_limit → length ls ≤ room → sheet_in text ≡ good ls
    → read_of text room ≡ good ls
unfolding read_of
read_of_by text room ls size fit read =
    guard_passes text_limit (length text) 1 0 (with_room room (sheet_in text)) size
    ∙ ap (with_room room) read
    ∙ guard_passes room (length ls) 7 (suc room) (good ls) fit

-- The last test of Write.
abbrev roomed : ℕ → List ℕ → Outcome (List ℕ)
roomed room text = cond (ltb room (length text)) (refused 9 0) (good text)

written_good : (room : ℕ) (o : Outcome (List Line)) (text : List ℕ) → written room o ≡ good text
    → (ls : List Line) × (o ≡ good ls) × (text ≡ text_of ls) × (length text ≤ text_limit) × (length text ≤ room)
written_good room (good ls) text e =
    let (size, rest) = guard_good text_limit (length (text_of ls)) 1 0 (roomed room (text_of ls)) text e in
    let (fit, same) = guard_good room (length (text_of ls)) 9 0 (good (text_of ls)) text rest in
    let q : text_of ls ≡ text = cc in
    (ls, refl, sym q, rw q at size, rw q at fit)
written_good room (refused n k) text e = absurd (refused≢good e)

-- What a good Write says.
pub write_of_good : (numbers : List ℕ) (room : ℕ) (text : List ℕ) → write_of numbers room ≡ good text
    → (ls : List Line) × (sheet_held numbers ≡ good ls) × (text ≡ text_of ls) × (length text ≤ text_limit) × (length text ≤ room)
unfolding write_of
write_of_good numbers room text e = written_good room (sheet_held numbers) text e

pub write_of_by : (numbers : List ℕ) (room : ℕ) (ls : List Line) → sheet_held numbers ≡ good ls → length (text_of ls) ≤ text_limit → length (text_of ls) ≤ room
    → write_of numbers room ≡ good (text_of ls)
unfolding write_of
write_of_by numbers room ls holds size fit =
    ap (written room) holds
    ∙ guard_passes text_limit (length (text_of ls)) 1 0 (roomed room (text_of ls)) size
    ∙ guard_passes room (length (text_of ls)) 9 0 (good (text_of ls)) fit

-- Why Read refuses.
pub data ReadRefused (text : List ℕ) (room n k : ℕ) : Type 0 where
  long : text_limit < length text → n ≡ 1 → k ≡ 0 → ReadRefused text room n k
  wrong : length text ≤ text_limit → sheet_in text ≡ refused n k → ReadRefused text room n k
  short : length text ≤ text_limit → (ls : List Line) → sheet_in text ≡ good ls → room < length ls → n ≡ 7 → k ≡ suc room → ReadRefused text room n k

pub read_of_refused : (text : List ℕ) (room n k : ℕ) → read_of text room ≡ refused n k → ReadRefused text room n k
unfolding read_of
read_of_refused text room n k e =
    elim (guard_is text_limit (length text) 1 0 (with_room room (sheet_in text)) (refused n k) e)
    [ inl s ↦ long s.0 (refused_number s.1) (refused_line s.1) | inr s ↦ go (sheet_in text) s.0 refl s.1 ]
  where
    go : (o : Outcome (List Line)) → length text ≤ text_limit → sheet_in text ≡ o → with_room room o ≡ refused n k → ReadRefused text room n k
    go (refused m j) h p q = wrong h (p ∙ q)
    go (good ls) h p q =
        elim (guard_is room (length ls) 7 (suc room) (good ls) (refused n k) q)
        [ inl s ↦ short h ls p s.0 (refused_number s.1) (refused_line s.1) | inr s ↦ absurd (refused≢good (sym s.1)) ]

pub refused_read_of : (text : List ℕ) (room n k : ℕ) → ReadRefused text room n k → read_of text room ≡ refused n k
unfolding read_of
refused_read_of text room n k (long h p q) = guard_stops text_limit (length text) 1 0 (with_room room (sheet_in text)) h ∙ ap₂ refused (sym p) (sym q)
refused_read_of text room n k (wrong h p) = guard_passes text_limit (length text) 1 0 (with_room room (sheet_in text)) h ∙ ap (with_room room) p
refused_read_of text room n k (short h ls p few q r) =
    guard_passes text_limit (length text) 1 0 (with_room room (sheet_in text)) h
    ∙ ap (with_room room) p
    ∙ guard_stops room (length ls) 7 (suc room) (good ls) few
    ∙ ap₂ refused (sym q) (sym r)

-- Why Write refuses.
pub data WriteRefused (numbers : List ℕ) (room n k : ℕ) : Type 0 where
  wrong : sheet_held numbers ≡ refused n k → WriteRefused numbers room n k
  long : (ls : List Line) → sheet_held numbers ≡ good ls → text_limit < length (text_of ls) → n ≡ 1 → k ≡ 0 → WriteRefused numbers room n k
  short : (ls : List Line) → sheet_held numbers ≡ good ls → length (text_of ls) ≤ text_limit → room < length (text_of ls) → n ≡ 9 → k ≡ 0
      → WriteRefused numbers room n k

pub write_of_refused : (numbers : List ℕ) (room n k : ℕ) → write_of numbers room ≡ refused n k → WriteRefused numbers room n k
unfolding write_of
write_of_refused numbers room n k e = go (sheet_held numbers) refl e
  where
    short_of : (ls : List Line) → sheet_held numbers ≡ good ls → length (text_of ls) ≤ text_limit
        → roomed room (text_of ls) ≡ refused n k → WriteRefused numbers room n k
    short_of ls p h q =
        elim (guard_is room (length (text_of ls)) 9 0 (good (text_of ls)) (refused n k) q)
        [ inl s ↦ WriteRefused.short ls p h s.0 (refused_number s.1) (refused_line s.1) | inr s ↦ absurd (refused≢good (sym s.1)) ]

    go : (o : Outcome (List Line)) → sheet_held numbers ≡ o → written room o ≡ refused n k → WriteRefused numbers room n k
    go (refused m j) p q = WriteRefused.wrong (p ∙ cc)
    go (good ls) p q =
        elim (guard_is text_limit (length (text_of ls)) 1 0 (roomed room (text_of ls)) (refused n k) q)
        [ inl s ↦ WriteRefused.long ls p s.0 (refused_number s.1) (refused_line s.1) | inr s ↦ short_of ls p s.0 s.1 ]

pub refused_write_of : (numbers : List ℕ) (room n k : ℕ) → WriteRefused numbers room n k → write_of numbers room ≡ refused n k
unfolding write_of
refused_write_of numbers room n k (WriteRefused.wrong p) = ap (written room) p
refused_write_of numbers room n k (WriteRefused.long ls p h q r) =
    ap (written room) p
    ∙ guard_stops text_limit (length (text_of ls)) 1 0 (roomed room (text_of ls)) h
    ∙ ap₂ refused (sym q) (sym r)
refused_write_of numbers room n k (WriteRefused.short ls p h few q r) =
    ap (written room) p
    ∙ guard_passes text_limit (length (text_of ls)) 1 0 (roomed room (text_of ls)) h
    ∙ guard_stops room (length (text_of ls)) 9 0 (good (text_of ls)) few
    ∙ ap₂ refused (sym q) (sym r)
