-- What the lines of a sheet are, one by one; the rules of a sheet fit; the lent numbers at a line. Assumes nothing.
use mathlib.Core.Path.{◌≡◌, refl, sym, subst, ap, ap₂, ◌∙◌}
use mathlib.Core.Logic.{◌⊎◌, inl, inr}
use mathlib.Core.Bool.{Bool, true, false, cond, ◌&&◌, false≢true, and-eq-true_iff}
use mathlib.Core.List.{List, [], ◌∷◌, ◌++◌}
use Prim.Native.Nat.{ℕ, zero, suc, ◌+◌, ◌*◌, ◌≤◌, ◌<◌, max}
use native.Mathlib.Numerals.{add-one}
use native.Mathlib.Omega.{arith}
use borrow.Author.Tests.{eqb-true, eq-eqb, leb-true, ltb-true}
use lib.Dec.{eqb, leb, ltb}
use lib.ListN.{length, get_or, take, drop, get_or-append}
use lib.Seq.{drop-cons, drop-append-add, drop-drop, drop-nil, take-append-le, get_or-drop}
use Rattle.sheet.specs.Line.{K, B, H, R, Line, well_formed, known, in_range, form_of_line, lent, lent_of}
use Rattle.patterns.specs.Outcome.{padded}
use Rattle.sheet.specs.Sheet.{letter_before, in_place, kind_before, width_of, kind_right, marks_from, marks_right, mark_before, lines_with, heads_before, room_for, refusal, Continues, IsSheet}
use Rattle.patterns.proofs.ListLaws.{length-padded}
use Rattle.sheet.proofs.FormLaws.{known_columns, take-padded}
use Rattle.sheet.proofs.Lines.{length-lent}
use Rattle.sheet.proofs.Sheets.{refusal_passes, sheet_held_is, length-lent_of}
use Rattle.chase.specs.Lists.{All}
use Rattle.chase.specs.Rules.{heads_of, rules_of, row_lines}
use Rattle.rules.specs.Table.{KindFits, HeadFits, RuleFits, SheetHeld, good_lines, lines_in}

-- ---- one line after the lines before

-- The kinds that the lines before declare are 1 to 64, their widths 1 to 6.
pub record Declared (before : List Line) : Type 0 where
  pub each : (k : ℕ) → 0 < width_of before k → KindFits k × (width_of before k ≤ 6)

-- A line of a sheet: its kind, its numbers, its marks; one number for each field of its kind.
pub record LineFits (before : List Line) (l : Line) : Type 0 where
  pub kind : KindFits l.kind
  pub some : 1 ≤ length l.numbers
  pub few : length l.numbers ≤ 6
  pub marks : (l.letter ≡ B) ⊎ (l.letter ≡ H) → All (λ m. (1 ≤ m) × (m ≤ 12)) l.numbers
  pub width : (l.letter ≡ K → ⊥) → length l.numbers ≡ width_of before l.kind

-- How many numbers a line in the form has.
formed_numbers : (l : Line) → well_formed l ≡ true → (1 ≤ length l.numbers) × (length l.numbers ≤ 6)
unfolding well_formed
formed_numbers l e =
    let known_here = ((and-eq-true_iff (known (form_of_line l)) (in_range (l.kind ∷ l.numbers))).0 e).0 in
    let c = known_columns l.letter (suc (length l.numbers)) known_here in
    (omega (arith, c.0), omega (arith, c.1))

marks_each : (m : ℕ) (ns : List ℕ) → marks_from m ns ≡ true → All (λ n. (1 ≤ n) × (n ≤ 12)) ns
marks_each m [] e = tt
marks_each m (n ∷ ns) e =
    let (u, rest) = (and-eq-true_iff (leb 1 n && leb n 12 && leb n (suc m)) (marks_from (max m n) ns)).0 e in
    let (v, _) = (and-eq-true_iff (leb 1 n && leb n 12) (leb n (suc m))).0 u in
    let (low, high) = (and-eq-true_iff (leb 1 n) (leb n 12)).0 v in
    ((leb-true 1 n low, leb-true n 12 high), marks_each (max m n) ns rest)

line-marks : (before : List Line) (l : Line) → marks_right before l ≡ true → (l.letter ≡ B) ⊎ (l.letter ≡ H) → All (λ m. (1 ≤ m) × (m ≤ 12)) l.numbers
unfolding marks_right
line-marks before l e (inl b) = marks_each 0 l.numbers (rw b at e)
line-marks before l e (inr h) = marks_each (mark_before before) l.numbers (rw h at e)

-- What a K line declares.
declared_line : (before : List Line) (l : Line) → eqb l.letter K ≡ true → kind_right before l ≡ true → KindFits l.kind × (get_or l.numbers 0 0 ≤ 6)
unfolding kind_right
declared_line before l k e =
    let kind : ℕ = l.kind in
    let w : ℕ = get_or l.numbers 0 0 in
    let (u1, narrow) = (and-eq-true_iff (leb 1 kind && leb kind 64 && ltb (kind_before before) kind && leb 1 w) (leb w 6)).0 (rw k at e) in
    let (u2, _) = (and-eq-true_iff (leb 1 kind && leb kind 64 && ltb (kind_before before) kind) (leb 1 w)).0 u1 in
    let (u3, _) = (and-eq-true_iff (leb 1 kind && leb kind 64) (ltb (kind_before before) kind)).0 u2 in
    let (low, high) = (and-eq-true_iff (leb 1 kind) (leb kind 64)).0 u3 in
    ((leb-true 1 kind low, leb-true kind 64 high), leb-true w 6 narrow)

-- Any other line has a declared kind and its width.
used_line : (before : List Line) (l : Line) → eqb l.letter K ≡ false → kind_right before l ≡ true
    → (0 < width_of before l.kind) × (length l.numbers ≡ width_of before l.kind)
unfolding kind_right
used_line before l k e =
    let w : ℕ = width_of before l.kind in
    let (some, same) = (and-eq-true_iff (ltb 0 w) (eqb (length l.numbers) w)).0 (rw k at e) in
    (ltb-true 0 w some, eqb-true (length l.numbers) w same)

line_kind : (before : List Line) (l : Line) → Declared before → kind_right before l ≡ true → KindFits l.kind
line_kind before l d e = go (eqb l.letter K) refl
  where
    go : (t : Bool) → eqb l.letter K ≡ t → KindFits l.kind
    go true k = (declared_line before l k e).0
    go false k = (d.each l.kind (used_line before l k e).0).0

pub line_fits : (before : List Line) (l : Line) → Declared before → well_formed l ≡ true → refusal before l ≡ 0 → LineFits before l
line_fits before l d formed passed =
    let p = refusal_passes before l passed in
    let (some, few) = formed_numbers l formed in
    record {
      kind = line_kind before l d p.kind;
      some = some;
      few = few;
      marks = line-marks before l p.marks;
      width = λ other. go other p.kind (eqb l.letter K) refl;
    }
  where
    go : (l.letter ≡ K → ⊥) → kind_right before l ≡ true → (t : Bool) → eqb l.letter K ≡ t → length l.numbers ≡ width_of before l.kind
    go other right true k = absurd (other (eqb-true l.letter K k))
    go other right false k = (used_line before l k right).1

pub declared_none : Declared []
declared_none = record { each = λ k h. absurd (omega arith) }

pub declared_more : (before : List Line) (l : Line) → Declared before → refusal before l ≡ 0 → Declared (l ∷ before)
declared_more before l d passed = record { each = λ k h. go k (eqb l.letter K) (eqb l.kind k) refl refl h }
  where
    go : (k : ℕ) (s t : Bool) → eqb l.letter K ≡ s → eqb l.kind k ≡ t → 0 < cond (s && t) (get_or l.numbers 0 0) (width_of before k)
        → KindFits k × (cond (s && t) (get_or l.numbers 0 0) (width_of before k) ≤ 6)
    go k true true a b h =
        let (fits, narrow) = declared_line before l a (refusal_passes before l passed).kind in
        (subst KindFits (eqb-true l.kind k b) fits, narrow)
    go k true false a b h = d.each k h
    go k false t a b h = d.each k h

-- ---- the rules of a sheet

-- The line after a B line is an H line.
after_body : (before : List Line) (l : Line) → letter_before before ≡ B → refusal before l ≡ 0 → l.letter ≡ H
unfolding in_place
after_body before l b passed = go (eqb l.letter K) (eqb l.letter B) (eqb l.letter H) refl (rw b at (refusal_passes before l passed).place)
  where
    go : (k b h : Bool) → eqb l.letter H ≡ h → cond k false (cond b false (cond h true false)) ≡ true → l.letter ≡ H
    go true b h a e = absurd (false≢true e)
    go false true h a e = absurd (false≢true e)
    go false false true a e = eqb-true l.letter H a
    go false false false a e = absurd (false≢true e)

heads_some : (before ls : List Line) → letter_before before ≡ B → Continues before ls → 1 ≤ length (heads_of ls)
heads_some before [] b c = absurd (c b)
heads_some before (l ∷ ls) b c = rw (eq-eqb l.letter H (after_body before l b c.1)) (omega arith)

heads_few : (before ls : List Line) → Continues before ls → heads_before before ≤ 4 → heads_before before + length (heads_of ls) ≤ 4
unfolding room_for
heads_few before [] c few = omega arith
heads_few before (l ∷ ls) c few = go (heads_few (l ∷ before) ls c.2) (eqb l.letter H) refl
  where
    go : (heads_before (l ∷ before) ≤ 4 → heads_before (l ∷ before) + length (heads_of ls) ≤ 4) → (t : Bool) → eqb l.letter H ≡ t
        → heads_before before + length (cond t (record { kind = l.kind; marks = l.numbers } ∷ heads_of ls) []) ≤ 4
    go after true h =
        let room = ltb-true (heads_before before) 4 (rw (eqb-true l.letter H h) at (refusal_passes before l c.1).room) in
        let more : heads_before (l ∷ before) ≡ suc (heads_before before) = rw h in
        let rest = after (rw more room) in
        omega arith
    go after false h = omega arith

heads_fit : (before ls : List Line) → Declared before → Continues before ls → All HeadFits (heads_of ls)
heads_fit before [] d c = tt
heads_fit before (l ∷ ls) d c = go (heads_fit (l ∷ before) ls (declared_more before l d c.1) c.2) (eqb l.letter H) refl
  where
    go : All HeadFits (heads_of ls) → (t : Bool) → eqb l.letter H ≡ t → All HeadFits (cond t (record { kind = l.kind; marks = l.numbers } ∷ heads_of ls) [])
    go after true h =
        let fits = line_fits before l d c.0 c.1 in (
          record { kind = fits.kind; marks = record { some = fits.some; few = fits.few; each = fits.marks (inr (eqb-true l.letter H h)) } },
          after,
        )
    go after false h = tt

all_rules_fit : (before ls : List Line) → Declared before → Continues before ls → All RuleFits (rules_of ls)
all_rules_fit before [] d c = tt
all_rules_fit before (l ∷ ls) d c = go (all_rules_fit (l ∷ before) ls (declared_more before l d c.1) c.2) (eqb l.letter B) refl
  where
    go : All RuleFits (rules_of ls) → (t : Bool) → eqb l.letter B ≡ t
        → All RuleFits (cond t (record { kind = l.kind; marks = l.numbers; heads = heads_of ls } ∷ rules_of ls) (rules_of ls))
    go after true b =
        let is : l.letter ≡ B = eqb-true l.letter B b in
        let fits = line_fits before l d c.0 c.1 in
        let none : heads_before (l ∷ before) ≡ 0 = rw is in
        let few = heads_few (l ∷ before) ls c.2 (omega arith) in (
          record {
            kind = fits.kind;
            marks = record { some = fits.some; few = fits.few; each = fits.marks (inl is) };
            some = heads_some (l ∷ before) ls is c.2;
            few = omega arith;
            heads = heads_fit (l ∷ before) ls (declared_more before l d c.1) c.2;
          },
          after,
        )
    go after false b = after

pub rules_fit : (ls : List Line) → IsSheet ls → All RuleFits (rules_of ls)
rules_fit ls c = all_rules_fit [] ls declared_none c

-- No more lines with a letter than there is room for: of counts those of the lines from here on.
module _ (letter limit : ℕ) (of : List Line → ℕ) (none : of [] ≡ 0)
    (more : (l : Line) (ls : List Line) → of (l ∷ ls) ≡ cond (eqb l.letter letter) (suc (of ls)) (of ls))
    (room : (before : List Line) (l : Line) → l.letter ≡ letter → room_for before l ≡ true → lines_with letter before < limit) where
  lines_few : (before ls : List Line) → Continues before ls → lines_with letter before ≤ limit → lines_with letter before + of ls ≤ limit
  lines_few before [] c few = omega (arith, none)
  lines_few before (l ∷ ls) c few = go (lines_few (l ∷ before) ls c.2) (eqb l.letter letter) refl (more l ls)
    where
      go : (lines_with letter (l ∷ before) ≤ limit → lines_with letter (l ∷ before) + of ls ≤ limit) → (t : Bool) → eqb l.letter letter ≡ t
          → of (l ∷ ls) ≡ cond (eqb l.letter letter) (suc (of ls)) (of ls) → lines_with letter before + of (l ∷ ls) ≤ limit
      go after true b m =
          let low = room before l (eqb-true l.letter letter b) (refusal_passes before l c.1).room in
          let one : lines_with letter (l ∷ before) ≡ suc (lines_with letter before) = rw b in
          let n : of (l ∷ ls) ≡ suc (of ls) = (rw b at m) in
          omega (arith, after (omega arith))
      go after false b m =
          let same : lines_with letter (l ∷ before) ≡ lines_with letter before = rw b in
          let n : of (l ∷ ls) ≡ of ls = (rw b at m) in
          omega (arith, after (omega arith))

length-cond : {A : Type 0} (t : Bool) (x : A) (xs : List A) → length (cond t (x ∷ xs) xs) ≡ cond t (suc (length xs)) (length xs)
length-cond true x xs = refl
length-cond false x xs = refl

pub rules_few : (ls : List Line) → IsSheet ls → length (rules_of ls) ≤ 256
unfolding room_for
rules_few ls c =
    omega (
      arith,
      lines_few B 256 (λ ls. length (rules_of ls)) refl
          (λ l ls. length-cond (eqb l.letter B) (record { kind = l.kind; marks = l.numbers; heads = heads_of ls }) (rules_of ls))
          (λ before l b e. ltb-true (lines_with B before) 256 (rw b at e)) [] ls c (omega arith),
    )

pub rows_few : (ls : List Line) → IsSheet ls → length (row_lines ls) ≤ 1024
unfolding room_for
rows_few ls c =
    omega (
      arith,
      lines_few R 1024 (λ ls. length (row_lines ls)) refl (λ l ls. length-cond (eqb l.letter R) l (row_lines ls))
          (λ before l b e. ltb-true (lines_with R before) 1024 (rw b at e)) [] ls c (omega arith),
    )

-- A row of a sheet.
pub record RowFits (l : Line) : Type 0 where
  pub kind : KindFits l.kind
  pub some : 1 ≤ length l.numbers
  pub few : length l.numbers ≤ 6

all_rows_fit : (before ls : List Line) → Declared before → Continues before ls → All RowFits (row_lines ls)
all_rows_fit before [] d c = tt
all_rows_fit before (l ∷ ls) d c = go (all_rows_fit (l ∷ before) ls (declared_more before l d c.1) c.2) (eqb l.letter R)
  where
    go : All RowFits (row_lines ls) → (t : Bool) → All RowFits (cond t (l ∷ row_lines ls) (row_lines ls))
    go after true =
        let fits = line_fits before l d c.0 c.1 in
        (record { kind = fits.kind; some = fits.some; few = fits.few }, after)
    go after false = after

pub rows_fit : (ls : List Line) → IsSheet ls → All RowFits (row_lines ls)
rows_fit ls c = all_rows_fit [] ls declared_none c

-- ---- the line at a place

abbrev pub no_line : Line
no_line = record { letter = 0; kind = 0; numbers = [] }

abbrev pub line_no : List Line → ℕ → Line
line_no ls n = get_or ls n no_line

-- The lines before place n, the latest first.
abbrev pub lines_before : ℕ → List Line → List Line
lines_before zero ls = []
lines_before (suc n) ls = line_no ls n ∷ lines_before n ls

pub continues_at : (ls : List Line) (n : ℕ) → IsSheet ls → n ≤ length ls → Declared (lines_before n ls) × Continues (lines_before n ls) (drop n ls)
continues_at ls zero c h = (declared_none, c)
continues_at ls (suc n) c h =
    let (d, rest) = continues_at ls n c (omega arith) in
    let here = subst (λ (r : List Line). Continues (lines_before n ls) r) (drop-cons ls n no_line (omega arith)) rest in
    (declared_more (lines_before n ls) (line_no ls n) d here.1, here.2)

pub line_fits_at : (ls : List Line) (n : ℕ) → IsSheet ls → n < length ls → LineFits (lines_before n ls) (line_no ls n)
line_fits_at ls n c h =
    let (d, rest) = continues_at ls n c (omega arith) in
    let here = subst (λ (r : List Line). Continues (lines_before n ls) r) (drop-cons ls n no_line h) rest in
    line_fits (lines_before n ls) (line_no ls n) d here.0 here.1

pub before_next : (ls : List Line) (n : ℕ) → lines_before (n + 1) ls ≡ line_no ls n ∷ lines_before n ls
before_next ls n = ap (λ k. lines_before k ls) (add-one n)

-- The rows from a place on.
pub rows_where : (ls : List Line) (n : ℕ) → n < length ls → (t : Bool) → eqb (line_no ls n).letter R ≡ t
    → row_lines (drop n ls) ≡ cond t (line_no ls n ∷ row_lines (drop (n + 1) ls)) (row_lines (drop (n + 1) ls))
rows_where ls n h t e =
    ap row_lines (drop-cons ls n no_line h)
    ∙ ap₂ (λ (u : Bool) (k : ℕ). cond u (line_no ls n ∷ row_lines (drop k ls)) (row_lines (drop k ls))) e (sym (add-one n))

-- The rules from a place on.
pub rules_fit_from : (ls : List Line) (n : ℕ) → IsSheet ls → n ≤ length ls → All RuleFits (rules_of (drop n ls))
rules_fit_from ls n c h =
    let (d, rest) = continues_at ls n c h in
    all_rules_fit (lines_before n ls) (drop n ls) d rest

-- ---- lent numbers

pub lent-drop : (ls : List Line) (n : ℕ) → drop (8 * n) (lent_of ls) ≡ lent_of (drop n ls)
lent-drop ls zero = refl
lent-drop [] (suc n) = drop-nil (8 * suc n)
lent-drop (l ∷ ls) (suc n) =
    let e : 8 * suc n ≡ length (lent l) + 8 * n = omega (arith, length-lent l) in
    ap (λ k. drop k (lent l ++ lent_of ls)) e ∙ drop-append-add (lent l) (lent_of ls) (8 * n) ∙ lent-drop ls n

-- From a line on: its numbers and those of the lines after it.
pub lent_from : (ls : List Line) (n : ℕ) → n < length ls → drop (8 * n) (lent_of ls) ≡ lent (line_no ls n) ++ lent_of (drop (suc n) ls)
lent_from ls n h = lent-drop ls n ∙ ap lent_of (drop-cons ls n no_line h)

pub lent_at : (ls : List Line) (n k : ℕ) → n < length ls → k < 8 → get_or (lent_of ls) (8 * n + k) 0 ≡ get_or (lent (line_no ls n)) k 0
lent_at ls n k h small =
    sym (get_or-drop (8 * n) (lent_of ls) k 0) ∙ ap (λ r. get_or r k 0) (lent_from ls n h)
    ∙ get_or-append (lent (line_no ls n)) (lent_of (drop (suc n) ls)) 0 k (omega (arith, length-lent (line_no ls n)))

-- Numbers that are held as a sheet are those of its lines.
pub held_lines : {numbers : List ℕ} → SheetHeld numbers → (numbers ≡ lent_of (lines_in numbers)) × IsSheet (lines_in numbers)
held_lines {numbers} s =
    let is : lines_in numbers ≡ s.lines = ap good_lines s.holds in
    let (lends, sheet) = sheet_held_is numbers s.lines s.holds in
    (lends ∙ ap lent_of (sym is), subst IsSheet (sym is) sheet)

first_number : (ns : List ℕ) → get_or (padded 6 ns) 0 0 ≡ get_or ns 0 0
first_number [] = refl
first_number (n ∷ ns) = refl

pub size_held : {numbers : List ℕ} → SheetHeld numbers → length numbers ≡ 8 * length (lines_in numbers)
size_held {numbers} s = ap length (held_lines s).0 ∙ length-lent_of (lines_in numbers)

-- The numbers of a line of a sheet, by their places.
pub record LentLine (numbers : List ℕ) (n : ℕ) : Type 0 where
  pub inside : n < length (lines_in numbers)
  pub whole : 8 * n + 8 ≤ length numbers
  pub fits : LineFits (lines_before n (lines_in numbers)) (line_no (lines_in numbers) n)
  pub letter : get_or numbers (8 * n) 0 ≡ (line_no (lines_in numbers) n).letter
  pub kind : get_or numbers (8 * n + 1) 0 ≡ (line_no (lines_in numbers) n).kind
  pub first : get_or numbers (8 * n + 2) 0 ≡ get_or (line_no (lines_in numbers) n).numbers 0 0
  pub six : (rest : List ℕ) × (drop (8 * n + 2) numbers ≡ padded 6 (line_no (lines_in numbers) n).numbers ++ rest)
  pub fields : take (length (line_no (lines_in numbers) n).numbers) (drop (8 * n + 2) numbers) ≡ (line_no (lines_in numbers) n).numbers

pub lent_line : {numbers : List ℕ} → SheetHeld numbers → (n : ℕ) → 8 * n < length numbers → LentLine numbers n
unfolding lent
lent_line {numbers} s n h =
    let ls : List Line = lines_in numbers in
    let (lends, sheet) = held_lines s in
    let size : length numbers ≡ 8 * length ls = size_held s in
    let inside : n < length ls = omega arith in
    let l : Line = line_no ls n in
    let at : (k : ℕ) → k < 8 → get_or numbers (8 * n + k) 0 ≡ get_or (lent l) k 0 = λ k small. ap (λ r. get_or r (8 * n + k) 0) lends ∙ lent_at ls n k inside small in
    let fits = line_fits_at ls n sheet inside in
    let rest : List ℕ = lent_of (drop (suc n) ls) in
    let six : drop (8 * n + 2) numbers ≡ padded 6 l.numbers ++ rest =
    sym (drop-drop 2 (8 * n) numbers) ∙ ap (λ r. drop 2 (drop (8 * n) r)) lends ∙ ap (drop 2) (lent_from ls n inside) in
    record {
      inside = inside;
      whole = omega arith;
      fits = fits;
      letter = ap (λ k. get_or numbers k 0) (omega arith) ∙ at 0 (omega arith);
      kind = at 1 (omega arith);
      first = at 2 (omega arith) ∙ first_number l.numbers;
      six = (rest, six);
      fields =
          ap (take (length l.numbers)) six ∙ take-append-le (length l.numbers) (padded 6 l.numbers) rest (omega (arith, length-padded 6 l.numbers, fits.few))
          ∙ take-padded 6 l.numbers fits.few;
    }
