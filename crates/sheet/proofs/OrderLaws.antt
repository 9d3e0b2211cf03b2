-- What a line is answered after the lines before it, and what is kept of it. Assumes nothing.
use mathlib.Core.Path.{◌≡◌, refl, sym, subst, ap, ◌∙◌}
use mathlib.Core.Bool.{Bool, true, false, cond, ◌&&◌}
use mathlib.Core.List.{List, [], ◌∷◌}
use Prim.Native.Nat.{ℕ, zero, suc, ◌+◌, ◌≤◌, ◌<◌}
use native.Mathlib.Omega.{arith}
use Rattle.std.proofs.Common.{Option, Some, None, Result, Ok, Err}
use borrow.Author.Tests.{leb-true, leb-false, lt-ltb, le-ltb}
use lib.Dec.{eqb, leb, ltb}
use lib.ListN.{length, get_or, take, drop, set, replicate}
use lib.Seq.{get_or-take, get_or-drop}
use Rattle.sheet.specs.Line.{K, B, H, R, Line}
use Rattle.sheet.specs.Sheet.{in_place, letter_before, width_of, kind_right, marks_from, top_mark, marks_right, room_for, refusal}
use Rattle.sheet.specs.Inner.Promises.{Keeps, AdmittedAs, Admits, Marked, fault_number, fault_in, placed_of, declares, marks_top, marked_of}
use Rattle.sheet.specs.declared.Form.{Form}
use Rattle.sheet.specs.declared.Form.TheVariants.{Kind, Body, Head, Row}
use Rattle.sheet.specs.declared.order.Fault.{Fault}
use Rattle.sheet.specs.declared.order.Fault.TheVariants.{Place, Width, Mark, Room}
use Rattle.sheet.specs.declared.order.Seen.{Seen}
use Rattle.sheet.proofs.FormLaws.{letter_of, fields_of, shown_fields, shown_line, line_shown}
use Rattle.sheet.proofs.MarkLaws.{top-some}
use Rattle.sheet.proofs.WidthLaws.{declares_low, widths-added}

-- No width is declared.
pub no_width : (n k : ℕ) → ◌≡◌ {A = ℕ} (get_or (replicate n 0) k 0) 0
no_width zero k = refl
no_width (suc n) zero = refl
no_width (suc n) (suc k) = no_width n k

-- What is kept before the first line.
pub nothing_kept : Keeps [] (record { letter = 0; kind = 0; mark = 0; rules = 0; heads = 0; rows = 0; widths = replicate 65 0 })
nothing_kept =
    record { letter = refl; kind = refl; mark = refl; rules = refl; heads = refl; rows = refl; table = record { size = refl; each = no_width 65 } }

-- A line is answered right where the line that the lent numbers show is.
shown_admits : {A : Type 0} (f : Form) (old : Seen) (numbers : List ℕ) (answer : Result A Fault) (new : Seen)
    → ((before : List Line) → Keeps before old → length (shown_fields f numbers) ≡ fields_of f → AdmittedAs before (shown_line f numbers) answer new)
    → Admits old f numbers answer new
shown_admits f old numbers answer new right =
    record {
      each = λ before l keeps e lend.
          let shown = line_shown f l numbers e lend in
          subst (λ (x : Line). AdmittedAs before x answer new) (sym shown.line) (right before keeps shown.size);
    }

-- A fault has a number.
pub fault_some : (fault : Fault) → fault_number fault ≡ 0 → ⊥
fault_some Place e = omega arith
fault_some Width e = omega arith
fault_some Mark e = omega arith
fault_some Room e = omega arith

-- The fault of place or kind, or the one that is left.
abbrev or_else : ℕ → ℕ → ℕ
or_else zero left = left
or_else (suc n) left = suc n

two_tests : (a b : Bool) (left placed : ℕ) → placed ≡ cond a (cond b 0 4) 3 → cond a (cond b left 4) 3 ≡ or_else placed left
two_tests true true left placed e = rw e
two_tests true false left placed e = rw e
two_tests false b left placed e = rw e

-- What is left to be tested of a line in its place and of the right kind.
abbrev tested : List Line → Line → ℕ
tested before l = cond (marks_right before l) (cond (room_for before l) 0 6) 5

abbrev placed_after : Seen → Form → List ℕ → ℕ
placed_after old f numbers = placed_of old.letter (letter_of f) (fields_of f) (get_or old.widths (get_or numbers 1 0) 0)

-- The refusal of a B, H or R line: for its place or its kind, or else as what is left to be tested says.
refusal_is : (f : Form) → eqb (letter_of f) K ≡ false → (old : Seen) (numbers : List ℕ) (before : List Line) → Keeps before old
    → length (shown_fields f numbers) ≡ fields_of f
    → refusal before (shown_line f numbers) ≡ or_else (placed_after old f numbers) (tested before (shown_line f numbers))
unfolding refusal kind_right
refusal_is f other old numbers before keeps size =
    rw other
    (two_tests (in_place (letter_before before) (letter_of f))
    (ltb 0 (width_of before (get_or numbers 1 0)) && eqb (length (shown_fields f numbers)) (width_of before (get_or numbers 1 0)))
    (tested before (shown_line f numbers)) (placed_after old f numbers) (rw (keeps.letter, keeps.table.each (get_or numbers 1 0), size)))

-- What is left of a B or H line, whose marks go on from m, where `count` lines of `most` are there.
left_marked : (m count most : ℕ) (ns : List ℕ) (marks room : Bool) → marks ≡ marks_from m ns → room ≡ ltb count most
    → cond marks (cond room 0 6) 5 ≡ marked_of 0 (marks_top m ns) (leb most count)
left_marked m count most ns marks room e d = rw (e, d) (go (marks_from m ns) (leb most count) refl)
  where
    go : (b full : Bool) → leb most count ≡ full → cond b (cond (ltb count most) 0 6) 5 ≡ marked_of 0 (cond b (Some (top_mark m ns)) None) full
    go false full r = refl
    go true true r = rw (le-ltb count most (leb-true most count r))
    go true false r = rw (lt-ltb count most (leb-false most count r))

placed_marked : (placed left : ℕ) (marks : Option ℕ) (full : Bool) → left ≡ marked_of 0 marks full → or_else placed left ≡ marked_of placed marks full
placed_marked zero left marks full e = e
placed_marked (suc n) left marks full e = refl

-- A B or H line: it is refused, or it is added with the largest of its marks.
module _ (f : Form) (other : eqb (letter_of f) K ≡ false) (old : Seen) (numbers : List ℕ) (m count most : ℕ)
    (marks : (before : List Line) → Keeps before old → marks_right before (shown_line f numbers) ≡ marks_from m (shown_fields f numbers))
    (room : (before : List Line) → Keeps before old → room_for before (shown_line f numbers) ≡ ltb count most)
  where
    abbrev Answered : Result ℕ Fault → Type 0
    Answered answer = Marked (placed_after old f numbers) (marks_top m (shown_fields f numbers)) (leb most count) answer

    refusal_marked : (answer : Result ℕ Fault) → Answered answer → (before : List Line) → Keeps before old → length (shown_fields f numbers) ≡ fields_of f
        → refusal before (shown_line f numbers) ≡ fault_in answer
    refusal_marked answer a before keeps size =
        refusal_is f other old numbers before keeps size
        ∙ placed_marked (placed_after old f numbers) (tested before (shown_line f numbers)) _ _
        (left_marked m count most (shown_fields f numbers) (marks_right before (shown_line f numbers)) (room_for before (shown_line f numbers)) (marks before keeps) (room before keeps))
        ∙ sym a.fault

    marked_refused : {A : Type 0} (fault : Fault) → Answered (Err fault) → (answer : Result A Fault) → answer ≡ Err fault → Admits old f numbers answer old
    marked_refused fault a answer is = rw is (shown_admits f old numbers (Err fault) old (refusal_marked (Err fault) a))

    marked_added : {A : Type 0} (x : A) (top : ℕ) → Answered (Ok top) → (new : Seen)
        → ((before : List Line) → Keeps before old → top ≡ top_mark m (shown_fields f numbers) → Keeps (shown_line f numbers ∷ before) new)
        → Admits old f numbers (Ok x) new
    marked_added x top a new kept =
        shown_admits f old numbers (Ok x) new
        (λ before keeps size. (refusal_marked (Ok top) a before keeps size, kept before keeps (top-some m top (shown_fields f numbers) (a.mark top refl)).1))

module _ (old : Seen) (numbers : List ℕ) (n : ℕ) where
  abbrev BodyAnswered : Bool → Result ℕ Fault → Type 0
  BodyAnswered full answer = Marked (placed_of old.letter B n (get_or old.widths (get_or numbers 1 0) 0)) (marks_top 0 (take n (drop 2 numbers))) full answer

  -- A B line.
  pub body_refused : {A : Type 0} (full : Bool) (fault : Fault) → BodyAnswered full (Err fault) → full ≡ leb 256 old.rules → (answer : Result A Fault) → answer ≡ Err fault → Admits old (Body n) numbers answer old
  unfolding marks_right room_for
  body_refused full fault a e answer is =
      marked_refused (Body n) refl old numbers 0 old.rules 256 (λ before keeps. refl) (λ before keeps. ap (λ (c : ℕ). ltb c 256) (sym keeps.rules)) fault (rw e at a) answer is

  pub body_added : {A : Type 0} (full : Bool) (x : A) (top : ℕ) → BodyAnswered full (Ok top) → full ≡ leb 256 old.rules
      → Admits old (Body n) numbers (Ok x) (record { letter = B; kind = get_or numbers 1 0; mark = top; rules = old.rules + 1; heads = 0; rows = old.rows; widths = old.widths })
  unfolding marks_right room_for
  body_added full x top a e =
      marked_added (Body n) refl old numbers 0 old.rules 256 (λ before keeps. refl) (λ before keeps. ap (λ (c : ℕ). ltb c 256) (sym keeps.rules)) x top (rw e at a) _
      (λ before keeps largest.
      record {
        letter = refl;
        kind = refl;
        mark = largest;
        rules = let k = keeps.rules in omega arith;
        heads = refl;
        rows = keeps.rows;
        table = record { size = keeps.table.size; each = keeps.table.each };
      })

  abbrev HeadAnswered : Bool → Result ℕ Fault → Type 0
  HeadAnswered full answer = Marked (placed_of old.letter H n (get_or old.widths (get_or numbers 1 0) 0)) (marks_top old.mark (take n (drop 2 numbers))) full answer

  -- An H line.
  pub head_refused : {A : Type 0} (full : Bool) (fault : Fault) → HeadAnswered full (Err fault) → full ≡ leb 4 old.heads → (answer : Result A Fault) → answer ≡ Err fault → Admits old (Head n) numbers answer old
  unfolding marks_right room_for
  head_refused full fault a e answer is =
      marked_refused (Head n) refl old numbers old.mark old.heads 4 (λ before keeps. ap (λ (m : ℕ). marks_from m (take n (drop 2 numbers))) (sym keeps.mark))
      (λ before keeps. ap (λ (c : ℕ). ltb c 4) (sym keeps.heads)) fault (rw e at a) answer is

  pub head_added : {A : Type 0} (full : Bool) (x : A) (top : ℕ) → HeadAnswered full (Ok top) → full ≡ leb 4 old.heads
      → Admits old (Head n) numbers (Ok x) (record { letter = H; kind = get_or numbers 1 0; mark = top; rules = old.rules; heads = old.heads + 1; rows = old.rows; widths = old.widths })
  unfolding marks_right room_for
  head_added full x top a e =
      marked_added (Head n) refl old numbers old.mark old.heads 4 (λ before keeps. ap (λ (m : ℕ). marks_from m (take n (drop 2 numbers))) (sym keeps.mark))
      (λ before keeps. ap (λ (c : ℕ). ltb c 4) (sym keeps.heads)) x top (rw e at a) _
      (λ before keeps largest.
      record {
        letter = refl;
        kind = refl;
        mark = largest ∙ ap (λ (m : ℕ). top_mark m (take n (drop 2 numbers))) keeps.mark;
        rules = keeps.rules;
        heads = let k = keeps.heads in omega arith;
        rows = keeps.rows;
        table = record { size = keeps.table.size; each = keeps.table.each };
      })

  -- An R line: out of its place or of the wrong kind, one too many, added.
  pub row_misplaced : {A : Type 0} (fault : Fault) → fault_number fault ≡ placed_after old (Row n) numbers → (answer : Result A Fault) → answer ≡ Err fault → Admits old (Row n) numbers answer old
  row_misplaced fault e answer is =
      rw is
      (shown_admits (Row n) old numbers (Err fault) old
      (λ before keeps size. refusal_is (Row n) refl old numbers before keeps size ∙ go _ (placed_after old (Row n) numbers) e))
    where
      go : (left placed : ℕ) → fault_number fault ≡ placed → or_else placed left ≡ fault_number fault
      go left zero d = absurd (fault_some fault d)
      go left (suc k) d = sym d

  row_placed : 0 ≡ placed_after old (Row n) numbers → (answer : ℕ) (before : List Line) → Keeps before old → length (shown_fields (Row n) numbers) ≡ n
      → cond (ltb old.rows 1024) 0 6 ≡ answer → refusal before (shown_line (Row n) numbers) ≡ answer
  unfolding marks_right room_for
  row_placed e answer before keeps size is =
      refusal_is (Row n) refl old numbers before keeps size ∙ rw (← e) (ap (λ (c : ℕ). cond (ltb c 1024) 0 6) (sym keeps.rows) ∙ is)

  pub row_full : {A : Type 0} → 0 ≡ placed_after old (Row n) numbers → 1024 ≤ old.rows → Admits {A = A} old (Row n) numbers (Err Room) old
  row_full e h =
      shown_admits (Row n) old numbers (Err Room) old (λ before keeps size. row_placed e _ before keeps size (rw (le-ltb old.rows 1024 h)))

  pub row_added : {A : Type 0} (x : A) → 0 ≡ placed_after old (Row n) numbers → old.rows < 1024
      → Admits old (Row n) numbers (Ok x) (record { letter = R; kind = get_or numbers 1 0; mark = 0; rules = old.rules; heads = 0; rows = old.rows + 1; widths = old.widths })
  row_added x e h =
      shown_admits (Row n) old numbers (Ok x) _
      (λ before keeps size. (
        row_placed e _ before keeps size (rw (lt-ltb old.rows 1024 h)),
        record {
          letter = refl;
          kind = refl;
          mark = refl;
          rules = keeps.rules;
          heads = refl;
          rows = let k = keeps.rows in omega arith;
          table = record { size = keeps.table.size; each = keeps.table.each };
        },
      ))

-- A K line's one field.
first_field_lem : (numbers : List ℕ) → get_or (take 1 (drop 2 numbers)) 0 0 ≡ get_or numbers 2 0
first_field_lem numbers = get_or-take 1 (drop 2 numbers) 0 0 (omega arith) ∙ get_or-drop 2 numbers 0 0

-- A K line: out of its place, declaring wrongly, added.
module _ {A : Type 0} {old : Seen} {numbers : List ℕ} where
  pub kind_out : in_place old.letter K ≡ false → Admits {A = A} old Kind numbers (Err Place) old
  unfolding refusal
  kind_out o = shown_admits Kind old numbers (Err Place) old (λ before keeps size. rw (← keeps.letter, o))

  module _ (i : in_place old.letter K ≡ true) where
    pub kind_wrong : declares old.kind (get_or numbers 1 0) (get_or numbers 2 0) ≡ false → Admits {A = A} old Kind numbers (Err Width) old
    unfolding refusal kind_right
    kind_wrong w = shown_admits Kind old numbers (Err Width) old (λ before keeps size. rw (← keeps.letter, i, ← keeps.kind, first_field_lem numbers, w))

    pub kind_added : (x : A) → declares old.kind (get_or numbers 1 0) (get_or numbers 2 0) ≡ true
        → Admits old Kind numbers (Ok x)
        (record { letter = K; kind = get_or numbers 1 0; mark = 0; rules = old.rules; heads = 0; rows = old.rows; widths = set old.widths (get_or numbers 1 0) (get_or numbers 2 0) })
    unfolding refusal kind_right marks_right room_for
    kind_added x w =
        shown_admits Kind old numbers (Ok x) _
        (λ before keeps size. (
          rw (← keeps.letter, i, ← keeps.kind, first_field_lem numbers, w),
          record {
            letter = refl;
            kind = refl;
            mark = refl;
            rules = keeps.rules;
            heads = refl;
            rows = keeps.rows;
            table =
                widths-added before old.widths (shown_line Kind numbers) keeps.table refl (declares_low old.kind (get_or numbers 1 0) (get_or numbers 2 0) w).0
                (get_or numbers 2 0) (sym (first_field_lem numbers));
          },
        ))
