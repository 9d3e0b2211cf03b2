-- Laws of reading: line by line its tests and its numbers, then what is answered. Assumes nothing.
use mathlib.Core.Path.{◌≡◌, refl, sym, ap, ◌∙◌}
use mathlib.Core.Bool.{false≢true}
use mathlib.Core.List.{List, [], ◌∷◌, ◌++◌, append_assoc, append-nil}
use mathlib.Core.Option.{Option, none, some}
use Prim.Native.Nat.{ℕ, zero, suc, ◌+◌, ◌*◌, ◌/◌, ◌≤◌, ◌<◌, zero-le}
use native.Mathlib.Omega.{arith}
use Rattle.std.proofs.Common.{Some, None, Result, Ok, Err}
use native.Mathlib.Numerals.{add-one}
use borrow.Author.Tests.{lt-ltb, le-ltb, ne_eqb}
use lib.ListN.{length, take, drop, length-append, length-take, length-drop, drop_of_length-le}
use lib.Seq.{paste, length-take-le, take_at, take_all, append_snoc, drop-append-add, drop-drop}
use Rattle.patterns.specs.Outcome.{Outcome, good, refused, map_good, counted}
use Rattle.sheet.specs.Answer.{refusal_says}
use Rattle.sheet.specs.Line.{B, Line, known, form_of_line, line_in, lent, lent_of}
use Rattle.sheet.specs.Sheet.{letter_before, refusal}
use Rattle.walker.specs.Walk.{lines_of, line_length, line_at, after}
use Rattle.sheet.specs.Read.{in_front, go_on, checked, tested, tested_in, taken_text, sheet_in, read_of, with_room, read_says, ReadMeets}
use Rattle.sheet.specs.Inner.Promises.{ParsedAs, FieldsFit, Keeps, fault_number, AdmittedAs, Admits, Scanned}
use Rattle.sheet.specs.declared.Form.{Form}
use Rattle.sheet.specs.declared.Refusal.{Refusal}
use Rattle.sheet.specs.declared.Refusal.TheVariants.{
  TextTooLong,
  FormWrong,
  OutOfPlace,
  KindWrong,
  MarkWrong,
  OneTooMany,
  LinesShort,
  LineWrong,
  TextShort,
}
use Rattle.sheet.specs.declared.order.Seen.{Seen}
use Rattle.sheet.specs.declared.order.Fault.{Fault}
use Rattle.walker.proofs.Walking.{line_length-le}
use Rattle.walker.proofs.TextLines.{lines_of_split, lines_of_last}
use Rattle.sheet.proofs.Lines.{line_in_is, length-lent, line_in_unended}
use Rattle.sheet.proofs.Sheets.{refused≢good, length-lent_of, render_size}
use Rattle.sheet.proofs.FormLaws.{formed_known, fields_fit, form_says_one_to_one}
use Rattle.sheet.proofs.OrderLaws.{fault_some}

-- The line at a place.

length-line_at : (s : List ℕ) (at : ℕ) → length (line_at s at) ≡ line_length (drop at s)
length-line_at s at = length-take-le (line_length (drop at s)) (drop at s) (line_length-le (drop at s))

line_at_within : (s : List ℕ) (at : ℕ) → at ≤ length s → at + length (line_at s at) ≤ length s
line_at_within s at h = omega (arith, length-line_at s at, line_length-le (drop at s), length-drop at s)

-- A line that is read.

-- What is parsed: where there is no form there is no line, otherwise the form is the line's.
pub parsed_nothing : (bytes numbers : List ℕ) → ParsedAs (line_in bytes) None numbers → line_in bytes ≡ none
parsed_nothing bytes numbers p = go (line_in bytes) refl p
  where
    go : (o : Option Line) → line_in bytes ≡ o → ParsedAs o None numbers → line_in bytes ≡ none
    go none e q = e
    go (some l) e q =
        absurd (false≢true (ap known (form_says_one_to_one None (form_of_line l) q.0) ∙ formed_known l (line_in_is bytes l e).1))

pub parsed_line : {o : Option Line} {form : Form} {numbers : List ℕ} → ParsedAs o (Some form) numbers
    → (l : Line) × (o ≡ some l) × (Some form ≡ form_of_line l) × (numbers ≡ lent l)
parsed_line {o = none} {form = form} e = absurd (some_form form (form_says_one_to_one (Some form) None e))
  where
    some_form : (f : Form) → Some f ≡ None → ⊥
    some_form f e = false≢true (sym (ap known e))
parsed_line {o = some l} {form = form} e = (l, refl, form_says_one_to_one (Some form) (form_of_line l) e.0, e.1)

-- It may be asked after.
pub parsed_fit : (bytes : List ℕ) (form : Form) (numbers : List ℕ) → ParsedAs (line_in bytes) (Some form) numbers → FieldsFit form
parsed_fit bytes form numbers p = let (l, is, of_line, same) = parsed_line {o = line_in bytes} p in fields_fit form l.letter (suc (length l.numbers)) (sym of_line)

-- What is answered from a line on that is taken for o, where the rest follows it.
abbrev onward : List Line → List ℕ → ℕ → Option Line → Outcome (List Line)
onward before rest number o = go_on (tested_in before o) (λ l. checked taken_text 3 (l ∷ before) (lines_of rest)) number

-- The line is what a walker hands out, which is empty where no byte 10 follows.
first_line : (before : List Line) (s : List ℕ) → 0 < length s
    → checked taken_text 3 before (lines_of s) ≡ onward before (drop (line_length s) s) (suc (length before)) (line_in (take (line_length s) s))
unfolding taken_text
first_line before s h = by_length (line_length s) refl
  where
    by_length : (k : ℕ) → line_length s ≡ k → checked taken_text 3 before (lines_of s) ≡ onward before (drop k s) (suc (length before)) (line_in (take k s))
    by_length zero e = rw (lines_of_last s h e, line_in_unended s e, line_in_unended [] refl)
    by_length (suc k) e =
        let split : lines_of s ≡ take (suc k) s ∷ lines_of (drop (suc k) s) = rw e at (lines_of_split s (omega arith)) in
        rw split

-- The numbers, line by line.

lent_of_more : (ls : List Line) (l : Line) → lent_of (ls ++ l ∷ []) ≡ lent_of ls ++ lent l
lent_of_more [] l = append-nil (lent l)
lent_of_more (k ∷ ls) l = rw (lent_of_more ls l, append_assoc)

numbers_put : (p ns start : List ℕ) (i : ℕ) → length p ≡ 8 * i → length ns ≡ 8
    → paste (p ++ drop (8 * i) start) (8 * i) ns 8 ≡ p ++ ns ++ drop (8 * (i + 1)) start
numbers_put p ns start i h k =
    let next : 8 * (i + 1) ≡ 8 * i + 8 = omega arith in
    let rest : drop (8 * i + 8) (p ++ drop (8 * i) start) ≡ drop (8 * i + 8) start =
    rw (← h) (drop-append-add p (drop (length p) start) 8 ∙ drop-drop 8 (length p) start) in
    rw (take_at p (drop (8 * i) start) (8 * i) h, take_all 8 ns (omega arith), rest, next)

-- One line's numbers more behind those that are put.
more_put : (put : List Line) (l : Line) (start numbers eight : List ℕ) (n : ℕ) → length put ≡ n → numbers ≡ lent_of put ++ drop (8 * n) start → eight ≡ lent l
    → paste numbers (8 * n) eight 8 ≡ lent_of (put ++ l ∷ []) ++ drop (8 * (n + 1)) start
more_put put l start numbers eight n size holds same =
    rw (same, holds, lent_of_more put l) (numbers_put (lent_of put) (lent l) start n (omega (arith, length-lent_of put, size)) (length-lent l))

-- The tests, line by line.

-- These lines in front of those of the rest.
abbrev behind : List Line → Outcome (List Line) → Outcome (List Line)
behind put o = map_good (λ ls. put ++ ls) o

behind_none : (o : Outcome (List Line)) → behind [] o ≡ o
behind_none (good ls) = refl
behind_none (refused number line) = refl

behind_front : (put : List Line) (l : Line) (o : Outcome (List Line)) → behind put (in_front l o) ≡ behind (put ++ l ∷ []) o
behind_front put l (good ls) = ap good (sym (append_snoc put l ls))
behind_front put l (refused number line) = refl

-- n lines of the text are right and their numbers put, up to `at`; this is kept of them, and the answer is that of the rest. `start` is what the numbers were.
pub record Reading (text start : List ℕ) (seen : Seen) (at n : ℕ) (numbers : List ℕ) : Type 0 where
  pub before : List Line
  pub put : List Line
  pub keeps : Keeps before seen
  pub count : length before ≡ n
  pub size : length put ≡ n
  pub within : at ≤ length text
  pub few : 20 * n ≤ at
  pub outcome : sheet_in text ≡ behind put (checked taken_text 3 before (lines_of (drop at text)))
  pub room : 8 * (length text / 20) ≤ length start
  pub holds : numbers ≡ lent_of put ++ drop (8 * n) start

pub begun : (text start : List ℕ) (seen : Seen) → Keeps [] seen → 8 * (length text / 20) ≤ length start → Reading text start seen 0 0 start
unfolding sheet_in
begun text start seen keeps room =
    record {
      before = [];
      put = [];
      keeps = keeps;
      count = refl;
      size = refl;
      within = zero-le;
      few = zero-le;
      outcome = sym (behind_none (checked taken_text 3 [] (lines_of text)));
      room = room;
      holds = refl;
    }

module _ {text start : List ℕ} {seen : Seen} {at n : ℕ} {numbers : List ℕ} (r : Reading text start seen at n numbers) where
  put-length : length (lent_of r.put) ≡ 8 * n
  put-length = omega (arith, length-lent_of r.put, r.size)

  pub same_size : length numbers ≡ length start
  same_size =
      ap length r.holds
      ∙ length-append (lent_of r.put) (drop (8 * n) start)
      ∙ omega (arith, put-length, length-drop (8 * n) start, r.few, r.within, r.room)

  -- A refused text.
  pub scan_refused : (answer : Result ℕ Refusal) (number line : ℕ) → read_says answer ≡ refused number line → sheet_in text ≡ refused number line → Scanned text answer numbers
  scan_refused answer number line says is =
      record { says = says ∙ sym (ap counted is); lines = λ ls e. absurd (refused≢good (sym is ∙ e)) }

  module _ {line : List ℕ} (more : at < length text) (part : line ≡ line_at text at) where
    -- The answer, where the line at `at` is taken for o.
    outcome_line : (o : Option Line) → line_in line ≡ o → sheet_in text ≡ behind r.put (onward r.before (drop (at + length line) text) (n + 1) o)
    outcome_line o taken =
        let left : 0 < length (drop at text) = simp length-drop (omega arith) in
        let number : suc (length r.before) ≡ n + 1 = omega arith in
        let rest : drop (line_length (drop at text)) (drop at text) ≡ drop (at + length line) text =
        rw (part, length-line_at) (drop-drop (line_length (drop at text)) at text) in
        r.outcome
        ∙ ap (behind r.put)
        (first_line r.before (drop at text) left
        ∙ ap (λ (s : List ℕ). onward r.before s (suc (length r.before)) (line_in (line_at text at))) rest
        ∙ ap (λ (k : ℕ). onward r.before (drop (at + length line) text) k (line_in (line_at text at))) number
        ∙ ap (onward r.before (drop (at + length line) text) (n + 1)) (sym (ap line_in part) ∙ taken))

    -- A line that is none.
    pub line_formless : line_in line ≡ none → sheet_in text ≡ refused 2 (n + 1)
    line_formless e = outcome_line none e

    module _ {A : Type 0} {form : Form} {eight : List ℕ} {answer : Result A Fault} {next : Seen} (parsed : ParsedAs (line_in line) (Some form) eight) (a : Admits seen form eight answer next) where
      -- An admitted line.
      record Admitting : Type 0 where
        is : Line
        taken : line_in line ≡ some is
        same : eight ≡ lent is
        right : refusal r.before is ≡ 0
        keeps : Keeps (is ∷ r.before) next
        long : 20 ≤ length line

      abbrev NotRefused : Type 0
      NotRefused = (fault : Fault) → answer ≡ Err fault → ⊥

      admitting : NotRefused → Admitting
      admitting taken =
          let (l, e, of_line, same) = parsed_line parsed in
          let (shown, formed) = line_in_is line l e in
          let (right, keeps) = go answer l taken (a.each r.before l r.keeps of_line same) in
          record { is = l; taken = e; same = same; right = right; keeps = keeps; long = omega (arith, ap length shown, render_size l formed) }
        where
          go : (o : Result A Fault) (l : Line) → ((fault : Fault) → o ≡ Err fault → ⊥) → AdmittedAs r.before l o next → (refusal r.before l ≡ 0) × Keeps (l ∷ r.before) next
          go (Ok x) l t h = h
          go (Err fault) l t h = absurd (t fault refl)

      -- There is room for its numbers.
      pub line_fits : NotRefused → 8 * n + 8 ≤ length numbers
      line_fits taken =
          let l = admitting taken in
          omega (arith, l.long, rw (← part) at (line_at_within text at r.within), r.few, r.room, same_size)

      pub line_taken : NotRefused → (then : List ℕ) → then ≡ paste numbers (8 * n) eight 8 → Reading text start next (at + length line) (n + 1) then
      line_taken taken then put =
          let l = admitting taken in
          record {
            before = l.is ∷ r.before;
            put = r.put ++ l.is ∷ [];
            keeps = l.keeps;
            count = omega arith;
            size = length-append r.put (l.is ∷ []) ∙ omega (arith, r.size);
            within = rw part (line_at_within text at r.within);
            few = omega (arith, l.long, r.few);
            outcome =
                rw l.right at (outcome_line (some l.is) l.taken)
                ∙ behind_front r.put l.is (checked taken_text 3 (l.is ∷ r.before) (lines_of (drop (at + length line) text)));
            room = r.room;
            holds = put ∙ more_put r.put l.is start numbers eight n r.size r.holds l.same;
          }

      pub line_refused : (fault : Fault) → answer ≡ Err fault → sheet_in text ≡ refused (fault_number fault) (n + 1)
      line_refused fault says =
          let (l, e, of_line, same) = parsed_line parsed in
          let answered : AdmittedAs {A = A} r.before l (Err fault) next = rw says at (a.each r.before l r.keeps of_line same) in
          outcome_line (some l) e ∙ refused_on l (refusal r.before l) answered
        where
          refused_on : (l : Line) (k : ℕ) → k ≡ fault_number fault
              → behind r.put (go_on (tested k l) (λ m. checked taken_text 3 (m ∷ r.before) (lines_of (drop (at + length line) text))) (n + 1))
              ≡ refused (fault_number fault) (n + 1)
          refused_on l zero q = absurd (fault_some fault (sym q))
          refused_on l (suc k) q = rw q

  -- After the last line.
  module _ (done : length text ≤ at) where
    outcome_end : sheet_in text ≡ behind r.put (checked taken_text 3 r.before [])
    outcome_end = rw (drop_of_length-le text done) at r.outcome

    pub ended : (seen.letter ≡ B → ⊥) → Scanned text (Ok n) numbers
    ended e =
        let all : sheet_in text ≡ good r.put =
        rw (ne_eqb (letter_before r.before) B (λ q. e (r.keeps.letter ∙ q)), append-nil) at outcome_end in
        record {
          says = rw all (ap good (sym r.size));
          lines = λ ls q.
              let is : ls ≡ r.put = cc in
              rw (is, r.holds) (take_at (lent_of r.put) (drop (8 * n) start) (8 * length r.put) (omega (arith, put-length, r.size)));
        }

-- What is answered.

says≢good : (r : Refusal) (n : ℕ) → refusal_says {A = ℕ} r ≡ good n → ⊥
says≢good TextTooLong n e = refused≢good e
says≢good (FormWrong line) n e = refused≢good e
says≢good (OutOfPlace line) n e = refused≢good e
says≢good (KindWrong line) n e = refused≢good e
says≢good (MarkWrong line) n e = refused≢good e
says≢good (OneTooMany line) n e = refused≢good e
says≢good (LinesShort line) n e = refused≢good e
says≢good (LineWrong line) n e = refused≢good e
says≢good TextShort n e = refused≢good e

pub read_too_long : (text before : List ℕ) → 32768 < length text → ReadMeets text before (Err TextTooLong) before
unfolding read_of
read_too_long text before h = record { says = rw (lt-ltb 32768 (length text) h); lines = rw (lt-ltb 32768 (length text) h) }

module _ (text before : List ℕ) (short : length text ≤ 32768) where
  read_tests : (o : Outcome (List Line)) → sheet_in text ≡ o → read_of text (length before / 8) ≡ with_room (length before / 8) o
  unfolding read_of
  read_tests o e = rw (le-ltb 32768 (length text) short, e)

  pub read_refused : (r : Refusal) {numbers : List ℕ} → Scanned text (Err r) numbers → ReadMeets text before (Err r) before
  read_refused r scanned = by_outcome (sheet_in text) refl scanned.says
    where
      by_outcome : (o : Outcome (List Line)) → sheet_in text ≡ o → refusal_says r ≡ counted o → ReadMeets text before (Err r) before
      by_outcome (good ls) q e = absurd (says≢good r (length ls) e)
      by_outcome (refused number line) q e =
          let meets : read_of text (length before / 8) ≡ refused number line = read_tests (refused number line) q in
          record { says = rw meets e; lines = rw meets }

  module _ {n : ℕ} {numbers : List ℕ} (scanned : Scanned text (Ok n) numbers) where
    -- The lines that are counted.
    record Counts : Type 0 where
      lines : List Line
      read : sheet_in text ≡ good lines
      size : length lines ≡ n

    counts : Counts
    counts = by_outcome (sheet_in text) refl scanned.says
      where
        by_outcome : (o : Outcome (List Line)) → sheet_in text ≡ o → good n ≡ counted o → Counts
        by_outcome (good ls) q e = record { lines = ls; read = q; size = cc }
        by_outcome (refused number line) q e = absurd (refused≢good (sym e))

    pub lines_short : length before / 8 < n → ReadMeets text before (Err (LinesShort (length before / 8 + 1))) before
    lines_short h =
        let meets : read_of text (length before / 8) ≡ refused 7 (suc (length before / 8)) =
        read_tests (good counts.lines) counts.read
        ∙ rw (lt-ltb (length before / 8) (length counts.lines) (omega (arith, counts.size))) in
        record { says = rw (meets, add-one); lines = rw meets }

    front : take (8 * n) numbers ≡ lent_of counts.lines
    front = rw counts.size at (scanned.lines counts.lines counts.read)

    front_size : length (lent_of counts.lines) ≡ 8 * n
    front_size = omega (arith, length-lent_of counts.lines, counts.size)

    pub lines_held : 8 * n ≤ length numbers
    lines_held = omega (arith, ap length front, front_size, length-take (8 * n) numbers)

    pub lines_copied : n ≤ length before / 8 → (after : List ℕ) → after ≡ take (8 * n) numbers ++ drop (8 * n) before → ReadMeets text before (Ok n) after
    lines_copied h after is =
        let meets : read_of text (length before / 8) ≡ good counts.lines =
        read_tests (good counts.lines) counts.read
        ∙ rw (le-ltb (length before / 8) (length counts.lines) (omega (arith, counts.size))) in
        record { says = rw meets (ap good (sym counts.size)); lines = rw (meets, front_size) (rw front at is) }
