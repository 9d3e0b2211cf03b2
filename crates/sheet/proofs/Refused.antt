-- Why an input is refused: the lines before are taken, and what follows them is wrong. Once for any input, then for text and for lent lines. Assumes nothing.
use mathlib.Core.Path.{◌≡◌, refl, sym, ◌∙◌, ap, ap₂, subst}
use mathlib.Core.Bool.{Bool, true, false, cond, false≢true}
use mathlib.Core.Logic.{◌↔◌}
use mathlib.Core.List.{List, [], ◌∷◌, ◌++◌, map, reverse, reverse_aux, append_assoc, append_cancel_left, nil≢cons, head-eq_of_cons-eq}
use mathlib.Core.Option.{Option, none, some, none-ne-some}
use Prim.Native.Nat.{ℕ, zero, suc, ◌≤◌, ◌<◌}
use native.Mathlib.Omega.{arith}
use borrow.Author.Tests.{eqb-true, eq-eqb}
use lib.Dec.{eqb}
use lib.ListN.{length, length-reverse}
use Rattle.patterns.specs.Outcome.{Outcome, good, refused}
use Rattle.sheet.specs.Line.{B, Line, render, text_of, well_formed, line_in, lent, lent_of}
use Rattle.sheet.specs.Sheet.{letter_before, refusal}
use Rattle.walker.specs.Walk.{lines_of}
use Rattle.walker.specs.Handed.{together}
use Rattle.walker.proofs.TextLines.{together-lines_of}
use Rattle.sheet.specs.Read.{Taken, takes, refuses, in_front, go_on, checked, tested, tested_in, taken_text, sheet_in}
use Rattle.sheet.specs.Write.{line_held, line_holds, taken_lent, parts_of, sheet_held}
use Rattle.sheet.specs.Refusals.{TakenAfter, TextFault, LentFault, RefusedAt, TextRefused, LentRefused}
use Rattle.sheet.specs.Refusals.TextFault.{unfinished, formless, unfit}
use Rattle.sheet.proofs.Lines.{line_in-render, line_in_is, lines_of-front}
use Rattle.sheet.proofs.Sheets.{refused≢good, refusal-number, Shows, text_shows, lent_shows, together-render, together-lent, together_parts, parts_front}

takes≢refuses : {l : Line} {n : ℕ} → takes l ≡ refuses n → ⊥
takes≢refuses e = false≢true cc

in_front_refused : (l : Line) (o : Outcome (List Line)) (n k : ℕ) → in_front l o ≡ refused n k → o ≡ refused n k
in_front_refused l (good ls) n k e = absurd (refused≢good (sym e))
in_front_refused l (refused m j) n k e = cc

end_refused : (t : Bool) (m j n k : ℕ) → ◌≡◌ {A = Outcome (List Line)} (cond t (refused m j) (good [])) (refused n k) → (t ≡ true) × (n ≡ m) × (k ≡ j)
end_refused true m j n k e = (refl, cc, cc)
end_refused false m j n k e = absurd (refused≢good (sym e))

-- Any inputs.

-- Where the inputs after the lines before are refused at once.
module _ {A : Type 0} (taken : List Line → A → Taken) (unfinished : ℕ) where
  abbrev Stop : List Line → List A → ℕ → Type 0
  Stop before [] n = (letter_before before ≡ B) × (n ≡ unfinished)
  Stop before (x ∷ xs) n = taken before x ≡ refuses n

module _ {A : Type 0} (taken : List Line → A → Taken) (unfinished : ℕ) (shows : Line → A) (s : Shows taken shows) where
  record Stops (before : List Line) (xs : List A) (n k : ℕ) : Type 0 where
    lines : List Line
    rest : List A
    split : xs ≡ map shows lines ++ rest
    takes_them : TakenAfter before lines
    stop : Stop taken unfinished (reverse_aux lines before) rest n
    after : k ≡ suc (length (reverse_aux lines before))

  stops_more : (before : List Line) (x : A) (xs : List A) (n k : ℕ) (t : Taken) → taken before x ≡ t
      → ((l : Line) → checked taken unfinished (l ∷ before) xs ≡ refused n k → Stops (l ∷ before) xs n k)
      → go_on t (λ l. checked taken unfinished (l ∷ before) xs) (suc (length before)) ≡ refused n k
      → Stops before (x ∷ xs) n k
  stops_more before x xs n k (takes l) p more e =
      let m = more l (in_front_refused l (checked taken unfinished (l ∷ before) xs) n k e) in
      let (is, form, passed) = s.only before x l p in
      record {
        lines = l ∷ m.lines;
        rest = m.rest;
        split = ap₂ ◌∷◌ is m.split;
        takes_them = (form, passed, m.takes_them);
        stop = m.stop;
        after = m.after;
      }
  stops_more before x xs n k (refuses r) p more e = record { lines = []; rest = x ∷ xs; split = refl; takes_them = tt; stop = cc; after = cc }

  checked_stops : (before : List Line) (xs : List A) (n k : ℕ) → checked taken unfinished before xs ≡ refused n k → Stops before xs n k
  checked_stops before [] n k e =
      let (b, p, q) = end_refused (eqb (letter_before before) B) unfinished (suc (length before)) n k e in
      record { lines = []; rest = []; split = refl; takes_them = tt; stop = (eqb-true (letter_before before) B b, p); after = q }
  checked_stops before (x ∷ xs) n k e = stops_more before x xs n k (taken before x) refl (λ l. checked_stops (l ∷ before) xs n k) e

  stop_checked : (before : List Line) (xs : List A) (n : ℕ) → Stop taken unfinished before xs n → checked taken unfinished before xs ≡ refused n (suc (length before))
  stop_checked before [] n p = rw (eq-eqb (letter_before before) B p.0) (ap (λ m. refused m (suc (length before))) (sym p.1))
  stop_checked before (x ∷ xs) n p = ap (λ t. go_on t (λ l. checked taken unfinished (l ∷ before) xs) (suc (length before))) p

  stops_checked : (before ls : List Line) (rest : List A) (n : ℕ) → TakenAfter before ls → Stop taken unfinished (reverse_aux ls before) rest n
      → checked taken unfinished before (map shows ls ++ rest) ≡ refused n (suc (length (reverse_aux ls before)))
  stops_checked before [] rest n h p = stop_checked before rest n p
  stops_checked before (l ∷ ls) rest n h p =
      ap (λ t. go_on t (λ m. checked taken unfinished (m ∷ before) (map shows ls ++ rest)) (suc (length before))) (s.each before l h.0 h.1)
      ∙ ap (in_front l) (stops_checked (l ∷ before) ls rest n h.2 p)

-- Inputs that are cut into pieces: together they are the input, and a shown line at the front is the first piece.
record Cuts (pieces : List ℕ → List (List ℕ)) (shows : Line → List ℕ) : Type 0 where
  joins : (input : List ℕ) → together (pieces input) ≡ input
  front : (l : Line) (rest : List ℕ) → well_formed l ≡ true → pieces (shows l ++ rest) ≡ shows l ∷ pieces rest

together-append : (xs ys : List (List ℕ)) → together (xs ++ ys) ≡ together xs ++ together ys
together-append [] ys = refl
together-append (x ∷ xs) ys = ap (λ r. x ++ r) (together-append xs ys) ∙ sym (append_assoc x (together xs) (together ys))

module _
    (taken : List Line → List ℕ → Taken)
    (unfinished : ℕ)
    (shows : Line → List ℕ)
    (s : Shows taken shows)
    (pieces : List ℕ → List (List ℕ))
    (cuts : Cuts pieces shows)
  where
    pieces_after : (before ls : List Line) (rest : List ℕ) → TakenAfter before ls → pieces (together (map shows ls) ++ rest) ≡ map shows ls ++ pieces rest
    pieces_after before [] rest h = refl
    pieces_after before (l ∷ ls) rest h =
        ap pieces (append_assoc (shows l) (together (map shows ls)) rest)
        ∙ cuts.front l (together (map shows ls) ++ rest) h.0
        ∙ ap (λ r. shows l ∷ r) (pieces_after (l ∷ before) ls rest h.2)

    refused_at : (shown : List Line → List ℕ) (Fault : List Line → List ℕ → ℕ → Type 0)
        → ((ls : List Line) → together (map shows ls) ≡ shown ls)
        → ((before : List Line) (rest : List ℕ) (n : ℕ) → Stop taken unfinished before (pieces rest) n ↔ Fault before rest n)
        → (input : List ℕ) (n k : ℕ) → (checked taken unfinished [] (pieces input) ≡ refused n k) ↔ RefusedAt shown Fault input n k
    refused_at shown Fault same fault input n k = (
      λ e.
          let m = checked_stops taken unfinished shows s [] (pieces input) n k e in
          let joined = sym (cuts.joins input) ∙ ap together m.split ∙ together-append (map shows m.lines) m.rest in
          let back =
          append_cancel_left (map shows m.lines) (pieces (together m.rest)) m.rest
          (sym (pieces_after [] m.lines (together m.rest) m.takes_them) ∙ ap pieces (sym joined) ∙ m.split)
          in
          record {
            lines = m.lines;
            rest = together m.rest;
            split = joined ∙ ap (λ t. t ++ together m.rest) (same m.lines);
            taken = m.takes_them;
            fault =
                (fault (reverse_aux m.lines []) (together m.rest) n).0
                (subst (λ r. Stop taken unfinished (reverse_aux m.lines []) r n) (sym back) m.stop);
            after = m.after ∙ ap suc (length-reverse m.lines);
          },
      λ h.
          ap (λ i. checked taken unfinished [] (pieces i)) (h.split ∙ ap (λ t. t ++ h.rest) (sym (same h.lines)))
          ∙ ap (checked taken unfinished []) (pieces_after [] h.lines h.rest h.taken)
          ∙ stops_checked taken unfinished shows s [] h.lines (pieces h.rest) n h.taken ((fault (reverse_aux h.lines []) h.rest n).1 h.fault)
          ∙ ap (refused n) (ap suc (length-reverse h.lines) ∙ sym h.after),
    )

-- Text.

text_cuts : Cuts lines_of render
text_cuts = record { joins = together-lines_of; front = lines_of-front }

-- The first line of a text is that of its pieces.
first_line : (rest : List ℕ) (x : List ℕ) (xs : List (List ℕ)) (l : Line) (more : List ℕ) → lines_of rest ≡ x ∷ xs → well_formed l ≡ true
    → rest ≡ render l ++ more → x ≡ render l
first_line rest x xs l more p form is = head-eq_of_cons-eq (sym p ∙ ap lines_of is ∙ lines_of-front l more form)

tested_positive : (n : ℕ) (l : Line) → 0 < n → tested n l ≡ refuses n
tested_positive zero l h = absurd (omega arith)
tested_positive (suc n) l h = refl

tested_refuses : (m : ℕ) (l : Line) (n : ℕ) → tested m l ≡ refuses n → (m ≡ n) × (0 < n)
tested_refuses zero l n e = absurd (takes≢refuses e)
tested_refuses (suc m) l n e = let p : suc m ≡ n = cc in (p, omega arith)

module _ (before : List Line) (rest : List ℕ) (n : ℕ) where
  text_fault : (pieces : List (List ℕ)) → lines_of rest ≡ pieces → Stop taken_text 3 before pieces n → TextFault before rest n
  unfolding taken_text
  text_fault [] p stop = unfinished (sym (together-lines_of rest) ∙ ap together p) stop.0 stop.1
  text_fault (x ∷ xs) p stop = go (line_in x) refl stop
    where
      go : (o : Option Line) → line_in x ≡ o → tested_in before o ≡ refuses n → TextFault before rest n
      go none q e =
          formless (λ r. nil≢cons (sym (ap lines_of r) ∙ p))
          (λ l more form is. none-ne-some l (sym q ∙ ap line_in (first_line rest x xs l more p form is) ∙ line_in-render l form))
          (cc)
      go (some l) q e =
          let (is, form) = line_in_is x l q in
          let (number, positive) = tested_refuses (refusal before l) l n e in
          unfit l (together xs) form (sym (together-lines_of rest) ∙ ap together p ∙ ap (λ y. y ++ together xs) is) number positive

  formless_stop : (rest ≡ [] → ⊥) → ((l : Line) (more : List ℕ) → well_formed l ≡ true → rest ≡ render l ++ more → ⊥) → n ≡ 2
      → (pieces : List (List ℕ)) → lines_of rest ≡ pieces → Stop taken_text 3 before pieces n
  unfolding taken_text
  formless_stop some-rest no_line two [] p = absurd (some-rest (sym (together-lines_of rest) ∙ ap together p))
  formless_stop some-rest no_line two (x ∷ xs) p = go (line_in x) refl
    where
      go : (o : Option Line) → line_in x ≡ o → tested_in before o ≡ refuses n
      go none q = ap refuses (sym two)
      go (some l) q =
          let (is, form) = line_in_is x l q in
          absurd (no_line l (together xs) form (sym (together-lines_of rest) ∙ ap together p ∙ ap (λ y. y ++ together xs) is))

  text_stop : TextFault before rest n → Stop taken_text 3 before (lines_of rest) n
  unfolding taken_text
  text_stop (unfinished r b number) = rw r (b, number)
  text_stop (formless r f number) = formless_stop r f number (lines_of rest) refl
  text_stop (unfit l more form r number positive) =
      subst (λ pieces. Stop taken_text 3 before pieces n) (sym (ap lines_of r ∙ lines_of-front l more form))
      (ap (tested_in before) (line_in-render l form) ∙ ap (λ m. tested m l) number ∙ tested_positive n l positive)

pub sheet_in_refused : (text : List ℕ) (n k : ℕ) → (sheet_in text ≡ refused n k) ↔ TextRefused text n k
unfolding sheet_in
sheet_in_refused text n k =
    refused_at taken_text 3 render text_shows lines_of text_cuts text_of TextFault together-render
    (λ before rest m. (text_fault before rest m (lines_of rest) refl, text_stop before rest m)) text n k

text_number : (before : List Line) (rest : List ℕ) (n : ℕ) → TextFault before rest n → (2 ≤ n) × (n ≤ 6)
text_number before rest n (unfinished r b number) = (omega arith, omega arith)
text_number before rest n (formless r f number) = (omega arith, omega arith)
text_number before rest n (unfit l more form r number positive) = let h = refusal-number before l (omega arith) in (omega arith, omega arith)

-- A text is refused line by line with 2 to 6.
pub sheet_in-number : (text : List ℕ) (n k : ℕ) → sheet_in text ≡ refused n k → (2 ≤ n) × (n ≤ 6)
sheet_in-number text n k e = let r = (sheet_in_refused text n k).0 e in text_number (reverse r.lines) r.rest n r.fault

-- Lent lines.

abbrev parts : List ℕ → List (List ℕ)
parts numbers = parts_of (length numbers) numbers

parts_together : (numbers : List ℕ) → together (parts numbers) ≡ numbers
parts_together numbers = together_parts (length numbers) numbers (omega arith)

lent_cuts : Cuts parts lent
lent_cuts = record { joins = parts_together; front = λ l rest form. parts_front l rest }

cond_refuses : (t : Bool) (l : Line) (m n : ℕ) → cond t (takes l) (refuses m) ≡ refuses n → n ≡ m
cond_refuses true l m n e = absurd (takes≢refuses e)
cond_refuses false l m n e = cc

-- A lent line is refused with 8 alone.
pub lent_refuses : (before : List Line) (x : List ℕ) (n : ℕ) → taken_lent before x ≡ refuses n → n ≡ 8
unfolding taken_lent
lent_refuses before x n e = cond_refuses (line_holds before x) (line_held before x) 8 n e

module _ (before : List Line) (rest : List ℕ) (n : ℕ) where
  lent_fault : (pieces : List (List ℕ)) → parts rest ≡ pieces → Stop taken_lent 8 before pieces n → LentFault before rest n
  lent_fault [] p stop = LentFault.unfinished (sym (parts_together rest) ∙ ap together p) stop.0 stop.1
  lent_fault (x ∷ xs) p stop =
      LentFault.unfit (λ r. nil≢cons (sym (ap parts r) ∙ p))
      (λ l more form passed is.
      takes≢refuses
      (sym (lent_shows.each before l form passed)
      ∙ ap (taken_lent before) (sym (head-eq_of_cons-eq (sym p ∙ ap parts is ∙ parts_front l more)))
      ∙ stop))
      (lent_refuses before x n stop)

  unfit_stop : (rest ≡ [] → ⊥) → ((l : Line) (more : List ℕ) → well_formed l ≡ true → refusal before l ≡ 0 → rest ≡ lent l ++ more → ⊥) → n ≡ 8
      → (pieces : List (List ℕ)) → parts rest ≡ pieces → Stop taken_lent 8 before pieces n
  unfit_stop some-rest no_line eight [] p = absurd (some-rest (sym (parts_together rest) ∙ ap together p))
  unfit_stop some-rest no_line eight (x ∷ xs) p = go (taken_lent before x) refl
    where
      go : (t : Taken) → taken_lent before x ≡ t → t ≡ refuses n
      go (takes l) q =
          let (is, form, passed) = lent_shows.only before x l q in
          absurd (no_line l (together xs) form passed (sym (parts_together rest) ∙ ap together p ∙ ap (λ y. y ++ together xs) is))
      go (refuses r) q = ap refuses (lent_refuses before x r q ∙ sym eight)

  lent_stop : LentFault before rest n → Stop taken_lent 8 before (parts rest) n
  lent_stop (LentFault.unfinished r b number) = rw r (b, number)
  lent_stop (LentFault.unfit r f number) = unfit_stop r f number (parts rest) refl

pub sheet_held_refused : (numbers : List ℕ) (n k : ℕ) → (sheet_held numbers ≡ refused n k) ↔ LentRefused numbers n k
unfolding sheet_held
sheet_held_refused numbers n k =
    refused_at taken_lent 8 lent lent_shows parts lent_cuts lent_of LentFault together-lent
    (λ before rest m. (lent_fault before rest m (parts rest) refl, lent_stop before rest m)) numbers n k

lent-number : (before : List Line) (rest : List ℕ) (n : ℕ) → LentFault before rest n → n ≡ 8
lent-number before rest n (LentFault.unfinished r b number) = number
lent-number before rest n (LentFault.unfit r f number) = number

-- Lent lines are refused with 8 alone.
pub sheet_held-number : (numbers : List ℕ) (n k : ℕ) → sheet_held numbers ≡ refused n k → n ≡ 8
sheet_held-number numbers n k e = let r = (sheet_held_refused numbers n k).0 e in lent-number (reverse r.lines) r.rest n r.fault
