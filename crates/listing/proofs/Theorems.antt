-- The theorem on what is printed that a reader relies on: for each text there is one. Assumes nothing.
use mathlib.Core.Path.{◌≡◌, refl, sym, subst, ap, ap₂, ◌∙◌}
use mathlib.Core.Bool.{false≢true}
use mathlib.Core.List.{List, [], ◌∷◌, ◌++◌, map}
use Prim.Native.Nat.{ℕ, ◌*◌}
use native.Mathlib.Omega.{arith}
use lib.ListN.{length, drop}
use Rattle.patterns.specs.Outcome.{good, refused}
use Rattle.sheet.specs.Line.{Line, text_of, lent_of}
use Rattle.sheet.proofs.Sheets.{refused≢good}
use Rattle.carrying.specs.Carrying.{Row}
use Rattle.carrying.specs.Contract.{Carried, carried, refuses, run, Ends, row_line, Taken, CarriedOut, Refuses, CarryMeets}
use Rattle.carrying.proofs.Answers.{one_answer}
use Rattle.carrying.proofs.ContractLaws.{one_sheet}
use Rattle.carrying.proofs.Theorems.{one_end}
use Rattle.report.specs.Lines.{line_text}
use Rattle.report.specs.Report.{refusal_text}
use Rattle.listing.specs.Listing.{letter_c, listing_text, rows_of, Carries, Prints}

-- Of the lent records only their number matters.
module _ {numbers a b : List ℕ} (same : length a ≡ length b) where
  taken_with : {lines : List Line} → Taken numbers a lines → Taken numbers b lines
  taken_with t = record { room = omega (arith, same, t.room); sheet = t.sheet; shapes = t.shapes; counted = t.counted; within = t.within }

  refuses_with : {n k : ℕ} → Refuses numbers a n k → Refuses numbers b n k
  refuses_with (Refuses.short h) = Refuses.short (omega (arith, same, h))
  refuses_with (Refuses.wrong line h e) = Refuses.wrong line (omega (arith, same, h)) e
  refuses_with (Refuses.many_shapes lines h e m) = Refuses.many_shapes lines (omega (arith, same, h)) e m
  refuses_with (Refuses.endless lines t u) = Refuses.endless lines (taken_with t) u
  refuses_with (Refuses.many_records lines t d h m) = Refuses.many_records lines (taken_with t) d h m
  refuses_with (Refuses.large_number lines t n c f fresh m l) = Refuses.large_number lines (taken_with t) n c f fresh m l

  out_with : {records firings : ℕ} {now : List ℕ} (out : CarriedOut numbers a records firings now)
      → CarriedOut numbers b records firings (lent_of (map row_line (run out.lines out.visits).rows) ++ drop (8 * records) b)
  out_with out =
      record {
        lines = out.lines;
        taken = taken_with out.taken;
        visits = out.visits;
        ends = out.ends;
        records_are = out.records_are;
        few = out.few;
        small = out.small;
        firings_are = out.firings_are;
        held = refl;
      }

-- The rows of two runs of a sheet that have ended.
one_run : (ls ms : List Line) (j k : ℕ) → ls ≡ ms → Ends ls j → Ends ms k → (run ls j).rows ≡ (run ms k).rows
one_run ls ms j k e g h = subst (λ (ns : List Line). Ends ns k → (run ls j).rows ≡ (run ns k).rows) e (λ h. ap (λ s. s.rows) (one_end ls j k g h)) h

module _ (numbers a b : List ℕ) (same : length a ≡ length b) where
  -- Two answers, with lent records of the same size.
  one_text : (x y : Carried) (now then : List ℕ) (m : CarryMeets numbers a x now) (n : CarryMeets numbers b y then)
      → listing_text x (rows_of numbers a x now m) ≡ listing_text y (rows_of numbers b y then n)
  one_text (carried r f) (carried s g) now then m n =
      let e = (one_answer numbers b (carried r f) (carried s g) _ then (out_with same m) n).0 in
      let u : r ≡ s = cc in
      let v : f ≡ g = cc in
      let rows = one_run m.lines n.lines m.visits n.visits (one_sheet numbers m.lines n.lines m.taken.sheet n.taken.sheet) m.ends n.ends in
      ap₂ (λ (k l : ℕ). line_text letter_c (k ∷ l ∷ []) ++ text_of (map row_line (run m.lines m.visits).rows)) u v
      ∙ ap (λ (ws : List Row). line_text letter_c (s ∷ g ∷ []) ++ text_of (map row_line ws)) rows
  one_text (carried r f) (refuses s g) now then m n =
      let e = (one_answer numbers b (carried r f) (refuses s g) _ then (out_with same m) n).0 in absurd (false≢true cc)
  one_text (refuses r f) (carried s g) now then m n =
      let e = (one_answer numbers b (refuses r f) (carried s g) b then (refuses_with same m.0, refl) n).0 in absurd (false≢true cc)
  one_text (refuses r f) (refuses s g) now then m n =
      let e = (one_answer numbers b (refuses r f) (refuses s g) b then (refuses_with same m.0, refl) n).0 in
      let u : r ≡ s = cc in
      let v : f ≡ g = cc in
      ap₂ refusal_text u v

one_carries : (numbers p q : List ℕ) → Carries numbers p → Carries numbers q → p ≡ q
one_carries numbers p q c d =
    c.text
    ∙ one_text numbers c.lent d.lent (c.lent_size ∙ sym d.lent_size) c.answer d.answer c.now d.now c.meets d.meets
    ∙ sym d.text

-- No two different outputs are right for a text.
pub one_output : (text p q : List ℕ) → Prints text p → Prints text q → p ≡ q
one_output text p q (Prints.unread n k e t) (Prints.unread m l f u) =
    let same : refused n k ≡ refused m l = sym e ∙ f in
    let a : n ≡ m = cc in
    let b : k ≡ l = cc in
    t ∙ ap₂ refusal_text a b ∙ sym u
one_output text p q (Prints.unread n k e t) (Prints.read ls f c) = absurd (refused≢good (sym e ∙ f))
one_output text p q (Prints.read ls f c) (Prints.unread n k e t) = absurd (refused≢good (sym e ∙ f))
one_output text p q (Prints.read ls e c) (Prints.read ms f d) =
    let same : good ls ≡ good ms = sym e ∙ f in
    let lines : ls ≡ ms = cc in
    one_carries (lent_of ms) p q (subst (λ (ns : List Line). Carries (lent_of ns) p) lines c) d
