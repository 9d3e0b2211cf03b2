-- What stands at the front of the output is right to print. Assumes nothing.
use mathlib.Core.Path.{◌≡◌, refl, sym, subst, ap, ◌∙◌}
use mathlib.Core.List.{List, [], ◌∷◌, ◌++◌}
use Prim.Native.Nat.{ℕ, ◌*◌, ◌/◌, ◌≤◌}
use native.Mathlib.Nat.{zero-add}
use native.Mathlib.Omega.{arith}
use lib.ListN.{length, take, drop}
use lib.Seq.{take_at}
use Rattle.patterns.specs.Outcome.{Outcome, good, refused, map_good, counted, held}
use Rattle.columns.specs.Column.{largest_number}
use Rattle.sheet.specs.Line.{Line, lent_of}
use Rattle.sheet.specs.Answer.{refusal_number, refusal_line}
use Rattle.sheet.specs.Read.{read_of, ReadMeets}
use Rattle.sheet.specs.declared.Refusal.{Refusal}
use Rattle.std.proofs.Common.{Ok, Err}
use Rattle.sheet.proofs.Sheets.{length-lent_of, refused≢good}
use Rattle.sheet.proofs.Theorems.{read_exactly}
use Rattle.chase.specs.Judge.{Judgement, JudgeMeets, step_limit, shape_limit}
use Rattle.report.specs.Lines.{PutMeets}
use Rattle.report.specs.Report.{letter_n, refusal_text, judgement_text, Filled, Judges, line_limit, TextTold, TextPrinted, OutputMeets, report_says}
use Rattle.report.specs.Inner.Promises.{SheetLent, ReadGood}
use Rattle.report.specs.declared.PutRefusal.{PutRefusal}
use Rattle.std.specs.Prelude.{Option, Some, None, Result}
use Rattle.report.proofs.Ranges.{in_range_all}
use Rattle.report.proofs.Filling.{length-line_text, put-fits, put_ok}

pub filled_by : {P Q : List ℕ → Type 0} (before : List ℕ) (size : ℕ) (after : List ℕ) → ((p : List ℕ) → P p → Q p) → Filled P before size after
    → Filled Q before size after
filled_by before size after f h = record { printed = h.printed; right = f h.printed h.right; count = h.count; output = h.output }

-- A refusal's line is put where there is room for its 20 bytes.
pub refusal-filled : (number line : ℕ) (before : List ℕ) (answer : Result ℕ PutRefusal) (after : List ℕ)
    → PutMeets letter_n (number ∷ line ∷ []) before 0 answer after → number ≤ largest_number → line ≤ largest_number → 20 ≤ length before
    → Filled (λ p. p ≡ refusal_text number line) before 20 after
refusal-filled number line before answer after m a b room =
    let numbers = number ∷ line ∷ [] in
    record {
      printed = refusal_text number line;
      right = refl;
      count = sym (length-line_text letter_n numbers);
      output = put-fits letter_n numbers before 0 answer after m (in_range_all numbers (a, (b, tt))) (omega (arith, room));
    }

-- It is put, and its size answered.
pub refusal-put : (number line : ℕ) (before : List ℕ) (answer : Result ℕ PutRefusal) (after : List ℕ)
    → PutMeets letter_n (number ∷ line ∷ []) before 0 answer after → number ≤ largest_number → line ≤ largest_number → 20 ≤ length before
    → answer ≡ Ok 20
refusal-put number line before answer after m a b room =
    let numbers = number ∷ line ∷ [] in put_ok letter_n numbers before 0 answer after m (in_range_all numbers (a, (b, tt))) (omega (arith, room))

-- What is filled stands before the rest, which is as it was.
pub filled-front : {P : List ℕ → Type 0} (before : List ℕ) (n : ℕ) (after : List ℕ) → Filled P before n after
    → (printed : List ℕ) × P printed × (n ≡ length printed) × (after ≡ printed ++ drop n before)
filled-front before n after f =
    (f.printed, f.right, f.count, f.output ∙ ap (λ (k : ℕ). f.printed ++ drop k before) (zero-add (length f.printed) ∙ sym f.count))

-- A judgement's text.
pub judges : (numbers lent : List ℕ) (j : Judgement) (steps : List ℕ) → length lent ≡ 5 * step_limit → JudgeMeets shape_limit numbers lent j steps
    → (p : List ℕ) → p ≡ judgement_text j steps → Judges numbers p
judges numbers lent j steps l m p e = record { lent = lent; lent_size = l; judgement = j; steps = steps; meets = m; text = e }

-- ---- what was read

-- The lines of a text are those of a sheet.
pub sheet_read : (text : List ℕ) (lines : List Line) → read_of text line_limit ≡ good lines → SheetLent (lent_of lines)
sheet_read text lines e =
    let (size, fit, is, sheet) = (read_exactly text line_limit lines).0 e in record { lines = lines; holds = refl; sheet = sheet; few = fit }

module _ (text before after : List ℕ) (room : length before ≡ 13104) where
  lent_room : length before / 8 ≡ line_limit
  lent_room = omega arith

  pub read_good : (n : ℕ) → ReadMeets text before (Ok n) after → 8 * n ≤ length after → ReadGood text (8 * n) after
  read_good n m fits = go (read_of text (length before / 8)) refl m.says m.lines
    where
      go : (o : Outcome (List Line)) → read_of text (length before / 8) ≡ o → good n ≡ counted o → after ≡ held (map_good lent_of o) before
          → ReadGood text (8 * n) after
      go (refused number line) e s t = absurd (refused≢good (sym s))
      go (good ls) e s t =
          let c : n ≡ length ls = cc in
          record {
            lines = ls;
            read = ap (read_of text) (sym lent_room) ∙ e;
            fits = fits;
            held_is = ap (take (8 * n)) t ∙ take_at (lent_of ls) (drop (length (lent_of ls)) before) (8 * n) (omega (arith, length-lent_of ls));
          }

  pub read_refused : (r : Refusal) → ReadMeets text before (Err r) after → read_of text line_limit ≡ refused (refusal_number r) (refusal_line r)
  read_refused r m = go (read_of text (length before / 8)) refl m.says
    where
      go : (o : Outcome (List Line)) → read_of text (length before / 8) ≡ o → refused (refusal_number r) (refusal_line r) ≡ counted o
          → read_of text line_limit ≡ refused (refusal_number r) (refusal_line r)
      go (good ls) e s = absurd (refused≢good s)
      go (refused number line) e s =
          let a : refusal_number r ≡ number = cc in
          let b : refusal_line r ≡ line = cc in
          ap (read_of text) (sym lent_room) ∙ e ∙ cc

-- ---- what is printed for a text

module _ (Told : List ℕ → ℕ → Type 0) (text before after : List ℕ) (Right : List ℕ → Type 0)
    (unread : (number line : ℕ) → read_of text line_limit ≡ refused number line → Right (refusal_text number line)) where
  -- Read's refusal, or what is told of the lines read, where that is right to print.
  text_filled : (size : ℕ) → ((lines : List Line) → read_of text line_limit ≡ good lines → Told (lent_of lines) size → Filled Right before size after)
      → TextTold Told text before size after → Filled Right before size after
  text_filled size told (TextTold.unread number line e f) = filled_by before size after (λ p is. subst Right (sym is) (unread number line e)) f
  text_filled size told (TextTold.told lines e t) = told lines e t

  pub text_meets : (limit : ℕ) (answer : Option ℕ) → TextPrinted Told limit text before answer after
      → ((size : ℕ) (lines : List Line) → limit ≤ length before → read_of text line_limit ≡ good lines → Told (lent_of lines) size → Filled Right before size after)
      → OutputMeets limit Right before (report_says answer) after
  text_meets limit None m told = (m.0, refl, refl, m.1)
  text_meets limit (Some size) m told = (m.0, filled-front before size after (text_filled size (λ lines. told size lines m.0) m.1))
