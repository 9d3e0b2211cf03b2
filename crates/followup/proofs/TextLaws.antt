-- From what reading answers to what judging a text answers. Assumes nothing.
use mathlib.Core.Path.{◌≡◌, refl, sym, subst, ap, ap₂, ◌∙◌}
use mathlib.Core.Bool.{Bool, true, false, cond}
use mathlib.Core.List.{List}
use mathlib.Core.Logic.{◌⊎◌, inl, inr}
use Prim.Native.Nat.{ℕ, ◌*◌, ◌/◌, ◌≤◌}
use native.Mathlib.Omega.{arith}
use borrow.Author.Tests.{le-ltb}
use lib.Dec.{ltb}
use lib.ListN.{length, take, drop}
use lib.Seq.{take_at}
use Rattle.patterns.specs.Outcome.{Outcome, good, refused, map_good, counted, held}
use Rattle.sheet.specs.Line.{Line, lent_of}
use Rattle.sheet.specs.Read.{text_limit, sheet_in}
use Rattle.sheet.proofs.Sheets.{refused≢good, length-lent_of, sheet_in_is, sheet_held-lent}
use Rattle.sheet.proofs.Refused.{sheet_in-number}
use Rattle.sheet.proofs.Theorems.{read-numbers}
use Rattle.chase.specs.Judge.{Judgement, judged, refuses, Refuses, short, wrong, many, JudgeMeets, shape_limit}
use Rattle.followup.specs.Bytes.{numbers_of}
use Rattle.followup.specs.Reply.{Replies, JudgeReplies, JudgesNumbers, text_read, TextMeets, JudgesText}
use Rattle.followup.specs.Inner.Numbers.{ReadsNumbers}
use Rattle.followup.specs.declared.Reply.{Reply}
use Rattle.followup.specs.declared.JudgeReply.{JudgeReply}
use Rattle.followup.proofs.ByteLaws.{length-numbers_from, Bytes}
use Rattle.followup.proofs.LineCounts.{lines_in, with-room}
use Rattle.followup.proofs.StepBytes.{unchanged, judges_as}

module _ (text numbers after : List ℕ) (r : Reply) (m : ReadsNumbers text numbers r after) (enough : lines_in text ≤ length numbers / 8) where
  says_all : Replies (counted (text_read text)) r
  says_all = subst (λ o. Replies (counted o) r) (with-room text (length numbers / 8) enough) m.replies

  lines_all : after ≡ held (map_good lent_of (text_read text)) numbers
  lines_all = subst (λ o. after ≡ held (map_good lent_of o) numbers) (with-room text (length numbers / 8) enough) m.lines

  -- Reading's refusal is passed on.
  pub text_refused : (before : List ℕ) → Bytes before → 20480 ≤ length before / 2 → (r.refusal ≡ 0 → ⊥) → (j : JudgeReply)
      → JudgeReplies (refuses r.refusal r.line) j → JudgesText text before j before
  text_refused before b room bad j says =
      unchanged (TextMeets (text_read text) (numbers_of 2 before)) before b r.refusal r.line j (go (text_read text) says_all) says
    where
      lent : 20480 ≤ length (numbers_of 2 before)
      lent = omega (arith, length-numbers_from 2 (length before / 2) before)

      go : (o : Outcome (List Line)) → Replies (counted o) r → TextMeets o (numbers_of 2 before) (refuses r.refusal r.line) (numbers_of 2 before)
      go (good ls) s = absurd (bad s.0)
      go (refused n k) s = (rw (le-ltb (length (numbers_of 2 before)) 20480 lent) (ap₂ refuses s.0 s.1), refl)

  -- The lines that were read are judged.
  pub text_judged : (before : List ℕ) (j : JudgeReply) (then : List ℕ) → r.refusal ≡ 0 → JudgesNumbers (take (8 * r.count) after) before j then → JudgesText text before j then
  text_judged before j then well judges = go (text_read text) refl says_all lines_all
    where
      go : (o : Outcome (List Line)) → text_read text ≡ o → Replies (counted o) r → after ≡ held (map_good lent_of o) numbers → JudgesText text before j then
      go (good ls) e s is =
          let front : take (8 * r.count) after ≡ lent_of ls =
          ap (take (8 * r.count)) is ∙ take_at (lent_of ls) (drop (length (lent_of ls)) numbers) (8 * r.count) (omega (arith, s.2, length-lent_of ls)) in
          judges_as (λ k now meets. rw e (subst (λ ns. JudgeMeets shape_limit ns (numbers_of 2 before) k now) front meets)) judges
      go (refused n k) e s is =
          let some = read-numbers text (length numbers / 8) n k (with-room text (length numbers / 8) enough ∙ e) in
          absurd (omega (arith, s.0, well))

-- Judging a text refuses with 1 to 6, 11 or 12 alone: room for the lines is never short, and lines that were read are never wrong.
pub text_refusals : (text before : List ℕ) (r : JudgeReply) (after : List ℕ) → JudgesText text before r after → (r.refusal ≤ 6) ⊎ ((11 ≤ r.refusal) × (r.refusal ≤ 12))
text_refusals text before r after m = go (ltb text_limit (length text)) (sheet_in text) refl m.judgement m.meets m.replies
  where
    Within : Type 0
    Within = (r.refusal ≤ 6) ⊎ ((11 ≤ r.refusal) × (r.refusal ≤ 12))

    by : (t : Bool) (n k : ℕ) → n ≤ 6 → JudgeReplies (cond t (refuses 12 0) (refuses n k)) r → Within
    by true n k small s = inr (omega (arith, s.0), omega (arith, s.0))
    by false n k small s = inl (omega (arith, s.0, small))

    passed : (n k : ℕ) (j : Judgement) → n ≤ 6 → j ≡ cond (ltb (length (numbers_of 2 before)) 20480) (refuses 12 0) (refuses n k) → JudgeReplies j r → Within
    passed n k j small is says = by (ltb (length (numbers_of 2 before)) 20480) n k small (subst (λ i. JudgeReplies i r) is says)

    why : (ls : List Line) → sheet_in text ≡ good ls → (n k : ℕ) → Refuses shape_limit (lent_of ls) (numbers_of 2 before) n k → r.refusal ≡ n → Within
    why ls e n k (short few) p = inr (omega (arith, p), omega (arith, p))
    why ls e n k (wrong line lent is) p = absurd (refused≢good (sym is ∙ sheet_held-lent ls (sheet_in_is text ls e).1))
    why ls e n k (many ms lent is more) p = inr (omega (arith, p), omega (arith, p))

    lines : (ls : List Line) → sheet_in text ≡ good ls → (j : Judgement) → JudgeMeets shape_limit (lent_of ls) (numbers_of 2 before) j m.steps → JudgeReplies j r → Within
    lines ls e (judged v) meets says = inl (omega (arith, says.0))
    lines ls e (refuses n k) meets says = why ls e n k meets.0 says.0

    go : (t : Bool) (o : Outcome (List Line)) → sheet_in text ≡ o → (j : Judgement) → TextMeets (cond t (refused 1 0) o) (numbers_of 2 before) j m.steps
        → JudgeReplies j r → Within
    go true o e j meets says = passed 1 0 j (omega arith) meets.0 says
    go false (refused n k) e j meets says = passed n k j (sheet_in-number text n k e).1 meets.0 says
    go false (good ls) e j meets says = lines ls e j meets says
