-- Lent steps as bytes: what judging puts at their front, and the rest as it was. Assumes nothing.
use mathlib.Core.Path.{◌≡◌, refl, sym, subst, ap, ◌∙◌}
use mathlib.Core.List.{List, [], ◌++◌}
use Prim.Native.Nat.{ℕ, ◌+◌, ◌*◌, ◌/◌, ◌≤◌, ◌<◌}
use native.Mathlib.Omega.{arith}
use borrow.Author.Tests.{lt-ltb}
use lib.ListN.{length, take, drop}
use lib.Seq.{take_at}
use Rattle.patterns.specs.Outcome.{Outcome, good, refused}
use Rattle.sheet.specs.Line.{Line}
use Rattle.sheet.specs.Write.{sheet_held}
use Rattle.chase.specs.Steps.{step_numbers}
use Rattle.chase.specs.Judge.{Verdict, Judgement, judged, refuses, Right, Refuses, short, wrong, many, JudgeMeets, shape_limit}
use Rattle.chase.proofs.StepLaws.{length_numbers}
use Rattle.followup.specs.Bytes.{numbers_of, all_bytes}
use Rattle.followup.specs.Reply.{JudgeReplies, Judges, JudgesNumbers, JudgesBytes, text_read, TextMeets, JudgesText}
use Rattle.followup.specs.declared.JudgeReply.{JudgeReply}
use Rattle.followup.proofs.ByteLaws.{length-numbers_from, Bytes, new_front}
use Rattle.followup.proofs.Truncated.{sheet_truncated}

-- ---- judging into lent bytes

-- A refusal leaves the lent bytes as they were.
pub unchanged : (Meets : Judgement → List ℕ → Type 0) (before : List ℕ) → Bytes before → (n k : ℕ) (r : JudgeReply) → Meets (refuses n k) (numbers_of 2 before)
    → JudgeReplies (refuses n k) r → Judges Meets before r before
unchanged Meets before b n k r why says =
    record {
      judgement = refuses n k;
      steps = numbers_of 2 before;
      meets = why;
      replies = says;
      bytes = sym (new_front 2 (length before / 2) [] before (omega arith) (omega arith) b);
      kept = λ bad. refl;
    }

-- From what judging answers with steps of its own to what is answered with the lent steps.
module _ (numbers before : List ℕ) (b : Bytes before) (room : 20480 ≤ length before / 2) where
  lent : 20480 ≤ length (numbers_of 2 before)
  lent = omega (arith, length-numbers_from 2 (length before / 2) before)

  judges_right : {own written after : List ℕ} (v : Verdict) (r : JudgeReply) → Right shape_limit numbers own v written → JudgeReplies (judged v) r
      → after ≡ all_bytes 2 (take (5 * r.trail + 5 * r.loop_steps) written) ++ drop (2 * (5 * r.trail + 5 * r.loop_steps)) before
      → JudgesNumbers numbers before r after
  judges_right {own} {written} {after} v r right says is =
      let new : List ℕ = step_numbers right.steps in
      let size : length new ≡ 5 * length right.steps = length_numbers right.steps in
      let count : 5 * r.trail + 5 * r.loop_steps ≡ length new = omega (arith, right.count, size, says.8, says.9) in
      let wrote : take (length new) written ≡ new = ap (take (length new)) right.held ∙ take_at new (drop (5 * length right.steps) own) (length new) refl in
      record {
        judgement = judged v;
        steps = new ++ drop (length new) (numbers_of 2 before);
        meets = (
          lent,
          record {
            lines = right.lines;
            sheet = right.sheet;
            shapes = right.shapes;
            within = right.within;
            fired = right.fired;
            share_is = right.share_is;
            steps = right.steps;
            count = right.count;
            room = right.room;
            held = ap (λ (n : ℕ). new ++ drop n (numbers_of 2 before)) size;
            answer = right.answer;
          },
        );
        replies = says;
        bytes =
            is
            ∙ ap (λ (n : ℕ). all_bytes 2 (take n written) ++ drop (2 * n) before) count
            ∙ ap (λ (ns : List ℕ). all_bytes 2 ns ++ drop (2 * length new) before) wrote
            ∙ sym (new_front 2 (length before / 2) new before (omega (arith, right.room, right.count)) (omega arith) b);
        kept = λ bad. absurd (bad says.0);
      }

  refuses_lent : {own : List ℕ} (n k : ℕ) → 20480 ≤ length own → Refuses shape_limit numbers own n k → Refuses shape_limit numbers (numbers_of 2 before) n k
  refuses_lent n k h (short few) = absurd (omega arith)
  refuses_lent n k h (wrong line _ is) = wrong line lent is
  refuses_lent n k h (many ls _ is more) = many ls lent is more

  pub judges : {after : List ℕ} (own written : List ℕ) (j : Judgement) (r : JudgeReply) → 20480 ≤ length own → JudgeMeets shape_limit numbers own j written → JudgeReplies j r
      → after ≡ all_bytes 2 (take (5 * r.trail + 5 * r.loop_steps) written) ++ drop (2 * (5 * r.trail + 5 * r.loop_steps)) before
      → JudgesNumbers numbers before r after
  judges own written (judged v) r h m says is = judges_right v r m.1 says is
  judges own written (refuses n k) r h m says is =
      let none : 5 * r.trail + 5 * r.loop_steps ≡ 0 = omega (arith, says.8, says.9) in
      let same = is ∙ ap (λ (m : ℕ). all_bytes 2 (take m written) ++ drop (2 * m) before) none in
      subst (JudgesNumbers numbers before r) (sym same)
      (unchanged (JudgeMeets shape_limit numbers (numbers_of 2 before)) before b n k r (refuses_lent n k h m.0, refl) says)

-- At most 4,096 steps are counted.
pub steps_few : (numbers own written : List ℕ) (j : Judgement) (r : JudgeReply) → JudgeMeets shape_limit numbers own j written → JudgeReplies j r
    → r.trail + r.loop_steps ≤ 4096
steps_few numbers own written (judged v) r m says = omega (arith, m.1.room, says.8, says.9)
steps_few numbers own written (refuses n k) r m says = omega (arith, says.8, says.9)

-- Fewer than 4,096 steps.
few_steps : (before : List ℕ) → length before / 2 < 20480 → length (numbers_of 2 before) < 20480
few_steps before h = omega (arith, length-numbers_from 2 (length before / 2) before)

pub judges_short : (lines before : List ℕ) (r : JudgeReply) → Bytes before → length before / 2 < 20480 → JudgeReplies (refuses 12 0) r → JudgesBytes lines before r before
judges_short lines before r b h says =
    unchanged (JudgeMeets shape_limit (numbers_of 4 lines) (numbers_of 2 before)) before b 12 0 r (short (few_steps before h), refl) says

pub text_short : (text before : List ℕ) (r : JudgeReply) → Bytes before → length before / 2 < 20480 → JudgeReplies (refuses 12 0) r → JudgesText text before r before
text_short text before r b h says = unchanged (TextMeets (text_read text) (numbers_of 2 before)) before b 12 0 r (go (text_read text)) says
  where
    go : (o : Outcome (List Line)) → TextMeets o (numbers_of 2 before) (refuses 12 0) (numbers_of 2 before)
    go (good ls) = (short (few_steps before h), refl)
    go (refused n k) = (rw (lt-ltb (length (numbers_of 2 before)) 20480 (few_steps before h)) refl, refl)

-- ---- other lines

-- What is right for some numbers is right for all that hold the same sheet.
abbrev pub right_same : (ms ns before now : List ℕ) (v : Verdict) → sheet_held ns ≡ sheet_held ms → Right shape_limit ms before v now → Right shape_limit ns before v now
right_same ms ns before now v e right =
    record {
      lines = right.lines;
      sheet = e ∙ right.sheet;
      shapes = right.shapes;
      within = right.within;
      fired = right.fired;
      share_is = right.share_is;
      steps = right.steps;
      count = right.count;
      room = right.room;
      held = right.held;
      answer = right.answer;
    }

meets_same : (ms ns before now : List ℕ) (j : Judgement) → sheet_held ns ≡ sheet_held ms → JudgeMeets shape_limit ms before j now → JudgeMeets shape_limit ns before j now
meets_same ms ns before now (judged v) e m = (m.0, right_same ms ns before now v e m.1)
meets_same ms ns before now (refuses n k) e m = (go n k m.0, m.1)
  where
    go : (n k : ℕ) → Refuses shape_limit ms before n k → Refuses shape_limit ns before n k
    go n k (short few) = short few
    go n k (wrong line lent is) = wrong line lent (e ∙ is)
    go n k (many ls lent is more) = many ls lent (e ∙ is) more

pub judges_as : {M N : Judgement → List ℕ → Type 0} {before after : List ℕ} {r : JudgeReply} → ((j : Judgement) (now : List ℕ) → M j now → N j now)
    → Judges M before r after → Judges N before r after
judges_as f m =
    record { judgement = m.judgement; steps = m.steps; meets = f m.judgement m.steps m.meets; replies = m.replies; bytes = m.bytes; kept = m.kept }

-- The first 2,369 lines are judged as all are.
pub judges_truncated : (first lines before : List ℕ) (r : JudgeReply) (after : List ℕ) → first ≡ take 18952 (numbers_of 4 lines) → JudgesNumbers first before r after → JudgesBytes lines before r after
judges_truncated first lines before r after e m =
    judges_as (λ j now. meets_same first (numbers_of 4 lines) (numbers_of 2 before) now j (sheet_truncated (numbers_of 4 lines) ∙ ap sheet_held (sym e))) m
