-- The sentences of lent lines as bytes: what is told of the first 2,369 lines is told of all. Assumes nothing.
use mathlib.Core.Path.{◌≡◌, sym, ap, ◌∙◌}
use mathlib.Core.List.{List}
use Prim.Native.Nat.{ℕ}
use lib.ListN.{take}
use Rattle.sheet.specs.Write.{sheet_held}
use Rattle.chase.specs.Judge.{shape_limit}
use Rattle.sentences.specs.Explain.{Explained, explained, refuses, Explains, Refuses, wrong, many, settles, short, ExplainMeets}
use Rattle.followup.specs.Bytes.{numbers_of}
use Rattle.followup.specs.Reply.{Kept, ExplainReplies, ExplainsBytes}
use Rattle.followup.specs.declared.Reply.{Reply}
use Rattle.followup.proofs.Truncated.{sheet_truncated}
use Rattle.followup.proofs.StepBytes.{right_same}
use Rattle.followup.proofs.ForecastLaws.{taken_same}

-- What is right for some numbers is right for all that hold the same sheet.
module _ (ms ns : List ℕ) (e : sheet_held ns ≡ sheet_held ms) where
  explains_same : (text : List ℕ) → Explains shape_limit ms text → Explains shape_limit ns text
  explains_same text x =
      record {
        lent = x.lent;
        verdict = x.verdict;
        steps = x.steps;
        meets = (x.meets.0, right_same ms ns x.lent x.steps x.verdict e x.meets.1);
        endless = x.endless;
        text_is = x.text_is;
      }

  refuses_same : (before : List ℕ) (n k : ℕ) → Refuses shape_limit ms before n k → Refuses shape_limit ns before n k
  refuses_same before n k (wrong line is) = wrong line (e ∙ is)
  refuses_same before n k (many ls is more) = many ls (e ∙ is) more
  refuses_same before n k (settles ls t d b) = settles ls (taken_same shape_limit ms ns e ls t) d b
  refuses_same before n k (short text x less) = short text (explains_same text x) less

  explain_same : (before after : List ℕ) (a : Explained) → ExplainMeets shape_limit ms before a after → ExplainMeets shape_limit ns before a after
  explain_same before after (explained n) m =
      record { text = m.text; explains = explains_same m.text m.explains; size = m.size; fits = m.fits; stands = m.stands }
  explain_same before after (refuses n k) m = (refuses_same before n k m.0, m.1)

-- A refusal leaves the lent text as it was.
kept_told : (numbers before after : List ℕ) (r : Reply) (a : Explained) → ExplainMeets shape_limit numbers before a after → ExplainReplies a r → Kept r.refusal before after
kept_told numbers before after r (explained n) m says bad = absurd (bad says.0)
kept_told numbers before after r (refuses n k) m says bad = m.1

-- The first 2,369 lines are explained as all are.
pub explains_truncated : {first lines before after : List ℕ} {r : Reply} (a : Explained) → first ≡ take 18952 (numbers_of 4 lines)
    → ExplainMeets shape_limit first before a after → ExplainReplies a r → ExplainsBytes lines before r after
explains_truncated {first} {lines} {before} {after} {r} a e m says =
    record {
      answer = a;
      meets = explain_same first (numbers_of 4 lines) (sheet_truncated (numbers_of 4 lines) ∙ ap sheet_held (sym e)) before after a m;
      replies = says;
      kept = kept_told first before after r a m says;
    }
