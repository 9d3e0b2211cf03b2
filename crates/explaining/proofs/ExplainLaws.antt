-- What each of Judge's answers says of explaining. Assumes nothing.
use mathlib.Core.Path.{◌≡◌, refl, sym, ap, subst, ◌∙◌}
use mathlib.Core.Logic.{◌⊎◌, inl, inr}
use mathlib.Core.List.{List, [], ◌∷◌, ◌++◌}
use Prim.Native.Nat.{ℕ, ◌+◌, ◌*◌, ◌≤◌}
use native.Mathlib.Nat.{zero-add}
use native.Mathlib.Omega.{arith}
use Rattle.std.proofs.Common.{Result, Ok, Err}
use lib.ListN.{length, take, drop, length-append, take-append-drop}
use Rattle.columns.specs.Column.{put}
use Rattle.chase.specs.Lists.{All}
use Rattle.chase.specs.Rules.{Rule, rules_of}
use Rattle.chase.specs.Run.{rows_of}
use Rattle.chase.specs.Steps.{Step, step_numbers}
use Rattle.chase.specs.Judge.{SettlesAtOnce, Settles as SettlesLater, Endless as IsEndless, Right as JudgeRight, Refuses as JudgeRefuses, short as steps_short, wrong as line_wrong, many as shapes_over, JudgeMeets, shape_limit}
use Rattle.chase.proofs.JudgeLaws.{verdict_settles}
use Rattle.chase.proofs.StepLaws.{length_numbers}
use Rattle.rules.specs.Table.{good_lines, SheetHeld, rules_in}
use Rattle.judging.specs.Answer.{verdict_of, judge_says}
use Rattle.judging.specs.declared.JudgeRefusal.{JudgeRefusal}
use Rattle.judging.specs.declared.Figures.{Figures}
use Rattle.judging.specs.declared.Verdict.TheVariants.{Settles, Endless}
use Rattle.sentences.specs.Sentence.{told, text_of}
use Rattle.sentences.specs.Explain.{Explains, Refuses, wrong, many, settles, short, ExplainMeets}
use Rattle.sentences.proofs.Naming.{Named, answer_named}
use Rattle.explaining.specs.Answer.{explain_says, explain_refusal_number, explain_refusal_line, SameRefusal}
use Rattle.explaining.specs.declared.ExplainRefusal.{ExplainRefusal}
use Rattle.explaining.specs.Inner.Text.{NamedTo, text_to, TextWritten}
use Rattle.explaining.proofs.TextLaws.{text_is, named_to}

-- A refusal of Judge's, where steps enough are lent, is one of explaining.
refused_as : {numbers room : List ℕ} {n k : ℕ} (before : List ℕ) → length room ≡ 20480 → JudgeRefuses shape_limit numbers room n k
    → (n ≡ 12 → ⊥) × Refuses shape_limit numbers before n k
refused_as before size (steps_short h) = absurd (omega arith)
refused_as before size (line_wrong line h held) = (λ e. omega arith, wrong line held)
refused_as before size (shapes_over lines h held more) = (λ e. omega arith, many lines held more)

all_both : {A : Type 0} (P : A → Type 0) (xs ys : List A) → All P xs → All P ys → All P (xs ++ ys)
all_both P [] ys p q = q
all_both P (x ∷ xs) ys p q = (p.0, all_both P xs ys p.1 q)

module _ (numbers room now : List ℕ) (size : length room ≡ 20480) where
  -- "Settles": 24.
  pub settled : (before : List ℕ) (f : Figures) → JudgeMeets shape_limit numbers room (judge_says (Ok (Settles f))) now → Refuses shape_limit numbers before 24 0
  settled before f meets =
      let r : JudgeRight shape_limit numbers room (verdict_of 1 f) now = meets.1 in
      let b = (verdict_settles shape_limit numbers room (verdict_of 1 f) now r.lines r r.sheet).0 refl in
      settles r.lines (record { sheet = r.sheet; shapes = f.shapes; counted = r.shapes; within = r.within }) b.0 b.1

  -- A refusal: the same.
  pub refused : (before : List ℕ) (j : JudgeRefusal) → JudgeMeets shape_limit numbers room (judge_says (Err j)) now → (r : ExplainRefusal) → SameRefusal j r
      → Refuses shape_limit numbers before (explain_refusal_number r) (explain_refusal_line r)
  refused before j meets r same =
      let (enough, so) = refused_as before size meets.0 in
      let (number, line) = same enough in
      rw (number, line) so

  -- "Endless": what is told.
  module _ (f : Figures) (meets : JudgeMeets shape_limit numbers room (judge_says (Ok (Endless f))) now) where
    abbrev right : JudgeRight shape_limit numbers room (verdict_of 2 f) now
    right = meets.1

    pub steps_few : f.trail + f.turns ≤ 4096
    steps_few = right.room

    pub sheet-held : SheetHeld numbers
    sheet-held = record { lines = right.lines; holds = right.sheet }

    pub steps_there : 5 * (f.trail + f.turns) ≤ length now
    steps_there =
        let count = right.count in
        omega
        (arith, ap length right.held, length-append (step_numbers right.steps) (drop (5 * length right.steps) room), length_numbers right.steps)

    rules_are : rules_in numbers ≡ rules_of right.lines
    rules_are = ap (λ o. rules_of (good_lines o)) right.sheet

    abbrev trail : List Step
    trail = take f.trail right.steps

    abbrev loop : List Step
    loop = drop f.trail right.steps

    is-endless : IsEndless (rules_of right.lines) (rows_of right.lines) (verdict_of 2 f) trail loop
    is-endless = go right.answer
      where
        go :
            SettlesAtOnce (rules_of right.lines) (rows_of right.lines) (verdict_of 2 f) trail loop
            ⊎ (SettlesLater (rules_of right.lines) (rows_of right.lines) (verdict_of 2 f) trail loop
            ⊎ IsEndless (rules_of right.lines) (rows_of right.lines) (verdict_of 2 f) trail loop)
            → IsEndless (rules_of right.lines) (rows_of right.lines) (verdict_of 2 f) trail loop
        go (inl once) = absurd (omega (arith, once.verdict))
        go (inr (inl later)) = absurd (omega (arith, later.verdict))
        go (inr (inr endless)) = endless

    all_named : All (Named (rules_of right.lines)) right.steps
    all_named =
        let n = answer_named (rules_of right.lines) (rows_of right.lines) (verdict_of 2 f) trail loop is-endless in
        subst (All (Named (rules_of right.lines))) (take-append-drop f.trail right.steps) (all_both (Named (rules_of right.lines)) trail loop n.0 n.1)

    pub steps_named : NamedTo (rules_in numbers) now (f.trail + f.turns)
    steps_named =
        let rules : List Rule = rules_of right.lines in
        let steps : List ℕ = step_numbers right.steps ++ drop (5 * length right.steps) room in
        subst (λ (rs : List Rule). NamedTo rs now (f.trail + f.turns)) (sym rules_are)
        (subst (λ (ns : List ℕ). NamedTo rules ns (f.trail + f.turns)) (sym right.held)
        (subst (NamedTo rules steps) right.count
        (named_to rules right.steps (drop (5 * length right.steps) room) all_named)))

    -- The text of the lent steps.
    abbrev pub text : List ℕ
    text = text_to (rules_in numbers) now f.trail (f.trail + f.turns)

    is_text : text ≡ text_of (told (rules_of right.lines) trail loop)
    is_text =
        ap (λ (rs : List Rule). text_to rs now f.trail (f.trail + f.turns)) rules_are
        ∙ ap (λ (ns : List ℕ). text_to (rules_of right.lines) ns f.trail (f.trail + f.turns)) right.held
        ∙ ap (text_to (rules_of right.lines) (step_numbers right.steps ++ drop (5 * length right.steps) room) f.trail) (sym right.count)
        ∙ text_is (rules_of right.lines) f.trail right.steps (drop (5 * length right.steps) room)

    explains : Explains shape_limit numbers text
    explains =
        record { lent = room; verdict = verdict_of 2 f; steps = now; meets = meets; endless = refl; text_is = is_text }

    front : (before : List ℕ) → put before 0 text ≡ text ++ drop (length text) before
    front before = ap (λ (k : ℕ). text ++ drop k before) (zero-add (length text))

    pub explained_so : (before after : List ℕ) (w : Result ℕ ExplainRefusal) → TextWritten text before w after → ExplainMeets shape_limit numbers before (explain_says w) after
    explained_so before after (Ok n) (count, fits, stands) =
        record { text = text; explains = explains; size = count; fits = fits; stands = stands ∙ front before }
    explained_so before after (Err r) (is, less, kept) =
        subst (λ (r : ExplainRefusal). Refuses shape_limit numbers before (explain_refusal_number r) (explain_refusal_line r) × (after ≡ before)) (sym is) (short text explains less, kept)
