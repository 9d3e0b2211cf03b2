-- What lent lines are decides which answers the contract of explaining leaves: one where the sheet is not endless. Assumes nothing.
use mathlib.Core.Path.{◌≡◌, refl, sym, ◌∙◌, ap, subst}
use mathlib.Core.Logic.{◌⊎◌, inl, inr}
use mathlib.Core.List.{List}
use Prim.Native.Nat.{ℕ}
use native.Mathlib.Omega.{arith}
use lib.ListN.{take, drop}
use Rattle.patterns.specs.Outcome.{good, refused}
use Rattle.sheet.specs.Line.{Line}
use Rattle.sheet.specs.Write.{sheet_held}
use Rattle.sheet.proofs.Sheets.{refused≢good}
use Rattle.chase.specs.Rules.{rules_of}
use Rattle.chase.specs.Run.{rows_of}
use Rattle.chase.specs.Shape.{Reached}
use Rattle.chase.specs.Counting.{MoreThan}
use Rattle.chase.specs.Judge.{Bounded, Unbounded, Endless}
use Rattle.chase.proofs.CountLaws.{more_than_count}
use Rattle.chase.proofs.CertificateLaws.{not_both}
use Rattle.chase.proofs.JudgeLaws.{right_shapes}
use Rattle.carrying.proofs.ContractLaws.{one_sheet}
use Rattle.growth.specs.Contract.{Taken}
use Rattle.sentences.specs.Explain.{Explained, explained, refuses, Explains, Refuses, wrong, many, settles, short, ExplainMeets}

-- What lent lines are: no sheet, with the first wrong line; a sheet with too many shapes; one that settles; an endless one.
pub data Fate : Type 0 where
  is_wrong : ℕ → Fate
  is_many : Fate
  is_settled : Fate
  is_endless : Fate

-- The answers that may be given to such lines.
abbrev pub Gives : Fate → Explained → Type 0
Gives (is_wrong line) a = a ≡ refuses 8 line
Gives is_many a = a ≡ refuses 11 0
Gives is_settled a = a ≡ refuses 24 0
Gives is_endless a = ((n : ℕ) × (a ≡ explained n)) ⊎ (a ≡ refuses 25 0)

module _ (limit : ℕ) (numbers : List ℕ) where
  pub data Are : Fate → Type 0 where
    are_wrong : (line : ℕ) → sheet_held numbers ≡ refused 8 line → Are (is_wrong line)
    are_many : (lines : List Line) → sheet_held numbers ≡ good lines → MoreThan (Reached (rules_of lines) (rows_of lines)) limit → Are is_many
    are_settled : (lines : List Line) → Taken limit numbers lines → (deepest : ℕ) → Bounded (rules_of lines) (rows_of lines) deepest → Are is_settled
    are_endless : (lines : List Line) → Taken limit numbers lines → Unbounded (rules_of lines) (rows_of lines) → Are is_endless

  -- What rules out what.
  good_wrong : (ls : List Line) (line : ℕ) → sheet_held numbers ≡ good ls → sheet_held numbers ≡ refused 8 line → ⊥
  good_wrong ls line p q = refused≢good (sym q ∙ p)

  no_many : (ls ms : List Line) → Taken limit numbers ls → sheet_held numbers ≡ good ms → MoreThan (Reached (rules_of ms) (rows_of ms)) limit → ⊥
  no_many ls ms t q m =
      let more = subst (λ (l : List Line). MoreThan (Reached (rules_of l) (rows_of l)) limit) (one_sheet numbers ms ls q t.sheet) m in
      omega (arith, t.within, more_than_count (Reached (rules_of ls) (rows_of ls)) limit t.shapes more t.counted)

  no_both : (ls ms : List Line) → Taken limit numbers ls → Taken limit numbers ms → (d : ℕ) → Bounded (rules_of ls) (rows_of ls) d
      → Unbounded (rules_of ms) (rows_of ms) → ⊥
  no_both ls ms t u d bounded forever =
      not_both (rules_of ls) (rows_of ls) d bounded
      (subst (λ (l : List Line). Unbounded (rules_of l) (rows_of l)) (one_sheet numbers ms ls u.sheet t.sheet) forever)

  -- Lent lines are one of the four.
  pub one_fate : (f g : Fate) → Are f → Are g → f ≡ g
  one_fate f g (are_wrong k e) (are_wrong l h) = let p : k ≡ l = cc in ap is_wrong p
  one_fate f g (are_wrong k e) (are_many ls h m) = absurd (good_wrong ls k h e)
  one_fate f g (are_wrong k e) (are_settled ls t d b) = absurd (good_wrong ls k t.sheet e)
  one_fate f g (are_wrong k e) (are_endless ls t u) = absurd (good_wrong ls k t.sheet e)
  one_fate f g (are_many ls h m) (are_wrong k e) = absurd (good_wrong ls k h e)
  one_fate f g (are_many ls h m) (are_many ms i n) = refl
  one_fate f g (are_many ls h m) (are_settled ms t d b) = absurd (no_many ms ls t h m)
  one_fate f g (are_many ls h m) (are_endless ms t u) = absurd (no_many ms ls t h m)
  one_fate f g (are_settled ls t d b) (are_wrong k e) = absurd (good_wrong ls k t.sheet e)
  one_fate f g (are_settled ls t d b) (are_many ms h m) = absurd (no_many ls ms t h m)
  one_fate f g (are_settled ls t d b) (are_settled ms u c a) = refl
  one_fate f g (are_settled ls t d b) (are_endless ms u w) = absurd (no_both ls ms t u d b w)
  one_fate f g (are_endless ls t u) (are_wrong k e) = absurd (good_wrong ls k t.sheet e)
  one_fate f g (are_endless ls t u) (are_many ms h m) = absurd (no_many ls ms t h m)
  one_fate f g (are_endless ls t u) (are_settled ms s d b) = absurd (no_both ms ls s t d b u)
  one_fate f g (are_endless ls t u) (are_endless ms s w) = refl

  -- A text that explains lines is that of an endless answer of Judge's.
  pub explains_answer : (text : List ℕ) (e : Explains limit numbers text)
      → Endless (rules_of e.meets.1.lines) (rows_of e.meets.1.lines) e.verdict (take e.verdict.trail e.meets.1.steps)
      (drop e.verdict.trail e.meets.1.steps)
  explains_answer text e =
      elim e.meets.1.answer [
        | inl s ↦ absurd (omega (arith, e.endless, s.verdict))
        | inr t ↦ elim t [ inl s ↦ absurd (omega (arith, e.endless, s.verdict)) | inr s ↦ s ]
      ]

  -- So the lines are an endless sheet.
  pub explained_endless : (text : List ℕ) → Explains limit numbers text → (lines : List Line) → sheet_held numbers ≡ good lines
      → Taken limit numbers lines × Unbounded (rules_of lines) (rows_of lines)
  explained_endless text e lines held = (
    record {
      sheet = held;
      shapes = e.verdict.shapes;
      counted = right_shapes limit numbers e.lent e.verdict e.steps lines e.meets.1 held;
      within = e.meets.1.within;
    },
    subst (λ (ls : List Line). Unbounded (rules_of ls) (rows_of ls)) (one_sheet numbers e.meets.1.lines lines e.meets.1.sheet held)
        (explains_answer text e).unbounded,
  )

  explains_fate : (text : List ℕ) → Explains limit numbers text → Are is_endless
  explains_fate text e =
      let (t, u) = explained_endless text e e.meets.1.lines e.meets.1.sheet in
      are_endless e.meets.1.lines t u

  module _ (before after : List ℕ) where
    refusal_fate : (n k : ℕ) → Refuses limit numbers before n k → (f : Fate) × Are f × Gives f (refuses n k)
    refusal_fate n k (wrong line e) = (is_wrong line, are_wrong line e, refl)
    refusal_fate n k (many ls e m) = (is_many, are_many ls e m, refl)
    refusal_fate n k (settles ls t d b) = (is_settled, are_settled ls t d b, refl)
    refusal_fate n k (short text e h) = (is_endless, explains_fate text e, inr refl)

    answer_fate : (a : Explained) → ExplainMeets limit numbers before a after → (f : Fate) × Are f × Gives f a
    answer_fate (explained n) r = (is_endless, explains_fate r.text r.explains, inl (n, refl))
    answer_fate (refuses n k) r = refusal_fate n k r.0

    -- What lent lines are leaves the answer, but for the bytes of an endless sheet's sentences and whether they fit.
    pub answer_by_fate : (f : Fate) → Are f → (a : Explained) → ExplainMeets limit numbers before a after → Gives f a
    answer_by_fate f is a m =
        let (g, other, gives) = answer_fate a m in
        subst (λ (h : Fate). Gives h a) (one_fate g f other is) gives
