-- The contract of Judge leaves one answer: a sheet is refused in one way or it is judged, and then its figures are determined. Assumes nothing.
use mathlib.Core.Path.{◌≡◌, refl, sym, ◌∙◌, ap, subst}
use mathlib.Core.Bool.{false≢true}
use mathlib.Core.Logic.{◌↔◌}
use mathlib.Core.List.{List}
use Prim.Native.Nat.{ℕ, ◌*◌, ◌≤◌}
use native.Mathlib.Omega.{arith}
use lib.ListN.{length, take, drop}
use Rattle.sheet.specs.Line.{Line}
use Rattle.patterns.specs.Outcome.{good, refused}
use Rattle.sheet.specs.Write.{sheet_held}
use Rattle.chase.specs.Rules.{Rule, rules_of}
use Rattle.chase.specs.Making.{Record}
use Rattle.chase.specs.Run.{rows_of}
use Rattle.chase.specs.Shape.{Reached, Fired}
use Rattle.chase.specs.Counting.{Count, share}
use Rattle.chase.specs.Judge.{Verdict, Bounded, Unbounded, Right, Refuses, short, wrong, many, step_limit}
use Rattle.chase.proofs.CountLaws.{count_one, more_than_count}
use Rattle.chase.proofs.TwinLaws.{SameShapes, reached_count, fired-count, says_by_shapes}
use Rattle.chase.proofs.CertificateLaws.{Met, not_both, Says, settles, endless, answer_says, says_one}

-- What an answer says decides whether the generations have a bound.
module _ (rules : List Rule) (rows : List Record) where
  says_settles : (c d : ℕ) → Says rules rows c d → (c ≡ 1) ↔ ((e : ℕ) × Bounded rules rows e)
  says_settles c d (settles e b m) = (λ p. (e, b), λ s. refl)
  says_settles c d (endless u) = (λ p. absurd (omega arith), λ s. absurd (not_both rules rows s.0 s.1 u))

  pub says_endless : (c d : ℕ) → Says rules rows c d → (c ≡ 2) ↔ Unbounded rules rows
  says_endless c d (settles e b m) = (λ p. absurd (omega arith), λ u. absurd (not_both rules rows e b u))
  says_endless c d (endless u) = (λ p. u, λ w. refl)

  pub says-deepest : (c d : ℕ) → Says rules rows c d → c ≡ 1 → Bounded rules rows d × Met rules rows d
  says-deepest c d (settles e b m) p = (b, m)
  says-deepest c d (endless u) p = absurd (omega arith)

module _ (limit : ℕ) (numbers before : List ℕ) where
  -- Lent lines hold one sheet, or are refused.
  lines_one : (ls ms : List Line) → sheet_held numbers ≡ good ls → sheet_held numbers ≡ good ms → ls ≡ ms
  lines_one ls ms p q = cc

  pub good_or_refused : (ls : List Line) (n k : ℕ) → sheet_held numbers ≡ good ls → sheet_held numbers ≡ refused n k → ⊥
  good_or_refused ls n k p q = false≢true cc

  -- What a right answer says of the sheet.
  module _ (v : Verdict) (now : List ℕ) (lines : List Line) (r : Right limit numbers before v now) (e : sheet_held numbers ≡ good lines) where
    same_lines : r.lines ≡ lines
    same_lines = lines_one r.lines lines r.sheet e

    right_says : Says (rules_of lines) (rows_of lines) v.verdict v.deepest
    right_says =
        subst (λ (ls : List Line). Says (rules_of ls) (rows_of ls) v.verdict v.deepest) same_lines
        (answer_says (rules_of r.lines) (rows_of r.lines) v (take v.trail r.steps) (drop v.trail r.steps) r.answer)

    pub right_shapes : Count (Reached (rules_of lines) (rows_of lines)) v.shapes
    right_shapes = subst (λ (ls : List Line). Count (Reached (rules_of ls) (rows_of ls)) v.shapes) same_lines r.shapes

    pub right_fired : Count (Fired (rules_of lines) (rows_of lines)) v.fired
    right_fired = subst (λ (ls : List Line). Count (Fired (rules_of ls) (rows_of ls)) v.fired) same_lines r.fired

    pub right_share : v.share ≡ share v.fired (length (rules_of lines))
    right_share = r.share_is ∙ ap (λ (ls : List Line). share v.fired (length (rules_of ls))) same_lines

    pub verdict_settles : (v.verdict ≡ 1) ↔ ((d : ℕ) × Bounded (rules_of lines) (rows_of lines) d)
    verdict_settles = says_settles (rules_of lines) (rows_of lines) v.verdict v.deepest right_says

    pub verdict_endless : (v.verdict ≡ 2) ↔ Unbounded (rules_of lines) (rows_of lines)
    verdict_endless = says_endless (rules_of lines) (rows_of lines) v.verdict v.deepest right_says

    pub verdict_deepest : v.verdict ≡ 1 → Bounded (rules_of lines) (rows_of lines) v.deepest × Met (rules_of lines) (rows_of lines) v.deepest
    verdict_deepest = says-deepest (rules_of lines) (rows_of lines) v.verdict v.deepest right_says

  -- The figures of a sheet that is judged.
  pub figures_one : (v w : Verdict) (now later : List ℕ) → Right limit numbers before v now → Right limit numbers before w later
      → (v.verdict ≡ w.verdict) × (v.deepest ≡ w.deepest) × (v.shapes ≡ w.shapes) × (v.fired ≡ w.fired) × (v.share ≡ w.share)
  figures_one v w now later r s =
      let ls = r.lines in
      let e : sheet_held numbers ≡ good ls = r.sheet in
      let a = says_one (rules_of ls) (rows_of ls) v.verdict v.deepest w.verdict w.deepest (right_says v now ls r e) (right_says w later ls s e) in
      let c = count_one (Reached (rules_of ls) (rows_of ls)) v.shapes w.shapes r.shapes (right_shapes w later ls s e) in
      let f = count_one (Fired (rules_of ls) (rows_of ls)) v.fired w.fired r.fired (right_fired w later ls s e) in
      (a.0, a.1, c, f, r.share_is ∙ ap (λ (n : ℕ). share n (length (rules_of ls))) f ∙ sym (right_share w later ls s e))

  -- What is judged is not refused.
  pub judged_not_refused : (v : Verdict) (now : List ℕ) (n k : ℕ) → 5 * step_limit ≤ length before → Right limit numbers before v now
      → Refuses limit numbers before n k → ⊥
  judged_not_refused v now n k l r (short h) = omega arith
  judged_not_refused v now n k l r (wrong line h e) = good_or_refused r.lines 8 line r.sheet e
  judged_not_refused v now n k l r (many lines h e m) =
      omega (arith, r.within, more_than_count (Reached (rules_of lines) (rows_of lines)) limit v.shapes m (right_shapes v now lines r e))

  -- A refusal has one number and one line.
  pub refusal_one : (n k m l : ℕ) → Refuses limit numbers before n k → Refuses limit numbers before m l → (n ≡ m) × (k ≡ l)
  refusal_one n k m l (short h) (short i) = (refl, refl)
  refusal_one n k m l (short h) (wrong line i e) = absurd (omega arith)
  refusal_one n k m l (short h) (many lines i e c) = absurd (omega arith)
  refusal_one n k m l (wrong line h e) (short i) = absurd (omega arith)
  refusal_one n k m l (wrong line h e) (wrong other i f) = (refl, cc)
  refusal_one n k m l (wrong line h e) (many lines i f c) = absurd (good_or_refused lines 8 line f e)
  refusal_one n k m l (many lines h e c) (short i) = absurd (omega arith)
  refusal_one n k m l (many lines h e c) (wrong line i f) = absurd (good_or_refused lines 8 line e f)
  refusal_one n k m l (many lines h e c) (many others i f d) = (refl, refl)

-- The figures of two sheets with the same rules and rows of the same shapes.
pub figures_same : (limit : ℕ) (numbers others before later : List ℕ) (ls ms : List Line) (v w : Verdict) (now then : List ℕ)
    → sheet_held numbers ≡ good ls → sheet_held others ≡ good ms → rules_of ls ≡ rules_of ms → SameShapes (rows_of ls) (rows_of ms)
    → Right limit numbers before v now → Right limit others later w then
    → (v.verdict ≡ w.verdict) × (v.deepest ≡ w.deepest) × (v.shapes ≡ w.shapes) × (v.fired ≡ w.fired) × (v.share ≡ w.share)
figures_same limit numbers others before later ls ms v w now then p q rules same r s =
    let rl = rules_of ls in
    let there : Says rl (rows_of ms) v.verdict v.deepest =
    says_by_shapes rl (rows_of ls) (rows_of ms) same v.verdict v.deepest (right_says limit numbers before v now ls r p) in
    let here : Says rl (rows_of ms) w.verdict w.deepest =
    subst (λ (k : List Rule). Says k (rows_of ms) w.verdict w.deepest) (sym rules) (right_says limit others later w then ms s q) in
    let a = says_one rl (rows_of ms) v.verdict v.deepest w.verdict w.deepest there here in
    let shapes = reached_count rl (rows_of ls) (rows_of ms) same v.shapes (right_shapes limit numbers before v now ls r p) in
    let fired = fired-count rl (rows_of ls) (rows_of ms) same v.fired (right_fired limit numbers before v now ls r p) in
    let c = count_one (Reached rl (rows_of ms)) v.shapes w.shapes shapes
    (subst (λ (k : List Rule). Count (Reached k (rows_of ms)) w.shapes) (sym rules) (right_shapes limit others later w then ms s q)) in
    let f = count_one (Fired rl (rows_of ms)) v.fired w.fired fired
    (subst (λ (k : List Rule). Count (Fired k (rows_of ms)) w.fired) (sym rules) (right_fired limit others later w then ms s q)) in (
      a.0,
      a.1,
      c,
      f,
      right_share limit numbers before v now ls r p ∙ ap (λ (n : ℕ). share n (length rl)) f ∙ ap (λ (k : List Rule). share w.fired (length k)) rules
          ∙ sym (right_share limit others later w then ms s q),
    )
