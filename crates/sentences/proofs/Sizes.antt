-- How long a text can be: at most 4,096 sentences of at most 73 bytes, so that 299,008 bytes are always enough. Assumes nothing.
use mathlib.Core.Path.{◌≡◌, refl, ap}
use mathlib.Core.Bool.{Bool, true, false, cond, ◌&&◌}
use mathlib.Core.Logic.{inl, inr}
use mathlib.Core.List.{List, [], ◌∷◌, map}
use mathlib.Core.Option.{some}
use Prim.Native.Nat.{ℕ, zero, suc, ◌+◌, ◌*◌, ◌≤◌}
use native.Mathlib.Omega.{arith}
use lib.Dec.{eqb}
use lib.ListN.{length, take, drop, length-append, take-append-drop}
use Rattle.sheet.proofs.Sheets.{sheet_held_is}
use Rattle.chase.specs.Lists.{All}
use Rattle.chase.specs.Rules.{Rule, rules_of, nth}
use Rattle.chase.specs.Value.{Value}
use Rattle.chase.specs.Making.{Record}
use Rattle.chase.specs.Run.{rows_of}
use Rattle.chase.specs.Steps.{Step, Goes, Reaching, Moves, last_of}
use Rattle.chase.specs.Judge.{Verdict, Endless}
use Rattle.chase.proofs.ListLaws.{all_in}
use Rattle.chase.proofs.CountLaws.{element_below}
use Rattle.chase.proofs.MakingLaws.{agree_length}
use Rattle.chase.proofs.StepLaws.{nth_in, head_in}
use Rattle.rules.specs.Table.{HeadFits, RuleFits}
use Rattle.rules.proofs.SheetLaws.{rules_fit, rules_few}
use Rattle.sentences.specs.Decimal.{bytes, decimal}
use Rattle.sentences.specs.Sentence.{manner, place, Said, sentence, sentences, said, told, text_of, body_kind}
use Rattle.sentences.specs.Explain.{Explains, Refuses, wrong, many, settles, short}
use Rattle.sentences.proofs.DecimalLaws.{length-decimal_most}
use Rattle.sentences.proofs.Naming.{each_all}
use Rattle.sentences.proofs.OneAnswer.{explains_answer}

-- A SENTENCE

manner_most : (from to fresh : ℕ) → length (manner from to fresh) ≤ 10
manner_most from to fresh = go (eqb fresh 0) (eqb from 0 && eqb to 0)
  where
    go : (old reaching : Bool) → length (cond old (cond reaching (bytes ", reaching") (bytes ", carried")) (bytes ", fresh")) ≤ 10
    go true true = omega arith
    go true false = omega arith
    go false reaching = omega arith

place_most : (in_loop : Bool) → length (place in_loop) ≤ 9
place_most true = omega arith
place_most false = omega arith

-- A sentence with at most these digits has at most 73 bytes: 44 of words, 10 digits, 10 of ", reaching" and 9 of ", trail." and the line's end.
pub sentence_most : (in_loop : Bool) (s : Said) → length (decimal s.step.rule) ≤ 3 → length (decimal s.step.head) ≤ 1 → length (decimal s.body) ≤ 2
    → length (decimal s.step.from) ≤ 1 → length (decimal s.made) ≤ 2 → length (decimal s.step.to) ≤ 1 → length (sentence in_loop s) ≤ 73
unfolding sentence
sentence_most in_loop s rule head body from made to =
    simp length-append (omega (arith, manner_most s.step.from s.step.to s.step.fresh, place_most in_loop))

-- The numbers of a sentence about a sheet: 256 rules, 4 H lines, 64 kinds, 6 fields.
pub record Small (s : Said) : Type 0 where
  pub rule : s.step.rule ≤ 256
  pub head : s.step.head ≤ 4
  pub body : s.body ≤ 64
  pub from : s.step.from ≤ 6
  pub made : s.made ≤ 64
  pub to : s.step.to ≤ 6

-- Such a sentence has at most 73 bytes.
pub small_sentence : (in_loop : Bool) (s : Said) → Small s → length (sentence in_loop s) ≤ 73
small_sentence in_loop s small =
    sentence_most in_loop s (length-decimal_most 2 s.step.rule (omega arith)) (length-decimal_most 0 s.step.head (omega arith))
    (length-decimal_most 1 s.body (omega arith)) (length-decimal_most 0 s.step.from (omega arith)) (length-decimal_most 1 s.made (omega arith))
    (length-decimal_most 0 s.step.to (omega arith))

-- THE STEPS OF AN ANSWER

nth_most : {A : Type 0} (l : List A) (i : ℕ) (x : A) → nth l i ≡ some x → i ≤ length l
nth_most l zero x e = omega arith
nth_most l (suc i) x e = omega (arith, element_below l i x e)

module _ (rules : List Rule) (few : length rules ≤ 256) (fit : All RuleFits rules) where
  abbrev SaysSmall : Step → Type 0
  SaysSmall s = Small (said rules s)

  module _ (s : Step) (x : Record) (g : Goes rules s x) where
    rule_fits : RuleFits g.rule
    rule_fits = all_in RuleFits g.rule rules fit (nth_in rules s.rule g.rule g.named)

    head_fits : HeadFits g.head
    head_fits = all_in HeadFits g.head g.rule.heads rule_fits.heads (head_in rules s x g)

    body_is : (said rules s).body ≡ g.rule.kind
    body_is = ap body_kind g.named

    made_is : (said rules s).made ≡ g.head.kind
    made_is = rw (g.named, g.line)

    goes_small : s.from ≤ 6 → s.to ≤ 6 → SaysSmall s
    goes_small from to =
        record {
          rule = omega (arith, nth_most rules s.rule g.rule g.named);
          head = omega (arith, nth_most g.rule.heads s.head g.head g.line, rule_fits.few);
          body = omega (arith, body_is, rule_fits.kind.1);
          from = from;
          made = omega (arith, made_is, head_fits.kind.1);
          to = to;
        }

    to_most : (mark : ℕ) → nth g.head.marks s.to ≡ some mark → s.to ≤ 6
    to_most mark e = omega (arith, nth_most g.head.marks s.to mark e, head_fits.marks.few)

    from_most : (value : Value) → nth x.fields s.from ≡ some value → s.from ≤ 6
    from_most value e =
        omega (arith, nth_most x.fields s.from value e, agree_length g.rule.marks x.fields g.fires.1, rule_fits.marks.few)

  reaching_small : (s : Step) (x : Record) → Reaching rules s x → SaysSmall s
  reaching_small s x r = goes_small s x r.goes (omega (arith, r.from)) (omega (arith, r.to))

  moves_small : (s : Step) (x : Record) → Moves rules s x → SaysSmall s
  moves_small s x (inl c) = goes_small s x c.goes (from_most s x c.goes c.value c.from) (to_most s x c.goes c.mark c.to)
  moves_small s x (inr f) = goes_small s x f.goes (from_most s x f.goes f.value f.from) (to_most s x f.goes f.mark f.to)

  -- The numbers of the sentences of an answer of Judge's.
  pub answer_small : (rows : List Record) (v : Verdict) (trail loop : List Step) → Endless rules rows v trail loop
      → All (λ s. Small (said rules s)) trail × All (λ s. Small (said rules s)) loop
  answer_small rows v trail loop e = (
    each_all rules (Reaching rules) SaysSmall reaching_small e.first trail e.way.reaching,
    each_all rules (Moves rules) SaysSmall moves_small (last_of rules e.first trail) loop e.turns.moves,
  )

-- THE TEXT

module _ (rules : List Rule) where
  -- At most 73 bytes for each step.
  pub steps_most : (in_loop : Bool) (ss : List Step) → All (λ s. Small (said rules s)) ss → length (sentences in_loop (map (said rules) ss)) ≤ 73 * length ss
  steps_most in_loop [] all = omega arith
  steps_most in_loop (s ∷ ss) all =
      omega (
        arith,
        length-append (sentence in_loop (said rules s)) (sentences in_loop (map (said rules) ss)),
        small_sentence in_loop (said rules s) all.0,
        steps_most in_loop ss all.1,
      )

  pub text_most : (trail loop : List Step) → All (λ s. Small (said rules s)) trail → All (λ s. Small (said rules s)) loop
      → length (text_of (told rules trail loop)) ≤ 73 * (length trail + length loop)
  unfolding text_of
  text_most trail loop small-trail small-loop =
      omega (
        arith,
        length-append (sentences false (map (said rules) trail)) (sentences true (map (said rules) loop)),
        steps_most false trail small-trail,
        steps_most true loop small-loop,
      )

module _ (limit : ℕ) (numbers : List ℕ) where
  -- A text that explains lines has at most 299,008 bytes.
  pub explained_most : (text : List ℕ) → Explains limit numbers text → length text ≤ 299008
  explained_most text e =
      let j = e.meets.1 in
      let rules = rules_of j.lines in
      let trail = take e.verdict.trail j.steps in
      let loop = drop e.verdict.trail j.steps in
      let sheet = (sheet_held_is numbers j.lines j.sheet).1 in
      let small = answer_small rules (rules_few j.lines sheet) (rules_fit j.lines sheet) (rows_of j.lines) e.verdict trail loop (explains_answer limit numbers text e) in
      omega (
        arith,
        ap length e.text_is,
        text_most rules trail loop small.0 small.1,
        length-append trail loop,
        ap length (take-append-drop e.verdict.trail j.steps),
        j.count,
        j.room,
      )

  never_short : (before : List ℕ) {number line : ℕ} → 299008 ≤ length before → Refuses limit numbers before number line → number ≡ 25 → ⊥
  never_short before enough (wrong line e) is = omega arith
  never_short before enough (many lines e m) is = omega arith
  never_short before enough (settles lines t d b) is = omega arith
  never_short before enough (short text e less) is = omega (arith, explained_most text e)

  -- So with that many bytes lent 25 is never answered.
  pub enough_lent : (before : List ℕ) → 299008 ≤ length before → (line : ℕ) → Refuses limit numbers before 25 line → ⊥
  enough_lent before enough line r = never_short before enough r refl
