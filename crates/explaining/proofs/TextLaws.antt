-- The laws of the text of lent steps: sentence by sentence it is the text of the trail and the loop. Assumes nothing.
use mathlib.Core.Path.{◌≡◌, refl, sym, ap, subst, ◌∙◌}
use mathlib.Core.Bool.{Bool, true, false}
use mathlib.Core.List.{List, [], ◌∷◌, ◌++◌, map, append_assoc, append-nil}
use Prim.Native.Nat.{ℕ, zero, suc, ◌+◌, ◌*◌, ◌≤◌, ◌<◌}
use mathlib.Core.Logic.{⊎_elim}
use native.Mathlib.Nat.{add-zero, zero-add, eq-or-lt_of_le}
use native.Mathlib.Numerals.{add-one}
use native.Mathlib.Omega.{arith}
use borrow.Author.Tests.{lt-ltb, le-ltb}
use lib.Dec.{ltb}
use lib.ListN.{length, get_or, take, drop, length-append}
use lib.Seq.{take-suc, take-length, length-take-le}
use Rattle.chase.specs.Rules.{Rule}
use Rattle.chase.specs.Steps.{Step, step_numbers}
use Rattle.chase.specs.Lists.{All}
use Rattle.sentences.specs.Sentence.{said, sentence, sentences, told as told_of, text_of}
use Rattle.explaining.specs.Inner.Puts.{Puts}
use Rattle.sentences.specs.Inner.Naming.{Names}
use Rattle.explaining.specs.Inner.Text.{KindsAre, NamedTo, step_at, sentence_of, text_to}
use Rattle.explaining.proofs.PutLaws.{puts_then, puts_length, next_fits}

-- Lent step i is step i.
abbrev no_step : Step
no_step = record { rule = 0; head = 0; from = 0; to = 0; fresh = 0 }

module _ (s : Step) (ns : List ℕ) (i : ℕ) where
  abbrev more : List ℕ
  more = s.rule ∷ s.head ∷ s.from ∷ s.to ∷ s.fresh ∷ ns

  later : (k : ℕ) → get_or more (5 * suc i + k) 0 ≡ get_or ns (5 * i + k) 0
  later k = let at : 5 * suc i + k ≡ suc (suc (suc (suc (suc (5 * i + k))))) = omega arith in ap (λ (j : ℕ). get_or more j 0) at

  first : get_or more (5 * suc i) 0 ≡ get_or ns (5 * i) 0
  first = let at : 5 * suc i ≡ suc (suc (suc (suc (suc (5 * i))))) = omega arith in ap (λ (j : ℕ). get_or more j 0) at

  step_later : step_at more (suc i) ≡ step_at ns i
  step_later = let a = first in let b = later 1 in let c = later 2 in let d = later 3 in let e = later 4 in cc

step_is : (ss : List Step) (rest : List ℕ) (i : ℕ) → i < length ss → step_at (step_numbers ss ++ rest) i ≡ get_or ss i no_step
step_is [] rest i h = absurd (omega arith)
step_is (s ∷ ss) rest zero h = refl
step_is (s ∷ ss) rest (suc i) h = step_later s (step_numbers ss ++ rest) i ∙ step_is ss rest i (omega arith)

module _ (rules : List Rule) (trail : ℕ) where
  -- One sentence for each step, of which the first is step i.
  abbrev told : ℕ → List Step → List ℕ
  told i [] = []
  told i (s ∷ ss) = sentence_of rules (ltb trail (i + 1)) s ++ told (suc i) ss

  told_more : (i : ℕ) (ss : List Step) (s : Step) → told i (ss ++ (s ∷ [])) ≡ told i ss ++ sentence_of rules (ltb trail (i + length ss + 1)) s
  told_more i [] s = rw add-zero (append-nil (sentence_of rules (ltb trail (i + 1)) s))
  told_more i (x ∷ ss) s =
      let e : i + suc (length ss) ≡ suc i + length ss = omega arith in
      rw (told_more (suc i) ss s, append_assoc, e)

  told_loop : (i : ℕ) (ss : List Step) → trail ≤ i → told i ss ≡ sentences true (map (said rules) ss)
  told_loop i [] h = refl
  told_loop i (s ∷ ss) h = rw (lt-ltb trail (i + 1) (omega arith), told_loop (suc i) ss (omega arith))

  told_both : (k i : ℕ) (ss : List Step) → trail ≡ i + k → told i ss ≡ sentences false (map (said rules) (take k ss)) ++ sentences true (map (said rules) (drop k ss))
  told_both zero i ss e = told_loop i ss (omega arith)
  told_both (suc k) i [] e = refl
  told_both (suc k) i (s ∷ ss) e = rw (le-ltb trail (i + 1) (omega arith), told_both k (suc i) ss (omega arith), append_assoc)

  to_told : (ss : List Step) (rest : List ℕ) (n : ℕ) → n ≤ length ss → text_to rules (step_numbers ss ++ rest) trail n ≡ told 0 (take n ss)
  to_told ss rest zero h = refl
  to_told ss rest (suc n) h =
      let here = step_is ss rest n (omega arith) in
      let size = length-take-le n ss (omega arith) in
      let before = to_told ss rest n (omega arith) in
      sym
      (ap (told 0) (take-suc ss n no_step (omega arith)) ∙ told_more 0 (take n ss) (get_or ss n no_step)
      ∙ rw (zero-add, size, ← before, ← here))

  -- The text of lent steps is that of the trail and the loop.
  pub text_is : (ss : List Step) (rest : List ℕ) → text_to rules (step_numbers ss ++ rest) trail (length ss) ≡ text_of (told_of rules (take trail ss) (drop trail ss))
  unfolding text_of
  text_is ss rest =
      to_told ss rest (length ss) (omega arith) ∙ ap (told 0) (take-length ss) ∙ told_both trail 0 ss (omega arith)

-- The sentence of a step whose numbers are looked up one by one.
pub sentence-looked-up :
    (rules : List Rule) (steps : List ℕ) (i : ℕ) (in_loop : Bool) (rule head body from made to fresh : ℕ)
    → rule ≡ get_or steps (5 * i) 0 → head ≡ get_or steps (5 * i + 1) 0
    → KindsAre rules (get_or steps (5 * i) 0) (get_or steps (5 * i + 1) 0) body made
    → from ≡ get_or steps (5 * i + 2) 0 → to ≡ get_or steps (5 * i + 3) 0 → fresh ≡ get_or steps (5 * i + 4) 0
    → sentence in_loop (record { step = record { rule = rule; head = head; from = from; to = to; fresh = fresh }; body = body; made = made })
    ≡ sentence_of rules in_loop (step_at steps i)
sentence-looked-up rules steps i in_loop rule head body from made to fresh a b kinds d f g = rw (kinds.0, kinds.1, a, b, d, f, g)

-- Steps that name their rules do so where they are lent.
pub named_to : (rules : List Rule) (ss : List Step) (rest : List ℕ) → All (λ (s : Step). Names rules s.rule s.head) ss
    → NamedTo rules (step_numbers ss ++ rest) (length ss)
named_to rules ss rest all i h = subst (λ (s : Step). Names rules s.rule s.head) (sym (step_is ss rest i h)) (in_all ss i all h)
  where
    in_all : (ss : List Step) (i : ℕ) → All (λ (s : Step). Names rules s.rule s.head) ss → i < length ss
        → Names rules (get_or ss i no_step).rule (get_or ss i no_step).head
    in_all [] i all h = absurd (omega arith)
    in_all (s ∷ ss) zero all h = all.0
    in_all (s ∷ ss) (suc i) all h = in_all ss i all.1 (omega arith)

module _ (rules : List Rule) (steps : List ℕ) (trail : ℕ) where
  to_grows : (i n : ℕ) → i ≤ n → length (text_to rules steps trail i) ≤ length (text_to rules steps trail n)
  to_grows i zero h = let e : i ≡ 0 = omega arith in rw e (omega arith)
  to_grows i (suc n) h =
      ⊎_elim (λ e. rw e (omega arith))
      (λ less. omega (arith, to_grows i n (omega arith), length-append (text_to rules steps trail n) (sentence_of rules (ltb trail (n + 1)) (step_at steps n))))
      (eq-or-lt_of_le h)

  to_fits : (i n room : ℕ) → i < n → length (text_to rules steps trail n) ≤ room
      → 0 + length (text_to rules steps trail i) + length (sentence_of rules (ltb trail (i + 1)) (step_at steps i)) ≤ room
  to_fits i n room h fits =
      omega (arith, to_grows (suc i) n h, length-append (text_to rules steps trail i) (sentence_of rules (ltb trail (i + 1)) (step_at steps i)))

  pub begun : (text : List ℕ) → Puts text 0 (text_to rules steps trail 0) 0 text
  begun text = record { text = refl; end = refl }

  module _ {text now : List ℕ} {at i n : ℕ} (said : List ℕ) (is : said ≡ sentence_of rules (ltb trail (i + 1)) (step_at steps i)) (h : i < n)
      (fits : length (text_to rules steps trail n) ≤ length text) (so_far : Puts text 0 (text_to rules steps trail i) at now) where
    pub next_sentence-fits : at + length said ≤ length now
    next_sentence-fits = rw is (next_fits (sentence_of rules (ltb trail (i + 1)) (step_at steps i)) (to_fits i n (length text) h fits) so_far)

    pub next_sentence : {next : ℕ} {after : List ℕ} → Puts now at said next after → Puts text 0 (text_to rules steps trail (i + 1)) next after
    next_sentence p = rw add-one (puts_then (to_fits i n (length text) h fits) so_far (rw is at p))

  pub so_long : {text now : List ℕ} {at i n : ℕ} → i ≤ n → length (text_to rules steps trail n) ≤ length text → Puts text 0 (text_to rules steps trail i) at now
      → length now ≡ length text
  so_long {text} {now} {at} {i} {n} h fits p = puts_length (omega (arith, to_grows i n h)) p

  pub size_next : (i size more : ℕ) (said : List ℕ) → said ≡ sentence_of rules (ltb trail (i + 1)) (step_at steps i) → size ≡ length (text_to rules steps trail i) → more ≡ length said
      → size + more ≡ length (text_to rules steps trail (i + 1))
  size_next i size more said is so_far e =
      let l = length-append (text_to rules steps trail i) (sentence_of rules (ltb trail (i + 1)) (step_at steps i)) in
      let s = ap length is in
      rw add-one (omega arith)
