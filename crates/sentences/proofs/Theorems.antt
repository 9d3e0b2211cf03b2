-- What the sentences of steps say: a text leads back to the trail and the loop, so that two different answers never give the same text; and a text that is accepted is the text of what it is read as. Assumes nothing.
use mathlib.Core.Path.{◌≡◌, refl, sym, ap, ◌∙◌}
use mathlib.Core.Bool.{Bool, true, false, cond}
use mathlib.Core.Logic.{◌↔◌, ⊎_elim}
use mathlib.Core.List.{List, [], ◌∷◌, map}
use mathlib.Core.Option.{Option, none, some, none-ne-some, some-injective}
use Prim.Native.Nat.{ℕ, ◌≤◌}
use native.Mathlib.Omega.{arith}
use lib.ListN.{length}
use Rattle.columns.specs.Column.{same}
use Rattle.columns.proofs.ColumnLaws.{same_refl, same_true}
use Rattle.chase.specs.Lists.{All}
use Rattle.chase.specs.Rules.{Rule}
use Rattle.chase.specs.Making.{Record}
use Rattle.chase.specs.Steps.{Step, after, Each, Reaching, Moves, last_of}
use Rattle.chase.specs.Judge.{Verdict, Endless}
use Rattle.sentences.specs.Sentence.{Said, said, Told, told, text_of, Marked}
use Rattle.sentences.specs.Reader.{then, sentences_in, told_in, Steps, steps_of, steps_in}
use Rattle.sentences.proofs.ReaderLaws.{text_reads, read_marked}

-- THE READER

-- A text is read as what it tells.
pub leads-back : (t : Told) → Marked t → told_in (text_of t) ≡ some t
unfolding told_in
leads-back t m = rw (text_reads t m, same_refl (text_of t))

-- A text that is accepted is the text of what it is read as.
accepted_by : (text : List ℕ) (read : Option Told) (t : Told) → then read (λ u. cond (same (text_of u) text) (some u) none) ≡ some t
    → (read ≡ some t) × (text ≡ text_of t)
accepted_by text none t e = absurd (none-ne-some t e)
accepted_by text (some u) t e = go (same (text_of u) text) refl e
  where
    go : (b : Bool) → same (text_of u) text ≡ b → cond b (some u) none ≡ some t → (some u ≡ some t) × (text ≡ text_of t)
    go true s e = (e, sym (same_true (text_of u) text s) ∙ ap text_of (some-injective u t e))
    go false s e = absurd (none-ne-some t e)

pub accepted : (text : List ℕ) (t : Told) → told_in text ≡ some t → Marked t × (text ≡ text_of t)
unfolding told_in
accepted text t e =
    let a = accepted_by text (sentences_in (length text) text) t e in
    (read_marked (length text) text t a.0, a.1)

-- So the texts that are accepted are exactly those of a trail and a loop whose fresh numbers are 1 or 0, and each is read as these.
pub exactly_the_texts : (text : List ℕ) (t : Told) → (told_in text ≡ some t) ↔ (Marked t × (text ≡ text_of t))
exactly_the_texts text t = (accepted text t, λ m. ap told_in m.1 ∙ leads-back t m.0)

-- Two different trails and loops, with their kinds, never give the same text.
pub one_text : (t u : Told) → Marked t → Marked u → text_of t ≡ text_of u → t ≡ u
one_text t u mt mu e =
    some-injective t u (sym (leads-back t mt) ∙ ap told_in e ∙ leads-back u mu)

-- STEPS

steps_again : (rules : List Rule) (ss : List Step) → map (λ (s : Said). s.step) (map (said rules) ss) ≡ ss
steps_again rules [] = refl
steps_again rules (s ∷ ss) = rw (steps_again rules ss)

pub steps_told : (rules : List Rule) (trail loop : List Step) → steps_of (told rules trail loop) ≡ record { trail = trail; loop = loop }
steps_told rules trail loop = rw (steps_again rules trail, steps_again rules loop)

-- The text of a trail and a loop leads back to these steps, whatever the rules are.
pub steps_lead_back : (rules : List Rule) (trail loop : List Step) → Marked (told rules trail loop)
    → steps_in (text_of (told rules trail loop)) ≡ some (record { trail = trail; loop = loop })
unfolding steps_in
steps_lead_back rules trail loop m = rw (leads-back (told rules trail loop) m) (ap some (steps_told rules trail loop))

-- JUDGE'S ANSWERS

module _ (rules : List Rule) where
  abbrev Fits : Said → Type 0
  Fits s = s.step.fresh ≤ 1

  reaching_marked : (x : Record) (ss : List Step) → Each rules (Reaching rules) x ss → All Fits (map (said rules) ss)
  reaching_marked x [] all = tt
  reaching_marked x (s ∷ ss) all = (omega (arith, all.0.fresh), reaching_marked (after rules s x) ss all.1)

  moves_marked : (x : Record) (ss : List Step) → Each rules (Moves rules) x ss → All Fits (map (said rules) ss)
  moves_marked x [] all = tt
  moves_marked x (s ∷ ss) all =
      (⊎_elim (λ carried. omega (arith, carried.fresh)) (λ fresh. omega (arith, fresh.fresh)) all.0, moves_marked (after rules s x) ss all.1)

module _ (rules : List Rule) (rows : List Record) (v : Verdict) (trail loop : List Step) (endless : Endless rules rows v trail loop) where
  pub answer_marked : Marked (told rules trail loop)
  answer_marked =
      (reaching_marked rules endless.first trail endless.way.reaching, moves_marked rules (last_of rules endless.first trail) loop endless.turns.moves)

  -- What Judge answers of an endless sheet is read back from its text, with where the trail ends.
  pub answer_leads_back : steps_in (text_of (told rules trail loop)) ≡ some (record { trail = trail; loop = loop })
  answer_leads_back = steps_lead_back rules trail loop answer_marked

-- Two different answers of Judge never give the same text, be they of one endless sheet or of two.
pub different-answers :
    (rules rules' : List Rule) (rows rows' : List Record) (v v' : Verdict) (trail loop trail' loop' : List Step) → Endless rules rows v trail loop → Endless rules' rows' v' trail' loop'
    → text_of (told rules trail loop) ≡ text_of (told rules' trail' loop') → (trail ≡ trail') × (loop ≡ loop')
different-answers rules rules' rows rows' v v' trail loop trail' loop' first second e =
    let one = answer_leads_back rules rows v trail loop first in
    let two = answer_leads_back rules' rows' v' trail' loop' second in
    let both : ◌≡◌ {A = Steps} (record { trail = trail; loop = loop }) (record { trail = trail'; loop = loop' }) = cc (ap steps_in e) in
    (ap (λ (t : Steps). t.trail) both, ap (λ (t : Steps). t.loop) both)
