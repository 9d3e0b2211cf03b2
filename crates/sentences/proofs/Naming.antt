-- What the steps of an answer of Judge name: a rule of the sheet, and an H line of that rule. Assumes nothing.
use mathlib.Core.List.{List, [], ◌∷◌}
use Rattle.chase.specs.Lists.{All}
use Rattle.chase.specs.Rules.{Rule}
use Rattle.chase.specs.Making.{Record}
use Rattle.chase.specs.Steps.{Step, after, Each, Goes, Reaching, Moves, last_of}
use Rattle.chase.specs.Judge.{Verdict, Endless}
use Rattle.chase.proofs.StepLaws.{moves_goes}
use Rattle.sentences.specs.Inner.Naming.{Names}

-- A step that names a rule and an H line of it.
abbrev pub Named : List Rule → Step → Type 0
Named rules s = Names rules s.rule s.head

module _ (rules : List Rule) where
  -- What each step and the record that it is fired on have, and what follows of the step.
  pub each_all : (P : Step → Record → Type 0) (Q : Step → Type 0) → ((s : Step) (x : Record) → P s x → Q s)
      → (x : Record) (ss : List Step) → Each rules P x ss → All Q ss
  each_all P Q f x [] all = tt
  each_all P Q f x (s ∷ ss) all = (f s x all.0, each_all P Q f (after rules s x) ss all.1)

  goes_named : (s : Step) (x : Record) → Goes rules s x → Named rules s
  goes_named s x g = record { rule = g.rule; named = g.named; head = g.head; line = g.line }

  -- Each step of an answer of an endless sheet names a rule and an H line of it.
  pub answer_named : (rows : List Record) (v : Verdict) (trail loop : List Step) → Endless rules rows v trail loop
      → All (Named rules) trail × All (Named rules) loop
  answer_named rows v trail loop e = (
    each_all (Reaching rules) (Named rules) (λ s x r. goes_named s x r.goes) e.first trail e.way.reaching,
    each_all (Moves rules) (Named rules) (λ s x m. goes_named s x (moves_goes rules s x m)) (last_of rules e.first trail) loop e.turns.moves,
  )
