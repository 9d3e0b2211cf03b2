-- The sentence of a step, and the text of a trail and a loop. Assumes nothing.
use Rattle.std.specs.Prelude.{Bool, true, false, cond, ◌&&◌, List, [], ◌∷◌, ◌++◌, map, ℕ, ◌≤◌, eqb}
use Rattle.std.proofs.Math.Option.{Option, none, some}
use Prim.Native.String.{String}
use Rattle.chase.specs.Lists.{All}
use Rattle.chase.specs.Rules.{Head, Rule, nth}
use Rattle.chase.specs.Steps.{Step}
use Rattle.sentences.specs.Decimal.{bytes, decimal}

-- Words, and a number after them.
abbrev pub part : String → ℕ → List ℕ
part words n = bytes words ++ decimal n

-- Fresh, carried or reaching, by the from field, the to field and the fresh number: a step used only to reach a record has 0 in all three.
abbrev pub manner : ℕ → ℕ → ℕ → List ℕ
manner from to fresh = cond (eqb fresh 0) (cond (eqb from 0 && eqb to 0) (bytes ", reaching") (bytes ", carried")) (bytes ", fresh")

-- Where a step stands: in the loop, or on the trail. The sentence ends here.
abbrev pub place : Bool → List ℕ
place in_loop = cond in_loop (bytes ", loop.\n") (bytes ", trail.\n")

-- What a sentence says beside its place: a step, the kind of its rule's B line and that of its H line.
pub record Said : Type 0 where
  pub step : Step
  pub body : ℕ
  pub made : ℕ

-- A sentence.
unfoldable pub sentence : Bool → Said → List ℕ
sentence in_loop s =
    part "Rule " s.step.rule
    ++ part ", H line " s.step.head
    ++ part ": kind " s.body
    ++ part " field " s.step.from
    ++ part " to kind " s.made
    ++ part " field " s.step.to
    ++ manner s.step.from s.step.to s.step.fresh
    ++ place in_loop

-- One sentence after the other.
abbrev pub sentences : Bool → List Said → List ℕ
sentences in_loop [] = []
sentences in_loop (s ∷ ss) = sentence in_loop s ++ sentences in_loop ss

-- What a text says: the trail's steps, then the loop's.
pub record Told : Type 0 where
  pub trail : List Said
  pub loop : List Said

unfoldable pub text_of : Told → List ℕ
text_of t = sentences false t.trail ++ sentences true t.loop

-- The kind of a rule's B line, and of one of its H lines; 0 where there is none. The steps of an answer of Judge name a rule and an H line of it.
abbrev pub body_kind : Option Rule → ℕ
body_kind none = 0
body_kind (some r) = r.kind

abbrev pub head_kind : Option Head → ℕ
head_kind none = 0
head_kind (some h) = h.kind

abbrev pub made_kind : Option Rule → ℕ → ℕ
made_kind none h = 0
made_kind (some r) h = head_kind (nth r.heads h)

module _ (rules : List Rule) where
  -- A step of a sheet with these rules, and its kinds.
  abbrev pub said : Step → Said
  said s = record { step = s; body = body_kind (nth rules s.rule); made = made_kind (nth rules s.rule) s.head }

  -- A trail and a loop of a sheet with these rules.
  abbrev pub told : List Step → List Step → Told
  told trail loop = record { trail = map said trail; loop = map said loop }

-- The fresh number of a step is 1 or 0, as in every answer of Judge: a sentence tells no others.
abbrev pub Marked : Told → Type 0
Marked t = All (λ s. s.step.fresh ≤ 1) t.trail × All (λ s. s.step.fresh ≤ 1) t.loop
