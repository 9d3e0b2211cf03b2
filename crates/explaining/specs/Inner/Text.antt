-- The sentences of lent steps, as the code meets them: lent lines, lent steps, and how many of the steps are the trail's. Assumes nothing.
use Rattle.std.specs.Prelude.{◌≡◌, Bool, List, [], ◌++◌, ℕ, zero, suc, ◌+◌, ◌-◌, ◌*◌, ◌≤◌, ◌<◌, ltb, length, get_or, Result, Ok, Err}
use Rattle.columns.specs.Column.{put}
use Rattle.chase.specs.Rules.{Rule, nth}
use Rattle.chase.specs.Steps.{Step}
use Rattle.rules.specs.Table.{rules_in}
use Rattle.sentences.specs.Sentence.{sentence, said, body_kind, made_kind}
use Rattle.sentences.specs.Inner.Naming.{Names}
use Rattle.explaining.specs.declared.sentence.Sentence.{Sentence}
use Rattle.explaining.specs.declared.text.Told.{Told}
use Rattle.explaining.specs.declared.ExplainRefusal.{ExplainRefusal}
use Rattle.explaining.specs.declared.ExplainRefusal.TheVariants.{TextShort}

-- The sentence of these numbers.
abbrev pub sentence_for : Sentence → List ℕ
sentence_for s =
    sentence s.in_loop (record {
      step = record { rule = s.rule; head = s.head; from = s.from; to = s.to; fresh = s.fresh };
      body = s.body;
      made = s.made;
    })

-- The kinds of a rule's B line and of one of its H lines.
abbrev pub KindsAre : List Rule → ℕ → ℕ → ℕ → ℕ → Type 0
KindsAre rules rule head body made = (body ≡ body_kind (nth rules rule)) × (made ≡ made_kind (nth rules rule) head)

-- Rule by rule the line that it begins with: this one has its kind, and the lines after it those of its H lines.
pub record Starts (numbers starts : List ℕ) : Type 0 where
  pub size : length starts ≡ 256
  pub few : length (rules_in numbers) ≤ 256
  pub inside : (rule head : ℕ) → Names (rules_in numbers) rule head → 8 * (get_or starts (rule - 1) 0 + head) + 8 ≤ length numbers
  pub kinds : (rule head : ℕ) → Names (rules_in numbers) rule head
      → KindsAre (rules_in numbers) rule head (get_or numbers (8 * get_or starts (rule - 1) 0 + 1) 0) (get_or numbers (8 * (get_or starts (rule - 1) 0 + head) + 1) 0)

-- Lent step i, counted from 0: five numbers.
abbrev pub step_at : List ℕ → ℕ → Step
step_at numbers i =
    record {
      rule = get_or numbers (5 * i) 0;
      head = get_or numbers (5 * i + 1) 0;
      from = get_or numbers (5 * i + 2) 0;
      to = get_or numbers (5 * i + 3) 0;
      fresh = get_or numbers (5 * i + 4) 0;
    }

-- The first n lent steps name rules of the sheet and H lines of these.
abbrev pub NamedTo : List Rule → List ℕ → ℕ → Type 0
NamedTo rules numbers n = (i : ℕ) → i < n → Names rules (step_at numbers i).rule (step_at numbers i).head

-- The sentence of a step of the sheet.
abbrev pub sentence_of : List Rule → Bool → Step → List ℕ
sentence_of rules in_loop s = sentence in_loop (said rules s)

-- The sentences of the first n lent steps; the first `trail` of them are the trail's.
abbrev pub text_to : List Rule → List ℕ → ℕ → ℕ → List ℕ
text_to rules numbers trail zero = []
text_to rules numbers trail (suc n) = text_to rules numbers trail n ++ sentence_of rules (ltb trail (n + 1)) (step_at numbers n)

-- What is told can be: the rules of the lines begin there, and the steps name them.
pub record Tells (t : Told) : Type 0 where
  pub found : Starts t.lines.now t.starts
  pub there : 5 * t.count ≤ length t.steps.now
  pub few : t.count ≤ 4096
  pub named : NamedTo (rules_in t.lines.now) t.steps.now t.count

-- Its sentences.
abbrev pub text_told : Told → List ℕ
text_told t = text_to (rules_in t.lines.now) t.steps.now t.trail t.count

-- A text that fits stands at the front, and the rest is as before; one that does not changes nothing.
abbrev pub TextWritten : List ℕ → List ℕ → Result ℕ ExplainRefusal → List ℕ → Type 0
TextWritten new before (Ok size) after = (size ≡ length new) × (length new ≤ length before) × (after ≡ put before 0 new)
TextWritten new before (Err r) after = (r ≡ TextShort) × (length before < length new) × (after ≡ before)
