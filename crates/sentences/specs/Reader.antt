-- How a text is read back: sentence by sentence, word by word. Assumes nothing.
use Rattle.std.specs.Prelude.{Bool, true, false, cond, ◌&&◌, List, [], ◌∷◌, map, ℕ, zero, suc, ◌+◌, ◌-◌, ◌*◌, eqb, leb, length, get_or}
use Rattle.std.proofs.Math.Option.{Option, none, some}
use Rattle.columns.specs.Column.{same}
use Rattle.chase.specs.Steps.{Step}
use Rattle.sentences.specs.Decimal.{bytes}
use Rattle.sentences.specs.Sentence.{Said, Told, text_of}

-- What is read at the front of some bytes, and the bytes that follow it.
pub record Front (A : Type 0) : Type 0 where
  pub value : A
  pub rest : List ℕ

abbrev pub then : {A B : Type 0} → Option A → (A → Option B) → Option B
then none f = none
then (some a) f = f a

-- The first, or the second where the first is none.
abbrev pub otherwise : {A : Type 0} → Option A → Option A → Option A
otherwise none second = second
otherwise (some a) second = some a

-- The bytes after a word, where they begin with it.
abbrev pub after : List ℕ → List ℕ → Option (List ℕ)
after [] bs = some bs
after (w ∷ ws) [] = none
after (w ∷ ws) (b ∷ bs) = cond (eqb w b) (after ws bs) none

abbrev pub is_digit : ℕ → Bool
is_digit b = leb 48 b && leb b 57

-- The number that bytes show after the digits of n, up to the first byte that is no digit.
abbrev pub number : ℕ → List ℕ → Front ℕ
number n [] = record { value = n; rest = [] }
number n (b ∷ bs) = cond (is_digit b) (number (10 * n + (b - 48)) bs) (record { value = n; rest = b ∷ bs })

-- The numbers after some words, one after each.
abbrev pub numbers_after : List (List ℕ) → List ℕ → Option (Front (List ℕ))
numbers_after [] bs = some (record { value = []; rest = bs })
numbers_after (w ∷ ws) bs =
    then (after w bs) (λ more. then (numbers_after ws (number 0 more).rest) (λ others. some (record { value = (number 0 more).value ∷ others.value; rest = others.rest })))

-- A value, where the bytes begin with its word.
abbrev pub value_by : {A : Type 0} → List ℕ → A → List ℕ → Option (Front A)
value_by word a bs = then (after word bs) (λ more. some (record { value = a; rest = more }))

-- Whether a step is fresh (1) or not (0).
abbrev pub fresh_in : List ℕ → Option (Front ℕ)
fresh_in bs = otherwise (value_by (bytes ", fresh") 1 bs) (otherwise (value_by (bytes ", carried") 0 bs) (value_by (bytes ", reaching") 0 bs))

-- Whether a sentence ends with the loop.
abbrev pub place_in : List ℕ → Option (Front Bool)
place_in bs = otherwise (value_by (bytes ", loop.\n") true bs) (value_by (bytes ", trail.\n") false bs)

-- The words before a sentence's six numbers.
abbrev pub words : List (List ℕ)
words = bytes "Rule " ∷ bytes ", H line " ∷ bytes ": kind " ∷ bytes " field " ∷ bytes " to kind " ∷ bytes " field " ∷ []

-- What six numbers and the fresh number say.
abbrev pub said_by : List ℕ → ℕ → Said
said_by numbers fresh =
    record {
      step = record { rule = get_or numbers 0 0; head = get_or numbers 1 0; from = get_or numbers 3 0; to = get_or numbers 5 0; fresh = fresh };
      body = get_or numbers 2 0;
      made = get_or numbers 4 0;
    }

-- What a sentence says, and whether it is the loop's.
pub record Placed : Type 0 where
  pub says : Said
  pub in_loop : Bool

-- The sentence that bytes begin with.
unfoldable pub sentence_in : List ℕ → Option (Front Placed)
sentence_in bs =
    then (numbers_after words bs) (λ numbers.
    then (fresh_in numbers.rest) (λ fresh.
    then (place_in fresh.rest) (λ place.
    some (record { value = record { says = said_by numbers.value fresh.value; in_loop = place.value }; rest = place.rest }))))

-- One sentence more at the front: of the loop, or of the trail.
abbrev pub with : Placed → Told → Told
with p t =
    cond p.in_loop (record { trail = t.trail; loop = p.says ∷ t.loop }) (record { trail = p.says ∷ t.trail; loop = t.loop })

-- What at most so many sentences say, up to the end of the bytes.
abbrev pub sentences_in : ℕ → List ℕ → Option Told
sentences_in zero bs = cond (eqb (length bs) 0) (some (record { trail = []; loop = [] })) none
sentences_in (suc most) [] = some (record { trail = []; loop = [] })
sentences_in (suc most) (b ∷ bs) =
    then (sentence_in (b ∷ bs)) (λ first. then (sentences_in most first.rest) (λ others. some (with first.value others)))

-- How a text is read. The words alone would let by numbers with leading zeros, a loop before a trail, or "carried" where both fields are 0: so what was read is accepted where this very text tells it. No sentence is empty, so there are no more sentences than bytes.
unfoldable pub told_in : List ℕ → Option Told
told_in text = then (sentences_in (length text) text) (λ t. cond (same (text_of t) text) (some t) none)

-- A trail and a loop as steps alone.
pub record Steps : Type 0 where
  pub trail : List Step
  pub loop : List Step

abbrev pub steps_of : Told → Steps
steps_of t = record { trail = map (λ s. s.step) t.trail; loop = map (λ s. s.step) t.loop }

-- The steps that a text leads back to.
unfoldable pub steps_in : List ℕ → Option Steps
steps_in text = then (told_in text) (λ t. some (steps_of t))
