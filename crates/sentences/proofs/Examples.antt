-- Document 02's sentence; the text of the endless sheet P(1,2)→P(3,1), row 7 7, with P for kind 1; and texts that are not accepted. Each by computing. Assumes nothing.
use mathlib.Core.Path.{◌≡◌, refl}
use mathlib.Core.Bool.{true, false}
use mathlib.Core.List.{List, [], ◌∷◌}
use mathlib.Core.Option.{none, some}
use Prim.Native.Nat.{ℕ}
use lib.ListN.{length}
use Rattle.chase.specs.Rules.{Rule}
use Rattle.chase.specs.Steps.{Step}
use Rattle.sentences.specs.Decimal.{bytes, decimal}
use Rattle.sentences.specs.Sentence.{Said, sentence, told, text_of}
use Rattle.sentences.specs.Reader.{sentence_in, told_in, steps_in}

-- A SENTENCE

-- Document 02's sentence.
pub published :
    sentence true (record { step = record { rule = 1; head = 1; from = 2; to = 1; fresh = 1 }; body = 1; made = 3 })
    ≡ bytes "Rule 1, H line 1: kind 1 field 2 to kind 3 field 1, fresh, loop.\n"
unfolding sentence decimal
published = refl

-- A longest sentence about a sheet.
abbrev long : Said
long = record { step = record { rule = 256; head = 4; from = 0; to = 0; fresh = 0 }; body = 64; made = 64 }

pub longest : sentence false long ≡ bytes "Rule 256, H line 4: kind 64 field 0 to kind 64 field 0, reaching, trail.\n"
unfolding sentence decimal
longest = refl

pub longest_size : length (sentence false long) ≡ 73
unfolding sentence decimal
longest_size = refl

-- A TEXT

abbrev rules : List Rule
rules = record { kind = 1; marks = 1 ∷ 2 ∷ []; heads = record { kind = 1; marks = 3 ∷ 1 ∷ [] } ∷ [] } ∷ []

abbrev reaching : Step
reaching = record { rule = 1; head = 1; from = 0; to = 0; fresh = 0 }

abbrev fresh : Step
fresh = record { rule = 1; head = 1; from = 1; to = 1; fresh = 1 }

abbrev text : List ℕ
text = bytes "Rule 1, H line 1: kind 1 field 0 to kind 1 field 0, reaching, trail.\nRule 1, H line 1: kind 1 field 1 to kind 1 field 1, fresh, loop.\n"

-- One reaching step on the trail, and one fresh step in the loop.
pub text_is : text_of (told rules (reaching ∷ []) (fresh ∷ [])) ≡ text
unfolding text_of sentence decimal
text_is = refl

-- The text is read as what it tells,
pub text-read : told_in text ≡ some (told rules (reaching ∷ []) (fresh ∷ []))
unfolding told_in sentence_in text_of sentence decimal
text-read = refl

-- and leads back to the steps.
pub steps_read : steps_in text ≡ some (record { trail = reaching ∷ []; loop = fresh ∷ [] })
unfolding steps_in told_in sentence_in text_of sentence decimal
steps_read = refl

-- The empty text tells nothing.
pub nothing_told : told_in [] ≡ some (record { trail = []; loop = [] })
unfolding told_in text_of
nothing_told = refl

-- A fresh step whose from field is 0 is read.
pub from_nothing :
    steps_in (bytes "Rule 1, H line 1: kind 1 field 0 to kind 1 field 1, fresh, loop.\n")
    ≡ some (record { trail = []; loop = record { rule = 1; head = 1; from = 0; to = 1; fresh = 1 } ∷ [] })
unfolding steps_in told_in sentence_in text_of sentence decimal
from_nothing = refl

-- WHAT IS NOT ACCEPTED

-- A text without its last byte.
pub cut_short :
    told_in (bytes "Rule 1, H line 1: kind 1 field 0 to kind 1 field 0, reaching, trail.\nRule 1, H line 1: kind 1 field 1 to kind 1 field 1, fresh, loop.") ≡ none
unfolding told_in sentence_in
cut_short = refl

-- A leading zero.
pub leading_zero : told_in (bytes "Rule 01, H line 1: kind 1 field 1 to kind 1 field 1, fresh, loop.\n") ≡ none
unfolding told_in sentence_in text_of sentence decimal
leading_zero = refl

-- A sentence of the loop before one of the trail.
pub loop-first :
    told_in (bytes "Rule 1, H line 1: kind 1 field 1 to kind 1 field 1, fresh, loop.\nRule 1, H line 1: kind 1 field 0 to kind 1 field 0, reaching, trail.\n") ≡ none
unfolding told_in sentence_in text_of sentence decimal
loop-first = refl

-- "carried" where both fields are 0.
pub carried_nowhere : told_in (bytes "Rule 1, H line 1: kind 1 field 0 to kind 1 field 0, carried, trail.\n") ≡ none
unfolding told_in sentence_in text_of sentence decimal
carried_nowhere = refl

-- "reaching" where a field is not 0.
pub reaching_a_field : told_in (bytes "Rule 1, H line 1: kind 1 field 1 to kind 1 field 1, reaching, trail.\n") ≡ none
unfolding told_in sentence_in text_of sentence decimal
reaching_a_field = refl

-- No number where one belongs.
pub no_number : told_in (bytes "Rule , H line 1: kind 1 field 1 to kind 1 field 1, fresh, loop.\n") ≡ none
unfolding told_in sentence_in text_of sentence decimal
no_number = refl
