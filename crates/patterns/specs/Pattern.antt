-- The pattern of a record, the 278 patterns of one to six fields, and their numbers. Assumes nothing.
use Rattle.std.specs.Prelude.{◌≡◌, refl, Option, Some, None, cond, ◌||◌, List, [], ◌∷◌, ◌++◌, map, ℕ, zero, suc, ◌*◌, max, eqb, leb, ltb, length, get_or, take, drop}
use Rattle.std.proofs.lemmas.Bool.{false≢true}
use Rattle.std.proofs.Math.Decide.{ℕ_discrete}
use Rattle.patterns.specs.Lists.{numbered}
use Rattle.patterns.specs.Outcome.{Outcome, good, refused, padded}

-- The first of two where something holds, the second where it does not.
abbrev pub pick : {P A : Type 0} → Dec P → A → A → A
pick (yes p) a b = a
pick (no h) a b = b

module _ {A : Type 0} (d : Discrete A) where
  -- The place of x in a list, from 0; the list's length where x is not there.
  abbrev pub index : A → List A → ℕ
  index x [] = zero
  index x (y ∷ ys) = pick (d x y) zero (suc (index x ys))

  -- A list with x put at its end, unless x is there.
  abbrev pub add : A → List A → List A
  add x [] = x ∷ []
  add x (y ∷ ys) = pick (d x y) (y ∷ ys) (y ∷ add x ys)

  -- The same for one element after the other: by first appearance, each once.
  abbrev pub add_all : List A → List A → List A
  add_all [] seen = seen
  add_all (x ∷ xs) seen = add_all xs (add x seen)

  -- A record's pattern: each field's place, from 1, among the different fields by first appearance.
  abbrev pub pattern : List A → List ℕ
  pattern xs = map (λ x. suc (index x (add_all xs []))) xs

-- What the number at a place of a record says (change request 4): a label; or, where it is 0, that none is given there.
pub data Label : Type 0 where
  given : ℕ → Label
  none_at : ℕ → Label
  deriving Discrete as Label-discrete'

unfoldable pub Label-discrete : Discrete Label
Label-discrete = Label-discrete' ℕ_discrete

abbrev pub label_at : ℕ → ℕ → Label
label_at place zero = none_at place
label_at place (suc n) = given (suc n)

abbrev pub labels : List ℕ → List Label
labels xs = map (λ n. label_at n.number n.item) (numbered xs)

-- The pattern of numbers: that of their labels, so that a 0 is equal to itself alone.
abbrev pub numbers_pattern : List ℕ → List ℕ
numbers_pattern xs = pattern Label-discrete (labels xs)

-- The digits d, d + 1, and so on, n of them, each in front of every list that `rest` gives for it.
unfoldable pub led : (ℕ → List (List ℕ)) → ℕ → ℕ → List (List ℕ)
led rest d zero = []
led rest d (suc n) = map (λ (p : List ℕ). d ∷ p) (rest d) ++ led rest (suc d) n

-- Every list of n digits that goes on by first appearance after digits up to m, ascending: the next digit is 1 to m + 1.
unfoldable pub going_on : ℕ → ℕ → List (List ℕ)
going_on zero m = [] ∷ []
going_on (suc n) m = led (λ (d : ℕ). going_on n (max m d)) 1 (suc m)

-- The patterns of one to n fields: shorter ones first, then by ascending digits.
unfoldable pub patterns_to : ℕ → List (List ℕ)
patterns_to zero = []
patterns_to (suc n) = patterns_to n ++ going_on (suc n) 0

-- The 278 patterns.
unfoldable pub patterns : List (List ℕ)
patterns = patterns_to 6

-- Whether two lists are equal, by a decision that computes.
dec_cons : {A : Type 0} {x y : A} {xs ys : List A} → Dec (x ≡ y) → Dec (xs ≡ ys) → Dec (x ∷ xs ≡ y ∷ ys)
dec_cons (no h) q = no (λ e. h cc)
dec_cons (yes p) (no h) = no (λ e. h cc)
dec_cons (yes p) (yes q) = yes cc

unfoldable pub lists_discrete : {A : Type 0} → Discrete A → Discrete (List A)
unfolding dec_cons
lists_discrete d [] [] = yes refl
lists_discrete d [] (y ∷ ys) = no (λ e. false≢true cc)
lists_discrete d (x ∷ xs) [] = no (λ e. false≢true cc)
lists_discrete d (x ∷ xs) (y ∷ ys) = dec_cons (d x y) (lists_discrete d xs ys)

-- The number of a pattern, from 1.
unfoldable pub number_of : List ℕ → ℕ
number_of digits = suc (index (lists_discrete ℕ_discrete) digits patterns)

-- What `pattern` answers: 10 for no number or more than six, else the number of the pattern.
abbrev pub pattern_of : List ℕ → Outcome ℕ
pattern_of xs = cond (eqb (length xs) 0 || ltb 6 (length xs)) (refused 10 0) (good (number_of (numbers_pattern xs)))

-- Document 01's numbers for each answer.
abbrev pub pattern_says : Option ℕ → Outcome ℕ
pattern_says (Some n) = good n
pattern_says None = refused 10 0

-- What `digits` answers: the digits of pattern `number` in six places; all 0 where there is no such pattern.
unfoldable pub digits_of : ℕ → List ℕ
digits_of zero = padded 6 []
digits_of (suc k) = padded 6 (get_or patterns k [])

-- Lists of digits one after the other, six places each.
unfoldable pub rows : List (List ℕ) → List ℕ
rows [] = []
rows (p ∷ ps) = padded 6 p ++ rows ps

-- What `pattern_table` answers.
unfoldable pub pattern_table : List ℕ
pattern_table = rows patterns

-- What `digits_in` answers: row `number` of a lent table, from 1; all 0 where it has no such row.
abbrev pub digits_in : List ℕ → ℕ → List ℕ
digits_in table zero = padded 6 []
digits_in table (suc k) = cond (leb (6 * suc k) (length table)) (take 6 (drop (6 * k) table)) (padded 6 [])
