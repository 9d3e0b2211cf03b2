-- The laws of reading: a sentence is read as what it says, and a text as what it tells. Assumes nothing.
use mathlib.Core.Path.{◌≡◌, refl, ap, subst, ◌∙◌}
use mathlib.Core.Bool.{Bool, true, false, cond, ◌&&◌}
use mathlib.Core.List.{List, [], ◌∷◌, ◌++◌, append_assoc}
use mathlib.Core.Option.{Option, none, some, none-ne-some, some-injective}
use Prim.Native.Nat.{ℕ, zero, suc, ◌+◌, ◌≤◌, ◌<◌}
use native.Mathlib.Omega.{arith}
use lib.Dec.{eqb}
use borrow.Author.Tests.{eq-eqb}
use lib.ListN.{length, length-append}
use Rattle.chase.specs.Lists.{All}
use Rattle.sentences.specs.Decimal.{bytes, decimal}
use Rattle.sentences.specs.Sentence.{part, manner, place, Said, sentence, sentences, Told, text_of, Marked}
use Rattle.sentences.specs.Reader.{Front, then, otherwise, after, numbers_after, words, fresh_in, place_in, sentence_in, with, sentences_in, Placed, said_by}
use Rattle.sentences.proofs.DecimalLaws.{NoDigit, number-decimal}

not_fresh : (reaching : Bool) (rest : List ℕ)
    → fresh_in (cond reaching (bytes ", reaching") (bytes ", carried") ++ rest) ≡ some (record { value = 0; rest = rest })
not_fresh true rest = refl
not_fresh false rest = refl

fresh_reads : (from to fresh : ℕ) (rest : List ℕ) → fresh ≤ 1 → fresh_in (manner from to fresh ++ rest) ≡ some (record { value = fresh; rest = rest })
fresh_reads from to zero rest h = not_fresh (eqb from 0 && eqb to 0) rest
fresh_reads from to (suc zero) rest h = refl
fresh_reads from to (suc (suc n)) rest h = absurd (omega arith)

place_reads : (in_loop : Bool) (rest : List ℕ) → place_in (place in_loop ++ rest) ≡ some (record { value = in_loop; rest = rest })
place_reads true rest = refl
place_reads false rest = refl

-- Words and numbers by turns, and what follows.
abbrev by_turns : List (List ℕ) → List ℕ → List ℕ → List ℕ
by_turns [] ns rest = rest
by_turns (w ∷ ws) [] rest = rest
by_turns (w ∷ ws) (n ∷ ns) rest = w ++ (decimal n ++ by_turns ws ns rest)

-- There is a number for each word, and no digit comes right after a number.
abbrev Apart : List (List ℕ) → List ℕ → List ℕ → Type 0
Apart [] [] rest = Unit {0}
Apart [] (n ∷ ns) rest = ⊥
Apart (w ∷ ws) [] rest = ⊥
Apart (w ∷ ws) (n ∷ ns) rest = NoDigit (by_turns ws ns rest) × Apart ws ns rest

after_word : (w rest : List ℕ) → after w (w ++ rest) ≡ some rest
after_word [] rest = refl
after_word (b ∷ w) rest = rw (eq-eqb b b refl) (after_word w rest)

numbers_read : (ws : List (List ℕ)) (ns rest : List ℕ) → Apart ws ns rest → numbers_after ws (by_turns ws ns rest) ≡ some (record { value = ns; rest = rest })
numbers_read [] [] rest h = refl
numbers_read [] (n ∷ ns) rest h = absurd h
numbers_read (w ∷ ws) [] rest h = absurd h
numbers_read (w ∷ ws) (n ∷ ns) rest h =
    rw (after_word w (decimal n ++ by_turns ws ns rest), number-decimal n (by_turns ws ns rest) h.0, numbers_read ws ns rest h.1)

manner-begins : (old reaching : Bool) (rest : List ℕ) → NoDigit (cond old (cond reaching (bytes ", reaching") (bytes ", carried")) (bytes ", fresh") ++ rest)
manner-begins true true rest = refl
manner-begins true false rest = refl
manner-begins false reaching rest = refl

regroup : (a b c d e f g h rest : List ℕ) → a ++ b ++ c ++ d ++ e ++ f ++ g ++ h ++ rest ≡ a ++ (b ++ (c ++ (d ++ (e ++ (f ++ (g ++ (h ++ rest)))))))
regroup a b c d e f g h rest = simp append_assoc

module _ (in_loop : Bool) (s : Said) (rest : List ℕ) where
  abbrev numbers : List ℕ
  numbers = s.step.rule ∷ s.step.head ∷ s.body ∷ s.step.from ∷ s.made ∷ s.step.to ∷ []

  abbrev ending : List ℕ
  ending = manner s.step.from s.step.to s.step.fresh ++ (place in_loop ++ rest)

  opened : sentence in_loop s ++ rest ≡ by_turns words numbers ending
  unfolding sentence
  opened =
      regroup (part "Rule " s.step.rule) (part ", H line " s.step.head) (part ": kind " s.body) (part " field " s.step.from) (part " to kind " s.made)
      (part " field " s.step.to) (manner s.step.from s.step.to s.step.fresh) (place in_loop) rest

  read_opened : s.step.fresh ≤ 1 → sentence_in (by_turns words numbers ending) ≡ some (record { value = record { says = s; in_loop = in_loop }; rest = rest })
  unfolding sentence_in
  read_opened h =
      rw (
        numbers_read words numbers ending (
          refl,
          (refl, (refl, (refl, (refl, (manner-begins (eqb s.step.fresh 0) (eqb s.step.from 0 && eqb s.step.to 0) (place in_loop ++ rest), tt))))),
        ),
        fresh_reads s.step.from s.step.to s.step.fresh (place in_loop ++ rest) h,
        place_reads in_loop rest,
      )

  -- A sentence is read as what it says, and whatever follows is left.
  pub sentence_reads : s.step.fresh ≤ 1 → sentence_in (sentence in_loop s ++ rest) ≡ some (record { value = record { says = s; in_loop = in_loop }; rest = rest })
  sentence_reads h = ap sentence_in opened ∙ read_opened h

  -- The sentence that a text begins with is read, and then the others.
  next_reads : (most : ℕ) → s.step.fresh ≤ 1
      → sentences_in (suc most) (sentence in_loop s ++ rest) ≡ then (sentences_in most rest) (λ others. some (with (record { says = s; in_loop = in_loop }) others))
  unfolding sentence
  next_reads most h = rw (sentence_reads h)

  longer : length rest < length (sentence in_loop s ++ rest)
  unfolding sentence
  longer = simp length-append (omega arith)

abbrev FreshFit : Said → Type 0
FreshFit s = s.step.fresh ≤ 1

-- No sentence is empty.
sentences-length : (in_loop : Bool) (ss : List Said) → length ss ≤ length (sentences in_loop ss)
sentences-length in_loop [] = omega arith
sentences-length in_loop (s ∷ ss) = omega (arith, sentences-length in_loop ss, longer in_loop s (sentences in_loop ss))

loop_reads : (most : ℕ) (loop : List Said) → length loop ≤ most → All FreshFit loop → sentences_in most (sentences true loop) ≡ some (record { trail = []; loop = loop })
loop_reads zero [] h m = refl
loop_reads zero (s ∷ ss) h m = absurd (omega arith)
loop_reads (suc most) [] h m = refl
loop_reads (suc most) (s ∷ ss) h m = next_reads true s (sentences true ss) most m.0 ∙ rw (loop_reads most ss (omega arith) m.1)

both_read : (most : ℕ) (trail loop : List Said) → length trail + length loop ≤ most → All FreshFit trail → All FreshFit loop
    → sentences_in most (sentences false trail ++ sentences true loop) ≡ some (record { trail = trail; loop = loop })
both_read most [] loop h mt ml = loop_reads most loop (omega arith) ml
both_read zero (s ∷ ss) loop h mt ml = absurd (omega arith)
both_read (suc most) (s ∷ ss) loop h mt ml =
    ap (sentences_in (suc most)) (append_assoc (sentence false s) (sentences false ss) (sentences true loop))
    ∙ next_reads false s (sentences false ss ++ sentences true loop) most mt.0
    ∙ rw (both_read most ss loop (omega arith) mt.1 ml)

-- The words of a text are read as what it tells.
pub text_reads : (t : Told) → Marked t → sentences_in (length (text_of t)) (text_of t) ≡ some t
unfolding text_of
text_reads t m =
    both_read (length (sentences false t.trail ++ sentences true t.loop)) t.trail t.loop
    (omega (arith, length-append (sentences false t.trail) (sentences true t.loop), sentences-length false t.trail, sentences-length true t.loop)) m.0 m.1

-- WHAT IS READ

-- A fresh number that is read is 1 or 0.
fresh_marked : (bs : List ℕ) (f : Front ℕ) → fresh_in bs ≡ some f → f.value ≤ 1
fresh_marked bs f e = first (after (bytes ", fresh") bs) (after (bytes ", carried") bs) (after (bytes ", reaching") bs) e
  where
    last : (c : Option (List ℕ)) → then c (λ more. some (record { value = 0; rest = more })) ≡ some f → f.value ≤ 1
    last none e = absurd (none-ne-some f e)
    last (some more) e = let v : f.value ≡ 0 = cc in omega arith

    second : (b c : Option (List ℕ)) → otherwise (then b (λ more. some (record { value = 0; rest = more }))) (then c (λ more. some (record { value = 0; rest = more }))) ≡ some f → f.value ≤ 1
    second none c e = last c e
    second (some more) c e = let v : f.value ≡ 0 = cc in omega arith

    first : (a b c : Option (List ℕ))
        → otherwise (then a (λ more. some (record { value = 1; rest = more })))
        (otherwise (then b (λ more. some (record { value = 0; rest = more }))) (then c (λ more. some (record { value = 0; rest = more })))) ≡ some f → f.value ≤ 1
    first none b c e = second b c e
    first (some more) b c e = let v : f.value ≡ 1 = cc in omega arith

sentence_marked : (bs : List ℕ) (p : Front Placed) → sentence_in bs ≡ some p → FreshFit p.value.says
unfolding sentence_in
sentence_marked bs p e = numbers_then (numbers_after words bs) e
  where
    place-then : (ns : List ℕ) (f : Front ℕ) → f.value ≤ 1 → (c : Option (Front Bool))
        → then c (λ placed. some (record { value = record { says = said_by ns f.value; in_loop = placed.value }; rest = placed.rest })) ≡ some p → FreshFit p.value.says
    place-then ns f fits none e = absurd (none-ne-some p e)
    place-then ns f fits (some placed) e =
        subst (λ (q : Front Placed). FreshFit q.value.says)
        (some-injective (record { value = record { says = said_by ns f.value; in_loop = placed.value }; rest = placed.rest }) p e) fits

    fresh_then : (ns : List ℕ) (rest : List ℕ) (b : Option (Front ℕ)) → fresh_in rest ≡ b
        → then b (λ fresh. then (place_in fresh.rest) (λ place. some (record { value = record { says = said_by ns fresh.value; in_loop = place.value }; rest = place.rest }))) ≡ some p
        → FreshFit p.value.says
    fresh_then ns rest none is e = absurd (none-ne-some p e)
    fresh_then ns rest (some f) is e = place-then ns f (fresh_marked rest f is) (place_in f.rest) e

    numbers_then : (a : Option (Front (List ℕ)))
        → then a (λ numbers. then (fresh_in numbers.rest) (λ fresh. then (place_in fresh.rest) (λ place.
        some (record { value = record { says = said_by numbers.value fresh.value; in_loop = place.value }; rest = place.rest })))) ≡ some p
        → FreshFit p.value.says
    numbers_then none e = absurd (none-ne-some p e)
    numbers_then (some ns) e = fresh_then ns.value ns.rest (fresh_in ns.rest) refl e

with_marked : (p : Placed) (t : Told) → FreshFit p.says → Marked t → Marked (with p t)
with_marked p t fits m = go p.in_loop
  where
    go : (b : Bool) → Marked (cond b (record { trail = t.trail; loop = p.says ∷ t.loop }) (record { trail = p.says ∷ t.trail; loop = t.loop }))
    go true = (m.0, (fits, m.1))
    go false = ((fits, m.0), m.1)

nothing_marked : (t : Told) → ◌≡◌ {A = Option Told} (some (record { trail = []; loop = [] })) (some t) → Marked t
nothing_marked t e = let is : record { trail = []; loop = [] } ≡ t = cc in subst Marked is (tt, tt)

-- What is read has fresh numbers 1 and 0 alone.
pub read_marked : (most : ℕ) (bs : List ℕ) (t : Told) → sentences_in most bs ≡ some t → Marked t
read_marked zero bs t e = go (eqb (length bs) 0) e
  where
    go : (b : Bool) → cond b (some (record { trail = []; loop = [] })) none ≡ some t → Marked t
    go true e = nothing_marked t e
    go false e = absurd (none-ne-some t e)
read_marked (suc most) [] t e = nothing_marked t e
read_marked (suc most) (b ∷ bs) t e = first_then (sentence_in (b ∷ bs)) refl e (λ rest others is. read_marked most rest others is)
  where
    others_then : (p : Placed) → FreshFit p.says → (c : Option Told) → ((others : Told) → c ≡ some others → Marked others)
        → then c (λ others. some (with p others)) ≡ some t → Marked t
    others_then p fits none later e = absurd (none-ne-some t e)
    others_then p fits (some others) later e =
        subst Marked (some-injective (with p others) t e) (with_marked p others fits (later others refl))

    first_then : (a : Option (Front Placed)) → sentence_in (b ∷ bs) ≡ a
        → then a (λ first. then (sentences_in most first.rest) (λ others. some (with first.value others))) ≡ some t
        → ((rest : List ℕ) (others : Told) → sentences_in most rest ≡ some others → Marked others) → Marked t
    first_then none is e later = absurd (none-ne-some t e)
    first_then (some p) is e later = others_then p.value (sentence_marked (b ∷ bs) p is) (sentences_in most p.rest) (later p.rest) e
