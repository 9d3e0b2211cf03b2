-- The laws of putting bytes into lent text, one piece after another. Assumes nothing.
use mathlib.Core.Path.{◌≡◌, refl, ap, ◌∙◌}
use mathlib.Core.Bool.{Bool, true, false, cond, ◌&&◌}
use mathlib.Core.List.{List, [], ◌∷◌, ◌++◌}
use Prim.Native.Nat.{ℕ, ◌+◌, ◌/◌, ◌%◌, ◌≤◌, ◌<◌}
use native.Mathlib.Omega.{arith}
use lib.Dec.{eqb}
use lib.ListN.{length, set, take, drop, length-append}
use lib.Seq.{paste, take-length, sets-eq}
use Rattle.sheet.proofs.PutLaws.{length-put, put_more}
use Rattle.sentences.specs.Decimal.{bytes, decimal}
use Rattle.columns.specs.Column.{put}
use Rattle.explaining.specs.Inner.Puts.{Puts}
use Rattle.sentences.specs.Sentence.{part, manner, place, Said, sentence}
use Rattle.sentences.proofs.DecimalLaws.{decimal_one, decimal_more, length-decimal_more}

-- What is put after xs goes with xs.
pub puts_then : {t u v : List ℕ} {at m r : ℕ} {xs ys : List ℕ} → at + length xs + length ys ≤ length t → Puts t at xs m u → Puts u m ys r v → Puts t at (xs ++ ys) r v
puts_then {t} {u} {v} {at} {m} {r} {xs} {ys} room p q =
    let e = p.end in
    let f = q.end in
    record {
      text = q.text ∙ ap (λ (w : List ℕ). put w m ys) p.text ∙ ap (λ (k : ℕ). put (put t at xs) k ys) e ∙ put_more t at xs ys room;
      end = omega (arith, length-append xs ys);
    }

pub puts_length : {t u : List ℕ} {at m : ℕ} {xs : List ℕ} → at + length xs ≤ length t → Puts t at xs m u → length u ≡ length t
puts_length {t} {u} {at} {m} {xs} room p = ap length p.text ∙ length-put t at xs room

pub puts_byte : (t : List ℕ) (at b : ℕ) → at < length t → Puts t at (b ∷ []) (at + 1) (set t at b)
puts_byte t at b room = record { text = sets-eq (b ∷ []) t at (omega arith); end = refl }

pub puts_paste : (t : List ℕ) (at : ℕ) (w : List ℕ) → Puts t at w (at + length w) (paste t at w (length w))
puts_paste t at w = record { text = ap (λ (l : List ℕ). take at t ++ l ++ drop (at + length w) t) (take-length w); end = refl }

-- A number of one digit, and a digit after those before it.
pub puts_one : (t : List ℕ) (at n : ℕ) → at < length t → n < 10 → Puts t at (decimal n) (at + 1) (set t at (48 + n % 10))
puts_one t at n room small =
    let last : n % 10 ≡ n = omega arith in
    rw (decimal_one n small, last) (puts_byte t at (48 + n) room)

pub puts_last : {t u : List ℕ} {at m : ℕ} (n : ℕ) → at + length (decimal n) ≤ length t → 10 ≤ n → Puts t at (decimal (n / 10)) m u → Puts t at (decimal n) (m + 1) (set u m (48 + n % 10))
puts_last {t} {u} {at} {m} n room large p =
    let more = length-decimal_more n large in
    let e = p.end in
    let same = puts_length (omega arith) p in
    rw (decimal_more n large) (puts_then (omega arith) p (puts_byte u m (48 + n % 10) (omega arith)))

-- How long the words at the end of a sentence are.
pub manner_few : (from to fresh : ℕ) → length (manner from to fresh) ≤ 10
manner_few from to fresh = go (eqb fresh 0) (eqb from 0 && eqb to 0)
  where
    go : (given at_all : Bool) → length (cond given (cond at_all (bytes ", reaching") (bytes ", carried")) (bytes ", fresh")) ≤ 10
    go true true = omega arith
    go true false = omega arith
    go false at_all = omega arith

pub place_few : (in_loop : Bool) → length (place in_loop) ≤ 9
place_few true = omega arith
place_few false = omega arith

-- A part that fits after what is put fits into the text that it is put into.
pub next_fits : {t u : List ℕ} {at m : ℕ} {xs : List ℕ} (ys : List ℕ) → at + length xs + length ys ≤ length t → Puts t at xs m u → m + length ys ≤ length u
next_fits {t} {u} {at} {m} {xs} ys room p =
    let e = p.end in
    let same = puts_length (omega arith) p in
    omega arith

pub next_part-fits : {t u : List ℕ} {at m : ℕ} {xs : List ℕ} (word ys : List ℕ) → at + length xs + length (word ++ ys) ≤ length t → Puts t at xs m u
    → m + length word + length ys ≤ length u
next_part-fits word ys room p = omega (arith, next_fits (word ++ ys) room p, length-append word ys)

module _ (in_loop : Bool) (s : Said) where
  -- The sentence up to each of its numbers, and up to its last words.
  abbrev pub to_rule : List ℕ
  to_rule = part "Rule " s.step.rule

  abbrev pub to_head : List ℕ
  to_head = to_rule ++ part ", H line " s.step.head

  abbrev pub to_body : List ℕ
  to_body = to_head ++ part ": kind " s.body

  abbrev pub to_from : List ℕ
  to_from = to_body ++ part " field " s.step.from

  abbrev pub to_made : List ℕ
  to_made = to_from ++ part " to kind " s.made

  abbrev pub to_to : List ℕ
  to_to = to_made ++ part " field " s.step.to

  abbrev pub to_manner : List ℕ
  to_manner = to_to ++ manner s.step.from s.step.to s.step.fresh

  sentence_is : sentence in_loop s ≡ to_manner ++ place in_loop
  unfolding sentence
  sentence_is = refl

  pub puts_sentence : {t u : List ℕ} {at m : ℕ} → Puts t at (to_manner ++ place in_loop) m u → Puts t at (sentence in_loop s) m u
  puts_sentence p = rw sentence_is p

  -- Where a sentence fits, each of its parts fits.
  pub record Rooms (at room : ℕ) : Type 0 where
    pub rule : at + length to_rule ≤ room
    pub head : at + length to_rule + length (part ", H line " s.step.head) ≤ room
    pub body-kind : at + length to_head + length (part ": kind " s.body) ≤ room
    pub from : at + length to_body + length (part " field " s.step.from) ≤ room
    pub made-kind : at + length to_from + length (part " to kind " s.made) ≤ room
    pub to : at + length to_made + length (part " field " s.step.to) ≤ room
    pub manner_word : at + length to_to + length (manner s.step.from s.step.to s.step.fresh) ≤ room
    pub place_word : at + length to_manner + length (place in_loop) ≤ room

  lengths : length (sentence in_loop s) ≡ length to_manner + length (place in_loop)
  lengths = ap length sentence_is ∙ length-append to_manner (place in_loop)

  pub rooms : (at room : ℕ) → at + length (sentence in_loop s) ≤ room → Rooms at room
  rooms at room h =
      let l8 = lengths in
      let l7 = length-append to_to (manner s.step.from s.step.to s.step.fresh) in
      let l6 = length-append to_made (part " field " s.step.to) in
      let l5 = length-append to_from (part " to kind " s.made) in
      let l4 = length-append to_body (part " field " s.step.from) in
      let l3 = length-append to_head (part ": kind " s.body) in
      let l2 = length-append to_rule (part ", H line " s.step.head) in
      record {
        rule = omega arith;
        head = omega arith;
        body-kind = omega arith;
        from = omega arith;
        made-kind = omega arith;
        to = omega arith;
        manner_word = omega arith;
        place_word = omega arith;
      }

  pub length-sentence :
      length (sentence in_loop s)
      ≡ 44 + length (decimal s.step.rule) + length (decimal s.step.head) + length (decimal s.body) + length (decimal s.step.from) + length (decimal s.made) + length (decimal s.step.to)
      + length (manner s.step.from s.step.to s.step.fresh) + length (place in_loop)
  length-sentence =
      let l8 = lengths in
      let l7 = length-append to_to (manner s.step.from s.step.to s.step.fresh) in
      let l6 = length-append to_made (part " field " s.step.to) in
      let l5 = length-append to_from (part " to kind " s.made) in
      let l4 = length-append to_body (part " field " s.step.from) in
      let l3 = length-append to_head (part ": kind " s.body) in
      let l2 = length-append to_rule (part ", H line " s.step.head) in
      omega arith
