-- `sentence::put` meets its contract. After each call the sentence so far is put. Assumes nothing.
use mathlib.Core.List.{List, ◌++◌}
use Prim.Native.Nat.{ℕ, ◌+◌, ◌≤◌}
use native.Mathlib.Omega.{arith}
use lib.ListN.{length}
use Rattle.sentences.specs.Decimal.{bytes, decimal}
use Rattle.sentences.specs.Sentence.{Said, part, manner, place}
use Rattle.explaining.specs.Inner.Puts.{Puts}
use Rattle.explaining.specs.Inner.Text.{sentence_for}
use Rattle.explaining.specs.declared.sentence.Sentence.{Sentence}
use Rattle.explaining.proofs.PutLaws.{puts_then, puts_length, next_fits, next_part-fits, Rooms, rooms, puts_sentence, to_rule, to_head, to_body, to_from, to_made, to_to, to_manner}
use Rattle.explaining.proofs.sentence.put.Goals as goal

-- What the numbers that the call is given say.
abbrev says : Sentence → Said
says s =
    record {
      step = record { rule = s.rule; head = s.head; from = s.from; to = s.to; fresh = s.fresh };
      body = s.body;
      made = s.made;
    }

module _ (text : List ℕ) (at : ℕ) (s : Sentence) (fits : at + length (sentence_for s) ≤ length text) where
  room : Rooms s.in_loop (says s) at (length text)
  room = rooms s.in_loop (says s) at (length text) fits

  -- The sentence so far, after the second call and each later one.
  module _ {m1 : ℕ} {t1 : List ℕ} (p1 : Puts text at (to_rule s.in_loop (says s)) m1 t1) where
    module _ {m2 : ℕ} {t2 : List ℕ} (p2 : Puts t1 m1 (part ", H line " s.head) m2 t2) where
      told2 : Puts text at (to_head s.in_loop (says s)) m2 t2
      told2 = puts_then room.head p1 p2

      module _ {m3 : ℕ} {t3 : List ℕ} (p3 : Puts t2 m2 (part ": kind " s.body) m3 t3) where
        told3 : Puts text at (to_body s.in_loop (says s)) m3 t3
        told3 = puts_then room.body-kind told2 p3

        module _ {m4 : ℕ} {t4 : List ℕ} (p4 : Puts t3 m3 (part " field " s.from) m4 t4) where
          told4 : Puts text at (to_from s.in_loop (says s)) m4 t4
          told4 = puts_then room.from told3 p4

          module _ {m5 : ℕ} {t5 : List ℕ} (p5 : Puts t4 m4 (part " to kind " s.made) m5 t5) where
            told5 : Puts text at (to_made s.in_loop (says s)) m5 t5
            told5 = puts_then room.made-kind told4 p5

            module _ {m6 : ℕ} {t6 : List ℕ} (p6 : Puts t5 m5 (part " field " s.to) m6 t6) where
              told6 : Puts text at (to_to s.in_loop (says s)) m6 t6
              told6 = puts_then room.to told5 p6

              module _ {m7 : ℕ} {t7 : List ℕ} (p7 : Puts t6 m6 (manner s.from s.to s.fresh) m7 t7) where
                told7 : Puts text at (to_manner s.in_loop (says s)) m7 t7
                told7 = puts_then room.manner_word told6 p7

                module _ {m8 : ℕ} {t8 : List ℕ} (p8 : Puts t7 m7 (place s.in_loop) m8 t8) where
                  told8 : Puts text at (to_manner s.in_loop (says s) ++ place s.in_loop) m8 t8
                  told8 = puts_then room.place_word told7 p8

pub put_part-rule-requires : goal.put_part-rule-requires
put_part-rule-requires c = omega (arith, (room c.args.text.now c.args.at c.args.s c.requires).rule)

pub put_part-head-requires : goal.put_part-head-requires
put_part-head-requires c =
    next_part-fits (bytes ", H line ") (decimal c.args.s.head) (room c.args.text.now c.args.at c.args.s c.requires).head c.put_part-rule.ensures

pub put_part-body-requires : goal.put_part-body-requires
put_part-body-requires c =
    next_part-fits (bytes ": kind ") (decimal c.args.s.body) (room c.args.text.now c.args.at c.args.s c.requires).body-kind (told2 c.args.text.now c.args.at c.args.s c.requires c.put_part-rule.ensures c.put_part-head.ensures)

pub put_part-from-requires : goal.put_part-from-requires
put_part-from-requires c =
    next_part-fits (bytes " field ") (decimal c.args.s.from) (room c.args.text.now c.args.at c.args.s c.requires).from (told3 c.args.text.now c.args.at c.args.s c.requires c.put_part-rule.ensures c.put_part-head.ensures c.put_part-body.ensures)

pub put_part-made-requires : goal.put_part-made-requires
put_part-made-requires c =
    next_part-fits (bytes " to kind ") (decimal c.args.s.made) (room c.args.text.now c.args.at c.args.s c.requires).made-kind (told4 c.args.text.now c.args.at c.args.s c.requires c.put_part-rule.ensures c.put_part-head.ensures c.put_part-body.ensures c.put_part-from.ensures)

pub put_part-to-requires : goal.put_part-to-requires
put_part-to-requires c =
    next_part-fits (bytes " field ") (decimal c.args.s.to) (room c.args.text.now c.args.at c.args.s c.requires).to (told5 c.args.text.now c.args.at c.args.s c.requires c.put_part-rule.ensures c.put_part-head.ensures c.put_part-body.ensures c.put_part-from.ensures c.put_part-made.ensures)

pub put_word-end-requires : goal.put_word-end-requires
put_word-end-requires c =
    rw c.manner.ensures (next_fits (manner c.args.s.from c.args.s.to c.args.s.fresh) (room c.args.text.now c.args.at c.args.s c.requires).manner_word (told6 c.args.text.now c.args.at c.args.s c.requires c.put_part-rule.ensures c.put_part-head.ensures c.put_part-body.ensures c.put_part-from.ensures c.put_part-made.ensures c.put_part-to.ensures))

pub put_word-requires : goal.put_word-requires
put_word-requires c =
    rw c.place.ensures (next_fits (place c.args.s.in_loop) (room c.args.text.now c.args.at c.args.s c.requires).place_word (told7 c.args.text.now c.args.at c.args.s c.requires c.put_part-rule.ensures c.put_part-head.ensures c.put_part-body.ensures c.put_part-from.ensures c.put_part-made.ensures c.put_part-to.ensures (rw c.manner.ensures at c.put_word-end.ensures)))

pub shape_of-text : goal.shape_of-text
shape_of-text c = puts_length c.requires (puts_sentence _ _ (told8 c.args.text.now c.args.at c.args.s c.requires c.put_part-rule.ensures c.put_part-head.ensures c.put_part-body.ensures c.put_part-from.ensures c.put_part-made.ensures c.put_part-to.ensures (rw c.manner.ensures at c.put_word-end.ensures) (rw c.place.ensures at c.put_word.ensures)))

pub returns : goal.returns
returns c = puts_sentence _ _ (told8 c.args.text.now c.args.at c.args.s c.requires c.put_part-rule.ensures c.put_part-head.ensures c.put_part-body.ensures c.put_part-from.ensures c.put_part-made.ensures c.put_part-to.ensures (rw c.manner.ensures at c.put_word-end.ensures) (rw c.place.ensures at c.put_word.ensures))
