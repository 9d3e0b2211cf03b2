-- `spread::follow_note` meets its contract. Assumes nothing.
use Rattle.rules.specs.Table.{row_bytes}
use Rattle.judging.specs.Inner.Passes.{Done, Upto, FieldLink}
use Rattle.judging.proofs.spread.follow_note.Given as goal

abbrev pub invariant-loop-j : goal.invariant-loop-j
invariant-loop-j l =
    Done l.n (Upto l.j (FieldLink (row_bytes l.table l.r) l.r l.h l.s l.t)) l.initial.generations l.initial.raises l.initial.waiting l.initial.last l.generations l.raises l.waiting l.last
