-- `spread::follow_noted` meets its contract. Assumes nothing.
use mathlib.Core.List.{[]}
use lib.ListN.{get_or}
use Rattle.judging.specs.Inner.Passes.{Done, Upto}
use Rattle.judging.specs.Inner.Noted.{NoteLink}
use Rattle.judging.proofs.spread.follow_noted.Given as goal

abbrev pub invariant-loop-note : goal.invariant-loop-note
invariant-loop-note l =
    Done l.n (Upto l.note-index (λ i. NoteLink l.table l.s (get_or l.notes i []))) l.initial.generations l.initial.raises l.initial.waiting l.initial.last l.generations l.raises l.waiting l.last
