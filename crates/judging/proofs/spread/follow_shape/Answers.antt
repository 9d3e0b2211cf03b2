-- `spread::follow_shape` meets its contract: by the notes of the search, or by those made anew. Assumes nothing.
use mathlib.Core.Path.{◌≡◌, refl, ap}
use mathlib.Core.List.{List}
use Prim.Native.Nat.{ℕ, ◌+◌, ◌-◌}
use native.Mathlib.Omega.{arith}
use lib.ListN.{get_or, take, drop}
use Rattle.judging.specs.Inner.Noted.{ShapeNotes}
use Rattle.judging.proofs.NoteLaws.{notes_fit, notes-done, onward_all}
use Rattle.judging.proofs.GraphLaws.{onward}
use Rattle.judging.proofs.spread.follow_shape.Goals as goal
use Rattle.judging.proofs.spread.follow_shape.Goals.{Then-end-basis}

first_is : (notes : List (List ℕ)) (n : ℕ) → take n notes ≡ take (n - 0) (drop 0 notes)
first_is notes n = let z : n ≡ n - 0 = omega arith in ap (λ (k : ℕ). take k notes) z

-- The notes of the search on the shape, where they are there.
noted : (c : Then-end-basis)
    → ShapeNotes c.args.basis.now.table.now c.args.basis.now.rules c.args.basis.now.index.now
    c.args.basis.now.notes.now (get_or c.args.basis.now.shapes.now c.args.s 0)
    (get_or c.args.basis.now.starts.now c.args.s 0)
    (get_or c.args.basis.now.starts.now (c.args.s + 1) 0)
noted c = c.requires.0.noted.each c.args.s c.requires.1 c.if-end-basis.true

pub follow_noted-requires : goal.follow_noted-requires
follow_noted-requires c =
    let ground = c.requires.0 in
    (ground.table_fits.size, notes_fit ground.table_fits (noted (goal.at.follow_noted-requires c).Then-end-basis) refl c.if-end-basis.true (onward ground.table_fits ground.closed c.args.s c.requires.1), c.requires.2, omega (arith, c.requires.1))

pub returns-then-end-basis : goal.returns-then-end-basis
returns-then-end-basis c =
    let ground = c.requires.0 in
    notes-done ground.table_fits (noted (goal.at.returns-then-end-basis c).Then-end-basis) refl c.if-end-basis.true c.follow_noted.ensures

pub note_shape-noted-requires : goal.note_shape-noted-requires
note_shape-noted-requires c =
    let ground = c.requires.0 in
    let closed = ground.closed in
    let low = c.requires.1 in
    (ground.table_fits, closed.size_index, closed.small _ low, closed.fits _ low, onward_all (onward ground.table_fits closed _ low) c.requires.2.small, ground.by_kind, refl)

pub follow_noted-requires-2 : goal.follow_noted-requires-2
follow_noted-requires-2 c =
    let ground = c.requires.0 in
    let made = c.note_shape-noted.ensures in
    (ground.table_fits.size, notes_fit ground.table_fits made.2 (first_is c.note_shape-noted.new.notes c.note_shape-noted.result) (rw made.0 made.1) (onward ground.table_fits ground.closed c.args.s c.requires.1), c.requires.2, omega (arith, c.requires.1))

pub returns : goal.returns
returns c =
    let ground = c.requires.0 in
    let made = c.note_shape-noted.ensures in
    notes-done ground.table_fits made.2 (first_is c.note_shape-noted.new.notes c.note_shape-noted.result) (rw made.0 made.1) c.follow_noted-2.ensures
