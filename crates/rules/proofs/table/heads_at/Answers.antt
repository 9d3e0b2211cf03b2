-- `rules::table::heads_at` counts the H lines from a line on. The invariant: those passed and those from here on are all. Assumes nothing.
use Prim.Native.Nat.{ℕ, ◌*◌, ◌/◌, ◌<◌}
use native.Mathlib.Omega.{arith}
use Rattle.rules.proofs.SheetLaws.{size_held}
use Rattle.rules.proofs.TableLaws.{heads_begun, heads_done, heads_stop, heads_more}
use Rattle.rules.proofs.table.heads_at.Goals as goal

-- Line i is within the lent numbers.
inside : {i size : ℕ} → i < size / 8 → 8 * i < size
inside h = omega arith

pub loop-i-init : goal.loop-i-init
loop-i-init c = heads_begun c.requires.0 _ c.requires.1

pub returns-then-lines-i-ne-LETTER_H : goal.returns-then-lines-i-ne-LETTER_H
returns-then-lines-i-ne-LETTER_H c =
    heads_stop c.requires.0 c.loop-i.invariant (inside c.loop-i-test.true)
    c.if-lines-i-ne-LETTER_H.true

pub loop-i-preserved : goal.loop-i-preserved
loop-i-preserved c =
    heads_more c.requires.0 c.loop-i.invariant (inside c.loop-i-test.true) c.if-lines-i-ne-LETTER_H.false

pub returns : goal.returns
returns c =
    let size = size_held c.requires.0 in
    let begun = c.requires.1 in
    let end = c.loop-i.auto.i-end in
    let past = c.loop-i-test.false in
    omega (arith, heads_done c.requires.0 c.loop-i.invariant (omega arith))
