-- `running::rows::row_at` meets its contract. The invariant: the first numbers stand there, each 0 as the next number, and the rest is as it was. Assumes nothing.
use mathlib.Core.Path.{refl, sym, ◌∙◌}
use Prim.Native.Nat.{◌+◌, ◌<◌}
use native.Mathlib.Omega.{arith}
use borrow.Author.Rules.{rules}
use lib.ListN.{length, get_or, take, drop}
use Rattle.carrying.proofs.FilledLaws.{length-filled}
use Rattle.running.proofs.FillLaws.{row_size, row_number, filled_row, filling_low, filling_zero, filling_other, filling_all}
use Rattle.running.proofs.FiringLaws.{filled_row_lem}
use Rattle.running.proofs.rows.row_at.Goals as goal
use Rattle.running.proofs.rows.row_at.Goals.{then-x-eq0, else-x-eq0}

pub overflow_cast-x : goal.overflow_cast-x
overflow_cast-x c = omega (arith, filling_low c.loop-k.invariant.1, c.loop-k.invariant.0, c.requires.1, c.requires.3)

pub overflow_add-given : goal.overflow_add-given
overflow_add-given c = omega (arith, filling_low c.loop-k.invariant.1, c.loop-k.invariant.0, c.requires.1, c.requires.3)

pub loop-k-preserved : goal.loop-k-preserved
loop-k-preserved c =
    let l = c.loop-k in
    let a = c.args in
    let size = row_size a.line.now a.width c.requires.0 c.requires.1 in
    let here = row_number a.line.now a.width l.k c.loop-k-test.true in
    let room : 1 + l.k < 7 = omega (arith, c.requires.1, c.loop-k-test.true) in
    let inside : l.k < length (take a.width (drop 2 a.line.now)) = omega (arith, size, c.loop-k-test.true) in (
      search rules,
      elim c.if-x-eq0.branch [
        | then-x-eq0 w ↦ filling_zero l.invariant.1 (omega arith) room inside (here ∙ w.if-x-eq0.true) w.x-is w.given-is
        | else-x-eq0 w ↦ filling_other l.invariant.1 (omega arith) room inside (λ e. w.if-x-eq0.false (sym here ∙ e)) (w.x-is ∙ sym here) w.given-is
      ],
    )

pub returns : goal.returns
returns c =
    let a = c.args in
    let l = c.loop-k in
    let numbers = take a.width (drop 2 a.line.now) in
    let size = row_size a.line.now a.width c.requires.0 c.requires.1 in
    let wide = length-filled a.next numbers in (
      filled_row_lem (filled_row a.next (record { kind = get_or a.line.now 1 0; numbers = numbers })) a.width _ l.k (sym (wide ∙ size))
          refl (omega (arith, l.invariant.0, c.loop-k-test.false)) (omega (arith, wide, size, c.requires.1)) l.invariant.1.put,
      filling_all l.invariant.1 (omega (arith, size, c.loop-k-test.false)),
    )
