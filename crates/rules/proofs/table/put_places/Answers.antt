-- `rules::table::put_places` puts the first places of marks. The invariant: those of the marks passed, from the last on. Assumes nothing.
use native.Mathlib.Omega.{arith}
use Rattle.rules.proofs.PartLaws.{placing_done, placing_more, mark-before, mark_before_few}
use Rattle.rules.proofs.table.put_places.Goals as goal

pub bounds-table-at : goal.bounds-table-at
bounds-table-at c =
    let l = c.loop-i in
    let few = mark_before_few c.args.lines.now c.args.n l.i c.requires.3 c.loop-i-test.true l.invariant.most in
    omega arith

pub loop-i-preserved : goal.loop-i-preserved
loop-i-preserved c =
    let l = c.loop-i in
    let few = mark_before_few c.args.lines.now c.args.n l.i c.requires.3 c.loop-i-test.true l.invariant.most in
    let size = c.requires.0 in
    placing_more l.invariant c.loop-i-test.true (omega arith)
    (mark-before c.args.lines.now c.args.n l.i c.loop-i-test.true l.invariant.most)
    (omega arith)

pub returns : goal.returns
returns c = placing_done c.loop-i.invariant (omega arith)
