-- `rules::table::put_line` puts a line. Assumes nothing.
use native.Mathlib.Omega.{arith}
use borrow.Author.Rules.{rules}
use lib.ListN.{length-set}
use Rattle.rules.proofs.PartLaws.{line_put}
use Rattle.rules.proofs.table.put_line.Goals as goal

pub put_marks-count-requires : goal.put_marks-count-requires
put_marks-count-requires c =
    let s = c.requires in
    let size = s.1 in
    (s.0, omega arith, s.2, s.3.marks, record { each = λ j h. s.4.each j (omega arith) })

pub overflow_cast-table : goal.overflow_cast-table
overflow_cast-table c =
    let few = c.requires.3.kind.1 in
    omega arith

pub overflow_cast-table-2 : goal.overflow_cast-table-2
overflow_cast-table-2 c =
    let few = c.requires.3.marks.few in
    omega (arith, c.put_marks-count.ensures.0)

pub bounds-table-at-2 : goal.bounds-table-at-2
bounds-table-at-2 c = simp length-set (search rules)

pub returns : goal.returns
returns c =
    let s = c.requires in
    let size = s.0 in
    let p = c.put_marks-count.ensures in
    (p.0, line_put _ p.1 (omega arith) p.0)
