-- `rules::table::put_heads` puts H lines and the sources that they show. The invariant: those passed are put. Assumes nothing.
use mathlib.Core.Path.{◌∙◌}
use Prim.Native.Nat.{◌+◌}
use native.Mathlib.Omega.{arith}
use Rattle.rules.proofs.PartLaws.{heads_blank, heads_places, heads_put, heads_each, heads_few}
use Rattle.rules.proofs.table.put_heads.Goals as goal

pub put_line-count-requires : goal.put_line-count-requires
put_line-count-requires c =
    let l = c.loop-h in
    let few = heads_few c.args.lines.now c.args.n c.args.heads c.requires.3 in (
      l.invariant.1.put.whole ∙ c.requires.0,
      omega arith,
      omega arith,
      heads_each c.args.lines.now c.args.heads (c.args.n + 1) l.h c.requires.3.heads c.loop-h-test.true,
      heads_blank l.invariant.1 c.requires.5 (omega arith),
    )

pub put_sources-requires : goal.put_sources-requires
put_sources-requires c =
    let l = c.loop-h in
    let p = c.put_line-count.ensures in (
      p.1.whole ∙ l.invariant.1.put.whole ∙ c.requires.0,
      omega arith,
      omega arith,
      (heads_each c.args.lines.now c.args.heads (c.args.n + 1) l.h c.requires.3.heads c.loop-h-test.true).marks,
      p.0,
      heads_places l.invariant.1 p.1 c.requires.4,
    )

pub loop-h-preserved : goal.loop-h-preserved
loop-h-preserved c =
    let l = c.loop-h in
    let t = c.loop-h-test.true in
    let few = heads_few c.args.lines.now c.args.n c.args.heads c.requires.3 in
    (omega arith, heads_put l.invariant.1 c.put_line-count.ensures.1 (omega arith) (heads_each c.args.lines.now c.args.heads (c.args.n + 1) l.h c.requires.3.heads t).marks c.put_sources.ensures)
