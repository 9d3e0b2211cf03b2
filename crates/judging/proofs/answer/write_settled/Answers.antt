-- `answer::write_settled` meets its contract: the way and the line fit into 4,096 steps, and are put one after the other. Assumes nothing.
use mathlib.Core.Path.{refl}
use Prim.Native.Nat.{◌/◌}
use native.Mathlib.Omega.{arith}
use Rattle.judging.proofs.TrailLaws.{line_nodes, wrote_settled}
use Rattle.judging.proofs.answer.write_settled.Goals as goal

pub returns : goal.returns
returns c =
    let lent = c.requires.0 in
    let few = lent.falls.few in
    let room = lent.room in
    let line = c.line_length-line in
    let links = line.ensures.few in
    let below = line_nodes c.requires.3 line.ensures line.result (omega arith) in
    let begin = c.line_start-start in
    let from = begin.ensures in
    let way = c.way_length-way in
    let short = way.ensures.short in
    let put = c.put_way-row.ensures in (
      wrote_settled c.args.ways.now c.args.raises.now c.args.steps.now way.result line.result (begin.result / 7) c.args.x
          (omega arith) put.0 c.put_links.ensures c.requires.3 line.ensures from refl way.ensures put.1,
      refl,
    )
