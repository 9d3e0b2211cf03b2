-- `answer::write_endless` meets its contract: the way and the loop fit into 4,096 steps, and are put one after the other. Assumes nothing.
use mathlib.Core.Path.{refl}
use Prim.Native.Nat.{◌/◌}
use native.Mathlib.Omega.{arith}
use Rattle.judging.proofs.TrailLaws.{wrote_endless}
use Rattle.judging.proofs.answer.write_endless.Goals as goal

pub returns : goal.returns
returns c =
    let lent = c.requires.0 in
    let few = lent.falls.few in
    let room = lent.room in
    let way = c.way_length-way.ensures in
    let turn = c.turn_length-turns.ensures in
    let put = c.put_way-row.ensures in
    let short = way.short in
    let turns = turn.few in
    wrote_endless c.args.ways.now c.args.raises.now
    c.args.steps.now
    c.way_length-way.result c.turn_length-turns.result (c.args.y / 7) c.args.y
    (omega arith) put.0 c.put_links.ensures way turn put.1 refl
