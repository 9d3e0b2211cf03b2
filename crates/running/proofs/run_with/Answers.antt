-- `run_with` meets its contract: how the run begins, and that all records are visited. Assumes nothing.
use Rattle.running.proofs.RunLaws.{marks-right, begun_running}
use Rattle.running.proofs.VisitLaws.{over_as}
use Rattle.running.proofs.run_with.Goals as goal

pub fresh_marks-fresh-requires : goal.fresh_marks-fresh-requires
fresh_marks-fresh-requires c = (c.requires.3, marks-right c.requires.0 c.requires.4, c.requires.5)

pub visit_all-requires : goal.visit_all-requires
visit_all-requires c = (begun_running c.args.table.now c.args.rules c.begin-first.ensures, c.fresh_marks-fresh.ensures.0, c.requires.3.few)

pub returns : goal.returns
returns c =
    over_as c.visit_all.result
    (λ d ended. record {
      first = c.begin-first.result;
      numbers = c.begin-first.new.rows;
      places = c.begin-first.new.index;
      begun = c.begin-first.ensures;
      fresh = c.fresh_marks-fresh.result;
      keeping = c.fresh_marks-fresh.ensures.1;
      ended = ended;
    })
    c.visit_all.ensures
