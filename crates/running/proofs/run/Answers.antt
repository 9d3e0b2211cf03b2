-- `run` meets its contract: the room, the lines, then the rules. Assumes nothing.
use mathlib.Core.Path.{◌≡◌, refl}
use mathlib.Core.Logic.{inl, inr}
use Prim.Native.Nat.{ℕ}
use lib.ListN.{length, replicate, length-replicate}
use Rattle.std.specs.Prelude.{Err}
use Rattle.std.proofs.lemmas.Result.{err_from_is_err_and}
use Rattle.rules.specs.declared.RulesRefusal.{RulesRefusal}
use Rattle.rules.specs.declared.RulesRefusal.TheVariants.{LineWrong, TableShort}
use Rattle.rules.proofs.AnswerLaws.{not_short, lines_wrong, rules_held}
use Rattle.running.specs.Run.{RunMeets}
use Rattle.running.specs.Answer.{run_says, run_refusal_of}
use Rattle.running.proofs.run.Goals as goal
use Rattle.running.proofs.run.Goals.{After-rules_of}

room : length (replicate {A = ℕ} 16384 0) ≡ 16384
room = length-replicate {A = ℕ} 16384 0

pub returns-then-rows-lt28672 : goal.returns-then-rows-lt28672
returns-then-rows-lt28672 c = (inl c.if-rows-lt28672.true, refl)

pub returns-then-places-ne24576 : goal.returns-then-places-ne24576
returns-then-places-ne24576 c = (inr c.if-places-ne24576.true, refl)

refused : (c : After-rules_of) (r : RulesRefusal) → c.rules_of.result ≡ Err r
    → RunMeets c.args.lines.now c.args.rows.now c.args.rows.now (length c.args.places.now) (run_says (Err (run_refusal_of r)))
refused c (LineWrong line) e =
    let said = c.rules_of in
    (c.if-rows-lt28672.false, lines_wrong c.args.lines.now (replicate {A = ℕ} 16384 0) said.new.table room said.result said.ensures line e, refl)
refused c TableShort e =
    let said = c.rules_of in
    absurd (not_short c.args.lines.now (replicate {A = ℕ} 16384 0) said.new.table room said.result said.ensures e)

pub returns-in_err-count : goal.returns-in_err-count
returns-in_err-count c =
    let p = err_from_is_err_and c.from_residual.result c.from_residual.ensures.1 in
    rw (p.1, p.2) (refused (goal.at.returns-in_err-count c).After-rules_of _ c.in_err-count.was)

pub run_rules-requires : goal.run_rules-requires
run_rules-requires c =
    let said = c.rules_of in
    let held = rules_held c.args.lines.now (replicate {A = ℕ} 16384 0) said.new.table room said.result said.ensures _ c.in_ok-count.was in
    (held.0, c.if-rows-lt28672.false, c.if-places-ne24576.false, held.1, held.2)
