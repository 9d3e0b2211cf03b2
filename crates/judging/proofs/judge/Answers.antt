-- `judge` meets its contract: the refusals in their order, then the sheet. Assumes nothing.
use mathlib.Core.Path.{◌≡◌}
use mathlib.Core.List.{List}
use Prim.Native.Nat.{ℕ, ◌≤◌}
use lib.ListN.{length, replicate, length-replicate}
use Rattle.std.specs.Prelude.{Result, Err}
use Rattle.std.proofs.lemmas.Result.{err_from_is_err_and}
use Rattle.chase.specs.Judge.{JudgeMeets, shape_limit}
use Rattle.rules.specs.Answer.{RulesMeet, rules_say}
use Rattle.rules.specs.declared.RulesRefusal.{RulesRefusal}
use Rattle.rules.specs.declared.RulesRefusal.TheVariants.{LineWrong, TableShort}
use Rattle.rules.proofs.AnswerLaws.{lines_wrong, rules_held, not_short}
use Rattle.judging.specs.Answer.{judge_says, judge_refusal_of}
use Rattle.judging.proofs.Judged.{steps-short, line-wrong}
use Rattle.judging.proofs.judge.Goals as goal

-- The table before the rules are put into it.
abbrev empty : List ℕ
empty = replicate 16384 0

room : length empty ≡ 16384
room = length-replicate {A = ℕ} 16384 0

-- A refusal of the rules is one of judging.
refused : (numbers table steps : List ℕ) (answer : Result ℕ RulesRefusal) → RulesMeet numbers empty (rules_say answer) table → 20480 ≤ length steps
    → (r : RulesRefusal) → answer ≡ Err r → JudgeMeets shape_limit numbers steps (judge_says (Err (judge_refusal_of r))) steps
refused numbers table steps answer said long (LineWrong line) e = line-wrong numbers steps line long (lines_wrong numbers empty table room answer said line e)
refused numbers table steps answer said long TableShort e = absurd (not_short numbers empty table room answer said e)

pub returns-then-steps-lt20480 : goal.returns-then-steps-lt20480
returns-then-steps-lt20480 c = steps-short _ _ c.if-steps-lt20480.true

pub returns-in_err-count : goal.returns-in_err-count
returns-in_err-count c =
    let p = err_from_is_err_and c.from_residual.result c.from_residual.ensures.1 in
    rw (p.1, p.2) (refused c.args.lines.now c.rules_of.new.table c.args.steps.now c.rules_of.result c.rules_of.ensures c.if-steps-lt20480.false _ c.in_err-count.was)

pub judge_sheet-requires : goal.judge_sheet-requires
judge_sheet-requires c =
    let said = c.rules_of in
    let held = rules_held c.args.lines.now empty said.new.table room said.result said.ensures c.in_ok-count.count c.in_ok-count.was in
    (held.0, c.if-steps-lt20480.false, held.1, held.2)
