-- `followup::judge_read` meets its contract: a law of `TextLaws` for each return. Assumes nothing.
use mathlib.Core.Path.{sym}
use Prim.Native.Nat.{◌*◌, ◌/◌, ◌≤◌}
use native.Mathlib.Omega.{arith}
use lib.ListN.{length}
use lib.Seq.{length-take-le}
use Rattle.followup.proofs.LineCounts.{lines_in}
use Rattle.followup.proofs.ReadLaws.{lines_fit}
use Rattle.followup.proofs.TextLaws.{text_refused, text_judged}
use Rattle.followup.proofs.judge_read.Goals as goal
use Rattle.followup.proofs.judge_read.Goals.{After-read_numbers-said}

enough : (c : After-read_numbers-said) → lines_in c.args.text.now ≤ length c.args.numbers.now / 8
enough c = omega (arith, c.requires.0)

-- the lines that were read fit
fit : (c : After-read_numbers-said) → 8 * c.read_numbers-said.result.count ≤ length c.args.numbers.now
fit c = lines_fit c.args.text.now c.args.numbers.now _ c.read_numbers-said.result c.read_numbers-said.ensures

pub overflow_mul-said : goal.overflow_mul-said
overflow_mul-said c = omega (arith, fit (goal.at.overflow_mul-said c).After-read_numbers-said)

pub slice_bounds-judge_numbers-end : goal.slice_bounds-judge_numbers-end
slice_bounds-judge_numbers-end c = omega (arith, fit (goal.at.slice_bounds-judge_numbers-end c).After-read_numbers-said, c.read_numbers-said.auto.numbers)

pub slice_bounds-judge_numbers-end-then-said-eq0 : goal.slice_bounds-judge_numbers-end-then-said-eq0
slice_bounds-judge_numbers-end-then-said-eq0 c = sym (length-take-le _ _ (omega (arith, fit (goal.at.slice_bounds-judge_numbers-end-then-said-eq0 c).After-read_numbers-said, c.read_numbers-said.auto.numbers)))

pub returns-then-said-eq0 : goal.returns-then-said-eq0
returns-then-said-eq0 c =
    let a = c.args in
    text_judged a.text.now a.numbers.now _ c.read_numbers-said.result c.read_numbers-said.ensures (enough (goal.at.returns-then-said-eq0 c).After-read_numbers-said) a.steps.now
    c.judge_numbers.result _ c.if-said-eq0.true c.judge_numbers.ensures

pub returns : goal.returns
returns c =
    let a = c.args in
    text_refused a.text.now a.numbers.now _ c.read_numbers-said.result c.read_numbers-said.ensures (enough (goal.at.returns c).After-read_numbers-said) a.steps.now
    (λ i. omega (arith, c.type_inv.steps i)) c.requires.1 c.if-said-eq0.false c.no_judgement.result c.no_judgement.ensures
