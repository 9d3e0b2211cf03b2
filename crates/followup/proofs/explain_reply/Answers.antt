-- `followup::explain_reply` meets its contract: each case is said by its name, and the refusals' numbers are small. Assumes nothing.
use mathlib.Core.Path.{◌≡◌, sym, subst, ◌∙◌}
use Prim.Native.Nat.{◌≤◌}
use native.Mathlib.Omega.{arith}
use Rattle.explaining.specs.Answer.{explain_says, explain_refusal_number}
use Rattle.std.proofs.Common.{ℕ, Result}
use Rattle.explaining.specs.declared.ExplainRefusal.{ExplainRefusal}
use Rattle.explaining.specs.declared.ExplainRefusal.TheVariants.{LineWrong, ShapesOver, SheetSettles, TextShort}
use Rattle.followup.specs.Reply.{ExplainReplies}
use Rattle.followup.specs.declared.Reply.{Reply}
use Rattle.followup.proofs.explain_reply.Goals as goal

small : (r : ExplainRefusal) → explain_refusal_number r ≤ 25
small (LineWrong line) = omega arith
small ShapesOver = omega arith
small SheetSettles = omega arith
small TextShort = omega arith

-- what a case says, said of the answer
said : {case : Result ℕ ExplainRefusal} (answer : Result ℕ ExplainRefusal) (r : Reply) → answer ≡ case → ExplainReplies (explain_says case) r → ExplainReplies (explain_says answer) r
said answer r is says = subst (λ (a : Result ℕ ExplainRefusal). ExplainReplies (explain_says a) r) (sym is) says

pub overflow_cast-said : goal.overflow_cast-said
overflow_cast-said c = omega (arith, c.refusal_numbers-said.ensures.0, small c.in-Err.refusal)

pub returns-in-Ok : goal.returns-in-Ok
returns-in-Ok c = said _ c.counts.result c.in-Ok.is c.counts.ensures

pub returns-in-Err : goal.returns-in-Err
returns-in-Err c =
    let e = c.no_count.ensures in
    let numbers = c.refusal_numbers-said.ensures in
    said _ c.no_count.result c.in-Err.is (e.0 ∙ numbers.0, e.1 ∙ numbers.1, e.2)
