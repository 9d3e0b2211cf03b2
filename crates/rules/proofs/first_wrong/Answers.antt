-- `first_wrong` meets its contract: write answers 8 where the lent lines are no sheet, and only there. Assumes nothing.
use Rattle.rules.proofs.WriteLaws.{bytes_right, refusal_wrong, refusal_right}
use Rattle.rules.proofs.first_wrong.Goals as goal

pub returns-in-Ok : goal.returns-in-Ok
returns-in-Ok c = bytes_right _ 1 _ c.write.ensures.says _ c.in-Ok.is

pub returns-in-LineWrong : goal.returns-in-LineWrong
returns-in-LineWrong c =
    refusal_wrong _ 1 _ c.write.ensures.says _ _
    c.in-Err.is c.in-LineWrong.is

pub returns-in_default : goal.returns-in_default
returns-in_default c =
    refusal_right _ 1 _ c.write.ensures.says _ c.in-Err.is c.in_default.not-LineWrong
