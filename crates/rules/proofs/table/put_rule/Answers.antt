-- `rules::table::put_rule` puts a rule into the table. Assumes nothing.
use mathlib.Core.Path.{sym}
use Prim.Native.Nat.{◌+◌}
use native.Mathlib.Omega.{arith}
use Rattle.rules.specs.Inner.Bytes.{rule_at}
use Rattle.rules.proofs.ByteLaws.{length-heads_at}
use Rattle.rules.proofs.PartLaws.{body-put, rule_put, heads_few}
use Rattle.rules.proofs.table.put_rule.Goals as goal

pub overflow_cast-table : goal.overflow_cast-table
overflow_cast-table c =
    omega (arith, heads_few c.args.lines.now c.args.n c.args.heads c.requires.3)

pub returns : goal.returns
returns c =
    let rule = rule_at c.args.lines.now c.args.n c.args.heads in
    let size = c.requires.0 in
    let few = c.requires.1 in
    let b =
    body-put rule c.requires.4 (omega arith) c.put_line-count.ensures.1 c.put_places.ensures
    (sym (length-heads_at c.args.lines.now c.args.heads (c.args.n + 1))) in
    rule_put c.args.r size c.requires.4 c.requires.3 b c.put_heads.ensures
