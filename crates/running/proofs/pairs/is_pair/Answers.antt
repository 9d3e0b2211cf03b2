-- `is_pair` meets its contract: the rule is compared, then the carried values. Assumes nothing.
use mathlib.Core.Path.{sym, subst, ◌∙◌}
use mathlib.Core.Bool.{Bool, true, false}
use Prim.Native.Nat.{ℕ}
use Rattle.rules.specs.Inner.Tests.{Decides}
use Rattle.running.specs.Inner.Held.{row_at}
use Rattle.running.specs.Inner.Firing.{rule_at, RecordIn}
use Rattle.running.specs.Inner.Pairs.{SameCarried}
use Rattle.running.proofs.pairs.is_pair.Goals as goal

pub same-requires : goal.same-requires
same-requires c =
    (subst (RecordIn c.args.rows.now) (sym c.from-on.ensures) c.requires.3, c.requires.0, c.requires.4, c.requires.5)

decides_as : {P Q : Type 0} (b : Bool) → (P → Q) → (Q → P) → Decides P b → Decides Q b
decides_as true f g d = f d
decides_as false f g d = λ q. d (g q)

pub returns : goal.returns
returns c =
    let a = c.args in
    let on = c.from-on in
    decides_as c.same.result
    (λ s. record {
      rule = sym c.from.ensures ∙ c.if-from-r.false;
      carried = subst (λ (n : ℕ). SameCarried (rule_at a.table.now a.r) (row_at a.rows.now n) (row_at a.rows.now a.i)) on.ensures s;
    })
    (λ p. subst (λ (n : ℕ). SameCarried (rule_at a.table.now a.r) (row_at a.rows.now n) (row_at a.rows.now a.i)) (sym on.ensures) p.carried)
    c.same.ensures
