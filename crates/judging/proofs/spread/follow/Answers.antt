-- `spread::follow` meets its contract. Assumes nothing.
use mathlib.Core.Path.{refl, sym, ap, ◌∙◌}
use mathlib.Core.Logic.{inl, inr}
use Prim.Native.Nat.{ℕ, ◌+◌, ◌*◌}
use native.Mathlib.Omega.{arith}
use Rattle.judging.specs.Inner.Nodes.{weight}
use Rattle.judging.specs.declared.spread.Raised.TheVariants.{Node, Over}
use Rattle.judging.proofs.PassLaws.{lifted, not_over}
use Rattle.judging.proofs.spread.follow.Goals as goal

pub returns-then-n-x : goal.returns-then-n-x
returns-then-n-x c =
    let e = c.field.ensures in
    let f = c.field-2.ensures in
    let t = c.if-field-x.false in
    let q = c.if-n-x.true in
    let v = 7 * c.args.t + c.args.j in
    lifted c.requires.0 (7 * c.args.s + c.args.p) v c.args.link (omega arith) (omega arith) (Over v) refl refl (inr (omega arith, refl))
    (not_over c.args.last (sym c.is_over.ensures ∙ c.if-is_over.false))
    (ap (λ (x : ℕ). x + weight c.args.link) e) c.put_field.ensures c.put_raise.ensures (omega arith)

pub returns : goal.returns
returns c =
    let e = c.field.ensures in
    let f = c.field-2.ensures in
    let t = c.if-field-x.false in
    let q = c.if-n-x.false in
    let v = 7 * c.args.t + c.args.j in
    lifted c.requires.0 (7 * c.args.s + c.args.p) v c.args.link (omega arith) (omega arith) (Node v) refl refl (inl (omega arith, refl))
    (not_over c.args.last (sym c.is_over.ensures ∙ c.if-is_over.false))
    (ap (λ (x : ℕ). x + weight c.args.link) e) c.put_field.ensures c.put_raise.ensures (omega arith)
