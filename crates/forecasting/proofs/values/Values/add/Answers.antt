-- `forecasting::values::Values::add` meets its contract: the value is there, or it is put after the others. Assumes nothing.
use native.Mathlib.Omega.{arith}
use mathlib.Core.Path.{refl, sym, ap, ◌∙◌}
use mathlib.Core.Bool.{false≢true}
use lib.ListN.{length}
use Rattle.std.proofs.Math.Decide.{ℕ_discrete}
use Rattle.patterns.specs.Pattern.{add}
use Rattle.chase.proofs.ListLaws.{add_there}
use Rattle.forecasting.proofs.ValueLaws.{size_of, stored_new, added_new}
use Rattle.forecasting.proofs.values.Values.add.Goals as goal

pub returns-then-has : goal.returns-then-has
returns-then-has c = sym (add_there ℕ_discrete c.args.x c.args.self.now (c.if-has.ensures.0 refl))

pub invariant_of-self : goal.invariant_of-self
invariant_of-self c =
    let s = c.self.invariant in
    let b = c.bucket-b.ensures in
    stored_new s c.args.x (omega (arith, c.requires, size_of s, ap length c.self.view_is)) _ b.0 b.1

pub returns : goal.returns
returns c =
    let s = c.self.invariant in
    let b = c.bucket-b.ensures in
    added_new s c.args.x (omega (arith, c.requires, size_of s, ap length c.self.view_is)) _ b.0 b.1
    (λ m. false≢true (c.if-has.ensures.1 (rw c.self.view_is at m)))
    ∙ ap (add ℕ_discrete c.args.x) c.self.view_is
