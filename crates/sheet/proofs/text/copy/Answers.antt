-- `sheet::text::copy` meets its contract. The loop's invariant: the first i numbers are copied. Assumes nothing.
use mathlib.Core.Path.{◌≡◌, refl}
use Prim.Native.Nat.{ℕ, ◌<◌}
use native.Mathlib.Nat.{zero-add}
use native.Mathlib.Numerals.{add-one}
use native.Mathlib.Omega.{arith}
use borrow.Author.Rules.{rules}
use lib.ListN.{length, length-set}
use lib.Seq.{paste-suc}
use Rattle.sheet.proofs.text.copy.Goals as goal

pub loop-i-init : goal.loop-i-init
loop-i-init c = (search rules, refl, refl)

pub loop-i-preserved : goal.loop-i-preserved
loop-i-preserved c =
    let i : ℕ = c.loop-i.i in
    let room : i < length c.args.lines.now = omega arith in
    let held : i < length c.args.numbers.now = search rules in (
      search rules,
      rw (c.loop-i.invariant.1, add-one) (simp zero-add at (paste-suc c.args.lines.now 0 c.args.numbers.now i 0 (omega arith) held)),
      simp length-set c.loop-i.invariant.2,
    )

pub returns : goal.returns
returns c = let all : c.loop-i.i ≡ c.args.count = omega arith in rw all at c.loop-i.invariant.1
