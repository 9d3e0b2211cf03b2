-- `is_row` meets its contract: the row's seven numbers are compared. Assumes nothing.
use mathlib.Core.Path.{◌≡◌, refl, sym, ap, ◌∙◌}
use mathlib.Core.Bool.{Bool, true, false, false≢true}
use Prim.Native.Nat.{ℕ, ◌+◌, ◌-◌, ◌*◌}
use native.Mathlib.Omega.{arith}
use lib.ListN.{take, drop}
use Rattle.std.proofs.lemmas.Bool.Decides.{Decides-eqb}
use Rattle.std.proofs.lemmas.Slice.Eq.{slice_eq-Decides}
use Rattle.rules.specs.Inner.Tests.{Decides}
use Rattle.running.specs.Inner.Held.{row_at}
use Rattle.running.proofs.records.is_row.Goals as goal
use Rattle.running.proofs.records.is_row.Goals.{After-eq}

decided : {P : Type 0} (b : Bool) → (b ≡ true → P) → (P → b ≡ true) → Decides P b
decided true f g = f refl
decided false f g = λ p. false≢true (g p)

-- The seven numbers at the record's place.
here : (c : After-eq) → take (7 * c.args.i + 7 - 7 * c.args.i) (drop (7 * c.args.i) c.args.rows.now) ≡ row_at c.args.rows.now c.args.i
here c = ap (λ (n : ℕ). take n (drop (7 * c.args.i) c.args.rows.now)) (let e : 7 * c.args.i + 7 - 7 * c.args.i ≡ 7 = omega arith in e)

pub returns : goal.returns
returns c =
    let same = slice_eq-Decides Decides-eqb _ _ c.eq.result c.eq.ensures in decided c.eq.result (λ t. sym (here c) ∙ same.0 t) (λ e. same.1 (here c ∙ e))
