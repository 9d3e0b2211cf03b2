-- `add` meets its contract: the row is there, or there is no room, or it is put after the others. Assumes nothing.
use mathlib.Core.Path.{◌≡◌, sym, ◌∙◌}
use Prim.Native.Nat.{ℕ, ◌<◌}
use native.Mathlib.Omega.{arith}
use Rattle.running.specs.Inner.Held.{row_at}
use Rattle.running.proofs.RecordLaws.{found_there, found_nowhere, grown_there, grown_over, grown_more}
use Rattle.running.proofs.records.add.Goals as goal
use Rattle.running.proofs.records.add.Goals.{Else-is_some}

pub find-requires : goal.find-requires
find-requires c =
    (c.requires.0, c.requires.1, c.bucket-b.ensures.0, c.bucket-b.ensures.1)

nowhere : (c : Else-is_some) → (j : ℕ) → j < c.args.count → row_at c.args.rows.now j ≡ c.args.row.now → ⊥
nowhere c = found_nowhere (λ j. row_at c.args.rows.now j ≡ c.args.row.now) c.args.count c.find.result c.find.ensures (sym c.is_some.ensures ∙ c.if-is_some.false)

pub returns-then-is_some : goal.returns-then-is_some
returns-then-is_some c =
    let a = c.args in
    let f = found_there (λ j. row_at a.rows.now j ≡ a.row.now) a.count c.find.result c.find.ensures (sym c.is_some.ensures ∙ c.if-is_some.true) in
    (c.requires.0.few, grown_there a.rows.now a.index.now a.by a.count c.requires.0 a.row.now c.requires.2 f.0 f.1 f.2)

pub returns-then-count-eq4096 : goal.returns-then-count-eq4096
returns-then-count-eq4096 c =
    let a = c.args in
    (4097, omega arith, grown_over a.rows.now a.index.now a.by a.count c.requires.0 a.row.now c.requires.2 (nowhere (goal.at.returns-then-count-eq4096 c).Else-is_some) c.if-count-eq4096.true)

pub returns : goal.returns
returns c =
    let a = c.args in
    let b = c.bucket-b in (
      omega (arith, c.requires.0.few, c.if-count-eq4096.false),
      grown_more a.rows.now a.index.now a.by a.count c.requires.0 a.row.now c.requires.2 (nowhere (goal.at.returns c).Else-is_some) c.if-count-eq4096.false c.requires.1
          b.result b.ensures.0 b.ensures.1 c.put.ensures c.push.ensures,
    )
