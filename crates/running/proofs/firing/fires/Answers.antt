-- `fires` meets its contract. The loop's invariant: the numbers before place k are those of their marks' first places. Assumes nothing.
use mathlib.Core.Path.{◌≡◌, sym, ap, ◌∙◌}
use Prim.Native.Nat.{ℕ, ◌+◌, ◌<◌}
use native.Mathlib.Omega.{arith}
use lib.ListN.{length, get_or}
use Rattle.rules.specs.Table.{row_bytes}
use Rattle.rules.proofs.RuleLaws.{RowFits, row_fits, Width, Mark, width_read, mark_read, place_few, place-some, place_field}
use Rattle.rules.proofs.FirstPlaces.{first_field}
use Rattle.running.specs.Inner.Held.{code_of, row_at}
use Rattle.running.specs.Inner.Firing.{rule_at}
use Rattle.running.proofs.FiringLaws.{equal_more, other_code, unequal, equal}
use Rattle.running.proofs.firing.fires.Goals as goal
use Rattle.running.proofs.firing.fires.Goals.{After-rule_byte-mark, After-rule_byte-place, After-rule_byte-width, In-loop-k, Start}

row : (c : Start) → RowFits (row_bytes c.args.table.now c.args.r)
row c = row_fits c.args.table.now c.args.rules c.args.r c.requires.1 c.requires.2

width : (c : After-rule_byte-width) → Width (rule_at c.args.table.now c.args.r).marks c.rule_byte-width.result
width c = width_read (row_fits c.args.table.now c.args.rules c.args.r c.requires.1 c.requires.2) c.rule_byte-width.result c.rule_byte-width.ensures.0

below : (c : In-loop-k) → c.loop-k.k < length (rule_at c.args.table.now c.args.r).marks
below c =
    let w = width_read (row_fits c.args.table.now c.args.rules c.args.r c.requires.1 c.requires.2) c.rule_byte-width.result c.rule_byte-width.ensures.0 in
    omega (arith, w.is)

mark : (c : After-rule_byte-mark) → Mark (rule_at c.args.table.now c.args.r).marks c.loop-k.k c.rule_byte-mark.result
mark c =
    let row = row_fits c.args.table.now c.args.rules c.args.r c.requires.1 c.requires.2 in
    let w = width_read row c.rule_byte-width.result c.rule_byte-width.ensures.0 in
    mark_read row c.loop-k.k c.rule_byte-mark.result (omega (arith, w.is)) c.rule_byte-mark.ensures.0

first : (c : After-rule_byte-place) → c.rule_byte-place.result ≡ 1 + first_field (rule_at c.args.table.now c.args.r).marks c.loop-k.k
first c =
    let row = row_fits c.args.table.now c.args.rules c.args.r c.requires.1 c.requires.2 in
    let w = width_read row c.rule_byte-width.result c.rule_byte-width.ensures.0 in
    let below : c.loop-k.k < length (rule_at c.args.table.now c.args.r).marks = omega (arith, w.is) in
    let mark = mark_read row c.loop-k.k c.rule_byte-mark.result below c.rule_byte-mark.ensures.0 in
    let a = place_field row c.loop-k.k c.rule_byte-mark.result c.rule_byte-place.result mark c.rule_byte-place.ensures.0 in
    let b = place-some row c.loop-k.k c.rule_byte-mark.result c.rule_byte-place.result below mark c.rule_byte-place.ensures.0 in
    omega arith

pub returns-then-rule_byte-width : goal.returns-then-rule_byte-width
returns-then-rule_byte-width c =
    let n = c.rule_byte-width.result in
    other_code (row (goal.at.returns-then-rule_byte-width c).Start) c.requires.0.packed n (width (goal.at.returns-then-rule_byte-width c).After-rule_byte-width)
    (λ e. c.if-rule_byte-width.true (ap (λ (k : ℕ). code_of k n) c.rule_byte.ensures.0 ∙ e ∙ sym c.cell.ensures.0))

pub rule_byte-mark-requires : goal.rule_byte-mark-requires
rule_byte-mark-requires c =
    let p = c.requires in
    let w = width (goal.at.rule_byte-mark-requires c).After-rule_byte-width in
    (p.1.size, omega (arith, p.1.few, p.2), omega arith)

pub rule_byte-place-requires : goal.rule_byte-place-requires
rule_byte-place-requires c =
    let p = c.requires in
    let m = mark (goal.at.rule_byte-place-requires c).After-rule_byte-mark in
    (p.1.size, omega (arith, p.1.few, p.2), omega arith)

pub cell-requires-in-loop-k : goal.cell-requires-in-loop-k
cell-requires-in-loop-k c =
    let p = c.requires in
    let w = width (goal.at.cell-requires-in-loop-k c).After-rule_byte-width in
    (p.0.small, omega (arith, c.loop-k-test.true), p.0.inside)

pub cell-requires-in-loop-k-2 : goal.cell-requires-in-loop-k-2
cell-requires-in-loop-k-2 c =
    let p = c.requires in (
      p.0.small,
      omega (arith, place_few (row (goal.at.cell-requires-in-loop-k-2 c).Start) c.rule_byte-mark.result c.rule_byte-place.result (mark (goal.at.cell-requires-in-loop-k-2 c).After-rule_byte-mark).few c.rule_byte-place.ensures.0),
      p.0.inside,
    )

pub returns-then-cell : goal.returns-then-cell
returns-then-cell c =
    unequal (row (goal.at.returns-then-cell c).Start) c.requires.0.packed c.loop-k.k (below (goal.at.returns-then-cell c).In-loop-k)
    (λ e. c.if-cell.true (c.cell-in-loop-k.ensures.0 ∙ e ∙ ap (λ (n : ℕ). get_or (row_at c.args.rows.now c.args.i) n 0) (sym (first (goal.at.returns-then-cell c).After-rule_byte-place)) ∙ sym c.cell-in-loop-k-2.ensures.0))

pub loop-k-preserved : goal.loop-k-preserved
loop-k-preserved c =
    equal_more c.loop-k.invariant c.loop-k-test.true
    (sym c.cell-in-loop-k.ensures.0 ∙ c.if-cell.false ∙ c.cell-in-loop-k-2.ensures.0 ∙ ap (λ (n : ℕ). get_or (row_at c.args.rows.now c.args.i) n 0) (first (goal.at.loop-k-preserved c).After-rule_byte-place))

pub returns : goal.returns
returns c =
    let n = c.rule_byte-width.result in
    equal (row (goal.at.returns c).Start) c.requires.0.packed n c.loop-k.k (width (goal.at.returns c).After-rule_byte-width)
    (sym (ap (λ (k : ℕ). code_of k n) c.rule_byte.ensures.0) ∙ c.if-rule_byte-width.false ∙ c.cell.ensures.0) c.loop-k-test.false c.loop-k.invariant
