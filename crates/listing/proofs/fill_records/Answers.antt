-- `listing::fill_records` meets its contract. The invariant: the records so far are put. Assumes nothing.
use mathlib.Core.Path.{◌≡◌, sym, subst, ap, ◌∙◌}
use mathlib.Core.List.{List, []}
use Prim.Native.Nat.{ℕ, ◌/◌, ◌<◌, ◌≤◌}
use native.Mathlib.Omega.{arith}
use lib.ListN.{length, get_or, take}
use lib.Seq.{length-take-le, get_or-take}
use Rattle.std.specs.Simd.{first_chunks}
use Rattle.report.proofs.Filling.{part_at}
use Rattle.listing.specs.Inner.Records.{record_at, Printable}
use Rattle.listing.proofs.RecordLaws.{filling_more, filling_done}
use Rattle.listing.proofs.fill_records.Goals as goal
use Rattle.listing.proofs.fill_records.Goals.{After-as_chunks, In-loop-record}

-- So many records are whole.
whole : (c : After-as_chunks) → c.args.count ≤ length c.as_chunks.result.0.now
whole c =
    let parts : length c.as_chunks.result.0.now ≡ length c.args.records.now / 8 = c.as_chunks.ensures.front_len in
    omega (arith, parts, c.requires.0.inside)

here : (c : In-loop-record) → c.args.count ≤ length c.as_chunks.result.0.now → c.loop-record.record-index < c.args.count
here c h = omega (arith, c.loop-record-test.true, length-take-le c.args.count c.as_chunks.result.0.now h)

item : (c : In-loop-record) → c.loop-record.record-index < c.args.count → get_or (take c.args.count c.as_chunks.result.0.now) c.loop-record.record-index [] ≡ record_at c.args.records.now c.loop-record.record-index
item c low =
    let parts : c.as_chunks.result.0.now ≡ first_chunks 8 (length c.args.records.now / 8) c.args.records.now = c.as_chunks.ensures.front in
    get_or-take c.args.count c.as_chunks.result.0.now c.loop-record.record-index [] low
    ∙ ap (λ (p : List (List ℕ)). get_or p c.loop-record.record-index []) parts
    ∙ part_at 8 (length c.args.records.now / 8) c.args.records.now c.loop-record.record-index (omega (arith, low, c.requires.0.inside))

pub fill_record-at-requires : goal.fill_record-at-requires
fill_record-at-requires c =
    let p = goal.at.fill_record-at-requires c in
    let low = here p.In-loop-record (whole p.After-as_chunks) in
    let f = c.loop-record.invariant in (
      subst (Printable c.args.widths.now) (sym (item p.In-loop-record low)) (c.requires.0.each c.loop-record.record-index low),
      omega (arith, f.put_so.short, f.long, low, c.requires.0.few, c.requires.1),
    )

pub loop-record-preserved : goal.loop-record-preserved
loop-record-preserved c =
    let p = goal.at.loop-record-preserved c in
    let low = here p.In-loop-record (whole p.After-as_chunks) in
    let put = rw (item p.In-loop-record low) at c.fill_record-at.ensures in
    filling_more c.loop-record.invariant c.requires.0 low c.requires.1 _ _ c.fill_record-at.auto.text put.0 put.1 put.2

pub returns : goal.returns
returns c =
    filling_done c.loop-record.invariant
    (omega (arith, c.loop-record-test.false, length-take-le c.args.count c.as_chunks.result.0.now (whole (goal.at.returns c).After-as_chunks)))
