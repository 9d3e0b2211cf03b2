-- `judging::shape::first_field` meets its contract: the mark is read, and then its first place. Assumes nothing.
use mathlib.Core.Path.{◌≡◌, refl}
use mathlib.Core.List.{List}
use Prim.Native.Nat.{ℕ, ◌+◌, ◌<◌}
use native.Mathlib.Omega.{arith}
use lib.ListN.{length, get_or}
use Rattle.rules.specs.Table.{rule_in, row_bytes}
use Rattle.rules.proofs.RuleLaws.{RowFits, row_fits, Mark, width_read, mark_read, place_few, place-some, place_field}
use Rattle.judging.proofs.shape.first_field.Goals as goal
use Rattle.judging.proofs.shape.first_field.Goals.{Start}

row : (c : Start) → RowFits (row_bytes c.args.table.now c.args.r)
row c = row_fits c.args.table.now c.args.rules c.args.r c.requires.0 c.requires.1

module _ {bytes : List ℕ} (fits : RowFits bytes) (i : ℕ) (low : i < get_or bytes 1 0) where
  within : (i < length (rule_in bytes).marks) × (i < 6)
  within = let w = width_read fits _ refl in (omega (arith, w.is), omega (arith, w.few))

  mark : (m : ℕ) → m ≡ get_or bytes (2 + i) 0 → Mark (rule_in bytes).marks i m
  mark m read = mark_read fits i m within.0 read

pub overflow_add-i : goal.overflow_add-i
overflow_add-i c = let w = within (row (goal.at.overflow_add-i c).Start) c.args.i c.requires.2 in omega arith

pub rule_byte-mark-requires : goal.rule_byte-mark-requires
rule_byte-mark-requires c =
    let p = c.requires in
    let w = within (row (goal.at.rule_byte-mark-requires c).Start) c.args.i p.2 in
    (p.0.size, omega (arith, p.0.few, p.1), omega arith)

pub rule_byte-requires : goal.rule_byte-requires
rule_byte-requires c =
    let p = c.requires in
    let m = mark (row (goal.at.rule_byte-requires c).Start) c.args.i p.2 _ c.rule_byte-mark.ensures.0 in
    (p.0.size, omega (arith, p.0.few, p.1), omega arith)

pub overflow_sub-result : goal.overflow_sub-result
overflow_sub-result c =
    let r = row (goal.at.overflow_sub-result c).Start in
    place-some r c.args.i c.rule_byte-mark.result c.rule_byte.result (within r c.args.i c.requires.2).0 (mark r c.args.i c.requires.2 _ c.rule_byte-mark.ensures.0) c.rule_byte.ensures.0

pub returns : goal.returns
returns c =
    let r = row (goal.at.returns c).Start in
    let m = mark r c.args.i c.requires.2 _ c.rule_byte-mark.ensures.0 in
    let few = place_few r c.rule_byte-mark.result c.rule_byte.result m.few c.rule_byte.ensures.0 in
    let some = place-some r c.args.i c.rule_byte-mark.result c.rule_byte.result (within r c.args.i c.requires.2).0 m c.rule_byte.ensures.0 in
    (place_field r c.args.i c.rule_byte-mark.result c.rule_byte.result m c.rule_byte.ensures.0, omega arith)
