-- `judging::shape::made` meets its contract. The loop's invariant: the numbers below `i` are worked out. Assumes nothing.
use mathlib.Core.Path.{◌≡◌, subst}
use mathlib.Core.List.{List, map}
use Prim.Native.Nat.{ℕ, ◌+◌, ◌*◌, ◌<◌}
use native.Mathlib.Omega.{arith}
use lib.ListN.{length, get_or, length-take}
use Rattle.patterns.specs.Pattern.{numbers_pattern}
use Rattle.rules.specs.Table.{rule_in, row_bytes}
use Rattle.judging.specs.Inner.Codes.{CodeIs, made_number}
use Rattle.rules.proofs.RuleLaws.{RowFits, row_fits, head_at, head_below, head_fits, Width, Mark, head_width_read, head_mark_read}
use Rattle.judging.proofs.RuleLaws.{Filled, filled_none, filled_more, filled_all, made_of}
use Rattle.judging.proofs.shape.made.Goals as goal
use Rattle.judging.proofs.shape.made.Goals.{Start, After-rule_byte-width, In-loop-i}

row : (c : Start) → RowFits (row_bytes c.args.table.now c.args.r)
row c = row_fits c.args.table.now c.args.rules c.args.r c.requires.0 c.requires.1

few : (c : Start) → c.args.h < 4
few c = head_below _ (row c).size (row c).fits c.args.h c.requires.2

width : (c : After-rule_byte-width) → Width (head_at (row_bytes c.args.table.now c.args.r) (32 + 8 * c.args.h)).marks c.rule_byte-width.result
width c = head_width_read (row_fits c.args.table.now c.args.rules c.args.r c.requires.0 c.requires.1) c.args.h c.requires.2 c.rule_byte-width.result c.rule_byte-width.ensures.0

-- Mark i of the H line.
module _ {bytes : List ℕ} (fits : RowFits bytes) (h : ℕ) (there : h < get_or bytes 28 0) (i : ℕ) (low : i < length (head_at bytes (32 + 8 * h)).marks) where
  mark : (m : ℕ) → m ≡ get_or bytes (32 + 8 * h + 2 + i) 0 → Mark (head_at bytes (32 + 8 * h)).marks i m
  mark m read = head_mark_read fits h there i m low read

-- The loop stands at one of its marks.
low : (c : In-loop-i) → (c.loop-i.i < length (head_at (row_bytes c.args.table.now c.args.r) (32 + 8 * c.args.h)).marks) × (c.loop-i.i < 6)
low c =
    let w = head_width_read (row_fits c.args.table.now c.args.rules c.args.r c.requires.0 c.requires.1) c.args.h c.requires.2 c.rule_byte-width.result c.rule_byte-width.ensures.0 in
    let s = c.loop-i.invariant.size in
    let l = c.loop-i-test.true in
    let z = c.loop-i.auto.numbers in (omega arith, omega (arith, w.is, w.few))

pub overflow_mul-at : goal.overflow_mul-at
overflow_mul-at c = let l = few (goal.at.overflow_mul-at c).Start in omega arith

pub overflow_add-at : goal.overflow_add-at
overflow_add-at c = let l = few (goal.at.overflow_add-at c).Start in omega arith

pub overflow_add-at-2 : goal.overflow_add-at-2
overflow_add-at-2 c = let l = few (goal.at.overflow_add-at-2 c).Start in omega arith

pub rule_byte-width-requires : goal.rule_byte-width-requires
rule_byte-width-requires c =
    let l = few (goal.at.rule_byte-width-requires c).Start in
    (c.requires.0.size, omega (arith, c.requires.0.few, c.requires.1), omega arith)

pub slice_bounds-room-end : goal.slice_bounds-room-end
slice_bounds-room-end c = (width (goal.at.slice_bounds-room-end c).After-rule_byte-width).few

pub slice_bounds-numbers-end : goal.slice_bounds-numbers-end
slice_bounds-numbers-end c =
    let w = width (goal.at.slice_bounds-numbers-end c).After-rule_byte-width in
    omega (arith, w.few, length-take {A = ℕ})

pub loop-i-init : goal.loop-i-init
loop-i-init c =
    let w = width (goal.at.loop-i-init c).After-rule_byte-width in
    filled_none _ c.args.digits _ _ (omega (arith, w.is, w.few, length-take {A = ℕ}))

pub overflow_add-at-in-loop-i : goal.overflow_add-at-in-loop-i
overflow_add-at-in-loop-i c =
    let l = few (goal.at.overflow_add-at-in-loop-i c).Start in omega arith

pub overflow_add-at-in-loop-i-2 : goal.overflow_add-at-in-loop-i-2
overflow_add-at-in-loop-i-2 c =
    let l = few (goal.at.overflow_add-at-in-loop-i-2 c).Start in
    let i = low (goal.at.overflow_add-at-in-loop-i-2 c).In-loop-i in omega arith

pub rule_byte-requires : goal.rule_byte-requires
rule_byte-requires c =
    let l = few (goal.at.rule_byte-requires c).Start in
    let i = low (goal.at.rule_byte-requires c).In-loop-i in
    (c.requires.0.size, omega (arith, c.requires.0.few, c.requires.1), omega arith)

pub made_number-requires : goal.made_number-requires
made_number-requires c =
    let p = c.requires in
    let m = mark (row (goal.at.made_number-requires c).Start) c.args.h p.2 c.loop-i.i (low (goal.at.made_number-requires c).In-loop-i).0 _ c.rule_byte.ensures.0 in
    (p.0, p.1, m.few, p.3)

pub loop-i-preserved : goal.loop-i-preserved
loop-i-preserved c =
    let l = (low (goal.at.loop-i-preserved c).In-loop-i).0 in
    let m = mark (row (goal.at.loop-i-preserved c).Start) c.args.h c.requires.2 c.loop-i.i l _ c.rule_byte.ensures.0 in
    filled_more _ c.args.digits _ c.loop-i.numbers c.loop-i.i c.rule_byte.result c.made_number.result l c.loop-i.invariant m c.made_number.ensures

pub rule_byte-requires-2 : goal.rule_byte-requires-2
rule_byte-requires-2 c =
    let l = few (goal.at.rule_byte-requires-2 c).Start in
    (c.requires.0.size, omega (arith, c.requires.0.few, c.requires.1), omega arith)

pub shape_code-requires : goal.shape_code-requires
shape_code-requires c =
    let r = row (goal.at.shape_code-requires c).Start in
    let f = head_fits _ r.size r.fits c.args.h c.requires.2 in
    let e = c.rule_byte-2.ensures.0 in
    let w = width (goal.at.shape_code-requires c).After-rule_byte-width in
    let s = c.loop-i.invariant.size in
    ((omega (arith, f.kind), omega (arith, f.kind)), omega (arith, w.is, w.some), omega (arith, w.is, w.few))

pub returns : goal.returns
returns c =
    let a = c.args in
    let line = (head_at (row_bytes a.table.now a.r) (32 + 8 * a.h)).marks in
    let marks = (rule_in (row_bytes a.table.now a.r)).marks in
    let i : c.loop-i.i ≡ length line = omega (arith, c.loop-i-test.false, c.loop-i.invariant.within, c.loop-i.invariant.size, c.loop-i.auto.numbers) in
    let all : c.loop-i.numbers ≡ map (made_number marks a.digits) line =
    filled_all marks a.digits line c.loop-i.numbers (subst (λ (n : ℕ). Filled marks a.digits line c.loop-i.numbers n) i c.loop-i.invariant) in
    made_of (row (goal.at.returns c).Start) a.h c.requires.2 a.digits c.loop-i.numbers c.shape_code.result all
    (subst (λ (k : ℕ). CodeIs k (numbers_pattern c.loop-i.numbers) c.shape_code.result) c.rule_byte-2.ensures.0 c.shape_code.ensures)
