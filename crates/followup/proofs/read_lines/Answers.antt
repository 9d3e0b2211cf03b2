-- `followup::read_lines` meets its contract: a law of `ReadLaws`. Assumes nothing.
use mathlib.Core.Path.{◌≡◌, sym, subst, ap, ◌∙◌}
use mathlib.Core.List.{◌++◌}
use Prim.Native.Nat.{ℕ, ◌*◌, ◌/◌, ◌≤◌, min}
use native.Mathlib.Omega.{arith}
use lib.ListN.{length, take, drop}
use lib.Seq.{length-take-le, length_front}
use Rattle.followup.specs.Reply.{ReadsBytes}
use Rattle.followup.proofs.LineCounts.{lines_in}
use Rattle.followup.proofs.ReadLaws.{reads_bytes, lines_fit}
use Rattle.followup.proofs.read_lines.Goals as goal
use Rattle.followup.proofs.read_lines.Goals.{After-read_numbers-said}

-- how many numbers are lent to `read_numbers`, and how many lines there is room for
abbrev lent : After-read_numbers-said → ℕ
lent c = 8 * c.least-room.result

abbrev most : After-read_numbers-said → ℕ
most c = length c.args.numbers.now / 8

enough : (c : After-read_numbers-said) → lines_in c.args.text.now ≤ most c
enough c = omega (arith, c.requires)

room : (c : After-read_numbers-said) → length (take (lent c) c.args.numbers.now) ≡ 8 * min (length c.args.lines.now / 4 / 8) (most c)
room c = length-take-le _ _ (omega (arith, c.least-room.ensures)) ∙ ap (λ k. 8 * k) c.least-room.ensures

-- the numbers after reading are as many as before
whole : (c : After-read_numbers-said) → length (c.read_numbers-said.new.numbers ++ drop (lent c) c.args.numbers.now) ≡ length c.args.numbers.now
whole c = length_front c.args.numbers.now c.read_numbers-said.new.numbers (lent c) c.read_numbers-said.auto.numbers

few : (c : After-read_numbers-said) → 8 * c.read_numbers-said.result.count ≤ 8 * min (length c.args.lines.now / 4 / 8) (most c)
few c =
    rw (room c) at (lines_fit c.args.text.now (take (lent c) c.args.numbers.now) _ c.read_numbers-said.result c.read_numbers-said.ensures)

pub slice_bounds-read_numbers-end-2 : goal.slice_bounds-read_numbers-end-2
slice_bounds-read_numbers-end-2 c = sym (length-take-le _ _ (omega (arith, c.least-room.ensures)))

pub overflow_mul-said : goal.overflow_mul-said
overflow_mul-said c = omega (arith, few (goal.at.overflow_mul-said c).After-read_numbers-said)

pub encode_u32-requires : goal.encode_u32-requires
encode_u32-requires c =
    (omega (arith, few (goal.at.encode_u32-requires c).After-read_numbers-said, whole (goal.at.encode_u32-requires c).After-read_numbers-said), omega (arith, few (goal.at.encode_u32-requires c).After-read_numbers-said))

pub returns : goal.returns
returns c =
    let a = c.args in
    subst (ReadsBytes a.text.now a.lines.now c.read_numbers-said.result) (sym c.encode_u32.ensures)
    (reads_bytes a.text.now a.lines.now _ _ (most (goal.at.returns c).After-read_numbers-said) (enough (goal.at.returns c).After-read_numbers-said) (room (goal.at.returns c).After-read_numbers-said) c.read_numbers-said.result c.read_numbers-said.ensures _)
