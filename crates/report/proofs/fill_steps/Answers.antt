-- `report::fill_steps` meets its contract. The loop's invariant: the lines of the first k steps are put. Assumes nothing.
use mathlib.Core.Path.{◌≡◌, ap, ◌∙◌}
use mathlib.Core.List.{List, []}
use Prim.Native.Nat.{ℕ, ◌+◌, ◌*◌, ◌/◌, ◌<◌}
use native.Mathlib.Omega.{arith}
use lib.ListN.{length, get_or, take, drop}
use lib.Seq.{length-take-le, get_or-take, paste-zero}
use Rattle.std.specs.Simd.{first_chunks}
use Rattle.columns.specs.Column.{put}
use Rattle.report.specs.Lines.{line_text}
use Rattle.report.specs.Report.{letter_s, step_lines}
use Rattle.report.proofs.Filling.{length_five, part_at, step_put}
use Rattle.report.proofs.fill_steps.Goals as goal
use Rattle.report.proofs.fill_steps.Goals.{After-loop-k, In-loop-k, After-numbers_of-numbers}

-- So many steps are whole.
whole : (c : After-loop-k) → length (take c.args.count c.as_chunks.result.0.now) ≡ c.args.count
whole c =
    let parts : length c.as_chunks.result.0.now ≡ length c.args.steps.now / 5 = c.as_chunks.ensures.front_len in
    length-take-le c.args.count c.as_chunks.result.0.now (omega (arith, parts, c.requires.0))

low : (c : In-loop-k) → c.loop-k.k < c.args.count
low c =
    let parts : length c.as_chunks.result.0.now ≡ length c.args.steps.now / 5 = c.as_chunks.ensures.front_len in
    omega (arith, c.loop-k-test.true, length-take-le c.args.count c.as_chunks.result.0.now (omega (arith, parts, c.requires.0)))

five : (c : After-numbers_of-numbers) → c.loop-k.k < c.args.count → c.numbers_of-numbers.result ≡ take 5 (drop (5 * c.loop-k.k) c.args.steps.now)
five c h =
    let parts : c.as_chunks.result.0.now ≡ first_chunks 5 (length c.args.steps.now / 5) c.args.steps.now = c.as_chunks.ensures.front in
    c.numbers_of-numbers.ensures.0
    ∙ get_or-take c.args.count c.as_chunks.result.0.now c.loop-k.k [] h
    ∙ ap (λ (p : List (List ℕ)). get_or p c.loop-k.k []) parts
    ∙ part_at 5 (length c.args.steps.now / 5) c.args.steps.now c.loop-k.k (omega (arith, c.requires.0))

pub loop-k-init : goal.loop-k-init
loop-k-init c = paste-zero _ 74 []

pub fill_line-requires : goal.fill_line-requires
fill_line-requires c =
    let here = goal.at.fill_line-requires c in
    let h = low here.In-loop-k in
    let size : length c.numbers_of-numbers.result ≡ 5 =
    ap length (five here.After-numbers_of-numbers h) ∙ length_five c.loop-k.k c.args.steps.now (omega (arith, h, c.requires.0)) in
    (c.numbers_of-numbers.ensures.1, omega (arith, h, size, c.requires.1))

pub loop-k-preserved : goal.loop-k-preserved
loop-k-preserved c =
    let here = goal.at.loop-k-preserved c in
    let h = low here.In-loop-k in
    let k = c.loop-k.k in
    c.fill_line.ensures
    ∙ ap (λ (t : List ℕ). put t (74 + 47 * k) (line_text letter_s c.numbers_of-numbers.result)) c.loop-k.invariant
    ∙ step_put c.args.text.now k c.args.steps.now c.numbers_of-numbers.result (five here.After-numbers_of-numbers h) (omega (arith, h, c.requires.0)) (omega (arith, h, c.requires.1))

pub returns : goal.returns
returns c =
    let e : c.loop-k.k ≡ c.args.count = omega (arith, c.loop-k.auto.k-end, c.loop-k-test.false, whole (goal.at.returns c).After-loop-k) in
    c.loop-k.invariant ∙ ap (λ (k : ℕ). put c.args.text.now 74 (step_lines k c.args.steps.now)) e
