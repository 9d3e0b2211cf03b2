-- `sheet::lent::put_line` meets its contract. After the letter, the first c columns are put. Assumes nothing.
use mathlib.Core.Path.{◌≡◌, ap, ◌∙◌}
use mathlib.Core.List.{List}
use Prim.Native.Nat.{ℕ, ◌+◌, ◌*◌, ◌<◌}
use native.Mathlib.Omega.{arith}
use lib.ListN.{length, get_or, set, take, drop, length-set}
use Rattle.columns.specs.Column.{put, column_put}
use Rattle.sheet.specs.Line.{columns}
use Rattle.sheet.proofs.RangeLaws.{number_fits}
use Rattle.sheet.proofs.PutLaws.{put-long, put-at, lent-column-put, line_put}
use Rattle.sheet.proofs.lent.put_line.Goals as goal
use Rattle.sheet.proofs.lent.put_line.Goals.{At-loop-c}

-- The text with its letter, where the columns begin.
abbrev lettered : At-loop-c → List ℕ
lettered l = set l.args.text.now l.args.at (get_or l.args.numbers.now 0 0)

begun : (l : At-loop-c) → length (lettered l) ≡ length l.args.text.now
begun l = length-set l.args.text.now l.args.at (get_or l.args.numbers.now 0 0)

pub loop-c-preserved : goal.loop-c-preserved
loop-c-preserved c =
    let e = begun (goal.at.loop-c-preserved c).At-loop-c in
    let a = c.args in
    let long = put-long a.numbers.now c.requires.4 a.text.now a.at a.fields c.requires.0 c.requires.1 in
    let more : c.loop-c.c < a.fields + 1 = omega (arith, long) in
    c.put.ensures
    ∙ ap (λ (n : ℕ). column_put c.loop-c.text (a.at + 9 * c.loop-c.c + 1) n) (put-at a.numbers.now c.requires.4 a.text.now a.at a.fields c.requires.0 c.requires.1 c.loop-c.c more)
    ∙ lent-column-put c.args.numbers.now c.requires.4 (lettered (goal.at.loop-c-preserved c).At-loop-c) c.args.at c.args.fields c.requires.0 (omega arith)
    c.loop-c.c more (number_fits c.args.numbers.now c.args.fields c.requires.4 c.requires.0 c.requires.3 c.loop-c.c more) c.loop-c.invariant

pub returns : goal.returns
returns c =
    let long = put-long c.args.numbers.now c.requires.4 c.args.text.now c.args.at c.args.fields c.requires.0 c.requires.1 in
    let e : c.loop-c.c ≡ c.args.fields + 1 = omega (arith, long) in
    ap (λ (t : List ℕ). set t (c.args.at + 9 * c.args.fields + 10) 10)
    (c.loop-c.invariant
    ∙ ap (λ (k : ℕ). put (lettered (goal.at.returns c).At-loop-c) (c.args.at + 1) (columns (take k (drop 1 c.args.numbers.now)))) e)
    ∙ line_put c.args.numbers.now c.requires.4 c.args.text.now c.args.at c.args.fields c.requires.0 c.requires.1
