-- `report::fill_line` meets its contract. After the letter, the first c columns are put. Assumes nothing.
use mathlib.Core.Path.{◌≡◌, ap, ◌∙◌}
use mathlib.Core.List.{List, []}
use Prim.Native.Nat.{ℕ, ◌+◌, ◌*◌, ◌≤◌, ◌<◌}
use native.Mathlib.Omega.{arith}
use borrow.Author.Rules.{rules}
use lib.ListN.{length, get_or, set, take, length-set}
use lib.Seq.{paste-zero}
use Rattle.columns.specs.Column.{largest_number, put}
use Rattle.sheet.specs.Line.{columns}
use Rattle.sheet.proofs.RangeLaws.{in_range_at}
use Rattle.sheet.proofs.PutLaws.{columns_long, column-put}
use Rattle.report.proofs.Filling.{line_put}
use Rattle.report.proofs.fill_line.Goals as goal
use Rattle.report.proofs.fill_line.Goals.{At-loop-c}

-- The text with its letter, where the columns begin.
abbrev lettered : At-loop-c → List ℕ
lettered l = set l.args.text.now l.args.at l.args.letter

begun : (l : At-loop-c) → length (lettered l) ≡ length l.args.text.now
begun l = length-set l.args.text.now l.args.at l.args.letter

long : (l : At-loop-c) → length l.loop-c.text ≡ length l.args.text.now
long l =
    let e = begun l in
    ap length l.loop-c.invariant.1
    ∙ columns_long l.args.numbers.now (lettered l) l.args.at l.loop-c.c l.loop-c.invariant.0 (omega (arith, l.requires.1, l.loop-c.invariant.0))
    ∙ e

in-range : (l : At-loop-c) → l.loop-c.c < length l.args.numbers.now → get_or l.args.numbers.now l.loop-c.c 0 ≤ largest_number
in-range l = in_range_at l.args.numbers.now l.loop-c.c l.requires.0

pub loop-c-init : goal.loop-c-init
loop-c-init c = (omega arith, paste-zero _ (c.args.at + 1) [])

pub overflow_cast-number : goal.overflow_cast-number
overflow_cast-number c =
    let h = in-range (goal.at.overflow_cast-number c).At-loop-c (search rules) in
    search rules

pub loop-c-preserved : goal.loop-c-preserved
loop-c-preserved c =
    let e = begun (goal.at.loop-c-preserved c).At-loop-c in (
      omega arith,
      c.put.ensures
          ∙ column-put c.args.numbers.now (lettered (goal.at.loop-c-preserved c).At-loop-c) c.args.at c.loop-c.c (search rules) (omega (arith, c.requires.1)) (in-range (goal.at.loop-c-preserved c).At-loop-c (search rules)) c.loop-c.invariant.1,
    )

pub bounds-text-at-2 : goal.bounds-text-at-2
bounds-text-at-2 c = let e = long (goal.at.bounds-text-at-2 c).At-loop-c in omega (arith, c.requires.1)

pub shape_of-text : goal.shape_of-text
shape_of-text c = simp length-set (long (goal.at.shape_of-text c).At-loop-c)

pub returns : goal.returns
returns c =
    let ns = c.args.numbers.now in
    let e : c.loop-c.c ≡ length ns = omega arith in
    ap (λ (t : List ℕ). set t (c.args.at + 9 * length ns + 1) 10)
    (c.loop-c.invariant.1 ∙ ap (λ (k : ℕ). put (lettered (goal.at.returns c).At-loop-c) (c.args.at + 1) (columns (take k ns))) e)
    ∙ line_put ns c.args.letter c.args.text.now c.args.at c.requires.1
