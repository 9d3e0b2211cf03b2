-- `judging::search::row_code` meets its contract: the part of the lines that is lent holds the values of the row. Assumes nothing.
use mathlib.Core.Path.{◌≡◌, subst}
use Prim.Native.Nat.{ℕ, ◌+◌, ◌-◌, ◌*◌}
use native.Mathlib.Omega.{arith}
use lib.ListN.{get_or, take, drop}
use Rattle.patterns.specs.Pattern.{numbers_pattern}
use Rattle.judging.specs.Inner.Codes.{CodeIs}
use Rattle.judging.proofs.search.row_code.Goals as goal

pub returns : goal.returns
returns c =
    let e : 8 * c.args.n + 2 + c.args.width - (8 * c.args.n + 2) ≡ c.args.width = omega arith in
    subst
    (λ (w : ℕ).
    CodeIs (get_or c.args.lines.now (8 * c.args.n + 1) 0) (numbers_pattern (take w (drop (8 * c.args.n + 2) c.args.lines.now)))
    c.shape_code.result)
    e
    c.shape_code.ensures
