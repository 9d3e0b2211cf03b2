-- `order::walked` meets its contract. The measures are the shapes left to shelve, the roots left, and twice the shapes without a mark plus the depth. Assumes nothing.
use mathlib.Core.Path.{◌≡◌}
use mathlib.Core.Bool.{false}
use Prim.Native.Nat.{ℕ, ◌+◌, ◌-◌, ◌*◌, ◌<◌, ◌≤◌}
use lib.ListN.{length, get_or}
use Rattle.judging.proofs.OrderLaws.{marked, Walk}
use Rattle.judging.proofs.order.walked.Given as goal

abbrev pub invariant-loop-left : goal.invariant-loop-left
invariant-loop-left l =
    (length l.next ≡ 513) × ((x : ℕ) → x < l.left → get_or l.marks x false ≡ false) × Walk l.count 0 l.order l.marks l.stack l.left 0

abbrev pub decreases-loop-left : goal.decreases-loop-left
decreases-loop-left l =
    l.left

abbrev pub invariant-loop-depth : goal.invariant-loop-depth
invariant-loop-depth l =
    (l.root < l.count) × (length l.next ≡ 513) × Walk l.count (l.root + 1) l.order l.marks l.stack l.left l.depth

abbrev pub decreases-loop-depth : goal.decreases-loop-depth
decreases-loop-depth l =
    2 * (l.count - marked l.count l.marks) + l.depth

abbrev pub invariant-loop-root : goal.invariant-loop-root
invariant-loop-root l =
    (l.root ≤ l.count) × (length l.next ≡ 513) × Walk l.count l.root l.order l.marks l.stack l.left 0
