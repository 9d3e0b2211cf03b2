-- `followup_line_span_v1` meets its contract. The loop's invariant: `end` is where the walker stands after n lines, and `start` where the last of them began. The measure is what is left of `number`. Assumes nothing.
use mathlib.Core.Path.{◌≡◌}
use Prim.Native.Nat.{◌-◌, ◌≤◌}
use Rattle.walker.specs.Walk.{line_start, span_start}
use Rattle.followup.proofs.followup_line_span_v1.Given as goal

abbrev pub invariant-loop-n : goal.invariant-loop-n
invariant-loop-n l = (l.n ≤ l.number) × (l.start ≡ span_start l.text l.n) × (l.end ≡ line_start l.text l.n)

abbrev pub decreases-loop-n : goal.decreases-loop-n
decreases-loop-n l = l.number - l.n
