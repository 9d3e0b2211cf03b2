-- `notes::note_shape` meets its contract. Each loop keeps that the firings of the rules, or H lines, so far were noted; a rule that is come to fires. Assumes nothing.
use mathlib.Core.Path.{◌≡◌}
use mathlib.Core.Bool.{true}
use Rattle.std.specs.Prelude.{IfSome}
use Prim.Native.Nat.{◌-◌, ◌<◌, ◌≤◌}
use lib.ListN.{get_or}
use Rattle.chase.specs.Simplification.{Applies}
use Rattle.rules.specs.Table.{row_bytes, rule_in}
use Rattle.judging.specs.Inner.Codes.{shape_at, FiresOn}
use Rattle.judging.specs.Inner.Firing.{or_end}
use Rattle.judging.proofs.SearchLaws.{Trying}
use Rattle.judging.proofs.NoteLaws.{Filling}
use Rattle.judging.proofs.notes.note_shape.Given as goal

abbrev pub invariant-loop-h : goal.invariant-loop-h
invariant-loop-h l =
    (l.h ≤ l.heads) × (l.heads ≡ get_or (row_bytes l.table l.r) 28 0) × (l.r < l.rules) × Applies (rule_in (row_bytes l.table l.r)) (shape_at l.shape) × Trying l.shape l.kind l.digits
    × Filling l.table l.rules l.index l.notes l.shape l.k l.r l.h

abbrev pub invariant-loop-next : goal.invariant-loop-next
invariant-loop-next l =
    IfSome l.next (λ q. q < l.rules) × (or_end l.rules l.next < l.rules → FiresOn (rule_in (row_bytes l.table (or_end l.rules l.next))) l.kind l.digits true) × Trying l.shape l.kind l.digits
    × Filling l.table l.rules l.index l.notes l.shape l.k (or_end l.rules l.next) 0

abbrev pub decreases-loop-next : goal.decreases-loop-next
decreases-loop-next l = l.rules - or_end l.rules l.next
