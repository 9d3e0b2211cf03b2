-- `judging::search::search` meets its contract. Each loop keeps where the search stands; each branch is an event of it. The measures are what is left of the H lines, the rules and the 512 places. Assumes nothing.
use Rattle.std.specs.Prelude.{IfSome}
use Prim.Native.Nat.{◌-◌, ◌*◌, ◌≤◌, ◌<◌}
use lib.ListN.{length}
use mathlib.Core.Bool.{true}
use Rattle.rules.specs.Table.{rule_in, row_bytes, rules_in, rows_in}
use Rattle.judging.specs.Inner.Codes.{FiresOn}
use Rattle.judging.specs.Inner.Firing.{or_end}
use Rattle.judging.proofs.SearchLaws.{turn, Doing, Ruled, Ruling, Heading}
use Rattle.judging.proofs.NoteLaws.{Noting}
use Rattle.judging.proofs.search.search.Given as goal

abbrev pub invariant-loop-h : goal.invariant-loop-h
invariant-loop-h l =
    Heading (rules_in l.lines) (rows_in l.lines) l.table l.digits l.rules l.shape l.kind l.s l.r l.heads l.h l.shapes l.index l.ways l.fired l.count
    × Noting (length l.initial.notes) l.table l.rules l.shapes l.index l.notes l.starts l.s l.k l.r l.h

abbrev pub invariant-loop-next : goal.invariant-loop-next
invariant-loop-next l =
    IfSome l.next (λ q. q < l.rules) × (or_end l.rules l.next < l.rules → FiresOn (rule_in (row_bytes l.table (or_end l.rules l.next))) l.kind l.digits true)
    × Ruling (rules_in l.lines) (rows_in l.lines) l.table l.digits l.rules l.shape l.kind l.s (or_end l.rules l.next) l.shapes l.index l.ways l.fired l.count
    × Noting (length l.initial.notes) l.table l.rules l.shapes l.index l.notes l.starts l.s l.k (or_end l.rules l.next) 0

abbrev pub decreases-loop-next : goal.decreases-loop-next
decreases-loop-next l =
    l.rules - or_end l.rules l.next

abbrev pub invariant-loop-s : goal.invariant-loop-s
invariant-loop-s l =
    (l.s ≤ l.count) × Ruled (rules_in l.lines) l.table l.rules
    × Doing (rules_in l.lines) (rows_in l.lines) l.shapes l.index l.ways l.fired l.count (turn l.s 0 0) (256 * l.s)
    × Noting (length l.initial.notes) l.table l.rules l.shapes l.index l.notes l.starts l.s l.k 0 0

abbrev pub decreases-loop-s : goal.decreases-loop-s
decreases-loop-s l =
    512 - l.s
