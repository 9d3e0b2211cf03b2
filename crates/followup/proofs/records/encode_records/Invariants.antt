-- `encode_records` meets its contract. The loop's invariant: the bytes of the first i records stand at the front. Assumes nothing.
use Prim.Native.Nat.{◌-◌, ◌≤◌}
use Rattle.followup.proofs.RecordBytes.{RecordsIn}
use Rattle.followup.proofs.records.encode_records.Given as goal

abbrev pub invariant-loop-i : goal.invariant-loop-i
invariant-loop-i l = (l.i ≤ l.count) × RecordsIn l.rows l.initial.bytes l.bytes l.i

abbrev pub decreases-loop-i : goal.decreases-loop-i
decreases-loop-i l = l.count - l.i
