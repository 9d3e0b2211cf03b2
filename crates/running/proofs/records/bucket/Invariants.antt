-- `bucket` meets its contract. The loop's invariant: what is left of the row, mixed into what is mixed so far, gives the row's bucket. Assumes nothing.
use mathlib.Core.Path.{◌≡◌}
use Prim.Native.Nat.{◌<◌}
use lib.ListN.{drop}
use Rattle.running.specs.Inner.Chains.{bucket_in, mixed_all, bucket_of}
use Rattle.running.proofs.records.bucket.Given as goal

abbrev pub invariant-loop-x : goal.invariant-loop-x
invariant-loop-x l = (l.h < 4294967296) × (bucket_in (mixed_all l.by l.h (drop l.x-index l.row)) ≡ bucket_of l.by l.row)
