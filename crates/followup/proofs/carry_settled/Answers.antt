-- `followup::carry_settled` meets its contract: a law for each answer of the run. Assumes nothing.
use native.Mathlib.Omega.{arith}
use Prim.Native.Nat.{ℕ}
use lib.ListN.{length, replicate, length-replicate}
use Rattle.running.proofs.CarryLaws.{ran_ended, ran_refuses}
use Rattle.running.proofs.CopyLaws.{holds_own}
use Rattle.followup.proofs.RecordBytes.{lent_records, carries_none, carries_ended}
use Rattle.followup.proofs.carry_settled.Goals as goal

pub encode_records-requires : goal.encode_records-requires
encode_records-requires c =
    let e = (ran_ended c.args.numbers.now (replicate 28672 0) c.run.new.rows (length c.args.places.now) c.run.result c.run.ensures _ c.in-Ok.is) in
    (holds_own e.held, omega (arith, c.requires.0.taken.room, lent_records c.args.records.now, e.held.few))

pub returns-in-Ok : goal.returns-in-Ok
returns-in-Ok c =
    carries_ended (λ i. omega (arith, c.slice_known-2-1.given i)) c.requires.0 c.carried.result (ran_ended c.args.numbers.now (replicate 28672 0) c.run.new.rows (length c.args.places.now) c.run.result c.run.ensures _ c.in-Ok.is) c.carried.ensures c.encode_records.ensures

pub returns-in-Err : goal.returns-in-Err
returns-in-Err c =
    carries_none _ _ (λ i. omega (arith, c.slice_known-2-1.given i)) _ _ _ (rw c.from.ensures (ran_refuses c.args.numbers.now (replicate 28672 0) c.run.new.rows (length c.args.places.now) c.run.result c.run.ensures c.requires.0 (omega (arith, length-replicate {A = ℕ} 28672 0)) c.requires.1 _ c.in-Err.is)) c.carry_refuses.ensures
