-- `followup::carry_numbers` meets its contract: what is said first is said for the room that is lent. Assumes nothing.
use native.Mathlib.Omega.{arith}
use Rattle.followup.specs.Bytes.{numbers_of}
use Rattle.followup.proofs.RecordBytes.{lent_records, carries_none}
use Rattle.followup.proofs.carry_numbers.Goals as goal

pub carry_settled-requires : goal.carry_settled-requires
carry_settled-requires c =
    (c.in-Ok.ensures (numbers_of 4 c.args.records.now) (omega (arith, c.requires, lent_records c.args.records.now)), omega (arith, c.settles.auto.places))

pub returns-in-Err : goal.returns-in-Err
returns-in-Err c =
    carries_none c.args.numbers.now c.args.records.now (λ i. omega (arith, c.type_inv.records i)) _ _ c.carry_refuses.result
    (c.in-Err.ensures (numbers_of 4 c.args.records.now) (omega (arith, c.requires, lent_records c.args.records.now))) c.carry_refuses.ensures
