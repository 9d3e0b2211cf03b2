-- `listing::fill_records` meets its contract. The invariant: the records so far are put. Assumes nothing.
use Rattle.listing.proofs.RecordLaws.{Filling}
use Rattle.listing.proofs.fill_records.Given as goal

abbrev pub invariant-loop-record : goal.invariant-loop-record
invariant-loop-record l = Filling l.widths l.records l.count l.record-index l.initial.text l.text l.at
