-- `followup::bytes::decode` meets its contract. The loop's invariant: the first i numbers of the bytes stand at the front. Assumes nothing.
use Rattle.followup.proofs.ByteLaws.{Decoded}
use Rattle.followup.proofs.bytes.decode.Given as goal

abbrev pub invariant-loop-i : goal.invariant-loop-i
invariant-loop-i l = Decoded 4 l.bytes l.initial.number-items l.number-items l.i
