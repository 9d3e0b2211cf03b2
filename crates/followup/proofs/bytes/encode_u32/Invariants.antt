-- `followup::bytes::encode_u32` meets its contract. The loop's invariant: the bytes of the first i numbers stand at the front. Assumes nothing.
use lib.ListN.{take}
use Rattle.followup.proofs.ByteLaws.{Encoding}
use Rattle.followup.proofs.bytes.encode_u32.Given as goal

abbrev pub invariant-loop-i : goal.invariant-loop-i
invariant-loop-i l = Encoding 4 (take l.n l.fn.numbers) l.initial.bytes l.n l.bytes l.i
