-- `followup::bytes::decode` meets its contract. The loop's invariant: the first i numbers of the bytes stand at the front. Assumes nothing.
use mathlib.Core.Path.{◌≡◌, ap}
use mathlib.Core.List.{List, ◌++◌}
use Prim.Native.Nat.{ℕ}
use native.Mathlib.Omega.{arith}
use lib.ListN.{length, take, drop}
use lib.Seq.{length-take-le}
use Rattle.followup.proofs.ByteLaws.{filled_none, decoded-more, decoded_whole}
use Rattle.followup.proofs.bytes.decode.Goals as goal

pub loop-i-init : goal.loop-i-init
loop-i-init c = filled_none _

pub loop-i-preserved : goal.loop-i-preserved
loop-i-preserved c = decoded-more 4 _ _ _ _ _ (omega arith) c.number_at.ensures c.loop-i.invariant

pub returns : goal.returns
returns c =
    let a = c.args in
    let size : length (take a.n a.numbers.now) ≡ a.n = length-take-le a.n a.numbers.now c.requires.1 in
    ap (λ (l : List ℕ). l ++ drop a.n a.numbers.now)
    (decoded_whole 4 a.bytes.now (take a.n a.numbers.now) c.loop-i.number-items a.n c.loop-i.i (omega (arith, size)) (omega (arith, size)) c.loop-i.invariant)
