-- `followup::bytes::encode_u16` meets its contract. The loop's invariant: the bytes of the first i numbers stand at the front. Assumes nothing.
use mathlib.Core.Path.{ap, ◌∙◌}
use mathlib.Core.List.{List, ◌++◌}
use Prim.Native.Nat.{ℕ, ◌*◌}
use native.Mathlib.Omega.{arith}
use lib.ListN.{drop}
use lib.Seq.{take-take, length-take-le}
use Rattle.followup.specs.Bytes.{all_bytes}
use Rattle.followup.proofs.ByteLaws.{encoding_begun, encoding_part, encoding_done, le_two}
use Rattle.followup.proofs.bytes.encode_u16.Goals as goal

pub loop-i-init : goal.loop-i-init
loop-i-init c = encoding_begun (omega (arith, length-take-le c.args.n c.args.numbers.now c.requires.0)) (omega arith)

pub loop-i-preserved : goal.loop-i-preserved
loop-i-preserved c = encoding_part _ (omega arith) (c.copy_from_slice.ensures.after ∙ c.to_le_bytes.ensures ∙ le_two _) (omega (arith, length-take-le c.args.n c.args.numbers.now c.requires.0)) c.loop-i.invariant

pub shape_of-bytes : goal.shape_of-bytes
shape_of-bytes c = c.loop-i.invariant.filled.size

pub returns : goal.returns
returns c =
    let a = c.args in
    encoding_done (omega (arith, length-take-le a.n a.numbers.now c.requires.0)) c.loop-i.invariant
    ∙ ap (λ (ns : List ℕ). all_bytes 2 ns ++ drop (2 * a.n) a.bytes.now) (take-take a.n a.n a.numbers.now (omega arith))
