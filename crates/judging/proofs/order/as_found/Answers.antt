-- `order::as_found` meets its contract: each place so far holds itself. Assumes nothing.
use mathlib.Core.Path.{◌≡◌, ◌∙◌}
use mathlib.Core.List.{List}
use Prim.Native.Nat.{ℕ, ◌≤◌}
use native.Mathlib.Omega.{arith}
use lib.ListN.{length, drop, replicate}
use Rattle.std.proofs.lemmas.List.{length-take-le, length-drop, length-replicate}
use Rattle.judging.proofs.OrderLaws.{in_turn}
use Rattle.judging.proofs.order.as_found.Goals as goal

pub returns : goal.returns
returns c =
    let n = c.args.count in
    let zeros : List ℕ = replicate 512 0 in
    let z = length-replicate {A = ℕ} 512 0 in
    let front : length c.loop-i.place-items ≡ n = c.loop-i.auto.place-items ∙ length-take-le n zeros (omega arith) in
    let all : n ≤ c.loop-i.i = omega (arith, c.loop-i-test.false, length-take-le n zeros (omega arith)) in
    in_turn c.loop-i.place-items (drop n zeros) front (length-drop n zeros ∙ omega arith) c.requires (λ j l. c.loop-i.invariant j (omega arith))
