-- `clear` meets its contract: the places that are filled are 0. Assumes nothing.
use mathlib.Core.Path.{◌≡◌, ap, ◌∙◌}
use mathlib.Core.List.{List}
use Prim.Native.Nat.{ℕ, ◌+◌, ◌-◌}
use native.Mathlib.Omega.{arith}
use lib.ListN.{length, get_or, take, drop, length-take, length-drop}
use Rattle.std.proofs.lemmas.List.{get_or-replicate}
use Rattle.running.proofs.RecordLaws.{part_put}
use Rattle.running.proofs.clear.Goals as goal

pub returns : goal.returns
returns c =
    let a = c.args in
    let size : length (take (a.at + a.size - a.at) (drop a.at a.index.now)) ≡ a.size = omega (arith, length-take (a.at + a.size - a.at) (drop a.at a.index.now), length-drop a.at a.index.now) in
    part_put a.index.now c.fill.new.self a.at (a.at + a.size - a.at) a.size (λ k. 0) c.requires (omega arith) (c.fill.ensures.len ∙ size)
    (λ k h. ap (λ (l : List ℕ). get_or l k 0) (c.fill.ensures.after (λ y e. e))
    ∙ get_or-replicate (length (take (a.at + a.size - a.at) (drop a.at a.index.now))) k 0 0 (omega arith))
