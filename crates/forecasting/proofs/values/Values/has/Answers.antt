-- `forecasting::values::Values::has` meets its contract. The loop's invariant: the values that the chain has passed are others. The measure is the place. Assumes nothing.
use Prim.Native.Nat.{◌-◌, ◌<◌}
use native.Mathlib.Omega.{arith}
use mathlib.Core.Bool.{false≢true}
use mathlib.Core.Path.{refl}
use borrow.Author.Rules.{rules}
use Rattle.forecasting.proofs.ValueLaws.{seek_place, seek_here, seek_nowhere, seek_less, seek_next, found, found_none}
use Rattle.forecasting.proofs.values.Values.has.Goals as goal
use Rattle.forecasting.proofs.values.Values.has.Goals.{In-loop-at}

low : (c : In-loop-at) → c.loop-at.at - 1 < 6144
low c =
    let s = c.self.invariant in
    omega (arith, seek_place s c.args.x _ refl c.loop-at.at c.loop-at.invariant (omega arith), s.chain.small)

pub offset_bounds-self-inside-at : goal.offset_bounds-self-inside-at
offset_bounds-self-inside-at c = let l = low (goal.at.offset_bounds-self-inside-at c).In-loop-at in search rules

pub bounds-self-inside-at : goal.bounds-self-inside-at
bounds-self-inside-at c = low (goal.at.bounds-self-inside-at c).In-loop-at

pub returns-then-self-at : goal.returns-then-self-at
returns-then-self-at c =
    let s = c.self.invariant in
    let at = c.loop-at in
    let here = seek_here s c.args.x _ refl at.at at.invariant (omega arith) c.if-self-at.true in
    (λ t. rw (← c.self.view_is) (found s c.args.x _ here (seek_place s c.args.x _ refl at.at at.invariant (omega arith))), λ m. refl)

pub offset_bounds-self-inside-at-in-loop-at : goal.offset_bounds-self-inside-at-in-loop-at
offset_bounds-self-inside-at-in-loop-at c = let l = low (goal.at.offset_bounds-self-inside-at-in-loop-at c).In-loop-at in search rules

pub bounds-self-inside-at-in-loop-at : goal.bounds-self-inside-at-in-loop-at
bounds-self-inside-at-in-loop-at c = low (goal.at.bounds-self-inside-at-in-loop-at c).In-loop-at

pub loop-at-smaller : goal.loop-at-smaller
loop-at-smaller c = seek_less c.self.invariant c.args.x _ refl c.loop-at.at c.loop-at.invariant (omega arith) _ refl

pub loop-at-preserved : goal.loop-at-preserved
loop-at-preserved c = seek_next c.self.invariant c.args.x _ refl c.loop-at.at c.loop-at.invariant (omega arith) _ refl c.if-self-at.false

pub returns : goal.returns
returns c =
    let s = c.self.invariant in
    let nowhere = seek_nowhere s c.args.x _ refl c.loop-at.at c.loop-at.invariant (omega arith) in
    (λ t. absurd (false≢true t), λ m. absurd (found_none s c.args.x nowhere (rw (← c.self.view_is) at m)))
