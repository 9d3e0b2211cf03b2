-- `text::Told::size` meets its contract. The loop's invariant: the size of the text of the first i steps. Assumes nothing.
use mathlib.Core.Path.{◌≡◌, refl}
use native.Mathlib.Omega.{arith}
use Rattle.rules.specs.Table.{rules_in}
use Rattle.explaining.specs.Inner.Text.{sentence_for}
use Rattle.explaining.proofs.TextLaws.{size_next}
use Rattle.explaining.proofs.text.Told.size.Goals as goal

pub loop-i-init : goal.loop-i-init
loop-i-init c = (omega arith, refl)

pub overflow_add-size : goal.overflow_add-size
overflow_add-size c = omega (arith, c.loop-i.invariant.0, c.requires.few, c.loop-i-test.true, c.size-size.ensures.1)

pub loop-i-preserved : goal.loop-i-preserved
loop-i-preserved c = (
  omega (arith, c.loop-i.invariant.0, c.size-size.ensures.1),
  size_next (rules_in c.args.self.now.lines.now) c.args.self.now.steps.now c.args.self.now.trail c.loop-i.i c.loop-i.size c.size-size.result
      (sentence_for c.sentence.result) c.sentence.ensures c.loop-i.invariant.1 c.size-size.ensures.0,
)

pub returns : goal.returns
returns c =
    let all : c.loop-i.i ≡ c.args.self.now.count = omega (arith, c.loop-i-test.false) in
    rw (← all) c.loop-i.invariant.1
