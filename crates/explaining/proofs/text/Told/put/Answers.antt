-- `text::Told::put` meets its contract. The loop's invariant: the text of the first k steps is put. Assumes nothing.
use mathlib.Core.Path.{◌≡◌}
use native.Mathlib.Omega.{arith}
use Rattle.rules.specs.Table.{rules_in}
use Rattle.explaining.specs.Inner.Text.{sentence_for}
use Rattle.explaining.proofs.TextLaws.{begun, next_sentence-fits, next_sentence, so_long}
use Rattle.explaining.proofs.text.Told.put.Goals as goal

pub loop-k-init : goal.loop-k-init
loop-k-init c = begun (rules_in c.args.self.now.lines.now) c.args.self.now.steps.now c.args.self.now.trail c.args.text.now

pub put-at-requires : goal.put-at-requires
put-at-requires c =
    next_sentence-fits (rules_in c.args.self.now.lines.now) c.args.self.now.steps.now c.args.self.now.trail (sentence_for c.sentence.result)
    c.sentence.ensures c.loop-k-test.true c.requires.1 c.loop-k.invariant

pub loop-k-preserved : goal.loop-k-preserved
loop-k-preserved c =
    next_sentence (rules_in c.args.self.now.lines.now) c.args.self.now.steps.now c.args.self.now.trail (sentence_for c.sentence.result)
    c.sentence.ensures c.loop-k-test.true c.requires.1 c.loop-k.invariant c.put-at.ensures

pub shape_of-text : goal.shape_of-text
shape_of-text c =
    so_long (rules_in c.args.self.now.lines.now) c.args.self.now.steps.now c.args.self.now.trail c.loop-k.auto.k-end c.requires.1 c.loop-k.invariant

pub returns : goal.returns
returns c =
    let all : c.loop-k.k ≡ c.args.self.now.count = omega (arith, c.loop-k-test.false) in
    rw (← all) c.loop-k.invariant.text
