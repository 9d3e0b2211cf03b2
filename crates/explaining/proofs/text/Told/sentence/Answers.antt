-- `text::Told::sentence` meets its contract. Assumes nothing.
use mathlib.Core.Path.{sym, subst₂}
use Prim.Native.Nat.{ℕ, ◌+◌}
use lib.Dec.{ltb}
use Rattle.rules.specs.Table.{rules_in}
use Rattle.sentences.specs.Inner.Naming.{Names}
use Rattle.explaining.specs.Inner.Text.{KindsAre}
use Rattle.explaining.proofs.TextLaws.{sentence-looked-up}
use Rattle.explaining.proofs.text.Told.sentence.Goals as goal

pub kinds-kinds-requires : goal.kinds-kinds-requires
kinds-kinds-requires c =
    let first = c.from.ensures in
    let second = c.from-2.ensures in
    (c.requires.0, subst₂ (Names (rules_in c.args.self.now.lines.now)) (sym first) (sym second) (c.requires.0.named c.args.i c.requires.1))

pub returns : goal.returns
returns c =
    sentence-looked-up (rules_in c.args.self.now.lines.now) c.args.self.now.steps.now c.args.i (ltb c.args.self.now.trail (c.args.i + 1)) _ _ _ _ _ _ _
    c.from-3.ensures c.from-4.ensures
    (subst₂ (λ (rule head : ℕ). KindsAre (rules_in c.args.self.now.lines.now) rule head c.kinds-kinds.result.body c.kinds-kinds.result.made)
    c.from.ensures c.from-2.ensures c.kinds-kinds.ensures)
    c.from-5.ensures c.from-6.ensures c.from-7.ensures
