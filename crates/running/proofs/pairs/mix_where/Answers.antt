-- `mix_where` meets its contract: a number is mixed where the source is a carried mark. Assumes nothing.
use mathlib.Core.Path.{refl}
use borrow.Author.Rules.{rules}
use borrow.Author.Tests.{eq-eqb, ne_eqb}
use Rattle.running.proofs.pairs.mix_where.Goals as goal

pub returns-then-source-eq1 : goal.returns-then-source-eq1
returns-then-source-eq1 c = (rw (eq-eqb c.args.source 1 c.if-source-eq1.true) c.mix.ensures.0, c.mix.ensures.1)

pub returns : goal.returns
returns c = (rw (ne_eqb c.args.source 1 c.if-source-eq1.false) refl, search rules)
