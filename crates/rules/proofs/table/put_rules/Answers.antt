-- `rules::table::put_rules` fills the table. The invariant: the rules of the lines passed are in it. Assumes nothing.
use mathlib.Core.Path.{subst₂, sym}
use mathlib.Core.List.{List}
use Prim.Native.Nat.{ℕ, ◌+◌, ◌*◌, ◌/◌, ◌<◌}
use native.Mathlib.Omega.{arith}
use Rattle.rules.proofs.TableLaws.{Filled, filled_end, filled_other, filled_room, filled_asks, filled_rule, rule-here}
use Rattle.rules.proofs.table.put_rules.Goals as goal
use Rattle.rules.proofs.table.put_rules.Goals.{then-lines-n-eq-LETTER_B, else-lines-n-eq-LETTER_B}

-- Line n is within the lent numbers.
inside : {n size : ℕ} → n < size / 8 → 8 * n < size
inside h = omega arith

pub heads_at-heads-requires : goal.heads_at-heads-requires
heads_at-heads-requires c =
    (c.requires.0, (rule-here c.requires.0 c.loop-n.n (inside c.loop-n-test.true) c.if-lines-n-eq-LETTER_B.true).next)

pub put_rule-requires : goal.put_rule-requires
put_rule-requires c =
    filled_asks c.requires.0 c.loop-n.invariant
    (inside c.loop-n-test.true) c.if-lines-n-eq-LETTER_B.true c.heads_at-heads.ensures

pub overflow_add-count : goal.overflow_add-count
overflow_add-count c =
    let room = filled_room c.requires.0 c.loop-n.invariant (inside c.loop-n-test.true) c.if-lines-n-eq-LETTER_B.true in
    omega arith

pub loop-n-preserved : goal.loop-n-preserved
loop-n-preserved c =
    let l = c.loop-n in
    let next : List ℕ → ℕ → Type 0 = λ t k. Filled c.args.lines.now t k (l.n + 1) in
    elim c.if-lines-n-eq-LETTER_B.branch [
      | then-lines-n-eq-LETTER_B w ↦
          subst₂ next (sym w.table-is) (sym w.count-is)
          (filled_rule c.requires.0 l.invariant (inside c.loop-n-test.true) w.if-lines-n-eq-LETTER_B.true w.heads_at-heads.ensures w.put_rule.ensures)
      | else-lines-n-eq-LETTER_B w ↦
          subst₂ next (sym w.table-is) (sym w.count-is) (filled_other c.requires.0 l.invariant (inside c.loop-n-test.true) w.if-lines-n-eq-LETTER_B.false)
    ]

pub returns : goal.returns
returns c = filled_end c.requires.0 c.loop-n.invariant c.loop-n-test.false
