-- `judge_rules` meets its contract: more than 512 shapes, or all of them are found, and what spreading leaves decides which answer is given. Assumes nothing.
use mathlib.Core.Path.{◌≡◌, refl, sym, ap, subst}
use mathlib.Core.Bool.{false}
use Prim.Native.Nat.{ℕ, zero, suc}
use lib.ListN.{get_or, replicate}
use Rattle.judging.specs.Inner.Links.{turning_number}
use Rattle.judging.specs.Inner.Judged.{Known}
use Rattle.judging.proofs.Judged.{shapes-over, all_known, found_closed, writers_lent, lines_lead, turns_back, endless_right, settled_right}
use Rattle.judging.proofs.judge_rules.Goals as goal
use Rattle.judging.proofs.judge_rules.Goals.{After-counts_of-counts}

none-fired : (n i : ℕ) → get_or (replicate n false) i false ≡ false
none-fired zero i = refl
none-fired (suc n) zero = refl
none-fired (suc n) (suc i) = none-fired n i

pub search-requires : goal.search-requires
search-requires c = (c.requires.0, c.requires.2, c.requires.3, refl, c.no_index-index.ensures, refl, c.by_kind-kinds.ensures, c.requires.4, refl, record { size = refl; none = none-fired 256 })

pub returns-in_default : goal.returns-in_default
returns-in_default c = shapes-over c.requires.0 _ c.requires.1 (rw c.in_default.is at c.search.ensures.0)

-- What is known once the shapes are found and counted.
known : (c : After-counts_of-counts)
    → Known c.args.lines.now c.args.table.now c.args.rules c.search.new.shapes c.search.new.index c.search.new.ways c.search.new.fired c.counts_of-counts.result.shapes
known c =
    let found = rw c.in-Some.is at c.search.ensures in
    subst (Known _ _ _ _ _ _ _) (sym c.counts_of-counts.ensures.shapes_are) (all_known c.requires.0 found.0 c.requires.2 c.requires.3)

pub spread-turning-requires : goal.spread-turning-requires
spread-turning-requires c =
    let found = rw c.in-Some.is at c.search.ensures in (
      record {
        table_fits = c.requires.2;
        by_kind = c.by_kind-kinds.ensures;
        closed = found_closed (known (goal.at.spread-turning-requires c).After-counts_of-counts);
        noted = rw c.counts_of-counts.ensures.shapes_are found.1;
      },
      c.no_numbers-generations.ensures,
      c.no_raises-raises.ensures,
    )

pub settled_verdict-requires : goal.settled_verdict-requires
settled_verdict-requires c =
    let k = known (goal.at.settled_verdict-requires c).After-counts_of-counts in
    let spreads = c.spread-turning.ensures in
    (writers_lent k spreads _ c.requires.1, spreads.grid, lines_lead k spreads (ap turning_number c.in-None.is))

pub endless_verdict-requires : goal.endless_verdict-requires
endless_verdict-requires c =
    let k = known (goal.at.endless_verdict-requires c).After-counts_of-counts in
    let spreads = c.spread-turning.ensures in
    let turn = turns_back k spreads _ (ap turning_number c.in-Some-turning.is) in
    (writers_lent k spreads _ c.requires.1, turn.0, turn.1)

pub returns-in-None : goal.returns-in-None
returns-in-None c =
    let counted = c.counts_of-counts.ensures in
    settled_right (known (goal.at.returns-in-None c).After-counts_of-counts) _ c.spread-turning.ensures refl counted.fired_is counted.share_is _ _ c.requires.1 _ (ap turning_number c.in-None.is)
    c.settled_verdict.ensures

pub returns-in-Some-turning : goal.returns-in-Some-turning
returns-in-Some-turning c =
    let counted = c.counts_of-counts.ensures in
    endless_right (known (goal.at.returns-in-Some-turning c).After-counts_of-counts) _ c.spread-turning.ensures refl counted.fired_is counted.share_is _ _ c.requires.1 _ _ (ap turning_number c.in-Some-turning.is)
    c.endless_verdict.ensures
