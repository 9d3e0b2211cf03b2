-- What the functions that judge a sheet promise each other. Assumes nothing.
use Rattle.std.specs.Prelude.{Bool, ◌≡◌, List, ℕ, ◌*◌, ◌<◌}
use Rattle.chase.specs.Counting.{share}
use Rattle.rules.specs.Table.{SheetHeld, rules_in, rows_in, table_rules, TableFits}
use Rattle.judging.specs.Inner.Found.{Kept, Whole, FiredRules, fired_in}
use Rattle.judging.specs.Inner.Nodes.{at, link_of}
use Rattle.judging.specs.Inner.Written.{Deepest, InLine}
use Rattle.judging.specs.Inner.Trails.{WroteEndless, WroteSettled}
use Rattle.judging.specs.declared.answer.Counts.{Counts}
use Rattle.judging.specs.declared.Figures.{Figures}
use Rattle.judging.specs.declared.Verdict.{Verdict}
use Rattle.judging.specs.declared.Verdict.TheVariants.{Settles, Endless}

-- What is known of a sheet once its shapes are found; its rules stand in the table.
pub record Known (numbers table : List ℕ) (rules : ℕ) (codes index : List ℕ) (ways : List (List ℕ)) (fired : List Bool) (count : ℕ) : Type 0 where
  pub sheet : SheetHeld numbers
  pub table_fits : TableFits table rules
  pub rules_are : table_rules table rules ≡ rules_in numbers
  pub kept : Kept (rules_in numbers) (rows_in numbers) codes index ways count
  pub whole : Whole (rules_in numbers) (rows_in numbers) codes count
  pub fired_rules : FiredRules (rules_in numbers) codes fired count

-- The counts of what the search found: shapes, fired rules and their share.
pub record Counted (fired : List Bool) (shapes rules : ℕ) (f : Counts) : Type 0 where
  pub shapes_are : f.shapes ≡ shapes
  pub fired_is : f.fired ≡ fired_in rules fired
  pub share_is : f.share ≡ share f.fired rules

-- The figures of counts, a deepest generation, row, trail and loop.
abbrev pub FiguresOf : Counts → ℕ → ℕ → ℕ → ℕ → Figures → Type 0
FiguresOf counts deepest row trail turns f =
    f ≡ record { deepest = deepest; shapes = counts.shapes; fired = counts.fired; share = counts.share; row = row; trail = trail; turns = turns }

-- The verdict where something turns, with the loop back to node y written.
pub record SaysEndless (ways raises : List (List ℕ)) (count y : ℕ) (counts : Counts) (before : List ℕ) (verdict : Verdict) (after : List ℕ)
    : Type 0 where
  pub figures : Figures
  pub says : verdict ≡ Endless figures
  pub deepest : figures.deepest ≡ 0
  pub shapes : figures.shapes ≡ counts.shapes
  pub fired_is : figures.fired ≡ counts.fired
  pub share_is : figures.share ≡ counts.share
  pub wrote : WroteEndless ways raises count y before figures.row figures.trail figures.turns after

-- A line leads to each raised node.
pub record Lines (generations : List (List ℕ)) (from : ℕ → ℕ) (count : ℕ) : Type 0 where
  pub below : (x : ℕ) → 0 < at generations x → x < 7 * count
  pub lines : (x : ℕ) → 0 < at generations x → InLine generations from (7 * count) x

-- The verdict where nothing turns: nothing is written where no node was raised, and otherwise a line to a node where a number of the deepest generation is made.
pub record SaysSettled (ways generations raises : List (List ℕ)) (count : ℕ) (counts : Counts) (before : List ℕ) (verdict : Verdict) (after : List ℕ)
    : Type 0 where
  pub figures : Figures
  pub says : verdict ≡ Settles figures
  pub node : ℕ
  pub deep : Deepest generations (link_of raises) (7 * count) node
  pub deepest : figures.deepest ≡ at generations node
  pub shapes : figures.shapes ≡ counts.shapes
  pub fired_is : figures.fired ≡ counts.fired
  pub share_is : figures.share ≡ counts.share
  pub turns : figures.turns ≡ 0
  pub flat : at generations node ≡ 0 → (figures.row ≡ 0) × (figures.trail ≡ 0) × (after ≡ before)
  pub raised : 0 < at generations node → WroteSettled ways generations raises count node before figures.row figures.trail after
