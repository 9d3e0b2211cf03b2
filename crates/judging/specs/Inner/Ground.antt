-- What the sweeps go by. Assumes nothing.
use Rattle.std.specs.Prelude.{List, ℕ}
use Rattle.rules.specs.Table.{table_rules, TableFits}
use Rattle.judging.specs.Inner.Firing.{ByKind}
use Rattle.judging.specs.declared.spread.Basis.{Basis}
use Rattle.judging.specs.Inner.Links.{Closed}
use Rattle.judging.specs.Inner.Noted.{Noted}

-- The table of rules, the rules by their kinds, the found shapes, which no rule leads out of, and the notes of the search.
pub record Ground (table : List ℕ) (rules : ℕ) (kinds codes index : List ℕ) (notes : List (List ℕ)) (starts : List ℕ) (count : ℕ) : Type 0 where
  pub table_fits : TableFits table rules
  pub by_kind : ByKind table rules kinds
  pub closed : Closed (table_rules table rules) codes index count
  pub noted : Noted table rules codes index notes starts count

abbrev pub GroundOf : Basis → Type 0
GroundOf b = Ground b.table.now b.rules b.kinds.now b.shapes.now b.index.now b.notes.now b.starts.now b.count
