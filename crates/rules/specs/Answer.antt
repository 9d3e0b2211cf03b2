-- The whole contract of `rules_of`, for all lent lines and every lent table. Assumes nothing.
use Rattle.std.specs.Prelude.{◌≡◌, Result, Ok, Err, List, ℕ, ◌≤◌, ◌<◌, length, take, drop}
use Rattle.patterns.specs.Outcome.{refused}
use Rattle.sheet.specs.Write.{sheet_held}
use Rattle.rules.specs.Table.{SheetHeld, rules_in, table_rules, TableFits}
use Rattle.rules.specs.declared.RulesRefusal.{RulesRefusal}
use Rattle.rules.specs.declared.RulesRefusal.TheVariants.{LineWrong, TableShort}

-- What is said of lent lines: so many rules, the first wrong line, or that the lent table is too short.
pub data RulesSaid : Type 0 where
  rules : ℕ → RulesSaid
  wrong : ℕ → RulesSaid
  short : RulesSaid

abbrev pub rules_say : Result ℕ RulesRefusal → RulesSaid
rules_say (Ok count) = rules count
rules_say (Err (LineWrong line)) = wrong line
rules_say (Err TableShort) = short

-- The bytes of a table: 64 for each of 256 rules.
abbrev pub table_size : ℕ
table_size = 16384

-- The lent lines are a sheet. The first bytes of the lent memory are a table with so many rules, those of the sheet; the bytes after it are as they were.
pub record TableHeld (numbers before : List ℕ) (count : ℕ) (now : List ℕ) : Type 0 where
  pub sheet : SheetHeld numbers
  pub whole : length now ≡ length before
  pub fits : TableFits (take table_size now) count
  pub rules : table_rules (take table_size now) count ≡ rules_in numbers
  pub rest : drop table_size now ≡ drop table_size before

-- The contract: which answer may be given to these lent lines and this lent table, and what the table then holds. The conditions shut each other out, so each answer is given exactly on its own.
abbrev pub RulesMeet : List ℕ → List ℕ → RulesSaid → List ℕ → Type 0
RulesMeet numbers before (rules count) now = (table_size ≤ length before) × TableHeld numbers before count now
RulesMeet numbers before (wrong line) now = (table_size ≤ length before) × (sheet_held numbers ≡ refused 8 line) × (now ≡ before)
RulesMeet numbers before short now = (length before < table_size) × (now ≡ before)
