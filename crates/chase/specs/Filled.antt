-- A table with its zeros filled, as a partner writes it who has none. Assumes nothing.
use Rattle.std.specs.Prelude.{◌≡◌, List, ℕ, ◌<◌, length, get_or}
use Rattle.sheet.specs.Line.{Line}
use Rattle.chase.specs.Lists.{All2}
use Rattle.chase.specs.Rules.{row_lines}

-- The numbers of a row with each 0 replaced by a number that is not 0 and stands at no other field; the others are kept.
pub record Filled (before after : List ℕ) : Type 0 where
  pub width : length before ≡ length after
  pub kept : (i : ℕ) → i < length before → (get_or before i 0 ≡ 0 → ⊥) → get_or after i 0 ≡ get_or before i 0
  pub not_zero : (i : ℕ) → i < length before → get_or after i 0 ≡ 0 → ⊥
  pub new : (i j : ℕ) → i < length before → j < length before → get_or before i 0 ≡ 0 → get_or after i 0 ≡ get_or after j 0 → i ≡ j

-- Row by row. A number that stands nowhere else in the table stands nowhere else in its row.
abbrev pub FilledRow : Line → Line → Type 0
FilledRow a b = (a.kind ≡ b.kind) × Filled a.numbers b.numbers

abbrev pub FilledTable : List Line → List Line → Type 0
FilledTable before after = All2 FilledRow (row_lines before) (row_lines after)
