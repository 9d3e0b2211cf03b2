-- The table of rules: 64 bytes for each rule. Assumes nothing.
use Rattle.std.specs.Prelude.{◌≡◌, Bool, true, false, cond, ◌&&◌, List, [], ◌∷◌, ℕ, zero, suc, ◌+◌, ◌*◌, ◌≤◌, ◌<◌, eqb, length, get_or, take, drop}
use Rattle.patterns.specs.Outcome.{Outcome, good, refused}
use Rattle.sheet.specs.Line.{Line}
use Rattle.sheet.specs.Write.{sheet_held}
use Rattle.chase.specs.Lists.{All}
use Rattle.chase.specs.Rules.{Head, Rule, rules_of, marks_of}
use Rattle.chase.specs.Making.{Record, has, carried_marks}
use Rattle.chase.specs.Run.{rows_of}

-- The lines of a good answer; none of a refusal.
abbrev pub good_lines : Outcome (List Line) → List Line
good_lines (good ls) = ls
good_lines (refused number line) = []

-- The lines, rules and rows that lent numbers hold, where they are a sheet.
abbrev pub lines_in : List ℕ → List Line
lines_in numbers = good_lines (sheet_held numbers)

abbrev pub rules_in : List ℕ → List Rule
rules_in numbers = rules_of (lines_in numbers)

abbrev pub rows_in : List ℕ → List Record
rows_in numbers = rows_of (lines_in numbers)

-- The lent numbers are a sheet.
pub record SheetHeld (numbers : List ℕ) : Type 0 where
  pub lines : List Line
  pub holds : sheet_held numbers ≡ good lines

-- A rule's bytes read back.
abbrev pub heads_in : ℕ → List ℕ → List Head
heads_in zero bytes = []
heads_in (suc n) bytes = record { kind = get_or bytes 0 0; marks = take (get_or bytes 1 0) (drop 2 bytes) } ∷ heads_in n (drop 8 bytes)

unfoldable pub rule_in : List ℕ → Rule
rule_in bytes =
    record { kind = get_or bytes 0 0; marks = take (get_or bytes 1 0) (drop 2 bytes); heads = heads_in (get_or bytes 28 0) (drop 32 bytes) }

-- The 64 bytes of rule k, counted from 0.
abbrev pub row_bytes : List ℕ → ℕ → List ℕ
row_bytes table k = take 64 (drop (64 * k) table)

-- The first n rules of a table.
abbrev pub table_rules : List ℕ → ℕ → List Rule
table_rules table zero = []
table_rules table (suc n) = rule_in (take 64 table) ∷ table_rules (drop 64 table) n

abbrev pub later : ℕ → ℕ
later zero = zero
later (suc k) = suc (suc k)

-- The first place of a mark, from 1; 0 where it does not stand there.
abbrev pub first_place : ℕ → List ℕ → ℕ
first_place m [] = 0
first_place m (b ∷ bs) = cond (eqb m b) 1 (later (first_place m bs))

abbrev pub is_none : List ℕ → Bool
is_none [] = true
is_none (m ∷ ms) = false

abbrev pub flag : Bool → ℕ
flag true = 1
flag false = 0

-- Where the fresh numbers of a rule come from: place 0 where it carries nothing, and the first place of each carried mark.
abbrev pub source_at : Rule → ℕ → ℕ
source_at r zero = flag (is_none (carried_marks r))
source_at r (suc i) =
    flag (eqb (first_place (get_or r.marks i 0) r.marks) (suc i) && has (get_or r.marks i 0) (marks_of r.heads))

-- Marks as a sheet has them: one to six, each 1 to 12.
pub record MarksFit (marks : List ℕ) : Type 0 where
  pub some : 1 ≤ length marks
  pub few : length marks ≤ 6
  pub each : All (λ m. (1 ≤ m) × (m ≤ 12)) marks

abbrev pub KindFits : ℕ → Type 0
KindFits kind = (1 ≤ kind) × (kind ≤ 64)

pub record HeadFits (h : Head) : Type 0 where
  pub kind : KindFits h.kind
  pub marks : MarksFit h.marks

-- A rule as a sheet has it.
pub record RuleFits (r : Rule) : Type 0 where
  pub kind : KindFits r.kind
  pub marks : MarksFit r.marks
  pub some : 1 ≤ length r.heads
  pub few : length r.heads ≤ 4
  pub heads : All HeadFits r.heads

-- The bytes of a rule: it is one of a sheet, with the first places of its marks, the places that its fresh numbers come from, and no H line wider than its bytes.
pub record BytesFit (bytes : List ℕ) : Type 0 where
  pub rule : RuleFits (rule_in bytes)
  pub places : (m : ℕ) → m ≤ 12 → get_or bytes (8 + m) 0 ≡ first_place m (rule_in bytes).marks
  pub sources : (p : ℕ) → p ≤ 6 → get_or bytes (21 + p) 0 ≡ source_at (rule_in bytes) p
  pub widths : (h : ℕ) → h < get_or bytes 28 0 → get_or bytes (33 + 8 * h) 0 ≤ 6

-- A table of 16,384 bytes with so many rules, at most 256.
pub record TableFits (table : List ℕ) (count : ℕ) : Type 0 where
  pub size : length table ≡ 16384
  pub few : count ≤ 256
  pub each : (k : ℕ) → k < count → BytesFit (row_bytes table k)
