-- What the functions that test the lines and fill the table of rules promise each other. Assumes nothing.
use Rattle.std.specs.Prelude.{◌≡◌, Option, Some, None, cond, List, [], ◌∷◌, ℕ, zero, suc, ◌+◌, ◌-◌, ◌*◌, ◌≤◌, ◌<◌, eqb, ltb, length, get_or, drop}
use Rattle.patterns.specs.Outcome.{refused}
use Rattle.sheet.specs.Write.{sheet_held}
use Rattle.chase.specs.Rules.{Head, Rule, marks_of, heads_of}
use Rattle.rules.specs.Table.{SheetHeld, first_place, source_at, lines_in}

-- The first wrong line of lent numbers; None where they are a sheet.
abbrev pub FirstWrong : List ℕ → Option ℕ → Type 0
FirstWrong numbers None = SheetHeld numbers
FirstWrong numbers (Some line) = sheet_held numbers ≡ refused 8 line

-- ---- lent numbers read as a rule

-- The numbers at the front, up to the first 0 and at most w.
abbrev pub front : ℕ → List ℕ → List ℕ
front zero ns = []
front (suc w) [] = []
front (suc w) (n ∷ ns) = cond (eqb n 0) [] (n ∷ front w ns)

-- The marks of line n.
abbrev pub marks_at : List ℕ → ℕ → List ℕ
marks_at numbers n = front 6 (drop (8 * n + 2) numbers)

abbrev pub head_at : List ℕ → ℕ → Head
head_at numbers n = record { kind = get_or numbers (8 * n + 1) 0; marks = marks_at numbers n }

-- Lines n and after it, so many.
abbrev pub heads_at : List ℕ → ℕ → ℕ → List Head
heads_at numbers n zero = []
heads_at numbers n (suc k) = head_at numbers n ∷ heads_at numbers (n + 1) k

-- The rule whose B line is line n and which has so many H lines.
abbrev pub rule_at : List ℕ → ℕ → ℕ → Rule
rule_at numbers n heads = record { kind = get_or numbers (8 * n + 1) 0; marks = marks_at numbers n; heads = heads_at numbers (n + 1) heads }

-- Line n is within the lent numbers.
abbrev pub LineIn : List ℕ → ℕ → Type 0
LineIn numbers n = 8 * n + 8 ≤ length numbers

-- So are so many lines from n on.
abbrev pub LinesIn : List ℕ → ℕ → ℕ → Type 0
LinesIn numbers n k = 8 * (n + k) ≤ length numbers

-- How many H lines stand at line n of a sheet and after it.
abbrev pub head_count : List ℕ → ℕ → ℕ
head_count numbers n = length (heads_of (drop n (lines_in numbers)))

-- ---- the bytes of a rule

-- A line's eight bytes.
abbrev pub line_byte : ℕ → List ℕ → ℕ → ℕ
line_byte kind marks zero = kind
line_byte kind marks (suc zero) = length marks
line_byte kind marks (suc (suc i)) = get_or marks i 0

abbrev pub head_byte : List Head → ℕ → ℕ
head_byte [] i = 0
head_byte (h ∷ hs) i = cond (ltb i 8) (line_byte h.kind h.marks i) (head_byte hs (i - 8))

unfoldable pub byte_of : Rule → ℕ → ℕ
byte_of r i =
    cond (ltb i 8) (line_byte r.kind r.marks i)
    (cond (ltb i 21) (first_place (i - 8) r.marks)
    (cond (ltb i 28) (source_at r (i - 21)) (cond (ltb i 32) (cond (eqb i 28) (length r.heads) 0) (head_byte r.heads (i - 32)))))

-- ---- bytes put into a table

-- The bytes from a place on are 0.
pub record Blank (table : List ℕ) (from : ℕ) : Type 0 where
  pub each : (j : ℕ) → from ≤ j → get_or table j 0 ≡ 0

-- n zeros.
pub record Clear (xs : List ℕ) (n : ℕ) : Type 0 where
  pub size : length xs ≡ n
  pub zeros : (k : ℕ) → get_or xs k 0 ≡ 0

-- So many bytes from a place on are put; the others stay.
pub record Part (before : List ℕ) (at size : ℕ) (byte : ℕ → ℕ) (after : List ℕ) : Type 0 where
  pub whole : length after ≡ length before
  pub below : (j : ℕ) → j < at → get_or after j 0 ≡ get_or before j 0
  pub above : (j : ℕ) → at + size ≤ j → get_or after j 0 ≡ get_or before j 0
  pub bytes : (i : ℕ) → i < size → get_or after (at + i) 0 ≡ byte i

abbrev pub mark_byte : List ℕ → ℕ → ℕ
mark_byte marks i = get_or marks i 0

abbrev pub place_byte : List ℕ → ℕ → ℕ
place_byte marks m = first_place m marks

-- The first place of a mark by the bytes of the rule that starts at a byte.
abbrev pub place_in : List ℕ → ℕ → ℕ → ℕ
place_in table at m = get_or table (at + 8 + m) 0

pub record PlacesFit (table : List ℕ) (at : ℕ) : Type 0 where
  pub small : (m : ℕ) → m ≤ 12 → place_in table at m ≤ 6

-- What the byte x of source p becomes where a mark with this first place is carried: place 0 is a source no more, and the first place is one.
abbrev pub source_once : ℕ → ℕ → ℕ → ℕ
source_once zero p x = x
source_once (suc k) zero x = 0
source_once (suc k) (suc i) x = cond (eqb k i) 1 x

-- What it becomes where each of these marks stands in an H line.
abbrev pub source_after : (ℕ → ℕ) → List ℕ → ℕ → ℕ → ℕ
source_after place [] p x = x
source_after place (m ∷ ms) p x = source_after place ms p (source_once (place m) p x)

abbrev pub sources_with : List ℕ → ℕ → List ℕ → ℕ → ℕ
sources_with table at marks p = source_after (place_in table at) marks p (get_or table (at + 21 + p) 0)

-- H lines and the sources that their marks show are put into the rule that starts at a byte.
pub record HeadsPut (before : List ℕ) (at : ℕ) (heads : List Head) (after : List ℕ) : Type 0 where
  pub whole : length after ≡ length before
  pub below : (j : ℕ) → j < at + 21 → get_or after j 0 ≡ get_or before j 0
  pub between : (j : ℕ) → at + 28 ≤ j → j < at + 32 → get_or after j 0 ≡ get_or before j 0
  pub above : (j : ℕ) → at + 64 ≤ j → get_or after j 0 ≡ get_or before j 0
  pub sources : (p : ℕ) → p < 7 → get_or after (at + 21 + p) 0 ≡ sources_with before at (marks_of heads) p
  pub lines : (i : ℕ) → i < 32 → get_or after (at + 32 + i) 0 ≡ head_byte heads i

-- The bytes of rule k are put into a table; the rows before it stay.
pub record RowPut (before : List ℕ) (k : ℕ) (rule : Rule) (after : List ℕ) : Type 0 where
  pub size : length after ≡ 16384
  pub same : (j : ℕ) → j < 64 * k → get_or after j 0 ≡ get_or before j 0
  pub bytes : (i : ℕ) → i < 64 → get_or after (64 * k + i) 0 ≡ byte_of rule i
