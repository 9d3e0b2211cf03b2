-- The forecast of a sheet that settles (change request 3): how many values, records, and pairs of rule and carried values it may come to. Assumes nothing.
use Rattle.std.specs.Prelude.{cond, List, [], ◌∷◌, ◌++◌, ℕ, zero, suc, ◌+◌, ◌*◌, eqb, leb, length, get_or}
use Rattle.patterns.specs.Pattern.{add_all}
use Rattle.sheet.specs.Line.{K, Line}
use Rattle.chase.specs.Rules.{Rule, rules_of}
use Rattle.chase.specs.Value.{Value, Value-discrete}
use Rattle.chase.specs.Making.{Record, carried_marks}
use Rattle.chase.specs.Run.{rows_of}
use Rattle.carrying.specs.Carrying.{fresh_marks}

-- The values of some records, field after field.
abbrev pub fields_of : List Record → List Value
fields_of [] = []
fields_of (x ∷ xs) = x.fields ++ fields_of xs

-- The different values of some records, each once.
unfoldable pub values_in : List Record → List Value
values_in records = add_all Value-discrete (fields_of records) []

-- The first t: how many different values the table has; each 0, which is not given, is one of its own.
unfoldable pub first_t : List Line → ℕ
first_t lines = length (values_in (rows_of lines))

-- t to the power n. The power 0 is 1, of 0 too.
abbrev pub power : ℕ → ℕ → ℕ
power t zero = 1
power t (suc n) = t * power t n

-- The sum over a list.
abbrev pub sum_of : {A : Type 0} → (A → ℕ) → List A → ℕ
sum_of f [] = 0
sum_of f (x ∷ xs) = f x + sum_of f xs

-- How many fresh numbers a rule may make of t values: fresh marks × t to the power of the carried marks.
abbrev pub new_with : ℕ → Rule → ℕ
new_with t r = length (fresh_marks r) * power t (length (carried_marks r))

-- The next t: the first t plus, over all rules, what they may make of the current one.
abbrev pub next : List Rule → ℕ → ℕ → ℕ
next rules first t = first + sum_of (new_with t) rules

-- t after so many generations.
abbrev pub values_after : List Rule → ℕ → ℕ → ℕ
values_after rules first zero = first
values_after rules first (suc d) = next rules first (values_after rules first d)

-- The last t of a sheet with this deepest generation.
unfoldable pub last_t : List Line → ℕ → ℕ
last_t lines deepest = values_after (rules_of lines) (first_t lines) deepest

-- The K lines in sheet order, and the width that one declares. A declared kind counts, used or not.
abbrev pub kind_lines : List Line → List Line
kind_lines [] = []
kind_lines (l ∷ ls) = cond (eqb l.letter K) (l ∷ kind_lines ls) (kind_lines ls)

abbrev pub width_in : Line → ℕ
width_in l = get_or l.numbers 0 0

-- The sum over kinds of t to the width.
abbrev pub records_with : List Line → ℕ → ℕ
records_with kinds t = sum_of (λ k. power t (width_in k)) kinds

-- The sum over rules of t to the carried marks.
abbrev pub pairs_with : List Rule → ℕ → ℕ
pairs_with rules t = sum_of (λ r. power t (length (carried_marks r))) rules

-- A figure as it is answered: its number, or "beyond" above 4,294,967,295.
pub data Figure : Type 0 where
  exactly : ℕ → Figure
  beyond : Figure

abbrev pub figure_limit : ℕ
figure_limit = 4294967295

unfoldable pub figure : ℕ → Figure
figure n = cond (leb n figure_limit) (exactly n) beyond

-- Values, records, and pairs of rule and carried values.
pub record Forecast : Type 0 where
  pub values : Figure
  pub records : Figure
  pub pairs : Figure

-- The forecast of a sheet whose deepest generation is this.
unfoldable pub forecast : List Line → ℕ → Forecast
forecast lines deepest =
    record {
      values = figure (last_t lines deepest);
      records = figure (records_with (kind_lines lines) (last_t lines deepest));
      pairs = figure (pairs_with (rules_of lines) (last_t lines deepest));
    }
