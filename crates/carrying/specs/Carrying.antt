-- The rules of a sheet carried out on numbers (change request 1): which records are visited, and what each visit adds. Assumes nothing.
use Rattle.std.specs.Prelude.{◌≡◌, not, ◌&&◌, List, [], ◌∷◌, ◌++◌, map, ℕ, zero, suc, ◌+◌, ◌≤◌, length}
use Rattle.std.proofs.Common.{ap}
use Rattle.std.proofs.Math.Option.{Option, none, some}
use Rattle.std.proofs.Math.Decide.{ℕ_discrete}
use Rattle.std.proofs.Math.ListN.{get_elem?}
use Rattle.sheet.specs.Line.{Line}
use Rattle.patterns.specs.Pattern.{pick, index, add_all, lists_discrete}
use Rattle.chase.specs.Lists.{in?, both?, options_discrete, largest}
use Rattle.chase.specs.Rules.{Head, Rule, marks_of, row_lines}
use Rattle.chase.specs.Making.{value_of, Agree, has, keep, carried_values, makes}

-- A record of numbers.
pub record Row : Type 0 where
  pub kind : ℕ
  pub numbers : List ℕ

same_row : {k l : ℕ} {xs ys : List ℕ} → Dec (k ≡ l) → Dec (xs ≡ ys)
    → Dec (◌≡◌ {A = Row} (record { kind = k; numbers = xs }) (record { kind = l; numbers = ys }))
same_row (no h) q = no (λ e. h (ap (λ (x : Row). x.kind) e))
same_row (yes p) (no h) = no (λ e. h (ap (λ (x : Row). x.numbers) e))
same_row (yes p) (yes q) = yes (λ i. record { kind = p i; numbers = q i })

unfoldable pub Row-discrete : Discrete Row
unfolding same_row
Row-discrete x y = same_row (ℕ_discrete x.kind y.kind) (lists_discrete ℕ_discrete x.numbers y.numbers)

-- A rule, by its number, with values of its carried marks.
pub record Pair (A : Type 0) : Type 0 where
  pub rule : ℕ
  pub carried : List A

same_pair : {k l : ℕ} {xs ys : List ℕ} → Dec (k ≡ l) → Dec (xs ≡ ys)
    → Dec (◌≡◌ {A = Pair ℕ} (record { rule = k; carried = xs }) (record { rule = l; carried = ys }))
same_pair (no h) q = no (λ e. h (ap (λ (x : Pair ℕ). x.rule) e))
same_pair (yes p) (no h) = no (λ e. h (ap (λ (x : Pair ℕ). x.carried) e))
same_pair (yes p) (yes q) = yes (λ i. record { rule = p i; carried = q i })

unfoldable pub Pair-discrete : Discrete (Pair ℕ)
unfolding same_pair
Pair-discrete x y = same_pair (ℕ_discrete x.rule y.rule) (lists_discrete ℕ_discrete x.carried y.carried)

-- A rule fires on a row of its B kind whose numbers are equal wherever the B marks are equal.
abbrev pub FiresOn : Rule → Row → Type 0
FiresOn r w = (w.kind ≡ r.kind) × Agree r.marks w.numbers

abbrev pub fires_on? : (r : Rule) (w : Row) → Dec (FiresOn r w)
fires_on? r w =
    both? (ℕ_discrete w.kind r.kind)
    (lists_discrete (options_discrete ℕ_discrete) (map (value_of r.marks w.numbers) r.marks) (map some w.numbers))

-- Rule n with the values of its carried marks in a row.
abbrev pub pair_of : ℕ → Rule → Row → Pair ℕ
pair_of n r w = record { rule = n; carried = carried_values r w.numbers }

-- k, k + 1, and so on, n of them.
abbrev pub rising : ℕ → ℕ → List ℕ
rising k zero = []
rising k (suc n) = k ∷ rising (suc k) n

-- The fresh marks of a rule by rising mark: those that stand in some H and not in B.
unfoldable pub fresh_marks : Rule → List ℕ
fresh_marks r =
    keep (λ m. has m (marks_of r.heads) && not (has m r.marks)) (rising 0 (suc (largest (marks_of r.heads))))

-- Fresh marks get, by rising mark, the next numbers.
abbrev pub number_of : ℕ → Rule → ℕ → List ℕ → ℕ
number_of next r m carried = next + index ℕ_discrete m (fresh_marks r)

-- The row that an H line of a rule makes of a row.
abbrev pub row_made : ℕ → Rule → Row → Head → Row
row_made next r w h = record { kind = h.kind; numbers = makes (number_of next r) r w.numbers h.marks }

-- How far the rules are carried out: the rows so far, the next number, and the pairs that have fired, in their order.
pub record State : Type 0 where
  pub rows : List Row
  pub next : ℕ
  pub fired : List (Pair ℕ)

-- Rule n has fired on a row: rows not yet there are appended in H order, and as many numbers are taken as there are fresh marks.
abbrev pub fired : ℕ → Rule → Row → State → State
fired n r w s =
    record {
      rows = add_all Row-discrete (map (row_made s.next r w) r.heads) s.rows;
      next = s.next + length (fresh_marks r);
      fired = s.fired ++ (pair_of n r w ∷ []);
    }

-- Rule n is skipped on a row if it does not fire on it or has fired with the same carried values.
abbrev pub visit_rule : ℕ → Rule → Row → State → State
visit_rule n r w s = pick (fires_on? r w) (pick (in? Pair-discrete (pair_of n r w) s.fired) s (fired n r w s)) s

-- The rules in sheet order, the first of them number n.
abbrev pub visit_rules : ℕ → List Rule → Row → State → State
visit_rules n [] w s = s
visit_rules n (r ∷ rs) w s = visit_rules (suc n) rs w (visit_rule n r w s)

-- A row, if it is there, is visited by all rules.
abbrev pub visit : List Rule → Option Row → State → State
visit rules none s = s
visit rules (some w) s = visit_rules 1 rules w s

module _ (rules : List Rule) (begin : State) where
  -- After the first k rows are visited, in their order.
  abbrev pub after : ℕ → State
  after zero = begin
  after (suc k) = visit rules (get_elem? (after k).rows k) (after k)

  -- After k visits no row is left to visit.
  abbrev pub Finished : ℕ → Type 0
  Finished k = length (after k).rows ≤ k

-- A run begins with rows in order, repeats dropped, and a first number.
abbrev pub begins_at : ℕ → List Row → State
begins_at first rows = record { rows = add_all Row-discrete rows []; next = first; fired = [] }

abbrev pub numbers_in : List Row → List ℕ
numbers_in [] = []
numbers_in (w ∷ ws) = w.numbers ++ numbers_in ws

-- ZEROS, which are not given (change request 4). Each gets the next number, by field; the others stay.
abbrev pub filled : ℕ → List ℕ → List ℕ
filled next [] = []
filled next (zero ∷ ns) = next ∷ filled (suc next) ns
filled next (suc n ∷ ns) = suc n ∷ filled next ns

-- How many there are.
abbrev pub zeros : List ℕ → ℕ
zeros [] = 0
zeros (zero ∷ ns) = suc (zeros ns)
zeros (suc n ∷ ns) = zeros ns

-- By row and then by field.
abbrev pub filled_rows : ℕ → List Row → List Row
filled_rows next [] = []
filled_rows next (w ∷ ws) = record { kind = w.kind; numbers = filled next w.numbers } ∷ filled_rows (next + zeros w.numbers) ws

-- The table with its zeros filled: they get the next numbers after its largest value.
abbrev pub filled_table : List Row → List Row
filled_table rows = filled_rows (suc (largest (numbers_in rows))) rows

-- The last number before the fresh ones: the table's largest value, and one more for each 0.
abbrev pub last_filled : List Row → ℕ
last_filled rows = largest (numbers_in rows) + zeros (numbers_in rows)

-- So a run of a table begins; fresh marks go on from there.
abbrev pub begins : List Row → State
begins rows = begins_at (suc (last_filled rows)) (filled_table rows)

-- The rows of a sheet.
abbrev pub row_of : Line → Row
row_of l = record { kind = l.kind; numbers = l.numbers }

abbrev pub table_rows : List Line → List Row
table_rows ls = map row_of (row_lines ls)
