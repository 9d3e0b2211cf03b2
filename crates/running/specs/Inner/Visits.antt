-- Visits: the state that memory holds, and what visiting leaves. Assumes nothing.
use Rattle.std.specs.Prelude.{◌≡◌, true, ◌⊎◌, List, [], ◌∷◌, ℕ, zero, suc, ◌+◌, ◌*◌, ◌≤◌, ◌<◌, max, length, get_or}
use Rattle.std.proofs.Math.Option.{Option, none, some}
use Rattle.std.proofs.Math.ListN.{get_elem?}
use Rattle.patterns.specs.Pattern.{pick}
use Rattle.chase.specs.Lists.{in?}
use Rattle.sheet.specs.Sheet.{top_mark, marks_from}
use Rattle.chase.specs.Rules.{Rule, marks_of}
use Rattle.carrying.specs.Carrying.{Row, Pair-discrete, State, fires_on?, fresh_marks, pair_of, fired}
use Rattle.running.specs.Inner.Held.{row_at, rows_at, Stored}
use Rattle.running.specs.Inner.Firing.{rule_at, Ready, with_made}
use Rattle.running.specs.Inner.Pairs.{Noted, pairs_at}
use Rattle.running.specs.declared.visits.Counts.{Counts}

-- The state of the run.
abbrev pub state_at : List ℕ → List ℕ → List ℕ → Counts → State
state_at table numbers index c = record { rows = rows_at numbers c.rows; next = c.next; fired = pairs_at table numbers index c.pairs }

pub record Running (table numbers index : List ℕ) (rules : ℕ) (c : Counts) : Type 0 where
  pub stored : Stored numbers index c.by c.rows
  pub noted : Noted c.by table numbers index rules c.rows c.pairs
  pub low : c.next ≤ 100006144 + 12 * c.pairs

-- The marks of each rule are as a sheet has them: none is skipped.
pub record MarksRight (table : List ℕ) (rules : ℕ) : Type 0 where
  pub body : (r : ℕ) → r < rules → marks_from 0 (rule_at table r).marks ≡ true
  pub heads : (r : ℕ) → r < rules → marks_from (top_mark 0 (rule_at table r).marks) (marks_of (rule_at table r).heads) ≡ true

-- What is prepared of each rule: the largest mark of its B line, how many fresh marks it has, and its kind.
pub record Prepared (table : List ℕ) (rules : ℕ) (fresh : List ℕ) : Type 0 where
  pub size : length fresh ≡ 1024
  pub ready : (r : ℕ) → r < rules → Ready table rules r (get_or fresh r 0)
  pub counted : (r : ℕ) → r < rules → get_or fresh (256 + r) 0 ≡ length (fresh_marks (rule_at table r))
  pub few : (r : ℕ) → r < rules → get_or fresh (256 + r) 0 ≤ 12
  pub kinds : (r : ℕ) → r < rules → get_or fresh (768 + r) 0 ≡ (rule_at table r).kind

-- Whether its pairs are kept: where it has fresh marks, and for `least` 1 always.
pub record Keeping (table : List ℕ) (rules least : ℕ) (fresh : List ℕ) : Type 0 where
  pub kept : (r : ℕ) → r < rules → get_or fresh (512 + r) 0 ≡ max least (length (fresh_marks (rule_at table r)))

-- More than there is room for.
abbrev pub Over : State → Type 0
Over s = (4096 < length s.rows) ⊎ (4096 < length s.fired)

-- The state that is left, with the records from before in their places; or there is too much of it.
pub record Left (table numbers : List ℕ) (rules : ℕ) (before : Counts) (numbers' index' : List ℕ) (c : Counts) (s : State) : Type 0 where
  pub room : length numbers' ≡ length numbers
  pub size : length index' ≡ 24576
  pub mixing : c.by ≡ before.by
  pub more : before.rows ≤ c.rows
  pub running : c.rows ≤ 4096 → Running table numbers' index' rules c
  pub state : c.rows ≤ 4096 → state_at table numbers' index' c ≡ s
  pub over : 4096 < c.rows → Over s
  pub same : (i : ℕ) → i < before.rows → row_at numbers' i ≡ row_at numbers i

-- A rule whose pairs are kept, on a row on which it fires.
abbrev pub fired_once : ℕ → Rule → Row → State → State
fired_once n r w s = pick (in? Pair-discrete (pair_of n r w) s.fired) s (fired n r w s)

-- The same of any rule, by whether its pairs are kept: a rule whose pairs are not kept fires again.
abbrev pub kept_on : ℕ → ℕ → Rule → Row → State → State
kept_on zero n r w s = record { rows = with_made s.next r w s.rows; next = s.next; fired = s.fired }
kept_on (suc k) n r w s = fired_once n r w s

abbrev pub kept_rule : ℕ → ℕ → Rule → Row → State → State
kept_rule k n r w s = pick (fires_on? r w) (kept_on k n r w s) s

-- The rules in their order, the first of them rule r, counted from 0.
abbrev pub kept_rules : (ℕ → ℕ) → ℕ → List Rule → Row → State → State
kept_rules keep r [] w s = s
kept_rules keep r (x ∷ xs) w s = kept_rules keep (suc r) xs w (kept_rule (keep r) (suc r) x w s)

abbrev pub kept_visit : (ℕ → ℕ) → List Rule → Option Row → State → State
kept_visit keep rules none s = s
kept_visit keep rules (some w) s = kept_rules keep 0 rules w s

abbrev pub kept_after : (ℕ → ℕ) → List Rule → State → ℕ → State
kept_after keep rules begin zero = begin
kept_after keep rules begin (suc k) = kept_visit keep rules (get_elem? (kept_after keep rules begin k).rows k) (kept_after keep rules begin k)

-- Whether the pairs of rule r are kept.
abbrev pub keep_in : List ℕ → ℕ → ℕ
keep_in fresh r = get_or fresh (512 + r) 0

-- How many records there are.
abbrev pub rows_held : Counts → ℕ
rows_held c = c.rows

-- So many rules of the table, from rule r on.
abbrev pub rules_from : List ℕ → ℕ → ℕ → List Rule
rules_from table r zero = []
rules_from table r (suc n) = rule_at table r ∷ rules_from table (suc r) n

-- The run after so many visits: all records are visited, or there is too much.
pub record Ended (table numbers : List ℕ) (rules : ℕ) (fresh : List ℕ) (before : Counts) (numbers' index' : List ℕ) (c : Counts) (begin : State) : Type 0 where
  pub visits : ℕ
  pub left : Left table numbers rules before numbers' index' c (kept_after (keep_in fresh) (rules_from table 0 rules) begin visits)
  pub ended : c.rows ≤ 4096 → c.rows ≤ visits
