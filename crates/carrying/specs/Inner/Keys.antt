-- The run as the code goes about it: only the pairs of rules with fresh marks are kept, and the firings are counted afterwards, rule by rule. Assumes nothing.
use Rattle.std.specs.Prelude.{List, [], ◌∷◌, map, ℕ, zero, suc, ◌+◌, length}
use Rattle.std.proofs.Math.Option.{Option, none, some}
use Rattle.std.proofs.Math.ListN.{get_elem?}
use Rattle.patterns.specs.Pattern.{pick, add_all}
use Rattle.chase.specs.Lists.{in?}
use Rattle.chase.specs.Rules.{Rule}
use Rattle.carrying.specs.Carrying.{Row, Row-discrete, Pair, Pair-discrete, fires_on?, fresh_marks, row_made, pair_of, State, fired}

-- Rule n on a row on which it fires, by its fresh marks. Without any it adds nothing where it fires again; with some it has added a row.
abbrev pub key_on : List ℕ → ℕ → Rule → Row → State → State
key_on [] n r w s = record { rows = add_all Row-discrete (map (row_made s.next r w) r.heads) s.rows; next = s.next; fired = s.fired }
key_on (m ∷ ms) n r w s = pick (in? Pair-discrete (pair_of n r w) s.fired) s (fired n r w s)

abbrev pub key_rule : ℕ → Rule → Row → State → State
key_rule n r w s = pick (fires_on? r w) (key_on (fresh_marks r) n r w s) s

abbrev pub key_rules : ℕ → List Rule → Row → State → State
key_rules n [] w s = s
key_rules n (r ∷ rs) w s = key_rules (suc n) rs w (key_rule n r w s)

abbrev pub key_visit : List Rule → Option Row → State → State
key_visit rules none s = s
key_visit rules (some w) s = key_rules 1 rules w s

abbrev pub key_after : List Rule → State → ℕ → State
key_after rules begin zero = begin
key_after rules begin (suc k) = key_visit rules (get_elem? (key_after rules begin k).rows k) (key_after rules begin k)

-- The pairs of rule n over some rows, one for each row on which it fires.
abbrev pub pairs_on : ℕ → Rule → List Row → List (Pair ℕ)
pairs_on n r [] = []
pairs_on n r (w ∷ ws) = pick (fires_on? r w) (pair_of n r w ∷ pairs_on n r ws) (pairs_on n r ws)

-- How many different ones there are, rule by rule, the first of them number n.
abbrev pub firings_on : ℕ → List Rule → List Row → ℕ
firings_on n [] ws = 0
firings_on n (r ∷ rs) ws = length (add_all Pair-discrete (pairs_on n r ws) []) + firings_on (suc n) rs ws
