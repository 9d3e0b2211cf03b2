-- The run with all pairs kept is the sheet's, and that with the pairs of rules with fresh marks is the one that keeps fewer. Assumes nothing.
use mathlib.Core.Path.{◌≡◌, refl, ◌∙◌, ap}
use mathlib.Core.List.{List, [], ◌∷◌}
use mathlib.Core.Option.{Option, none, some}
use Prim.Native.Nat.{ℕ, zero, suc, ◌+◌, ◌≤◌, ◌<◌}
use native.Mathlib.Omega.{arith}
use lib.ListN.{length, get_elem?}
use Rattle.patterns.specs.Pattern.{pick}
use Rattle.chase.specs.Rules.{Rule}
use Rattle.carrying.specs.Carrying.{Row, State, fires_on?, fresh_marks, visit_rule, visit_rules, visit, after}
use Rattle.carrying.specs.Inner.Keys.{key_on, key_rule, key_rules, key_visit, key_after}
use Rattle.running.specs.Inner.Firing.{rule_at}
use Rattle.running.specs.Inner.Visits.{kept_on, kept_rule, kept_rules, kept_visit, kept_after, rules_from}

-- Something holds of each rule with its number, the first of them rule r, counted from 0.
abbrev pub Each : (ℕ → Rule → Type 0) → ℕ → List Rule → Type 0
Each P r [] = Unit {0}
Each P r (x ∷ xs) = P r x × Each P (suc r) xs

pub each_from : (P : ℕ → Rule → Type 0) (table : List ℕ) (n r : ℕ) → ((j : ℕ) → r ≤ j → j < r + n → P j (rule_at table j)) → Each P r (rules_from table r n)
each_from P table zero r h = tt
each_from P table (suc n) r h = (h r (omega arith) (omega arith), each_from P table n (suc r) (λ j l m. h j (omega arith) (omega arith)))

module _ (keep : ℕ → ℕ) where
  -- All pairs are kept.
  abbrev pub Kept : ℕ → Rule → Type 0
  Kept r x = 0 < keep r

  rule_all : (k n : ℕ) (x : Rule) (w : Row) (s : State) → 0 < k → kept_rule k n x w s ≡ visit_rule n x w s
  rule_all zero n x w s h = absurd (omega arith)
  rule_all (suc k) n x w s h = refl

  rules_all : (xs : List Rule) (r : ℕ) (w : Row) (s : State) → Each Kept r xs → kept_rules keep r xs w s ≡ visit_rules (suc r) xs w s
  rules_all [] r w s e = refl
  rules_all (x ∷ xs) r w s e =
      rules_all xs (suc r) w (kept_rule (keep r) (suc r) x w s) e.1 ∙ ap (visit_rules (suc (suc r)) xs w) (rule_all (keep r) (suc r) x w s e.0)

  visit-all : (rules : List Rule) (o : Option Row) (s : State) → Each Kept 0 rules → kept_visit keep rules o s ≡ visit rules o s
  visit-all rules none s e = refl
  visit-all rules (some w) s e = rules_all rules 0 w s e

  pub kept_all : (rules : List Rule) (begin : State) → Each Kept 0 rules → (k : ℕ) → kept_after keep rules begin k ≡ after rules begin k
  kept_all rules begin e zero = refl
  kept_all rules begin e (suc k) =
      visit-all rules (get_elem? (kept_after keep rules begin k).rows k) (kept_after keep rules begin k) e
      ∙ ap (λ (s : State). visit rules (get_elem? s.rows k) s) (kept_all rules begin e k)

  -- Those of rules with fresh marks are.
  abbrev pub Marked : ℕ → Rule → Type 0
  Marked r x = keep r ≡ length (fresh_marks x)

  on_keys : (ms : List ℕ) (n : ℕ) (x : Rule) (w : Row) (s : State) → kept_on (length ms) n x w s ≡ key_on ms n x w s
  on_keys [] n x w s = refl
  on_keys (m ∷ ms) n x w s = refl

  rule_keys : (k n : ℕ) (x : Rule) (w : Row) (s : State) → k ≡ length (fresh_marks x) → kept_rule k n x w s ≡ key_rule n x w s
  rule_keys k n x w s e = ap (λ (t : State). pick (fires_on? x w) t s) (ap (λ (j : ℕ). kept_on j n x w s) e ∙ on_keys (fresh_marks x) n x w s)

  rules_keys : (xs : List Rule) (r : ℕ) (w : Row) (s : State) → Each Marked r xs → kept_rules keep r xs w s ≡ key_rules (suc r) xs w s
  rules_keys [] r w s e = refl
  rules_keys (x ∷ xs) r w s e =
      rules_keys xs (suc r) w (kept_rule (keep r) (suc r) x w s) e.1 ∙ ap (key_rules (suc (suc r)) xs w) (rule_keys (keep r) (suc r) x w s e.0)

  visit_keys : (rules : List Rule) (o : Option Row) (s : State) → Each Marked 0 rules → kept_visit keep rules o s ≡ key_visit rules o s
  visit_keys rules none s e = refl
  visit_keys rules (some w) s e = rules_keys rules 0 w s e

  pub kept_keys : (rules : List Rule) (begin : State) → Each Marked 0 rules → (k : ℕ) → kept_after keep rules begin k ≡ key_after rules begin k
  kept_keys rules begin e zero = refl
  kept_keys rules begin e (suc k) =
      visit_keys rules (get_elem? (kept_after keep rules begin k).rows k) (kept_after keep rules begin k) e
      ∙ ap (λ (s : State). key_visit rules (get_elem? s.rows k) s) (kept_keys rules begin e k)
