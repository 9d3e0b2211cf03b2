-- The rules of a kind in turn, and which rule of a table fires next. Assumes nothing.
use Rattle.std.specs.Prelude.{◌≡◌, true, false, List, ℕ, ◌+◌, ◌-◌, ◌≤◌, ◌<◌, length, get_or, Option, Some, None, IfSome}
use Rattle.rules.specs.Table.{row_bytes, rule_in}
use Rattle.judging.specs.Inner.Codes.{FiresOn}

-- Byte 0 of rule i: its kind.
abbrev pub kind_byte : List ℕ → ℕ → ℕ
kind_byte table i = get_or (row_bytes table i) 0 0

-- Of the rules from rule r on, q is the first that has a kind; it is the number of rules where none has.
pub record NextOf (table : List ℕ) (rules r kind q : ℕ) : Type 0 where
  pub begun : r ≤ q
  pub within : q ≤ rules
  pub other : (i : ℕ) → r ≤ i → i < q → kind_byte table i ≡ kind → ⊥
  pub same : q < rules → kind_byte table q ≡ kind

-- The rules by their kinds: at a kind its first rule, at 65 + r the first rule after rule r that has the kind of rule r.
pub record ByKind (table : List ℕ) (rules : ℕ) (kinds : List ℕ) : Type 0 where
  pub size : length kinds ≡ 321
  pub first : (k : ℕ) → k ≤ 64 → NextOf table rules 0 k (get_or kinds k 0)
  pub next : (r : ℕ) → r < rules → NextOf table rules (r + 1) (kind_byte table r) (get_or kinds (65 + r) 0)

-- Place p tells of a kind: it is the kind, or 65 + a rule of the kind. The rules after it are those from rule p - 64 on.
pub record Place (table : List ℕ) (rules kind p : ℕ) : Type 0 where
  pub start : p ≤ 64 → p ≡ kind
  pub rule : 64 < p → (p - 65 < rules) × (kind_byte table (p - 65) ≡ kind)

-- Of the rules from rule r on, q is the first that fires on a record of a kind and of digits in six places; it is the number of rules where none does.
pub record NextFire (table : List ℕ) (rules r kind : ℕ) (digits : List ℕ) (q : ℕ) : Type 0 where
  pub begun : r ≤ q
  pub within : q ≤ rules
  pub still : (i : ℕ) → r ≤ i → i < q → FiresOn (rule_in (row_bytes table i)) kind digits false
  pub fires : q < rules → FiresOn (rule_in (row_bytes table q)) kind digits true

-- A rule that is named, or the end of the rules where none is.
abbrev pub or_end : ℕ → Option ℕ → ℕ
or_end rules (Some q) = q
or_end rules None = rules

-- The same, where none is named if none fires.
pub record NextFires (table : List ℕ) (rules r kind : ℕ) (digits : List ℕ) (next : Option ℕ) : Type 0 where
  pub fire : NextFire table rules r kind digits (or_end rules next)
  pub low : IfSome next (λ q. q < rules)
