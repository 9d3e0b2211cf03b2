-- Which shapes wait at first: those from which a fresh link may lead. Assumes nothing.
use Rattle.std.specs.Prelude.{◌≡◌, Bool, true, false, List, ℕ, ◌+◌, ◌*◌, ◌/◌, ◌<◌, length, get_or}
use Rattle.rules.specs.Table.{row_bytes}
use Rattle.judging.specs.Inner.Firing.{kind_byte}
use Rattle.judging.specs.Inner.Passes.{place_of}

-- H line h of a rule's bytes has a fresh mark.
pub record HeadFresh (bytes : List ℕ) (h : ℕ) : Type 0 where
  pub j : ℕ
  pub below : j < get_or bytes (33 + 8 * h) 0
  pub fresh : place_of bytes h j ≡ 0

-- A rule's bytes have one.
pub record RuleFresh (bytes : List ℕ) : Type 0 where
  pub h : ℕ
  pub below : h < get_or bytes 28 0
  pub head : HeadFresh bytes h

-- Each kind that has a rule with a fresh mark is marked.
pub record FreshKinds (table : List ℕ) (rules : ℕ) (kinds : List Bool) : Type 0 where
  pub size : length kinds ≡ 65
  pub each : (r : ℕ) → r < rules → RuleFresh (row_bytes table r) → get_or kinds (kind_byte table r) false ≡ true

-- Of the first `count` shapes those wait whose kind has such a rule.
pub record FirstWaiting (table : List ℕ) (rules : ℕ) (codes : List ℕ) (count : ℕ) (waiting : List Bool) : Type 0 where
  pub size : length waiting ≡ 512
  pub each : (s r : ℕ) → s < count → r < rules → RuleFresh (row_bytes table r) → kind_byte table r ≡ get_or codes s 0 / 278 + 1 → get_or waiting s false ≡ true
