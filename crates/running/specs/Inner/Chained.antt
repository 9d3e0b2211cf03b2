-- A place that is looked for in its bucket's chain. Assumes nothing.
use Rattle.std.specs.Prelude.{◌≡◌, Bool, true, false, List, ℕ, ◌+◌, ◌≤◌, ◌<◌, length}
use Rattle.running.specs.Inner.Chains.{Chains}
use Rattle.running.specs.Inner.Held.{section}

-- Two sections of the index are the chains of so many places, of which a question may be asked; it is answered one way, and what is looked for falls into bucket b.
pub record Chained (index : List ℕ) (c b count : ℕ) (Asks : ℕ → Type 0) (Says : ℕ → Bool → Type 0) : Type 0 where
  pub bucket : ℕ → ℕ
  pub size : length index ≡ 24576
  pub low : c ≤ 4
  pub small : b < 4096
  pub chain : Chains bucket (section c index) (section (c + 1) index) count
  pub asks : (j : ℕ) → j < count → Asks j
  pub one_way : (j : ℕ) → j < count → Says j false → Says j true → ⊥
  pub falls : (j : ℕ) → j < count → Says j true → bucket j ≡ b
