-- A place looked for in its bucket's chain, whatever is asked of it. Assumes nothing.
use mathlib.Core.Path.{◌≡◌, sym, ap, ◌∙◌}
use mathlib.Core.Bool.{Bool, true, false}
use mathlib.Core.List.{List}
use Prim.Native.Nat.{ℕ, ◌+◌, ◌-◌, ◌*◌, ◌<◌}
use native.Mathlib.Omega.{arith}
use lib.ListN.{get_or}
use Rattle.chains.proofs.ChainLaws.{Searching, search_begin, search_place, search_next, search_less, found_nowhere}
use Rattle.running.specs.Inner.Chained.{Chained}
use Rattle.running.specs.Inner.Held.{section}
use Rattle.running.proofs.RecordLaws.{section_cell}

-- The search in the chain of bucket b, under what gives each place its bucket: `at` is the next place to look at.
pub record Seeking (index : List ℕ) (c b count : ℕ) (Asks : ℕ → Type 0) (Says : ℕ → Bool → Type 0) (at : ℕ) : Type 0 where
  pub chained : Chained index c b count Asks Says
  pub here : Searching chained.bucket b (λ j. (j < count) × Says j true) count at

module _ {index : List ℕ} {c b count : ℕ} {Asks : ℕ → Type 0} {Says : ℕ → Bool → Type 0} where
  pub seek_begun : (k : Chained index c b count Asks Says) → (at : ℕ) → at ≡ get_or index (4096 * c + b) 0 → Seeking index c b count Asks Says at
  seek_begun k at e =
      record { chained = k; here = search_begin k.bucket b (λ j. (j < count) × Says j true) k.chain at k.small (e ∙ sym (section_cell c index b k.small)) }

  module _ {at : ℕ} (s : Seeking index c b count Asks Says at) where
    abbrev Is : ℕ → Type 0
    Is j = (j < count) × Says j true

    falls : (j : ℕ) → (j < count) × Says j true → s.chained.bucket j ≡ b
    falls j i = s.chained.falls j i.0 i.1

    pub seek_nowhere : at ≡ 0 → (j : ℕ) → j < count → Says j true → ⊥
    seek_nowhere e j h i = (found_nowhere s.chained.bucket b Is s.chained.chain falls at s.here e).nowhere (λ i. count) j h (h, i)

    module _ (more : 0 < at) where
      pub seek_place : at - 1 < count
      seek_place = search_place s.chained.bucket b Is s.chained.chain falls at s.here more

      pub seek_small : at - 1 < 4096
      seek_small = omega (arith, seek_place, s.chained.chain.small)

      module _ (after : ℕ) (e : after ≡ get_or index (4096 * c + 4096 + (at - 1)) 0) where
        leads : after ≡ get_or (section (c + 1) index) (at - 1) 0
        leads =
            let z : 4096 * c + 4096 + (at - 1) ≡ 4096 * (c + 1) + (at - 1) = omega arith in
            e ∙ ap (λ (k : ℕ). get_or index k 0) z ∙ sym (section_cell (c + 1) index (at - 1) seek_small)

        pub seek_less : after < at
        seek_less = search_less s.chained.bucket b Is s.chained.chain falls at s.here more after leads

        pub seek_next : Says (at - 1) false → Seeking index c b count Asks Says after
        seek_next other =
            record { chained = s.chained; here = search_next s.chained.bucket b Is s.chained.chain falls at s.here more (λ i. s.chained.one_way (at - 1) i.0 other i.1) after leads }
