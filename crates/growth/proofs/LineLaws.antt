-- Line n of lent numbers, where they are taken eight by eight. Assumes nothing.
use mathlib.Core.Path.{◌≡◌, refl, ap, ◌∙◌}
use mathlib.Core.List.{List}
use Prim.Native.Nat.{ℕ, ◌+◌, ◌*◌, ◌/◌, ◌≤◌, ◌<◌}
use native.Mathlib.Omega.{arith}
use lib.ListN.{length, get_or, take, drop}
use lib.Seq.{get_or-drop}
use Rattle.std.proofs.lemmas.List.{get_or-take, take-take, drop-take}
use Rattle.sheet.proofs.Lines.{drop_twice}
use Rattle.sheet.proofs.LentLines.{Eight, from}

module _ {lines line : List ℕ} {n : ℕ} (e : Eight lines n line) where
  pub line_there : 8 * n < length lines
  line_there = let room = e.room in omega arith

  -- Its numbers stand in it as they are lent.
  pub number_at : (k : ℕ) → k < 8 → get_or line k 0 ≡ get_or lines (8 * n + k) 0
  number_at k h = ap (λ (l : List ℕ). get_or l k 0) e.is ∙ get_or-take 8 (from n lines) k 0 h ∙ get_or-drop (8 * n) lines k 0

  pub kind_at : get_or line 1 0 ≡ get_or lines (8 * n + 1) 0
  kind_at = number_at 1 (omega arith)

  pub letter_at : get_or line 0 0 ≡ get_or lines (8 * n) 0
  letter_at = number_at 0 (omega arith) ∙ ap (λ (i : ℕ). get_or lines i 0) (omega arith)

  pub fields_at : (w : ℕ) → w ≤ 6 → take w (drop 2 line) ≡ take w (drop (8 * n + 2) lines)
  fields_at w h =
      let six : drop 2 (take 8 (from n lines)) ≡ take 6 (drop 2 (from n lines)) = drop-take 2 6 (from n lines) in
      ap (λ (l : List ℕ). take w (drop 2 l)) e.is ∙ ap (λ (l : List ℕ). take w l) six ∙ take-take w 6 (drop 2 (from n lines)) h
      ∙ ap (λ (l : List ℕ). take w l) (drop_twice 2 (8 * n) (8 * n + 2) lines refl)
