-- Zeros that are filled: where each number of a row goes, and one row more. Assumes nothing.
use mathlib.Core.Path.{◌≡◌, refl, sym, ◌∙◌, ap}
use mathlib.Core.List.{List, [], ◌∷◌, ◌++◌}
use Prim.Native.Nat.{ℕ, suc, ◌+◌, ◌≤◌, ◌<◌}
use native.Mathlib.Numerals.{add-one}
use native.Mathlib.Omega.{arith}
use lib.ListN.{length, get_or, take, drop, set, length-take, length-drop}
use lib.Seq.{take_all, get_or-take, get_or-drop, length-take-le}
use Rattle.rules.specs.Inner.Bytes.{Part}
use Rattle.rules.proofs.PartLaws.{part_none, part_next}
use Rattle.carrying.specs.Carrying.{Row, numbers_in, filled, zeros, filled_rows}
use Rattle.carrying.proofs.FilledLaws.{zeros-append, zero-filled, other_stays, one_zero, no_zero_there, zeros_few}

-- ---- the numbers of a row

module _ (line : List ℕ) (width : ℕ) where
  pub row_size : length line ≡ 8 → width ≤ 6 → length (take width (drop 2 line)) ≡ width
  row_size eight few = length-take-le width (drop 2 line) (omega (arith, length-drop 2 line))

  pub row_number : (k : ℕ) → k < width → get_or (take width (drop 2 line)) k 0 ≡ get_or line (2 + k) 0
  row_number k h = get_or-take width (drop 2 line) k 0 h ∙ get_or-drop 2 line k 0

-- The first k numbers of a row are put, each 0 as the next number.
pub record Filling (ns : List ℕ) (next : ℕ) (before : List ℕ) (k given : ℕ) (row : List ℕ) : Type 0 where
  pub put : Part before 1 k (λ (j : ℕ). get_or (filled next ns) j 0) row
  pub given_is : given ≡ next + zeros (take k ns)

pub filling_none : (ns : List ℕ) (next : ℕ) (before : List ℕ) → Filling ns next before 0 next before
filling_none ns next before = record { put = part_none before 1 (λ (j : ℕ). get_or (filled next ns) j 0); given_is = omega arith }

module _ {ns : List ℕ} {next : ℕ} {before : List ℕ} {k given : ℕ} {row : List ℕ} (f : Filling ns next before k given row) where
  pub filling_low : given ≤ next + k
  filling_low = omega (arith, f.given_is, zeros_few (take k ns), length-take k ns)

  -- The next number, x, is put at place j.
  module _ {j x : ℕ} (place : j ≡ 1 + k) (room : j < length before) (here : k < length ns) where
    pub filling_zero : {given' : ℕ} → get_or ns k 0 ≡ 0 → x ≡ given → given' ≡ given + 1 → Filling ns next before (k + 1) given' (set row j x)
    filling_zero e is more =
        record {
          put = part_next f.put place room (is ∙ f.given_is ∙ sym (zero-filled next ns k here e));
          given_is = omega (arith, more, f.given_is, ap (λ (n : ℕ). zeros (take n ns)) (add-one k), one_zero ns k here e);
        }

    pub filling_other : {given' : ℕ} → (get_or ns k 0 ≡ 0 → ⊥) → x ≡ get_or ns k 0 → given' ≡ given → Filling ns next before (k + 1) given' (set row j x)
    filling_other e is same =
        record {
          put = part_next f.put place room (is ∙ sym (other_stays next ns k e));
          given_is = omega (arith, same, f.given_is, ap (λ (n : ℕ). zeros (take n ns)) (add-one k), no_zero_there ns k e);
        }

  pub filling_all : length ns ≤ k → given ≡ next + zeros ns
  filling_all h = f.given_is ∙ ap (λ (l : List ℕ). next + zeros l) (take_all k ns h)

-- ---- rows

abbrev pub filled_row : ℕ → Row → Row
filled_row next w = record { kind = w.kind; numbers = filled next w.numbers }

pub length-filled_rows : (next : ℕ) (ws : List Row) → length (filled_rows next ws) ≡ length ws
length-filled_rows next [] = refl
length-filled_rows next (w ∷ ws) = ap suc (length-filled_rows (next + zeros w.numbers) ws)

pub zeros_last : (ws : List Row) (w : Row) → zeros (numbers_in (ws ++ (w ∷ []))) ≡ zeros (numbers_in ws) + zeros w.numbers
zeros_last [] w = omega (arith, zeros-append w.numbers [])
zeros_last (v ∷ ws) w =
    omega (arith, zeros-append v.numbers (numbers_in (ws ++ (w ∷ []))), zeros-append v.numbers (numbers_in ws), zeros_last ws w)

pub filled_rows_last : (next : ℕ) (ws : List Row) (w : Row)
    → filled_rows next (ws ++ (w ∷ [])) ≡ filled_rows next ws ++ (filled_row (next + zeros (numbers_in ws)) w ∷ [])
filled_rows_last next [] w = ap (λ (n : ℕ). filled_row n w ∷ []) (let e : next ≡ next + 0 = omega arith in e)
filled_rows_last next (v ∷ ws) w =
    ap (λ (l : List Row). filled_row next v ∷ l)
    (filled_rows_last (next + zeros v.numbers) ws w
    ∙ ap (λ (n : ℕ). filled_rows (next + zeros v.numbers) ws ++ (filled_row n w ∷ []))
    (let e : next + zeros v.numbers + zeros (numbers_in ws) ≡ next + zeros (v.numbers ++ numbers_in ws) = omega (arith, zeros-append v.numbers (numbers_in ws)) in e))
