-- A table with its zeros filled has rows of the same shapes, in the same order. Assumes nothing.
use mathlib.Core.Path.{◌≡◌, refl, sym, ◌∙◌, ap, ap₂}
use mathlib.Core.Logic.{◌⊎◌, inl, inr}
use mathlib.Core.List.{List, [], ◌∷◌, map, map-map}
use Prim.Native.Nat.{ℕ, ◌<◌}
use native.Mathlib.Decide.{ℕ_discrete}
use native.Mathlib.Omega.{arith}
use lib.ListN.{length, get_or}
use Rattle.patterns.specs.Lists.{Numbered, next, numbered}
use Rattle.patterns.specs.Pattern.{none_at, Label-discrete, labels, numbers_pattern}
use Rattle.patterns.proofs.PatternLaws.{same_places}
use Rattle.patterns.proofs.LabelLaws.{length-labels, same_label}
use Rattle.sheet.specs.Line.{Line}
use Rattle.chase.specs.Lists.{All2}
use Rattle.chase.specs.Rules.{row_lines}
use Rattle.chase.specs.Run.{row_record, rows_of}
use Rattle.chase.specs.Shape.{Shape, shape_of}
use Rattle.chase.specs.Filled.{Filled, FilledRow, FilledTable}
use Rattle.chase.proofs.RowLaws.{row-pattern}

module _ {before after : List ℕ} (f : Filled before after) where
  -- Fields have the same label before just if they have it after.
  to : (i j : ℕ) → i < length before → j < length before → (i ≡ j) ⊎ ((get_or before i 0 ≡ get_or before j 0) × (get_or before i 0 ≡ 0 → ⊥))
      → (i ≡ j) ⊎ ((get_or after i 0 ≡ get_or after j 0) × (get_or after i 0 ≡ 0 → ⊥))
  to i j p q (inl e) = inl e
  to i j p q (inr s) = inr (f.kept i p s.1 ∙ s.0 ∙ sym (f.kept j q (λ z. s.1 (s.0 ∙ z))), f.not_zero i p)

  from : (i j : ℕ) → i < length before → j < length before → (i ≡ j) ⊎ ((get_or after i 0 ≡ get_or after j 0) × (get_or after i 0 ≡ 0 → ⊥))
      → (i ≡ j) ⊎ ((get_or before i 0 ≡ get_or before j 0) × (get_or before i 0 ≡ 0 → ⊥))
  from i j p q (inl e) = inl e
  from i j p q (inr s) = go (ℕ_discrete (get_or before i 0) 0) (ℕ_discrete (get_or before j 0) 0)
    where
      go : Dec (get_or before i 0 ≡ 0) → Dec (get_or before j 0 ≡ 0) → (i ≡ j) ⊎ ((get_or before i 0 ≡ get_or before j 0) × (get_or before i 0 ≡ 0 → ⊥))
      go (yes z) w = inl (f.new i j p q z s.0)
      go (no z) (yes w) = inl (sym (f.new j i q p w (sym s.0)))
      go (no z) (no w) = inr (sym (f.kept i p z) ∙ s.0 ∙ f.kept j q w, z)

  pub filled-pattern : numbers_pattern before ≡ numbers_pattern after
  filled-pattern =
      let lb = length-labels before in
      let la = length-labels after in
      let w = f.width in
      same_places Label-discrete Label-discrete (labels before) (labels after) (none_at 0) (none_at 0) (lb ∙ w ∙ sym la)
      (λ i j p q.
      let k : i < length before = omega arith in
      let l : j < length before = omega arith in
      let b = same_label before i j k l in
      let a = same_label after i j (omega arith) (omega arith) in
      (λ e. a.1 (to i j k l (b.0 e)), λ e. b.1 (from i j k l (a.0 e))))

-- The shape of a row depends on its kind and numbers alone, and not on its number.
abbrev row_shape : Line → Shape
row_shape l = record { kind = l.kind; pattern = numbers_pattern l.numbers }

pub row-shape : (l : Numbered Line) → shape_of (row_record l) ≡ row_shape l.item
row-shape l = ap (λ (p : List ℕ). record { kind = l.item.kind; pattern = p }) (row-pattern l)

pub shapes_of_rows : (ls : List Line) → map (λ (l : Numbered Line). shape_of (row_record l)) (numbered ls) ≡ map row_shape ls
shapes_of_rows ls = go (λ (l : Numbered Line). l) (λ l. refl) ls
  where
    go : (f : Numbered Line → Numbered Line) → ((l : Numbered Line) → (f l).item ≡ l.item) → (ls : List Line)
        → map (λ (l : Numbered Line). shape_of (row_record (f l))) (numbered ls) ≡ map row_shape ls
    go f h [] = refl
    go f h (l ∷ ls) =
        ap₂ ◌∷◌ (row-shape (f (record { number = 1; item = l })) ∙ ap row_shape (h (record { number = 1; item = l })))
        (map-map (λ (l : Numbered Line). shape_of (row_record (f l))) next (numbered ls) ∙ go (λ l. f (next l)) (λ l. h (next l)) ls)

pub rows_shapes : (ls : List Line) → map shape_of (rows_of ls) ≡ map row_shape (row_lines ls)
rows_shapes ls = map-map shape_of row_record (numbered (row_lines ls)) ∙ shapes_of_rows (row_lines ls)

filled_shapes : (xs ys : List Line) → All2 FilledRow xs ys → map row_shape xs ≡ map row_shape ys
filled_shapes [] [] a = refl
filled_shapes [] (y ∷ ys) a = absurd a
filled_shapes (x ∷ xs) [] a = absurd a
filled_shapes (x ∷ xs) (y ∷ ys) a = cc (a.0.0, filled-pattern a.0.1, filled_shapes xs ys a.1)

pub filled-table : (ls ms : List Line) → FilledTable ls ms → map shape_of (rows_of ls) ≡ map shape_of (rows_of ms)
filled-table ls ms f = rows_shapes ls ∙ filled_shapes (row_lines ls) (row_lines ms) f ∙ sym (rows_shapes ms)
