-- The search for the shapes of the rows. Assumes nothing.
use mathlib.Core.Path.{◌≡◌, refl, sym, subst, subst₂, ap, ◌∙◌}
use mathlib.Core.List.{List, [], ◌∷◌}
use mathlib.Core.Option.{some}
use Prim.Native.Nat.{ℕ, suc, ◌+◌, ◌*◌, ◌<◌}
use native.Mathlib.Numerals.{add-one}
use native.Mathlib.Omega.{arith}
use borrow.Author.Count.{below_more}
use lib.ListN.{length, get_or, set, drop, length-drop}
use lib.Seq.{get_or-drop, length-take-le}
use Rattle.std.proofs.lemmas.List.{get_or-take}
use Rattle.patterns.specs.Lists.{Numbered}
use Rattle.patterns.specs.Pattern.{numbers_pattern}
use Rattle.sheet.specs.Line.{Line}
use Rattle.sheet.proofs.LentLines.{Eight, from}
use Rattle.chase.specs.Rules.{Rule, nth}
use Rattle.chase.specs.Making.{Record}
use Rattle.chase.specs.Run.{row_record}
use Rattle.chase.specs.Shape.{Shape, shape_of}
use Rattle.chase.specs.Counting.{MoreThan}
use Rattle.chase.specs.Simplification.{Derived}
use Rattle.chase.proofs.FillLaws.{row-shape}
use Rattle.judging.specs.Inner.Codes.{shape_at, ShapeFits, CodeIs}
use Rattle.rules.specs.Table.{rows_in}
use Rattle.judging.specs.Inner.Found.{Has, via_row}
use Rattle.rules.specs.Inner.Bytes.{Clear}
use Rattle.rules.specs.Inner.Rows.{row_numbers, RowAt}
use Rattle.judging.specs.Inner.Rows.{RowsFound}
use Rattle.judging.proofs.CodeLaws.{pattern-fits}
use Rattle.judging.proofs.FoundLaws.{new_shape, has_more, has_last, room_of, marked_has, kept_push, more_than, derived_row}

-- Line n of the lent numbers, where they are taken eight by eight.
module _ {numbers line : List ℕ} {n : ℕ} (e : Eight numbers n line) where
  pub line_there : 8 * n < length numbers
  line_there = let room = e.room in omega arith

  pub number_at : (k : ℕ) → k < 8 → get_or line k 0 ≡ get_or numbers (8 * n + k) 0
  number_at k h = ap (λ (l : List ℕ). get_or l k 0) e.is ∙ get_or-take 8 (from n numbers) k 0 h ∙ get_or-drop (8 * n) numbers k 0

  pub letter_at : get_or line 0 0 ≡ get_or numbers (8 * n) 0
  letter_at = number_at 0 (omega arith) ∙ ap (λ (i : ℕ). get_or numbers i 0) (omega arith)

-- The rows' shapes.
pub rows_begun : (rules : List Rule) (rows : List Record) (codes index : List ℕ) (ways : List (List ℕ)) → length codes ≡ 512 → Clear index 17792
    → length ways ≡ 512 → RowsFound rules rows codes index ways 0 0
rows_begun rules rows codes index ways a i b =
    record {
      kept =
          record {
            sizes = (a, i.size, b);
            few = omega arith;
            small = λ k l. let z : ⊥ = omega arith in absurd z;
            fits = λ k l. let z : ⊥ = omega arith in absurd z;
            placed = λ k l. let z : ⊥ = omega arith in absurd z;
            marked = λ code k e. let z : ⊥ = omega (arith, i.zeros code) in absurd z;
            via = λ k l. let z : ⊥ = omega arith in absurd z;
          };
      rows_in = λ k x l e. let z : ⊥ = omega arith in absurd z;
    }

module _ {rules : List Rule} {rows : List Record} {codes index : List ℕ} {ways : List (List ℕ)} {n row : ℕ}
    (found : RowsFound rules rows codes index ways n row) (x : Record) (named : nth rows (row + 1) ≡ some x) (code : ℕ) (is : shape_at code ≡ shape_of x) where
  named_suc : nth rows (suc row) ≡ some x
  named_suc = rw add-one at named

  rows_next : (codes' : List ℕ) (m : ℕ) → ((s : Shape) → Has codes n s → Has codes' m s) → Has codes' m (shape_at code)
      → (k : ℕ) → k < row + 1 → (y : Record) → nth rows (suc k) ≡ some y → Has codes' m (shape_of y)
  rows_next codes' m more here =
      below_more (λ (k : ℕ). (y : Record) → nth rows (suc k) ≡ some y → Has codes' m (shape_of y)) row
      (λ (k : ℕ) (l : k < row) (y : Record) (e : nth rows (suc k) ≡ some y). more (shape_of y) (found.rows_in k y l e))
      (λ (y : Record) (e : nth rows (suc row) ≡ some y).
      let q : x ≡ y = cc (named_suc) in
      subst (λ (z : Record). Has codes' m (shape_of z)) q (subst (Has codes' m) is here))

  -- A row's shape that was there.
  pub row_seen : (get_or index code 0 ≡ 0 → ⊥) → RowsFound rules rows codes index ways n (row + 1)
  row_seen m = record { kept = found.kept; rows_in = λ k y l e. rows_next codes n (λ s h. h) (marked_has found.kept code m) k l y e }

  -- A row's shape put at the end.
  pub row_push : (n ≡ 512 → ⊥) → code < 17792 → ShapeFits (shape_at code) → get_or index code 0 ≡ 0
      → RowsFound rules rows (set codes n code) (set index code (n + 1)) (set ways n (0 ∷ (row + 1) ∷ 0 ∷ [])) (n + 1) (row + 1)
  row_push ne small fit z =
      let room = room_of found.kept ne in
      record {
        kept =
            kept_push found.kept code (0 ∷ (row + 1) ∷ 0 ∷ []) ne small fit z
            (via_row x refl named (new_shape codes n code room ∙ is));
        rows_in =
            λ k y l e. rows_next (set codes n code) (n + 1) (λ s h. has_more codes n code room h) (has_last codes n code room) k l y e;
      }

  pub row_more : n ≡ 512 → code < 17792 → get_or index code 0 ≡ 0 → MoreThan (Derived rules rows) 512
  row_more full small z = more_than found.kept code full small z (derived_row (shape_at code) (row + 1) x named is)

-- A row is tried.
module _ {rules : List Rule} {numbers codes index : List ℕ} {ways : List (List ℕ)} {n width row count : ℕ} (row_is : RowAt numbers n width (row + 1))
    (found : RowsFound rules (rows_in numbers) codes index ways count row) (code : ℕ)
    (is : CodeIs (get_or numbers (8 * n + 1) 0) (numbers_pattern (row_numbers numbers n width)) code) where
  -- The row with its number.
  abbrev line : Numbered Line
  line = record { number = row + 1; item = row_is.line }

  line_code : CodeIs row_is.line.kind (numbers_pattern row_is.line.numbers) code
  line_code = subst₂ (λ (k : ℕ) (ns : List ℕ). CodeIs k (numbers_pattern ns) code) row_is.kind row_is.numbers_are is

  line_shape : shape_at code ≡ shape_of (row_record line)
  line_shape = line_code.back ∙ sym (row-shape line)

  line_width : length row_is.line.numbers ≡ width
  line_width =
      let z = row_is.size in
      let f = row_is.few_width in
      ap length (sym row_is.numbers_are) ∙ length-take-le width (drop (8 * n + 2) numbers) (rw length-drop (omega arith))

  line_fits : ShapeFits (shape_at code)
  line_fits =
      let z = line_width in
      let o = row_is.some_width in
      let f = row_is.few_width in
      subst ShapeFits (sym line_code.back) (pattern-fits row_is.line.kind row_is.line.numbers row_is.kind_fits (omega arith) (omega arith))

  pub tried_seen : (get_or index code 0 ≡ 0 → ⊥) → RowsFound rules (rows_in numbers) codes index ways count (row + 1)
  tried_seen m = row_seen found (row_record line) row_is.named code line_shape m

  pub tried_push : (count ≡ 512 → ⊥) → get_or index code 0 ≡ 0
      → RowsFound rules (rows_in numbers) (set codes count code) (set index code (count + 1)) (set ways count (0 ∷ (row + 1) ∷ 0 ∷ [])) (count + 1) (row + 1)
  tried_push ne z = row_push found (row_record line) row_is.named code line_shape ne is.small line_fits z

  pub tried_more : count ≡ 512 → get_or index code 0 ≡ 0 → MoreThan (Derived rules (rows_in numbers)) 512
  tried_more full z = row_more found (row_record line) row_is.named code line_shape full is.small z

-- All rows are tried.
pub tried_all : {rules : List Rule} {rows : List Record} {codes index : List ℕ} {ways : List (List ℕ)} {n row : ℕ}
    → RowsFound rules rows codes index ways n row → row ≡ length rows → RowsFound rules rows codes index ways n (length rows)
tried_all {rules} {rows} {codes} {index} {ways} {n} found e = subst (RowsFound rules rows codes index ways n) e found
