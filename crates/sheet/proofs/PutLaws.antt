-- What is put into a text at a place: a byte, columns, a line. Assumes nothing.
use mathlib.Core.Path.{◌≡◌, refl, sym, ap, ◌∙◌}
use mathlib.Core.List.{List, [], ◌∷◌, ◌++◌, append_assoc, append-nil}
use Prim.Native.Nat.{ℕ, ◌+◌, ◌-◌, ◌*◌, ◌<◌, ◌≤◌}
use native.Mathlib.Numerals.{add-one}
use native.Mathlib.Omega.{arith}
use lib.ListN.{length, get_or, take, drop, set, length-append, length-drop}
use lib.Seq.{drop-cons, take-suc, take_at, drop-append-add, length-take-le, get_or-take, get_or-drop, sets-eq, length-sets}
use Rattle.columns.specs.Column.{largest_number, column, put, column_put}
use Rattle.sheet.specs.Line.{columns, render}
use Rattle.columns.proofs.ColumnLaws.{length-column, column_put-fits}
use Rattle.sheet.proofs.Lines.{drop_twice, length-columns}
use Rattle.sheet.proofs.LentLines.{line_of}

put_byte : (t : List ℕ) (at b : ℕ) → at < length t → set t at b ≡ put t at (b ∷ [])
put_byte t at b h = sets-eq (b ∷ []) t at (omega arith)

pub length-put : (t : List ℕ) (at : ℕ) (s : List ℕ) → at + length s ≤ length t → length (put t at s) ≡ length t
length-put t at s h = ap length (sym (sets-eq s t at h)) ∙ length-sets t at s

-- What is put after s goes with s.
pub put_more : (t : List ℕ) (at : ℕ) (s u : List ℕ) → at + length s + length u ≤ length t → put (put t at s) (at + length s) u ≡ put t at (s ++ u)
put_more t at s u h =
    let p : List ℕ = take at t ++ s in
    let r : List ℕ = drop (at + length s) t in
    let e : length p ≡ at + length s = length-append (take at t) s ∙ ap (λ (k : ℕ). k + length s) (length-take-le at t (omega arith)) in
    let f : take (at + length s) (p ++ r) ≡ p = take_at p r (at + length s) e in
    let g : drop (at + length s + length u) (p ++ r) ≡ drop (at + length (s ++ u)) t =
    ap (λ (k : ℕ). drop (k + length u) (p ++ r)) (sym e)
    ∙ drop-append-add p r (length u)
    ∙ drop_twice (length u) (at + length s) (at + length (s ++ u)) t (omega (arith, length-append s u)) in
    ap (λ (x : List ℕ). x ++ u ++ drop (at + length s + length u) (p ++ r)) f ∙ ap (λ (x : List ℕ). p ++ u ++ x) g
    ∙ ap (λ (x : List ℕ). x ++ drop (at + length (s ++ u)) t) (append_assoc (take at t) s u)

columns-append : (ms ns : List ℕ) → columns (ms ++ ns) ≡ columns ms ++ columns ns
columns-append [] ns = refl
columns-append (m ∷ ms) ns = ap (λ (r : List ℕ). column m ++ r) (columns-append ms ns) ∙ sym (append_assoc (column m) (columns ms) (columns ns))

-- The first c columns of numbers, after the byte at a place.
module _ (ns t : List ℕ) (at : ℕ) where
  first_columns : (c : ℕ) → c ≤ length ns → length (columns (take c ns)) ≡ 9 * c
  first_columns c h = omega (arith, length-columns (take c ns), length-take-le c ns h)

  pub columns_long : (c : ℕ) → c ≤ length ns → at + 9 * c + 1 ≤ length t → length (put t (at + 1) (columns (take c ns))) ≡ length t
  columns_long c h room = length-put t (at + 1) (columns (take c ns)) (omega (arith, first_columns c h))

  -- One column more.
  pub column-put :
      (c : ℕ) {text : List ℕ} → c < length ns → at + 9 * c + 10 ≤ length t → get_or ns c 0 ≤ largest_number → text ≡ put t (at + 1) (columns (take c ns))
      → column_put text (at + 9 * c + 1) (get_or ns c 0) ≡ put t (at + 1) (columns (take (c + 1) ns))
  column-put c {text} h room fits is =
      let done : List ℕ = columns (take c ns) in
      let new : List ℕ = column (get_or ns c 0) in
      let e : length done ≡ 9 * c = first_columns c (omega arith) in
      let f : done ++ new ≡ columns (take (c + 1) ns) =
      ap (λ (r : List ℕ). done ++ r) (sym (append-nil new))
      ∙ sym (columns-append (take c ns) (get_or ns c 0 ∷ []))
      ∙ ap columns (sym (take-suc ns c 0 h))
      ∙ ap (λ (k : ℕ). columns (take k ns)) (sym (add-one c)) in
      let p : at + 9 * c + 1 ≡ at + 1 + length done = omega arith in
      let long : length text ≡ length t = ap length is ∙ columns_long c (omega arith) (omega arith) in
      column_put-fits text (at + 9 * c + 1) (get_or ns c 0) (omega arith) fits
      ∙ rw (is, p) (put_more t (at + 1) done new (omega (arith, length-column (get_or ns c 0))))
      ∙ ap (put t (at + 1)) f

  -- A letter before them and byte 10 after them.
  pub ended-put :
      (letter c : ℕ) → c ≤ length ns → at + 9 * c + 2 ≤ length t
      → set (put (set t at letter) (at + 1) (columns (take c ns))) (at + 9 * c + 1) 10 ≡ put t at (letter ∷ (columns (take c ns) ++ (10 ∷ [])))
  ended-put letter c h room =
      let cs : List ℕ = columns (take c ns) in
      let e : length cs ≡ 9 * c = first_columns c h in
      let f : put (set t at letter) (at + 1) cs ≡ put t at (letter ∷ cs) =
      ap (λ (r : List ℕ). put r (at + 1) cs) (put_byte t at letter (omega arith)) ∙ put_more t at (letter ∷ []) cs (omega arith) in
      let p : at + 9 * c + 1 ≡ at + length (letter ∷ cs) = omega arith in
      ap (λ (r : List ℕ). set r (at + 9 * c + 1) 10) f
      ∙ put_byte (put t at (letter ∷ cs)) (at + 9 * c + 1) 10 (omega (arith, length-put t at (letter ∷ cs) (omega arith)))
      ∙ ap (λ (k : ℕ). put (put t at (letter ∷ cs)) k (10 ∷ [])) p
      ∙ put_more t at (letter ∷ cs) (10 ∷ []) (omega arith)

-- The text of a lent line of which `fields` numbers are used.
module _ (numbers : List ℕ) (eight : length numbers ≡ 8) (t : List ℕ) (at fields : ℕ) (few : fields ≤ 6) (room : at + 9 * fields + 11 ≤ length t) where
  seven : length (drop 1 numbers) ≡ 7
  seven = omega (arith, length-drop 1 numbers)

  -- The numbers that are put: the kind, then the used ones.
  pub put-long : length (take (fields + 2 - 1) (drop 1 numbers)) ≡ fields + 1
  put-long = let e = seven in length-take-le (fields + 2 - 1) (drop 1 numbers) (omega arith) ∙ omega arith

  pub put-at : (c : ℕ) → c < fields + 1 → get_or (take (fields + 2 - 1) (drop 1 numbers)) c 0 ≡ get_or numbers (c + 1) 0
  put-at c h =
      get_or-take (fields + 2 - 1) (drop 1 numbers) c 0 (omega arith) ∙ get_or-drop 1 numbers c 0 ∙ ap (λ (k : ℕ). get_or numbers k 0) (omega arith)

  pub lent-column-put :
      (c : ℕ) {text : List ℕ} → c < fields + 1 → get_or numbers (c + 1) 0 ≤ largest_number → text ≡ put t (at + 1) (columns (take c (drop 1 numbers)))
      → column_put text (at + 9 * c + 1) (get_or numbers (c + 1) 0) ≡ put t (at + 1) (columns (take (c + 1) (drop 1 numbers)))
  lent-column-put c {text} h fits is =
      let e = seven in
      let g : get_or numbers (c + 1) 0 ≡ get_or (drop 1 numbers) c 0 = sym (get_or-drop 1 numbers c 0 ∙ ap (λ (k : ℕ). get_or numbers k 0) (omega arith)) in
      ap (column_put text (at + 9 * c + 1)) g ∙ column-put (drop 1 numbers) t at c (omega arith) (omega arith) (omega arith) is

  pub line_put :
      set (put (set t at (get_or numbers 0 0)) (at + 1) (columns (take (fields + 1) (drop 1 numbers)))) (at + 9 * fields + 10) 10
      ≡ take at t ++ render (line_of fields numbers) ++ drop (at + 9 * fields + 11) t
  unfolding render
  line_put =
      let e = seven in
      let cs : List ℕ = columns (take (fields + 1) (drop 1 numbers)) in
      let whole : List ℕ = get_or numbers 0 0 ∷ (cs ++ (10 ∷ [])) in
      let p : at + 9 * fields + 10 ≡ at + 9 * (fields + 1) + 1 = omega arith in
      let q : at + length whole ≡ at + 9 * fields + 11 =
      omega (arith, length-append cs (10 ∷ []), length-columns (take (fields + 1) (drop 1 numbers)), length-take-le (fields + 1) (drop 1 numbers) (omega arith)) in
      let kind_first : take (fields + 1) (drop 1 numbers) ≡ get_or numbers 1 0 ∷ take fields (drop 2 numbers) =
      ap (take (fields + 1)) (drop-cons numbers 1 0 (omega arith)) ∙ ap (λ (k : ℕ). take k (get_or numbers 1 0 ∷ drop 2 numbers)) (add-one fields) in
      ap (λ (k : ℕ). set (put (set t at (get_or numbers 0 0)) (at + 1) cs) k 10) p
      ∙ ended-put (drop 1 numbers) t at (get_or numbers 0 0) (fields + 1) (omega arith) (omega arith)
      ∙ ap (λ (k : ℕ). take at t ++ whole ++ drop k t) q
      ∙ ap (λ (r : List ℕ). take at t ++ (get_or numbers 0 0 ∷ (columns r ++ (10 ∷ []))) ++ drop (at + 9 * fields + 11) t) kind_first
