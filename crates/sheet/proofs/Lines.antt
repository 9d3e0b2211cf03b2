-- Lines and their texts: a line is read from its rendering and from nothing else, and the lines of a text are found one after the other. Assumes nothing.
use mathlib.Core.Path.{◌≡◌, refl, sym, ◌∙◌, ap, ap₂, subst}
use mathlib.Core.Bool.{Bool, true, false, cond, ◌&&◌, false≢true, and-eq-true_iff}
use mathlib.Core.List.{List, [], ◌∷◌, ◌++◌, map, append_assoc}
use mathlib.Core.Option.{Option, none, some, none-ne-some, some-injective}
use Prim.Native.Nat.{ℕ, zero, suc, ◌+◌, ◌-◌, ◌*◌, ◌/◌, ◌%◌, ◌≤◌}
use native.Mathlib.Omega.{arith}
use borrow.Author.Tests.{leb-true, le-leb, eqb-true, eqb-false, eq-eqb, ne_eqb}
use lib.Dec.{eqb, leb}
use lib.ListN.{length, get_or, take, drop, length-append, take-append-drop, drop_of_length-le}
use lib.Seq.{take_at, drop_at, take-append_seam, drop-append_seam, get_or_at, drop-cons, drop-drop}
use Rattle.columns.specs.Column.{largest_number, place_byte, places, column, number_in}
use Rattle.sheet.specs.Line.{Line, columns, render, text_of, form_of, known, in_range, well_formed, joined, numbers_in, line_with, column_count, line_in, lent}
use Rattle.walker.specs.Walk.{lines_of, after, line_length}
use Rattle.walker.proofs.TextLines.{after_none, lines_of_split}
use Rattle.patterns.proofs.ListLaws.{length-padded}
use Rattle.columns.proofs.ColumnLaws.{length-column, number_in-column, number_in_is}
use Rattle.sheet.proofs.FormLaws.{formed_known, formed_range}

-- Tests.

pub both : {a b : Bool} → a ≡ true → b ≡ true → (a && b) ≡ true
both p q = rw p q

cond_true : {A : Type 0} {t : Bool} (a b : A) → t ≡ true → cond t a b ≡ a
cond_true a b p = rw p

cond-some : {A : Type 0} (t : Bool) (o : Option A) {a : A} → cond t o none ≡ some a → (t ≡ true) × (o ≡ some a)
cond-some true o e = (refl, e)
cond-some false o e = absurd (none-ne-some _ e)

-- Sizes.

pub length-columns : (ns : List ℕ) → length (columns ns) ≡ 9 * length ns
length-columns [] = refl
length-columns (n ∷ ns) = omega (arith, length-append (column n) (columns ns), length-column n, length-columns ns)

pub length-render : (l : Line) → length (render l) ≡ 9 * length l.numbers + 11
unfolding render
length-render l = omega (arith, length-append (columns (l.kind ∷ l.numbers)) (10 ∷ []), length-columns (l.kind ∷ l.numbers))

pub length-lent : (l : Line) → length (lent l) ≡ 8
unfolding lent
length-lent l = ap (λ n. suc (suc n)) (length-padded 6 l.numbers)

-- Columns after one another.

numbers_in-columns : (ns rest : List ℕ) → in_range ns ≡ true → numbers_in (length ns) (columns ns ++ rest) ≡ some ns
numbers_in-columns [] rest h = refl
numbers_in-columns (n ∷ ns) rest h =
    let r = (and-eq-true_iff (leb n largest_number) (in_range ns)).0 h in
    let e = append_assoc (column n) (columns ns) rest in
    ap₂ joined
    (ap number_in (ap (take 9) e ∙ take_at (column n) (columns ns ++ rest) 9 (length-column n)) ∙ number_in-column n (leb-true _ _ r.0))
    (ap (numbers_in (length ns)) (ap (drop 9) e ∙ drop_at (column n) (columns ns ++ rest) 9 (length-column n)) ∙ numbers_in-columns ns rest r.1)

pub joined_is : (o : Option ℕ) (p : Option (List ℕ)) (ns : List ℕ) → joined o p ≡ some ns → (n : ℕ) × (ms : List ℕ) × (o ≡ some n) × (p ≡ some ms) × (ns ≡ n ∷ ms)
joined_is none p ns e = absurd (none-ne-some ns e)
joined_is (some n) none ns e = absurd (none-ne-some ns e)
joined_is (some n) (some ms) ns e = (n, ms, refl, refl, sym (some-injective (n ∷ ms) ns e))

pub drop_twice : (m n k : ℕ) (l : List ℕ) → n + m ≡ k → drop m (drop n l) ≡ drop k l
drop_twice m n k l e = drop-drop m n l ∙ ap (λ j. drop j l) e

-- Bytes that begin with c columns, which hold these numbers.
record Begins (c : ℕ) (bytes ns : List ℕ) : Type 0 where
  split : bytes ≡ columns ns ++ drop (9 * c) bytes
  count : length ns ≡ c
  range : in_range ns ≡ true

begins_more : (c : ℕ) (bytes : List ℕ) (n : ℕ) (ns : List ℕ) → take 9 bytes ≡ column n → n ≤ largest_number → Begins c (drop 9 bytes) ns
    → Begins (suc c) bytes (n ∷ ns)
begins_more c bytes n ns e h b =
    record {
      split =
          sym (take-append-drop 9 bytes)
          ∙ ap₂ ◌++◌ e (b.split ∙ ap (λ r. columns ns ++ r) (drop_twice (9 * c) 9 (9 * suc c) bytes (omega arith)))
          ∙ sym (append_assoc (column n) (columns ns) (drop (9 * suc c) bytes));
      count = ap suc b.count;
      range = both (le-leb n largest_number h) b.range;
    }

numbers_in_is : (c : ℕ) (bytes ns : List ℕ) → numbers_in c bytes ≡ some ns → Begins c bytes ns
numbers_in_is zero bytes ns e = subst (Begins 0 bytes) (some-injective [] ns e) (record { split = refl; count = refl; range = refl })
numbers_in_is (suc c) bytes ns e =
    let (n, ms, p, q, r) = joined_is (number_in (take 9 bytes)) (numbers_in c (drop 9 bytes)) ns e in
    let a = number_in_is (take 9 bytes) n p in
    subst (Begins (suc c) bytes) (sym r) (begins_more c bytes n ms a.0 a.1 (numbers_in_is c (drop 9 bytes) ms q))

-- A line's bytes: a letter, c columns, byte 10.

line_with_is : (letter : ℕ) (o : Option (List ℕ)) (l : Line) → line_with letter o ≡ some l → (letter ≡ l.letter) × (o ≡ some (l.kind ∷ l.numbers))
line_with_is letter none l e = absurd (none-ne-some l e)
line_with_is letter (some []) l e = absurd (none-ne-some l e)
line_with_is letter (some (n ∷ ns)) l e =
    let q = some-injective _ l e in
    (ap (λ (m : Line). m.letter) q, ap (λ (m : Line). some (m.kind ∷ m.numbers)) q)

-- What the tests of line_in say of the bytes of a line.
record Bytes (bytes : List ℕ) (c : ℕ) : Type 0 where
  size : length bytes ≡ 9 * c + 2
  last : get_or bytes (length bytes - 1) 0 ≡ 10
  form : known (form_of (get_or bytes 0 0) c) ≡ true

line_in_by : (bytes : List ℕ) (c : ℕ) → Bytes bytes c → line_in bytes ≡ line_with (get_or bytes 0 0) (numbers_in c (drop 1 bytes))
unfolding line_in
line_in_by bytes c b =
    let count : column_count (length bytes) ≡ c = omega (arith, b.size) in
    cond_true _ none
    (both
    (both (eq-eqb (length bytes) (9 * column_count (length bytes) + 2) (omega (arith, b.size))) (eq-eqb (get_or bytes (length bytes - 1) 0) 10 b.last))
    (ap (λ k. known (form_of (get_or bytes 0 0) k)) count ∙ b.form))
    ∙ ap (λ k. line_with (get_or bytes 0 0) (numbers_in k (drop 1 bytes))) count

line_in-bytes : (bytes : List ℕ) (l : Line) → line_in bytes ≡ some l → (c : ℕ) × Bytes bytes c × (line_with (get_or bytes 0 0) (numbers_in c (drop 1 bytes)) ≡ some l)
unfolding line_in
line_in-bytes bytes l e =
    let c : ℕ = column_count (length bytes) in
    let (t, q) = cond-some _ (line_with (get_or bytes 0 0) (numbers_in c (drop 1 bytes))) e in
    let (u, form) = (and-eq-true_iff _ (known (form_of (get_or bytes 0 0) c))).0 t in
    let (size, last) = (and-eq-true_iff (eqb (length bytes) (9 * c + 2)) (eqb (get_or bytes (length bytes - 1) 0) 10)).0 u in
    (c, record { size = eqb-true _ _ size; last = eqb-true _ _ last; form = form }, q)

bytes_split : (bytes : List ℕ) (c : ℕ) (ns : List ℕ) → Bytes bytes c → Begins c (drop 1 bytes) ns
    → bytes ≡ get_or bytes 0 0 ∷ (columns ns ++ (10 ∷ []))
bytes_split bytes c ns b s =
    drop-cons bytes 0 0 (omega (arith, b.size))
    ∙ ap (λ r. get_or bytes 0 0 ∷ r)
    (s.split
    ∙ ap (λ r. columns ns ++ r)
    (drop_twice (9 * c) 1 (length bytes - 1) bytes (omega (arith, b.size))
    ∙ drop-cons bytes (length bytes - 1) 0 (omega (arith, b.size))
    ∙ ap₂ ◌∷◌ b.last (drop_of_length-le bytes {i = suc (length bytes - 1)} (omega arith))))

pub line_in-render : (l : Line) → well_formed l ≡ true → line_in (render l) ≡ some l
unfolding render
line_in-render l h =
    let ns : List ℕ = l.kind ∷ l.numbers in
    line_in_by (render l) (length ns)
    (record {
      size = length-render l ∙ omega arith;
      last = get_or_at (l.letter ∷ columns ns) 10 [] 0 (length (render l) - 1) (omega (arith, length-render l, length-columns ns));
      form = formed_known l h;
    })
    ∙ ap (line_with l.letter) (numbers_in-columns ns (10 ∷ []) (formed_range l h))

pub line_in_is : (bytes : List ℕ) (l : Line) → line_in bytes ≡ some l → (bytes ≡ render l) × (well_formed l ≡ true)
unfolding well_formed render
line_in_is bytes l e =
    let (c, b, q) = line_in-bytes bytes l e in
    let (letter, ns) = line_with_is (get_or bytes 0 0) (numbers_in c (drop 1 bytes)) l q in
    let s = numbers_in_is c (drop 1 bytes) (l.kind ∷ l.numbers) ns in (
      bytes_split bytes c (l.kind ∷ l.numbers) b s ∙ ap (λ x. x ∷ (columns (l.kind ∷ l.numbers) ++ (10 ∷ []))) letter,
      both (ap₂ (λ x k. known (form_of x k)) (sym letter) s.count ∙ b.form) s.range,
    )

-- No byte 10.

abbrev NoTen : List ℕ → Type 0
NoTen [] = Unit {0}
NoTen (b ∷ s) = (eqb b 10 ≡ false) × NoTen s

no_ten_append : (s t : List ℕ) → NoTen s → NoTen t → NoTen (s ++ t)
no_ten_append [] t p q = q
no_ten_append (b ∷ s) t p q = (p.0, no_ten_append s t p.1 q)

place_no_ten : (n : ℕ) → eqb (place_byte n) 10 ≡ false
place_no_ten zero = refl
place_no_ten (suc n) = ne_eqb (48 + (suc n % 10)) 10 (omega arith)

places_no_ten : (w n : ℕ) → NoTen (places w n)
places_no_ten zero n = tt
places_no_ten (suc w) n = no_ten_append (places w (n / 10)) (place_byte n ∷ []) (places_no_ten w (n / 10)) (place_no_ten n, tt)

pub column_no_ten : (n : ℕ) → NoTen (column n)
unfolding column
column_no_ten n = no_ten_append (places 8 (n / 10)) ((48 + (n % 10)) ∷ []) (places_no_ten 8 (n / 10)) (ne_eqb (48 + (n % 10)) 10 (omega arith), tt)

columns_no_ten : (ns : List ℕ) → NoTen (columns ns)
columns_no_ten [] = tt
columns_no_ten (n ∷ ns) = no_ten_append (column n) (columns ns) (column_no_ten n) (columns_no_ten ns)

known_letter : (letter c : ℕ) → known (form_of letter c) ≡ true → eqb letter 10 ≡ false
unfolding form_of
known_letter letter c h = ne_eqb letter 10 (λ e. false≢true (subst (λ k. known (form_of k c) ≡ true) e h))

-- Where a line ends.

line_length_ended : (s rest : List ℕ) → NoTen s → line_length (s ++ (10 ∷ rest)) ≡ suc (length s)
line_length_ended [] rest p = refl
line_length_ended (b ∷ s) rest p = ap₂ after p.0 (line_length_ended s rest p.1)

-- The walker finds exactly the rendered line.
pub line_of_text : (l : Line) (rest : List ℕ) → well_formed l ≡ true → line_length (render l ++ rest) ≡ length (render l)
unfolding render
line_of_text l rest h =
    let ns : List ℕ = l.kind ∷ l.numbers in
    ap (λ t. line_length (l.letter ∷ t)) (append_assoc (columns ns) (10 ∷ []) rest)
    ∙ line_length_ended (l.letter ∷ columns ns) rest (known_letter l.letter (length ns) (formed_known l h), columns_no_ten ns)
    ∙ omega (arith, length-append (columns ns) (10 ∷ []))

-- The lines of a text.

no_ten_after : (s : List ℕ) → line_length s ≡ 0 → NoTen s
no_ten_after [] e = tt
no_ten_after (b ∷ s) e = let (p, q) = after_none (eqb b 10) (line_length s) e in (p, no_ten_after s q)

no_ten_at : (s : List ℕ) (i : ℕ) → NoTen s → eqb (get_or s i 0) 10 ≡ false
no_ten_at [] i p = refl
no_ten_at (b ∷ s) zero p = p.0
no_ten_at (b ∷ s) (suc i) p = no_ten_at s i p.1

-- Without a byte 10 there is no line.
pub line_in_unended : (s : List ℕ) → line_length s ≡ 0 → line_in s ≡ none
line_in_unended s e = go (line_in s) refl
  where
    go : (o : Option Line) → line_in s ≡ o → line_in s ≡ none
    go none p = p
    go (some l) p =
        absurd (eqb-false (get_or s (length s - 1) 0) 10 (no_ten_at s (length s - 1) (no_ten_after s e)) (line_in-bytes s l p).1.last)

pub lines_of-front : (l : Line) (rest : List ℕ) → well_formed l ≡ true → lines_of (render l ++ rest) ≡ render l ∷ lines_of rest
lines_of-front l rest h =
    let e = line_of_text l rest h in
    lines_of_split (render l ++ rest) (omega (arith, e, length-render l))
    ∙ ap₂ (λ n m. take n (render l ++ rest) ∷ lines_of (drop m (render l ++ rest))) e e
    ∙ ap₂ (λ s t. s ∷ lines_of t) (take-append_seam (render l) rest) (drop-append_seam (render l) rest)

-- Every line has a text.
abbrev pub Formed : List Line → Type 0
Formed [] = Unit {0}
Formed (l ∷ ls) = (well_formed l ≡ true) × Formed ls

pub lines_of_text : (ls : List Line) → Formed ls → lines_of (text_of ls) ≡ map render ls
lines_of_text [] h = refl
lines_of_text (l ∷ ls) h = lines_of-front l (text_of ls) h.0 ∙ ap (λ r. render l ∷ r) (lines_of_text ls h.1)
