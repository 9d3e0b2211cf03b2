-- Records copied out as R lines. Assumes nothing.
use mathlib.Core.Path.{◌≡◌, refl, sym, ◌∙◌, ap, subst}
use mathlib.Core.List.{List, [], ◌∷◌, ◌++◌, map}
use Prim.Native.Nat.{ℕ, zero, suc, ◌+◌, ◌-◌, ◌*◌, ◌/◌, ◌≤◌, ◌<◌}
use native.Mathlib.Decide.{dec_lt}
use native.Mathlib.Omega.{arith}
use native.Mathlib.Numerals.{add-one}
use borrow.Rule.Slice.PartMut.{put_mid}
use lib.ListN.{length, get_or, set, take, drop, length-append, length-take, length-drop, get_or-append}
use lib.Seq.{ext_get_or, get_or-take, get_or-drop, get_or-append-add}
use Rattle.patterns.proofs.ListLaws.{length-padded}
use Rattle.sheet.specs.Line.{Line, lent, lent_of}
use Rattle.rules.specs.Inner.Bytes.{Part}
use Rattle.rules.proofs.PartLaws.{part_none, part_more}
use Rattle.carrying.specs.Carrying.{Row}
use Rattle.carrying.specs.Contract.{row_line}
use Rattle.running.specs.Held.{packed, unpacked, PackedRow, row_at, rows_at, Holds}
use Rattle.running.proofs.RecordLaws.{part_put, row_at_cell, packed-unpacked}

-- The eight numbers of a record's R line, by those it is held as.
module _ (numbers : List ℕ) (i : ℕ) (p : PackedRow (row_at numbers i)) where
  abbrev pub line_of : List ℕ
  line_of = lent (row_line (unpacked (row_at numbers i)))

  pub line_letter : 82 ≡ get_or line_of 0 0
  unfolding lent
  line_letter = refl

  row_is : packed (unpacked (row_at numbers i)) ≡ row_at numbers i
  row_is = packed-unpacked p

  pub line_kind : get_or numbers (7 * i) 0 / 8 ≡ get_or line_of 1 0
  unfolding lent
  line_kind =
      ap (λ (n : ℕ). n / 8) (ap (λ (k : ℕ). get_or numbers k 0) (let e : 7 * i ≡ 7 * i + 0 = omega arith in e) ∙ sym (row_at_cell numbers i 0 (omega arith)))

  pub line_number : (k : ℕ) → 1 ≤ k → k < 7 → get_or numbers (7 * i + k) 0 ≡ get_or line_of (1 + k) 0
  unfolding lent
  line_number zero h l = absurd (omega arith)
  line_number (suc k) h l =
      sym (row_at_cell numbers i (suc k) l) ∙ sym (ap (λ (r : List ℕ). get_or r (suc k) 0) row_is)
      ∙ ap (λ (n : ℕ). get_or line_of n 0) (let e : suc (suc k) ≡ 1 + suc k = omega arith in e)

-- One part put after another, as one part.
pub part_join : {a b c : List ℕ} {at m n : ℕ} {f : ℕ → ℕ} → Part a at m f b → Part b (at + m) n (λ k. f (m + k)) c → Part a at (m + n) f c
part_join {a} {b} {c} {at} {m} {n} {f} p q =
    record {
      whole = q.whole ∙ p.whole;
      below = λ j l. q.below j (omega arith) ∙ p.below j l;
      above = λ j l. q.above j (omega arith) ∙ p.above j (omega arith);
      bytes = λ i l. go i l (dec_lt i m);
    }
  where
    go : (i : ℕ) → i < m + n → Dec (i < m) → get_or c (at + i) 0 ≡ f i
    go i l (yes s) = q.below (at + i) (omega arith) ∙ p.bytes i s
    go i l (no s) =
        let e : at + i ≡ at + m + (i - m) = omega arith in
        let z : m + (i - m) ≡ i = omega arith in
        ap (λ (j : ℕ). get_or c j 0) e ∙ q.bytes (i - m) (omega arith) ∙ ap f z

pub part_two : {before : List ℕ} {at : ℕ} (f : ℕ → ℕ) {x y : ℕ} → at + 1 < length before → x ≡ f 0 → y ≡ f 1 → Part before at 2 f (set (set before at x) (at + 1) y)
part_two {before} {at} f {x} {y} h e q =
    part_more (subst (λ (n : ℕ). Part before at 1 f (set before n x)) (let z : at + 0 ≡ at = omega arith in z) (part_more (part_none before at f) (omega arith) e)) h q

-- Its letter and its kind are put.
pub line_begun : (numbers records : List ℕ) (i : ℕ) (p : PackedRow (row_at numbers i)) → 8 * i + 8 ≤ length records
    → Part records (8 * i) 2 (λ (k : ℕ). get_or (line_of numbers i p) k 0) (set (set records (8 * i) 82) (8 * i + 1) (get_or numbers (7 * i) 0 / 8))
line_begun numbers records i p h = part_two (λ (k : ℕ). get_or (line_of numbers i p) k 0) (omega arith) (line_letter numbers i p) (line_kind numbers i p)

-- Its numbers are put after them.
pub line_put : (numbers records ys : List ℕ) (i k : ℕ) (p : PackedRow (row_at numbers i)) → 8 * i + 8 ≤ length records → 7 * i + 7 ≤ length numbers → k ≡ 6
    → ys ≡ take (7 * i + 7 - (7 * i + 1)) (drop (7 * i + 1) numbers)
    → Part records (8 * i) 8 (λ (m : ℕ). get_or (line_of numbers i p) m 0) (put_mid (8 * i + 2) k (set (set records (8 * i) 82) (8 * i + 1) (get_or numbers (7 * i) 0 / 8)) ys)
line_put numbers records ys i k p room inside six e =
    let t = line_begun numbers records i p room in
    let six' : 7 * i + 7 - (7 * i + 1) ≡ 6 = omega arith in
    let rest = drop (7 * i + 1) numbers in
    let size : length ys ≡ 6 = omega (arith, ap length e, length-take (7 * i + 7 - (7 * i + 1)) rest, length-drop (7 * i + 1) numbers) in
    part_join {f = λ (m : ℕ). get_or (line_of numbers i p) m 0} t
    (part_put (set (set records (8 * i) 82) (8 * i + 1) (get_or numbers (7 * i) 0 / 8)) ys (8 * i + 2) k 6 (λ (m : ℕ). get_or (line_of numbers i p) (2 + m) 0)
    (omega (arith, t.whole, room)) six size
    (λ m l.
    let z : 7 * i + 1 + m ≡ 7 * i + (1 + m) = omega arith in
    let w : 1 + (1 + m) ≡ 2 + m = omega arith in
    ap (λ (r : List ℕ). get_or r m 0) e ∙ get_or-take (7 * i + 7 - (7 * i + 1)) rest m 0 (omega arith) ∙ get_or-drop (7 * i + 1) numbers m 0
    ∙ ap (λ (n : ℕ). get_or numbers n 0) z ∙ line_number numbers i p (1 + m) (omega arith) (omega arith) ∙ ap (λ (n : ℕ). get_or (line_of numbers i p) n 0) w))

-- ---- all of them

lent_of_last : (ls : List Line) (l : Line) → lent_of (ls ++ (l ∷ [])) ≡ lent_of ls ++ lent l
lent_of_last [] l = mathlib.Core.List.append-nil (lent l)
lent_of_last (k ∷ ls) l = ap (λ (r : List ℕ). lent k ++ r) (lent_of_last ls l) ∙ sym (mathlib.Core.List.append_assoc (lent k) (lent_of ls) (lent l))

map_last : {A B : Type 0} (f : A → B) (xs : List A) (x : A) → map f (xs ++ (x ∷ [])) ≡ map f xs ++ (f x ∷ [])
map_last f [] x = refl
map_last {B = B} f (y ∷ xs) x = ap (λ (l : List B). f y ∷ l) (map_last f xs x)

-- The R lines of the first so many records.
abbrev pub copied : List ℕ → ℕ → List ℕ
copied numbers i = lent_of (map row_line (rows_at numbers i))

pub copied_more : (numbers : List ℕ) (i : ℕ) → copied numbers (suc i) ≡ copied numbers i ++ lent (row_line (unpacked (row_at numbers i)))
copied_more numbers i =
    ap lent_of (map_last row_line (rows_at numbers i) (unpacked (row_at numbers i)))
    ∙ lent_of_last (map row_line (rows_at numbers i)) (row_line (unpacked (row_at numbers i)))

length-lent : (l : Line) → length (lent l) ≡ 8
unfolding lent
length-lent l = ap (λ (n : ℕ). suc (suc n)) (length-padded 6 l.numbers)

pub copied_length : (numbers : List ℕ) (i : ℕ) → length (copied numbers i) ≡ 8 * i
copied_length numbers zero = refl
copied_length numbers (suc i) =
    omega (
      arith,
      ap length (copied_more numbers i),
      length-append (copied numbers i) (lent (row_line (unpacked (row_at numbers i)))),
      length-lent (row_line (unpacked (row_at numbers i))),
      copied_length numbers i,
    )

pub copied_size : (numbers before : List ℕ) (i : ℕ) {now : List ℕ} → 8 * i ≤ length before → now ≡ copied numbers i ++ drop (8 * i) before → length now ≡ length before
copied_size numbers before i fits e =
    omega (arith, ap length e, length-append (copied numbers i) (drop (8 * i) before), copied_length numbers i, length-drop (8 * i) before)

-- What stands in three lists, one after the other.
module _ (xs ys zs : List ℕ) where
  at_first : (j : ℕ) → j < length xs → get_or ((xs ++ ys) ++ zs) j 0 ≡ get_or xs j 0
  at_first j h = get_or-append (xs ++ ys) zs 0 j (omega (arith, length-append xs ys)) ∙ get_or-append xs ys 0 j h

  at_second : (k j : ℕ) → j ≡ length xs + k → k < length ys → get_or ((xs ++ ys) ++ zs) j 0 ≡ get_or ys k 0
  at_second k j e h =
      get_or-append (xs ++ ys) zs 0 j (omega (arith, length-append xs ys)) ∙ ap (λ (n : ℕ). get_or (xs ++ ys) n 0) e ∙ get_or-append-add xs ys k 0

  at_third : (k j : ℕ) → j ≡ length xs + length ys + k → get_or ((xs ++ ys) ++ zs) j 0 ≡ get_or zs k 0
  at_third k j e =
      ap (λ (n : ℕ). get_or ((xs ++ ys) ++ zs) n 0) (let q : j ≡ length (xs ++ ys) + k = omega (arith, length-append xs ys, e) in q)
      ∙ get_or-append-add (xs ++ ys) zs k 0

-- One record more.
pub copied_next : (numbers before : List ℕ) (i : ℕ) {now after : List ℕ} → 8 * i + 8 ≤ length before → now ≡ copied numbers i ++ drop (8 * i) before
    → Part now (8 * i) 8 (λ (k : ℕ). get_or (lent (row_line (unpacked (row_at numbers i)))) k 0) after
    → after ≡ copied numbers (i + 1) ++ drop (8 * (i + 1)) before
copied_next numbers before i {now} {after} fits e p =
    ext_get_or 0 after ((xs ++ ys) ++ zs) (omega (arith, size, p.whole, all)) (λ j h. go j (dec_lt j (8 * i)) (dec_lt j (8 * i + 8)))
    ∙ ap (λ (l : List ℕ). l ++ zs) (sym (ap (copied numbers) (add-one i) ∙ copied_more numbers i))
  where
    xs : List ℕ
    xs = copied numbers i

    ys : List ℕ
    ys = lent (row_line (unpacked (row_at numbers i)))

    zs : List ℕ
    zs = drop (8 * (i + 1)) before

    first : length xs ≡ 8 * i
    first = copied_length numbers i

    second : length ys ≡ 8
    second = length-lent (row_line (unpacked (row_at numbers i)))

    size : length now ≡ length before
    size = copied_size numbers before i (omega arith) e

    all : length ((xs ++ ys) ++ zs) ≡ length before
    all = omega (arith, length-append (xs ++ ys) zs, length-append xs ys, first, second, length-drop (8 * (i + 1)) before)

    go : (j : ℕ) → Dec (j < 8 * i) → Dec (j < 8 * i + 8) → get_or after j 0 ≡ get_or ((xs ++ ys) ++ zs) j 0
    go j (yes h) q =
        p.below j h ∙ ap (λ (l : List ℕ). get_or l j 0) e ∙ get_or-append xs (drop (8 * i) before) 0 j (omega (arith, first)) ∙ sym (at_first xs ys zs j (omega (arith, first)))
    go j (no h) (yes l) =
        ap (λ (n : ℕ). get_or after n 0) (let q : j ≡ 8 * i + (j - 8 * i) = omega arith in q) ∙ p.bytes (j - 8 * i) (omega arith)
        ∙ sym (at_second xs ys zs (j - 8 * i) j (omega (arith, first)) (omega (arith, second)))
    go j (no h) (no l) =
        p.above j (omega arith) ∙ ap (λ (l : List ℕ). get_or l j 0) e
        ∙ ap (λ (n : ℕ). get_or (xs ++ drop (8 * i) before) n 0) (let q : j ≡ length xs + (j - 8 * i) = omega (arith, first) in q)
        ∙ get_or-append-add xs (drop (8 * i) before) (j - 8 * i) 0 ∙ get_or-drop (8 * i) before (j - 8 * i) 0
        ∙ ap (λ (n : ℕ). get_or before n 0) (let q : 8 * i + (j - 8 * i) ≡ 8 * (i + 1) + (j - 8 * i - 8) = omega arith in q)
        ∙ sym (get_or-drop (8 * (i + 1)) before (j - 8 * i - 8) 0)
        ∙ sym (at_third xs ys zs (j - 8 * i - 8) j (omega (arith, first, second)))

-- What holds some rows holds its own.
pub holds_own : {numbers : List ℕ} {count : ℕ} {rows : List Row} → Holds numbers count rows → Holds numbers count (rows_at numbers count)
holds_own h = record { room = h.room; few = h.few; each = h.each; are = refl }
