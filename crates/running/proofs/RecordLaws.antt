-- Records that are held: found, added. Assumes nothing.
use mathlib.Core.Path.{◌≡◌, refl, sym, ◌∙◌, ap, subst}
use mathlib.Core.Bool.{true, false, false≢true}
use mathlib.Core.Logic.{◌⊎◌, inl, inr}
use Rattle.std.specs.Prelude.{Option, Some, None, is_some}
use mathlib.Core.List.{List, [], ◌∷◌, ◌++◌}
use Prim.Native.Nat.{ℕ, zero, suc, ◌+◌, ◌-◌, ◌*◌, ◌≤◌, ◌<◌}
use native.Mathlib.Decide.{ℕ_discrete}
use native.Mathlib.Numerals.{add-one}
use native.Mathlib.Omega.{arith}
use borrow.Rule.Slice.PartMut.{put_mid}
use lib.ListN.{length, get_or, take, drop, set, length-append, length-set, length-take, length-drop, get_or-append}
use lib.Arith.{digits_div, digits_mod}
use lib.Seq.{length-take-le, get_or-set_same, get_or-set_other, get_or-take, get_or-drop, ext_get_or, get_or-append-add}
use Rattle.patterns.specs.Outcome.{padded}
use Rattle.patterns.specs.Pattern.{pick, add}
use Rattle.patterns.proofs.ListLaws.{length-padded}
use Rattle.sheet.proofs.FormLaws.{take-padded}
use Rattle.chase.specs.Lists.{In}
use Rattle.rules.specs.Inner.Bytes.{Part}
use Rattle.carrying.specs.Carrying.{Row, Row-discrete}
use Rattle.running.specs.Inner.Chains.{bucket_of, Chains, FoundIn}
use Rattle.chains.proofs.ChainLaws.{chains_push, chains_alike}
use Rattle.running.specs.Inner.Held.{packed, unpacked, PackedRow, row_at, bucket_at, rows_at, section, Stored, Grown}

-- ---- lists

module _ {A : Type 0} (d : Discrete A) where
  pub add_there : (x : A) (l : List A) → In x l → add d x l ≡ l
  add_there x [] i = absurd i
  add_there x (y ∷ l) i = go (d x y) (λ j. add_there x l j) i
    where
      go : (p : Dec (x ≡ y)) → (In x l → add d x l ≡ l) → (x ≡ y) ⊎ In x l → pick p (y ∷ l) (y ∷ add d x l) ≡ y ∷ l
      go (yes p) ih i = refl
      go (no h) ih (inl p) = absurd (h p)
      go (no h) ih (inr j) = ap (λ (k : List A). y ∷ k) (ih j)

  pub add_new : (x : A) (l : List A) → (In x l → ⊥) → add d x l ≡ l ++ (x ∷ [])
  add_new x [] h = refl
  add_new x (y ∷ l) h = go (d x y) (add_new x l (λ i. h (inr i)))
    where
      go : (p : Dec (x ≡ y)) → add d x l ≡ l ++ (x ∷ []) → pick p (y ∷ l) (y ∷ add d x l) ≡ y ∷ (l ++ (x ∷ []))
      go (yes p) ih = absurd (h (inl p))
      go (no q) ih = ap (λ (k : List A). y ∷ k) ih

-- ---- a row's seven numbers

abbrev pub no_row : Row
no_row = record { kind = 0; numbers = [] }

pub unpacked-packed : (w : Row) → length w.numbers ≤ 6 → unpacked (packed w) ≡ w
unpacked-packed w h =
    let low : length w.numbers < 8 = omega arith in
    λ i. record { kind = digits_div w.kind low i; numbers = (ap (λ (n : ℕ). take n (padded 6 w.numbers)) (digits_mod w.kind low) ∙ take-padded 6 w.numbers h) i }

pub packed-length : (w : Row) → length (packed w) ≡ 7
packed-length w = ap suc (length-padded 6 w.numbers)

pub unpacked_of : {row : List ℕ} (p : PackedRow row) → unpacked row ≡ p.of
unpacked_of {row} p = ap unpacked p.is ∙ unpacked-packed p.of p.narrow

pub packed-unpacked : {row : List ℕ} → PackedRow row → packed (unpacked row) ≡ row
packed-unpacked {row} p = ap packed (unpacked_of p) ∙ sym p.is

pub packed-row : (w : Row) → length w.numbers ≤ 6 → PackedRow (packed w)
packed-row w h = record { of = w; is = refl; narrow = h }

-- So many numbers from a place on, one by one.
module _ (n at : ℕ) where
  window_cell : (l : List ℕ) (k : ℕ) → k < n → get_or (take n (drop at l)) k 0 ≡ get_or l (at + k) 0
  window_cell l k h = get_or-take n (drop at l) k 0 h ∙ get_or-drop at l k 0

  window_length : (l : List ℕ) → at + n ≤ length l → length (take n (drop at l)) ≡ n
  window_length l h = omega (arith, length-take n (drop at l), length-drop at l)

  window_same : (a b : List ℕ) → at + n ≤ length a → at + n ≤ length b → ((k : ℕ) → k < n → get_or a (at + k) 0 ≡ get_or b (at + k) 0)
      → take n (drop at a) ≡ take n (drop at b)
  window_same a b p q e =
      let m = window_length a p in
      ext_get_or 0 (take n (drop at a)) (take n (drop at b)) (m ∙ sym (window_length b q))
      (λ k h. let s : k < n = omega arith in window_cell a k s ∙ e k s ∙ sym (window_cell b k s))

-- After a write to so many numbers from a place on, as a slice of its own: Part says the same number by number.
pub part_put : (before ys : List ℕ) (at k n : ℕ) (f : ℕ → ℕ) → at + n ≤ length before → k ≡ n → length ys ≡ n → ((i : ℕ) → i < n → get_or ys i 0 ≡ f i)
    → Part before at n f (put_mid at k before ys)
part_put before ys at k n f fits e size is =
    let front : length (take at before) ≡ at = length-take-le at before (omega arith) in
    record {
      whole = omega (arith, length-append (take at before) (ys ++ drop k (drop at before)), length-append ys (drop k (drop at before)), length-drop k (drop at before), length-drop at before);
      below = λ j h. get_or-append (take at before) (ys ++ drop k (drop at before)) 0 j (omega arith) ∙ get_or-take at before j 0 h;
      above = λ j h.
          let q : j ≡ length (take at before) + (length ys + (j - (at + n))) = omega arith in
          let z : at + (k + (j - (at + n))) ≡ j = omega arith in
          ap (λ (i : ℕ). get_or (put_mid at k before ys) i 0) q ∙ get_or-append-add (take at before) (ys ++ drop k (drop at before)) (length ys + (j - (at + n))) 0
          ∙ get_or-append-add ys (drop k (drop at before)) (j - (at + n)) 0 ∙ get_or-drop k (drop at before) (j - (at + n)) 0
          ∙ get_or-drop at before (k + (j - (at + n))) 0 ∙ ap (λ (i : ℕ). get_or before i 0) z;
      bytes = λ i h.
          let q : at + i ≡ length (take at before) + i = omega arith in
          ap (λ (m : ℕ). get_or (put_mid at k before ys) m 0) q ∙ get_or-append-add (take at before) (ys ++ drop k (drop at before)) i 0
          ∙ get_or-append ys (drop k (drop at before)) 0 i (omega arith) ∙ is i h;
    }

pub row_at_cell : (numbers : List ℕ) (i k : ℕ) → k < 7 → get_or (row_at numbers i) k 0 ≡ get_or numbers (7 * i + k) 0
row_at_cell numbers i = window_cell 7 (7 * i) numbers

pub row_at-length : (numbers : List ℕ) (i : ℕ) → 7 * i + 7 ≤ length numbers → length (row_at numbers i) ≡ 7
row_at-length numbers i = window_length 7 (7 * i) numbers

pub row_at_same : (a b : List ℕ) (i : ℕ) → 7 * i + 7 ≤ length a → 7 * i + 7 ≤ length b
    → ((k : ℕ) → k < 7 → get_or a (7 * i + k) 0 ≡ get_or b (7 * i + k) 0) → row_at a i ≡ row_at b i
row_at_same a b i = window_same 7 (7 * i) a b

-- Rows compared number by number.
module _ (numbers : List ℕ) (i : ℕ) (row : List ℕ) (fits : 7 * i + 7 ≤ length numbers) where
  pub same_row : length row ≡ 7 → ((k : ℕ) → k < 7 → get_or numbers (7 * i + k) 0 ≡ get_or row k 0) → row_at numbers i ≡ row
  same_row e f =
      let z = row_at-length numbers i fits in
      ext_get_or 0 (row_at numbers i) row (z ∙ sym e) (λ k l. let s : k < 7 = omega arith in row_at_cell numbers i k s ∙ f k s)

  pub other_row : (k : ℕ) → k < 7 → (get_or numbers (7 * i + k) 0 ≡ get_or row k 0 → ⊥) → row_at numbers i ≡ row → ⊥
  other_row k l h e = h (sym (row_at_cell numbers i k l) ∙ ap (λ (r : List ℕ). get_or r k 0) e)

-- ---- the rows

pub rows_at-length : (numbers : List ℕ) (n : ℕ) → length (rows_at numbers n) ≡ n
rows_at-length numbers zero = refl
rows_at-length numbers (suc n) = omega (arith, length-append (rows_at numbers n) (unpacked (row_at numbers n) ∷ []), rows_at-length numbers n)

pub rows_at_alike : (a b : List ℕ) (n : ℕ) → ((i : ℕ) → i < n → row_at a i ≡ row_at b i) → rows_at a n ≡ rows_at b n
rows_at_alike a b zero e = refl
rows_at_alike a b (suc n) e =
    ap (λ (l : List Row). l ++ (unpacked (row_at a n) ∷ [])) (rows_at_alike a b n (λ i h. e i (omega arith)))
    ∙ ap (λ (r : List ℕ). rows_at b n ++ (unpacked r ∷ [])) (e n (omega arith))

in_left : {A : Type 0} (x : A) (xs ys : List A) → In x xs → In x (xs ++ ys)
in_left x [] ys i = absurd i
in_left x (z ∷ xs) ys (inl p) = inl p
in_left x (z ∷ xs) ys (inr i) = inr (in_left x xs ys i)

in_last : {A : Type 0} (x : A) (xs : List A) → In x (xs ++ (x ∷ []))
in_last x [] = inl refl
in_last x (z ∷ xs) = inr (in_last x xs)

in_either : {A : Type 0} (x y : A) (xs : List A) → In x (xs ++ (y ∷ [])) → In x xs ⊎ (x ≡ y)
in_either x y [] (inl p) = inr p
in_either x y [] (inr i) = absurd i
in_either x y (z ∷ xs) (inl p) = inl (inl p)
in_either x y (z ∷ xs) (inr i) = elim (in_either x y xs i) [ inl j ↦ inl (inr j) | inr e ↦ inr e ]

pub rows_at_in : (numbers : List ℕ) (n i : ℕ) → i < n → In (unpacked (row_at numbers i)) (rows_at numbers n)
rows_at_in numbers zero i h = absurd (omega arith)
rows_at_in numbers (suc n) i h = go (ℕ_discrete i n) (λ l. rows_at_in numbers n i l)
  where
    go : Dec (i ≡ n) → (i < n → In (unpacked (row_at numbers i)) (rows_at numbers n)) → In (unpacked (row_at numbers i)) (rows_at numbers n ++ (unpacked (row_at numbers n) ∷ []))
    go (yes p) ih =
        subst (λ (k : ℕ). In (unpacked (row_at numbers k)) (rows_at numbers n ++ (unpacked (row_at numbers n) ∷ []))) (sym p)
        (in_last (unpacked (row_at numbers n)) (rows_at numbers n))
    go (no q) ih = in_left (unpacked (row_at numbers i)) (rows_at numbers n) (unpacked (row_at numbers n) ∷ []) (ih (omega arith))

pub in_rows_at : (numbers : List ℕ) (n : ℕ) (w : Row) → In w (rows_at numbers n) → (i : ℕ) × (i < n) × (w ≡ unpacked (row_at numbers i))
in_rows_at numbers zero w h = absurd h
in_rows_at numbers (suc n) w h = go (in_either w (unpacked (row_at numbers n)) (rows_at numbers n) h) (λ j. in_rows_at numbers n w j)
  where
    go : In w (rows_at numbers n) ⊎ (w ≡ unpacked (row_at numbers n)) → (In w (rows_at numbers n) → (i : ℕ) × (i < n) × (w ≡ unpacked (row_at numbers i)))
        → (i : ℕ) × (i < suc n) × (w ≡ unpacked (row_at numbers i))
    go (inl j) ih = let t = ih j in (t.0, omega (arith, t.1), t.2)
    go (inr e) ih = (n, omega arith, e)

pub rows_at_no : (numbers : List ℕ) (n i : ℕ) → i < n → get_or (rows_at numbers n) i no_row ≡ unpacked (row_at numbers i)
rows_at_no numbers zero i h = absurd (omega arith)
rows_at_no numbers (suc n) i h = go (ℕ_discrete i n) (λ l. rows_at_no numbers n i l)
  where
    go : Dec (i ≡ n) → (i < n → get_or (rows_at numbers n) i no_row ≡ unpacked (row_at numbers i))
        → get_or (rows_at numbers n ++ (unpacked (row_at numbers n) ∷ [])) i no_row ≡ unpacked (row_at numbers i)
    go (yes p) ih =
        let size = rows_at-length numbers n in
        let e : i ≡ length (rows_at numbers n) + 0 = omega arith in
        ap (λ (k : ℕ). get_or (rows_at numbers n ++ (unpacked (row_at numbers n) ∷ [])) k no_row) e
        ∙ get_or-append-add (rows_at numbers n) (unpacked (row_at numbers n) ∷ []) 0 no_row
        ∙ ap (λ (k : ℕ). unpacked (row_at numbers k)) (sym p)
    go (no q) ih =
        get_or-append (rows_at numbers n) (unpacked (row_at numbers n) ∷ []) no_row i (omega (arith, rows_at-length numbers n)) ∙ ih (omega arith)

-- ---- sections of the index

pub section_cell : (c : ℕ) (index : List ℕ) (i : ℕ) → i < 4096 → get_or (section c index) i 0 ≡ get_or index (4096 * c + i) 0
section_cell c index = window_cell 4096 (4096 * c) index

pub section-length : (c : ℕ) (index : List ℕ) → 4096 * c + 4096 ≤ length index → length (section c index) ≡ 4096
section-length c index = window_length 4096 (4096 * c) index

pub section_same : (c : ℕ) (a b : List ℕ) → 4096 * c + 4096 ≤ length a → 4096 * c + 4096 ≤ length b
    → ((i : ℕ) → i < 4096 → get_or a (4096 * c + i) 0 ≡ get_or b (4096 * c + i) 0) → section c a ≡ section c b
section_same c a b = window_same 4096 (4096 * c) a b

pub section-set : (c : ℕ) (index : List ℕ) (i v : ℕ) → i < 4096 → 4096 * c + 4096 ≤ length index → section c (set index (4096 * c + i) v) ≡ set (section c index) i v
section-set c index i v h room =
    let long = length-set index (4096 * c + i) v in
    let m = section-length c (set index (4096 * c + i) v) (omega arith) in
    let n = section-length c index room in
    let k = length-set (section c index) i v in
    ext_get_or 0 (section c (set index (4096 * c + i) v)) (set (section c index) i v) (omega arith)
    (λ j l. let s : j < 4096 = omega arith in section_cell c (set index (4096 * c + i) v) j s ∙ go j s (ℕ_discrete j i))
  where
    go : (j : ℕ) → j < 4096 → Dec (j ≡ i) → get_or (set index (4096 * c + i) v) (4096 * c + j) 0 ≡ get_or (set (section c index) i v) j 0
    go j s (yes p) =
        ap (λ (x : ℕ). get_or (set index (4096 * c + i) v) (4096 * c + x) 0) p ∙ get_or-set_same index (4096 * c + i) v 0 (omega arith)
        ∙ sym (get_or-set_same (section c index) i v 0 (omega (arith, section-length c index room)))
        ∙ ap (λ (x : ℕ). get_or (set (section c index) i v) x 0) (sym p)
    go j s (no q) =
        get_or-set_other index (4096 * c + i) (4096 * c + j) v 0 (λ e. q (omega arith)) ∙ sym (section_cell c index j s)
        ∙ sym (get_or-set_other (section c index) i j v 0 q)

pub section_other : (c : ℕ) (index : List ℕ) (at v : ℕ) → 4096 * c + 4096 ≤ length index → (at < 4096 * c) ⊎ (4096 * c + 4096 ≤ at)
    → section c (set index at v) ≡ section c index
section_other c index at v room away =
    section_same c (set index at v) index (omega (arith, length-set index at v)) room
    (λ i h. get_or-set_other index at (4096 * c + i) v 0 (λ e. elim away [ inl l ↦ omega arith | inr l ↦ omega arith ]))

-- What pushing leaves.
abbrev pub pushed : List ℕ → ℕ → ℕ → ℕ → List ℕ
pushed index c count b = set (set index (4096 * c + 4096 + count) (get_or index (4096 * c + b) 0)) (4096 * c + b) (count + 1)

module _ (index : List ℕ) (c count b : ℕ) (size : length index ≡ 24576) (low : c ≤ 2) (small : count < 4096) (fits : b < 4096) where
  abbrev first : List ℕ
  first = set index (4096 * c + 4096 + count) (get_or index (4096 * c + b) 0)

  first_size : length first ≡ 24576
  first_size = length-set index (4096 * c + 4096 + count) (get_or index (4096 * c + b) 0) ∙ size

  pub pushed_size : length (pushed index c count b) ≡ 24576
  pushed_size = length-set first (4096 * c + b) (count + 1) ∙ first_size

  pub pushed_heads : section c (pushed index c count b) ≡ set (section c index) b (count + 1)
  pushed_heads =
      section-set c first b (count + 1) fits (omega (arith, first_size))
      ∙ ap (λ (l : List ℕ). set l b (count + 1)) (section_other c index (4096 * c + 4096 + count) (get_or index (4096 * c + b) 0) (omega arith) (inr (omega arith)))

  pub pushed_next : section (c + 1) (pushed index c count b) ≡ set (section (c + 1) index) count (get_or (section c index) b 0)
  pushed_next =
      let e : 4096 * c + 4096 + count ≡ 4096 * (c + 1) + count = omega arith in
      section_other (c + 1) first (4096 * c + b) (count + 1) (omega (arith, first_size)) (inl (omega arith))
      ∙ ap (λ (k : ℕ). section (c + 1) (set index k (get_or index (4096 * c + b) 0))) e
      ∙ section-set (c + 1) index count (get_or index (4096 * c + b) 0) small (omega arith)
      ∙ ap (λ (v : ℕ). set (section (c + 1) index) count v) (sym (section_cell c index b fits))

  pub pushed_beyond : (j : ℕ) → (j < 4096 * c) ⊎ (4096 * c + 8192 ≤ j) → get_or (pushed index c count b) j 0 ≡ get_or index j 0
  pushed_beyond j h =
      get_or-set_other first (4096 * c + b) j (count + 1) 0 (λ e. elim h [ inl l ↦ omega arith | inr l ↦ omega arith ])
      ∙ get_or-set_other index (4096 * c + 4096 + count) j (get_or index (4096 * c + b) 0) 0 (λ e. elim h [ inl l ↦ omega arith | inr l ↦ omega arith ])

  pub pushed_chains : (bucket : ℕ → ℕ) → Chains bucket (section c index) (section (c + 1) index) count → b ≡ bucket count
      → Chains bucket (section c (pushed index c count b)) (section (c + 1) (pushed index c count b)) (count + 1)
  pushed_chains bucket chain e =
      subst (λ (h : List ℕ). Chains bucket h (section (c + 1) (pushed index c count b)) (count + 1)) (sym pushed_heads)
      (subst (λ (n : List ℕ). Chains bucket (set (section c index) b (count + 1)) n (count + 1)) (sym pushed_next)
      (chains_push bucket (section c index) (section (c + 1) index) count b chain small e fits))

-- ---- found

module _ (Is : ℕ → Type 0) (count : ℕ) where
  pub found_there : (r : Option ℕ) → FoundIn Is count r → is_some r ≡ true → (at : ℕ) × (at < count) × Is at
  found_there (Some at) f e = (at, f.0, f.1)
  found_there None f e = absurd (false≢true e)

  pub found_nowhere : (r : Option ℕ) → FoundIn Is count r → is_some r ≡ false → (j : ℕ) → j < count → Is j → ⊥
  found_nowhere (Some at) f e = absurd (false≢true (sym e))
  found_nowhere None f e = f

-- ---- one record more

module _ (numbers index : List ℕ) (by count : ℕ) (s : Stored numbers index by count) (row : List ℕ) (p : PackedRow row) where
  abbrev pub added_to : List Row
  added_to = add Row-discrete (unpacked row) (rows_at numbers count)

  -- The record is there.
  pub grown_there : (at : ℕ) → at < count → row_at numbers at ≡ row → Grown numbers index by count numbers index count added_to
  grown_there at h e =
      record {
        room = refl;
        size = s.size;
        more = omega arith;
        stored = λ l. s;
        rows_are = λ l. sym (add_there Row-discrete (unpacked row) (rows_at numbers count)
            (subst (λ (r : List ℕ). In (unpacked r) (rows_at numbers count)) e (rows_at_in numbers count at h)));
        over = λ l. absurd (omega (arith, s.few));
        same = λ i l. refl;
        beyond = λ j l. refl;
      }

  module _ (nowhere : (j : ℕ) → j < count → row_at numbers j ≡ row → ⊥) where
    not_in : In (unpacked row) (rows_at numbers count) → ⊥
    not_in i =
        let t = in_rows_at numbers count (unpacked row) i in
        nowhere t.0 t.1
        (sym (packed-unpacked (s.each t.0 t.1)) ∙ ap packed (sym t.2) ∙ packed-unpacked p)

    -- There is no room for it.
    pub grown_over : count ≡ 4096 → Grown numbers index by count numbers index 4097 added_to
    grown_over full =
        record {
          room = refl;
          size = s.size;
          more = omega arith;
          stored = λ l. absurd (omega arith);
          rows_are = λ l. absurd (omega arith);
          over = λ l. omega (
            arith,
            ap length (add_new Row-discrete (unpacked row) (rows_at numbers count) not_in),
            length-append (rows_at numbers count) (unpacked row ∷ []),
            rows_at-length numbers count,
          );
          same = λ i l. refl;
          beyond = λ j l. refl;
        }

    -- It is put after the others.
    grown-put : (count ≡ 4096 → ⊥) → length row ≡ 7 → (b : ℕ) → b ≡ bucket_of by row → b < 4096 → (after : List ℕ)
        → Part numbers (7 * count) 7 (λ (k : ℕ). get_or row k 0) after → Grown numbers index by count after (pushed index 0 count b) (count + 1) added_to
    grown-put free eight b e fits after put =
        record {
          room = put.whole;
          size = pushed_size index 0 count b s.size (omega arith) small fits;
          more = omega arith;
          stored = λ l. record {
            room = omega (arith, put.whole, s.room);
            mixing = s.mixing;
            size = pushed_size index 0 count b s.size (omega arith) small fits;
            few = omega arith;
            each = λ i h. packed_at i h (ℕ_discrete i count);
            chain = pushed_chains index 0 count b s.size (omega arith) small fits (bucket_at by after)
                (chains_alike (bucket_at by numbers) (bucket_at by after) (section 0 index) (section 1 index) count (λ j h. ap (bucket_of by) (sym (old j h))) s.chain)
                (e ∙ ap (bucket_of by) (sym new));
          };
          rows_are = λ l.
              ap (rows_at after) (add-one count)
              ∙ ap (λ (l : List Row). l ++ (unpacked (row_at after count) ∷ [])) (rows_at_alike after numbers count (λ i h. old i h))
              ∙ ap (λ (r : List ℕ). rows_at numbers count ++ (unpacked r ∷ [])) new
              ∙ sym (add_new Row-discrete (unpacked row) (rows_at numbers count) not_in);
          over = λ l. absurd (omega (arith, s.few, free));
          same = λ i h. old i h;
          beyond = λ j h. pushed_beyond index 0 count b s.size (omega arith) small fits j (inr (omega arith));
        }
      where
        small : count < 4096
        small = omega (arith, s.few, free)

        old : (i : ℕ) → i < count → row_at after i ≡ row_at numbers i
        old i h = row_at_same after numbers i (omega (arith, put.whole, s.room)) (omega (arith, s.room)) (λ k l. put.below (7 * i + k) (omega arith))

        new : row_at after count ≡ row
        new =
            let z = row_at-length after count (omega (arith, put.whole, s.room, small)) in
            ext_get_or 0 (row_at after count) row (z ∙ sym eight)
            (λ k l. let m : k < 7 = omega arith in row_at_cell after count k m ∙ put.bytes k m)

        packed_at : (i : ℕ) → i < count + 1 → Dec (i ≡ count) → PackedRow (row_at after i)
        packed_at i h (yes q) = subst (λ (k : ℕ). PackedRow (row_at after k)) (sym q) (subst PackedRow (sym new) p)
        packed_at i h (no q) = subst PackedRow (sym (old i (omega arith))) (s.each i (omega arith))

    pub grown_more : (count ≡ 4096 → ⊥) → length row ≡ 7 → (b : ℕ) → b ≡ bucket_of by row → b < 4096 → {after index' : List ℕ}
        → Part numbers (7 * count) 7 (λ (k : ℕ). get_or row k 0) after → index' ≡ pushed index 0 count b → Grown numbers index by count after index' (count + 1) added_to
    grown_more free eight b e fits {after} {index'} put q =
        subst (λ (l : List ℕ). Grown numbers index by count after l (count + 1) added_to) (sym q) (grown-put free eight b e fits after put)
