-- Laws of a table with its zeros filled: which numbers it holds, and what they mean. Assumes nothing.
use mathlib.Core.Path.{◌≡◌, refl, sym, ◌∙◌, ap, ap₂, subst}
use mathlib.Core.Bool.{false≢true}
use mathlib.Core.Logic.{◌⊎◌, inl, inr}
use mathlib.Core.List.{List, [], ◌∷◌, ◌++◌, map, map-map, append_assoc}
use mathlib.Core.Option.{some}
use Prim.Native.Nat.{ℕ, zero, suc, ◌+◌, ◌-◌, ◌≤◌, ◌<◌}
use native.Mathlib.Decide.{ℕ_discrete, dec_le}
use native.Mathlib.Omega.{arith}
use lib.ListN.{length, get_or, take, length-append}
use lib.Seq.{get_or-append_seam}
use Rattle.patterns.specs.Lists.{Numbered, next, numbered}
use Rattle.patterns.specs.Pattern.{pick, index}
use Rattle.patterns.proofs.ListLaws.{in_get_or}
use Rattle.patterns.proofs.PatternLaws.{pick_yes, pick_no}
use Rattle.patterns.proofs.NumberedLaws.{numbered_items, item_in}
use Rattle.sheet.specs.Line.{Line}
use Rattle.chase.specs.Lists.{In, All2, largest}
use Rattle.chase.specs.Rules.{row_lines, nth}
use Rattle.chase.specs.Value.{Value, table, missing, generation, Value-discrete}
use Rattle.chase.specs.Making.{Record}
use Rattle.chase.specs.Run.{row_value, row_record, rows_of}
use Rattle.chase.specs.Counting.{NoTwo}
use Rattle.chase.specs.Filled.{Filled}
use Rattle.chase.proofs.ListLaws.{in_left, in_right, in_map, in_append, maps_each}
use Rattle.chase.proofs.StepLaws.{nth_rel, rel_some}
use Rattle.chase.proofs.RowLaws.{nth-numbered}
use Rattle.carrying.specs.Carrying.{Row, rising, numbers_in, filled, zeros, filled_rows, filled_table, row_of, table_rows}
use Rattle.carrying.specs.Contract.{top}
use Rattle.carrying.specs.Meaning.{meant, missing_at, missing_in, table_meaning, Numbering}
use Rattle.carrying.proofs.ListLaws.{no_two_append, index-get_or}
use Rattle.carrying.proofs.MarkLaws.{in_largest, no_two_rising}

-- The numbers of a row with its zeros filled: those that are not 0, and the next ones, as many as there are zeros.
abbrev Held : ℕ → List ℕ → ℕ → Type 0
Held next ns a = (In a ns × (0 < a)) ⊎ ((next ≤ a) × (a < next + zeros ns))

filled_in : (next : ℕ) (ns : List ℕ) (a : ℕ) → In a (filled next ns) → Held next ns a
filled_in next [] a i = absurd i
filled_in next (zero ∷ ns) a (inl p) = inr (omega arith, omega arith)
filled_in next (zero ∷ ns) a (inr i) =
    elim (filled_in (suc next) ns a i) [ inl s ↦ inl (inr s.0, s.1) | inr s ↦ inr (omega (arith, s.0), omega (arith, s.1)) ]
filled_in next (suc n ∷ ns) a (inl p) = inl (inl p, omega arith)
filled_in next (suc n ∷ ns) a (inr i) = elim (filled_in next ns a i) [ inl s ↦ inl (inr s.0, s.1) | inr s ↦ inr s ]

pub zeros-append : (xs ys : List ℕ) → zeros (xs ++ ys) ≡ zeros xs + zeros ys
zeros-append [] ys = omega arith
zeros-append (zero ∷ xs) ys = omega (arith, zeros-append xs ys)
zeros-append (suc n ∷ xs) ys = zeros-append xs ys

in_numbers_in : (ws : List Row) (w : Row) (a : ℕ) → In w ws → In a w.numbers → In a (numbers_in ws)
in_numbers_in [] w a i j = absurd i
in_numbers_in (v ∷ ws) w a (inl p) j = in_left a v.numbers (numbers_in ws) (subst (λ (u : Row). In a u.numbers) p j)
in_numbers_in (v ∷ ws) w a (inr i) j = in_right a v.numbers (numbers_in ws) (in_numbers_in ws w a i j)

-- So too the numbers of rows.
pub filled_rows_in : (next : ℕ) (ws : List Row) (w : Row) (a : ℕ) → In w (filled_rows next ws) → In a w.numbers → Held next (numbers_in ws) a
filled_rows_in next [] w a i j = absurd i
filled_rows_in next (v ∷ ws) w a (inl p) j =
    elim (filled_in next v.numbers a (subst (λ (u : Row). In a u.numbers) p j)) [
      | inl s ↦ inl (in_left a v.numbers (numbers_in ws) s.0, s.1)
      | inr s ↦ inr (s.0, omega (arith, s.1, zeros-append v.numbers (numbers_in ws)))
    ]
filled_rows_in next (v ∷ ws) w a (inr i) j =
    elim (filled_rows_in (next + zeros v.numbers) ws w a i j) [
      | inl s ↦ inl (in_right a v.numbers (numbers_in ws) s.0, s.1)
      | inr s ↦ inr (omega (arith, s.0), omega (arith, s.1, zeros-append v.numbers (numbers_in ws)))
    ]

-- Where each number goes: a 0 becomes the next number after those of the zeros before it, another number stays.
pub length-filled : (next : ℕ) (ns : List ℕ) → length (filled next ns) ≡ length ns
length-filled next [] = refl
length-filled next (zero ∷ ns) = ap suc (length-filled (suc next) ns)
length-filled next (suc n ∷ ns) = ap suc (length-filled next ns)

pub zero-filled : (next : ℕ) (ns : List ℕ) (k : ℕ) → k < length ns → get_or ns k 0 ≡ 0 → get_or (filled next ns) k 0 ≡ next + zeros (take k ns)
zero-filled next [] k h e = absurd (omega arith)
zero-filled next (zero ∷ ns) zero h e = omega arith
zero-filled next (suc n ∷ ns) zero h e = absurd (omega arith)
zero-filled next (zero ∷ ns) (suc k) h e = omega (arith, zero-filled (suc next) ns k (omega arith) e)
zero-filled next (suc n ∷ ns) (suc k) h e = zero-filled next ns k (omega arith) e

pub other_stays : (next : ℕ) (ns : List ℕ) (k : ℕ) → (get_or ns k 0 ≡ 0 → ⊥) → get_or (filled next ns) k 0 ≡ get_or ns k 0
other_stays next [] k e = absurd (e refl)
other_stays next (zero ∷ ns) zero e = absurd (e refl)
other_stays next (suc n ∷ ns) zero e = refl
other_stays next (zero ∷ ns) (suc k) e = other_stays (suc next) ns k e
other_stays next (suc n ∷ ns) (suc k) e = other_stays next ns k e

-- How many zeros there are up to a place.
pub one_zero : (ns : List ℕ) (k : ℕ) → k < length ns → get_or ns k 0 ≡ 0 → zeros (take (suc k) ns) ≡ suc (zeros (take k ns))
one_zero [] k h e = absurd (omega arith)
one_zero (zero ∷ ns) zero h e = refl
one_zero (suc n ∷ ns) zero h e = absurd (omega arith)
one_zero (zero ∷ ns) (suc k) h e = ap suc (one_zero ns k (omega arith) e)
one_zero (suc n ∷ ns) (suc k) h e = one_zero ns k (omega arith) e

pub no_zero_there : (ns : List ℕ) (k : ℕ) → (get_or ns k 0 ≡ 0 → ⊥) → zeros (take (suc k) ns) ≡ zeros (take k ns)
no_zero_there [] k e = absurd (e refl)
no_zero_there (zero ∷ ns) zero e = absurd (e refl)
no_zero_there (suc n ∷ ns) zero e = refl
no_zero_there (zero ∷ ns) (suc k) e = ap suc (no_zero_there ns k e)
no_zero_there (suc n ∷ ns) (suc k) e = no_zero_there ns k e

pub zeros_few : (ns : List ℕ) → zeros ns ≤ length ns
zeros_few [] = omega arith
zeros_few (zero ∷ ns) = omega (arith, zeros_few ns)
zeros_few (suc n ∷ ns) = omega (arith, zeros_few ns)

-- The numbers of a row with its zeros filled are filled in the sense of `Filled`.
filled_at : (next : ℕ) (ns : List ℕ) (i : ℕ) → i < length ns → Held next ns (get_or (filled next ns) i 0)
filled_at next ns i h = filled_in next ns (get_or (filled next ns) i 0) (in_get_or (filled next ns) i 0 (omega (arith, length-filled next ns)))

filled_new : (next : ℕ) (ns : List ℕ) → ((a : ℕ) → In a ns → a < next) → (i j : ℕ) → i < length ns → j < length ns → get_or ns i 0 ≡ 0
    → get_or (filled next ns) i 0 ≡ get_or (filled next ns) j 0 → i ≡ j
filled_new next [] b i j p q z e = absurd (omega arith)
filled_new next (zero ∷ ns) b zero zero p q z e = refl
filled_new next (zero ∷ ns) b zero (suc j) p q z e =
    elim (filled_at (suc next) ns j (omega arith)) [
      | inl s ↦ absurd (omega (arith, b (get_or (filled (suc next) ns) j 0) (inr s.0)))
      | inr s ↦ absurd (omega (arith, s.0))
    ]
filled_new next (zero ∷ ns) b (suc i) zero p q z e = absurd (omega (arith, zero-filled (suc next) ns i (omega arith) z))
filled_new next (zero ∷ ns) b (suc i) (suc j) p q z e =
    ap suc (filled_new (suc next) ns (λ a k. omega (arith, b a (inr k))) i j (omega arith) (omega arith) z e)
filled_new next (suc n ∷ ns) b zero j p q z e = absurd (omega arith)
filled_new next (suc n ∷ ns) b (suc i) zero p q z e = absurd (omega (arith, zero-filled next ns i (omega arith) z, b (suc n) (inl refl)))
filled_new next (suc n ∷ ns) b (suc i) (suc j) p q z e = ap suc (filled_new next ns (λ a k. b a (inr k)) i j (omega arith) (omega arith) z e)

filled_row_lem : (next : ℕ) (ns : List ℕ) → 0 < next → ((a : ℕ) → In a ns → a < next) → Filled ns (filled next ns)
filled_row_lem next ns l b =
    record {
      width = sym (length-filled next ns);
      kept = λ i h. other_stays next ns i;
      not_zero = λ i h z. elim (filled_at next ns i h) [ inl s ↦ omega (arith, s.1) | inr s ↦ omega (arith, s.0) ];
      new = filled_new next ns b;
    }

pub filled-rows : (next : ℕ) (ws : List Row) → 0 < next → ((a : ℕ) → In a (numbers_in ws) → a < next)
    → All2 (λ (v w : Row). (v.kind ≡ w.kind) × Filled v.numbers w.numbers) ws (filled_rows next ws)
filled-rows next [] l b = tt
filled-rows next (w ∷ ws) l b = (
  (refl, filled_row_lem next w.numbers l (λ a i. b a (in_left a w.numbers (numbers_in ws) i))),
  filled-rows (next + zeros w.numbers) ws (omega arith) (λ a i. omega (arith, b a (in_right a w.numbers (numbers_in ws) i))),
)

-- Where there is no 0, nothing is filled.
pub no_zeros : (ns : List ℕ) → (In 0 ns → ⊥) → zeros ns ≡ 0
no_zeros [] h = refl
no_zeros (zero ∷ ns) h = absurd (h (inl refl))
no_zeros (suc n ∷ ns) h = no_zeros ns (λ i. h (inr i))

filled_none : (next : ℕ) (ns : List ℕ) → (In 0 ns → ⊥) → filled next ns ≡ ns
filled_none next [] h = refl
filled_none next (zero ∷ ns) h = absurd (h (inl refl))
filled_none next (suc n ∷ ns) h = ap (λ (l : List ℕ). suc n ∷ l) (filled_none next ns (λ i. h (inr i)))

pub filled_rows-none : (next : ℕ) (ws : List Row) → (In 0 (numbers_in ws) → ⊥) → filled_rows next ws ≡ ws
filled_rows-none next [] h = refl
filled_rows-none next (w ∷ ws) h =
    let numbers = filled_none next w.numbers (λ i. h (in_left 0 w.numbers (numbers_in ws) i)) in
    let others = filled_rows-none (next + zeros w.numbers) ws (λ i. h (in_right 0 w.numbers (numbers_in ws) i)) in
    λ i. record { kind = w.kind; numbers = numbers i } ∷ others i

-- There are as many missing values as zeros.
missing_at-length : (row : ℕ) (ns : List (Numbered ℕ)) → length (missing_at row ns) ≡ zeros (map (λ (n : Numbered ℕ). n.item) ns)
missing_at-length row [] = refl
missing_at-length row (n ∷ ns) = go n.item (ℕ_discrete n.item 0) (missing_at-length row ns)
  where
    go : (a : ℕ) (d : Dec (a ≡ 0)) → length (missing_at row ns) ≡ zeros (map (λ (m : Numbered ℕ). m.item) ns)
        → length (pick d (missing row n.number ∷ missing_at row ns) (missing_at row ns)) ≡ zeros (a ∷ map (λ (m : Numbered ℕ). m.item) ns)
    go zero (yes p) e = ap suc e
    go zero (no q) e = absurd (q refl)
    go (suc a) (yes p) e = absurd (omega arith)
    go (suc a) (no q) e = e

row_missing_length : (row : ℕ) (ns : List ℕ) → length (missing_at row (numbered ns)) ≡ zeros ns
row_missing_length row ns = missing_at-length row (numbered ns) ∙ ap zeros (numbered_items ns)

abbrev rows_in : List (Numbered Line) → List Row
rows_in ls = map (λ (l : Numbered Line). row_of l.item) ls

rows-numbered : (ls : List Line) → rows_in (numbered ls) ≡ map row_of ls
rows-numbered ls = sym (map-map row_of (λ (l : Numbered Line). l.item) (numbered ls)) ∙ ap (map row_of) (numbered_items ls)

missing_in-length : (ls : List (Numbered Line)) → length (missing_in ls) ≡ zeros (numbers_in (rows_in ls))
missing_in-length [] = refl
missing_in-length (l ∷ ls) =
    let ns = l.item.numbers in
    omega (
      arith,
      length-append (missing_at l.number (numbered ns)) (missing_in ls),
      row_missing_length l.number ns,
      zeros-append ns (numbers_in (rows_in ls)),
      missing_in-length ls,
    )

-- Numbers that mean values one after the other, the first of them `next`.
module _ (meaning : ℕ → Value) where
  abbrev Gives : ℕ → List Value → Type 0
  Gives next [] = Unit {0}
  Gives next (v ∷ vs) = (meaning next ≡ v) × Gives (suc next) vs

  gives_append : (next : ℕ) (vs ws : List Value) → Gives next (vs ++ ws) → Gives next vs × Gives (next + length vs) ws
  gives_append next [] ws g =
      let same : next ≡ next + 0 = omega arith in
      (tt, subst (λ (n : ℕ). Gives n ws) same g)
  gives_append next (v ∷ vs) ws g =
      let t = gives_append (suc next) vs ws g.1 in
      let same : suc next + length vs ≡ next + suc (length vs) = omega arith in
      ((g.0, t.0), subst (λ (n : ℕ). Gives n ws) same t.1)

  -- A row with its zeros filled means the row, if the numbers that fill it mean what is missing.
  row-meant : (row next : ℕ) (ns : List (Numbered ℕ)) → Gives next (missing_at row ns)
      → ((n : Numbered ℕ) → In n ns → (n.item ≡ 0 → ⊥) → meaning n.item ≡ table n.item)
      → map meaning (filled next (map (λ (n : Numbered ℕ). n.item) ns)) ≡ map (λ (n : Numbered ℕ). row_value row n.number n.item) ns
  row-meant row next [] g h = refl
  row-meant row next (n ∷ ns) g h = go n.item (ℕ_discrete n.item 0) g (h n (inl refl)) (λ k q. row-meant row k ns q (λ m i. h m (inr i)))
    where
      others : List Value
      others = map (λ (m : Numbered ℕ). row_value row m.number m.item) ns

      go : (a : ℕ) (d : Dec (a ≡ 0)) → Gives next (pick d (missing row n.number ∷ missing_at row ns) (missing_at row ns))
          → ((a ≡ 0 → ⊥) → meaning a ≡ table a)
          → ((k : ℕ) → Gives k (missing_at row ns) → map meaning (filled k (map (λ (m : Numbered ℕ). m.item) ns)) ≡ others)
          → map meaning (filled next (a ∷ map (λ (m : Numbered ℕ). m.item) ns)) ≡ row_value row n.number a ∷ others
      go zero (yes p) g h ih = ap₂ ◌∷◌ g.0 (ih (suc next) g.1)
      go zero (no q) g h ih = absurd (q refl)
      go (suc a) (yes p) g h ih = absurd (omega arith)
      go (suc a) (no q) g h ih = ap₂ ◌∷◌ (h q) (ih next g)

  -- So too rows, one after the other.
  rows-meant : (next : ℕ) (ls : List (Numbered Line)) → Gives next (missing_in ls)
      → ((l : Numbered Line) (a : ℕ) → In l ls → In a l.item.numbers → (a ≡ 0 → ⊥) → meaning a ≡ table a)
      → map (meant meaning) (filled_rows next (rows_in ls)) ≡ map row_record ls
  rows-meant next [] g h = refl
  rows-meant next (l ∷ ls) g h =
      let ns = l.item.numbers in
      let t = gives_append next (missing_at l.number (numbered ns)) (missing_in ls) g in
      let fields : map meaning (filled next ns) ≡ (row_record l).fields =
      ap (λ (k : List ℕ). map meaning (filled next k)) (sym (numbered_items ns))
      ∙ row-meant l.number next (numbered ns) t.0 (λ n i. h l n.item (inl refl) (item_in ns n i)) in
      let others = rows-meant (next + zeros ns) ls (subst (λ (k : ℕ). Gives (next + k) (missing_in ls)) (row_missing_length l.number ns) t.1)
      (λ k a i. h k a (inr i)) in
      λ i. record { kind = l.item.kind; fields = fields i } ∷ others i

-- The missing values of a row, and of rows.
missing_at_in : (row : ℕ) (ns : List (Numbered ℕ)) (v : Value) → In v (missing_at row ns) → (n : Numbered ℕ) × In n ns × (v ≡ missing row n.number)
missing_at_in row [] v i = absurd i
missing_at_in row (n ∷ ns) v i = go (ℕ_discrete n.item 0) i (missing_at_in row ns v)
  where
    go : (d : Dec (n.item ≡ 0)) → In v (pick d (missing row n.number ∷ missing_at row ns) (missing_at row ns))
        → (In v (missing_at row ns) → (m : Numbered ℕ) × In m ns × (v ≡ missing row m.number))
        → (m : Numbered ℕ) × In m (n ∷ ns) × (v ≡ missing row m.number)
    go (yes p) (inl e) ih = (n, inl refl, e)
    go (yes p) (inr j) ih = let t = ih j in (t.0, inr t.1, t.2)
    go (no h) j ih = let t = ih j in (t.0, inr t.1, t.2)

missing_in_in : (ls : List (Numbered Line)) (v : Value) → In v (missing_in ls) → (l : Numbered Line) × In l ls × ((field : ℕ) × (v ≡ missing l.number field))
missing_in_in [] v i = absurd i
missing_in_in (l ∷ ls) v i =
    elim (in_append v (missing_at l.number (numbered l.item.numbers)) (missing_in ls) i) [
      | inl j ↦ let t = missing_at_in l.number (numbered l.item.numbers) v j in (l, inl refl, (t.0.number, t.2))
      | inr j ↦ let t = missing_in_in ls v j in (t.0, inr t.1, t.2)
    ]

-- No number stands twice among those of a list's elements.
abbrev pub numbers_of : {A : Type 0} → List (Numbered A) → List ℕ
numbers_of ps = map (λ p. p.number) ps

suc-rising : (k n : ℕ) → map suc (rising k n) ≡ rising (suc k) n
suc-rising k zero = refl
suc-rising k (suc n) = ap (λ (l : List ℕ). suc k ∷ l) (suc-rising (suc k) n)

numbers_rise : {A : Type 0} (l : List A) → numbers_of (numbered l) ≡ rising 1 (length l)
numbers_rise [] = refl
numbers_rise {A} (x ∷ l) =
    ap (λ (k : List ℕ). 1 ∷ k)
    (map-map (λ (p : Numbered A). p.number) next (numbered l) ∙ sym (map-map suc (λ (p : Numbered A). p.number) (numbered l))
    ∙ ap (map suc) (numbers_rise l) ∙ suc-rising 1 (length l))

pub numbers_no_two : {A : Type 0} (l : List A) → NoTwo (numbers_of (numbered l))
numbers_no_two l = rw (numbers_rise l) (no_two_rising 1 (length l))

-- So no value is missing twice.
missing_at_no_two : (row : ℕ) (ns : List (Numbered ℕ)) → NoTwo (numbers_of ns) → NoTwo (missing_at row ns)
missing_at_no_two row [] h = tt
missing_at_no_two row (n ∷ ns) h = go (ℕ_discrete n.item 0) (missing_at_no_two row ns h.1)
  where
    new : In (missing row n.number) (missing_at row ns) → ⊥
    new i =
        let t = missing_at_in row ns (missing row n.number) i in
        let e = t.2 in
        let same : t.0.number ≡ n.number = cc in
        h.0 (subst (λ (k : ℕ). In k (numbers_of ns)) same (in_map (λ (m : Numbered ℕ). m.number) t.0 ns t.1))

    go : (d : Dec (n.item ≡ 0)) → NoTwo (missing_at row ns) → NoTwo (pick d (missing row n.number ∷ missing_at row ns) (missing_at row ns))
    go (yes p) ih = (new, ih)
    go (no q) ih = ih

missing_in_no_two : (ls : List (Numbered Line)) → NoTwo (numbers_of ls) → NoTwo (missing_in ls)
missing_in_no_two [] h = tt
missing_in_no_two (l ∷ ls) h =
    let ns = numbered l.item.numbers in
    no_two_append (missing_at l.number ns) (missing_in ls) (missing_at_no_two l.number ns (numbers_no_two l.item.numbers)) (missing_in_no_two ls h.1)
    (λ v i j.
    let s = missing_at_in l.number ns v i in
    let t = missing_in_in ls v j in
    let e = s.2 in
    let f = t.2.1 in
    let same : t.0.number ≡ l.number = cc in
    h.0 (subst (λ (k : ℕ). In k (numbers_of ls)) same (in_map (λ (m : Numbered Line). m.number) t.0 ls t.1)))

module _ (lines : List Line) where
  abbrev high : ℕ
  high = largest (numbers_in (table_rows lines))

  abbrev missed : List Value
  missed = missing_in (numbered (row_lines lines))

  missed_length : length missed ≡ zeros (numbers_in (table_rows lines))
  missed_length = missing_in-length (numbered (row_lines lines)) ∙ ap (λ (ws : List Row). zeros (numbers_in ws)) (rows-numbered (row_lines lines))

  -- What a number means, up to the largest value and after it.
  low : (a : ℕ) → a ≤ high → table_meaning lines a ≡ table a
  low a h = pick_yes _ _ (dec_le a high) h

  past : (a : ℕ) → high < a → table_meaning lines a ≡ get_or missed (a - suc high) (table a)
  past a h = pick_no _ _ (dec_le a high) (λ l. omega arith)

  -- The numbers after the largest value mean the missing values.
  gives : (before vs : List Value) → missed ≡ before ++ vs → Gives (table_meaning lines) (suc high + length before) vs
  gives before [] e = tt
  gives before (v ∷ vs) e =
      let a = suc high + length before in
      let at : a - suc high ≡ length before = omega arith in
      let more : suc high + length (before ++ (v ∷ [])) ≡ suc a = omega (arith, length-append before (v ∷ [])) in (
        past a (omega arith) ∙ (λ i. get_or (e i) (at i) (table a)) ∙ get_or-append_seam before v vs (table a),
        subst (λ (n : ℕ). Gives (table_meaning lines) n vs) more (gives (before ++ (v ∷ [])) vs (e ∙ sym (append_assoc before (v ∷ []) vs))),
      )

  -- So the filled table means the sheet's rows.
  pub same_rows : map (meant (table_meaning lines)) (filled_table (table_rows lines)) ≡ rows_of lines
  same_rows =
      let none_before : suc high + 0 ≡ suc high = omega arith in
      ap (λ (ws : List Row). map (meant (table_meaning lines)) (filled_rows (suc high) ws)) (sym (rows-numbered (row_lines lines)))
      ∙ rows-meant (table_meaning lines) (suc high) (numbered (row_lines lines))
      (subst (λ (n : ℕ). Gives (table_meaning lines) n missed) none_before (gives [] missed refl))
      (λ l a i j h. low a (in_largest a (numbers_in (table_rows lines))
      (in_numbers_in (table_rows lines) (row_of l.item) a (in_map row_of l.item (row_lines lines) (item_in (row_lines lines) l i)) j)))

  -- A number after the largest value is the place of a missing value, among which none stands twice.
  place : (a : ℕ) → high < a → a < suc (top lines) → index Value-discrete (table_meaning lines a) missed ≡ a - suc high
  place a h l =
      ap (λ (v : Value). index Value-discrete v missed) (past a h)
      ∙ index-get_or Value-discrete missed (a - suc high) (table a) (missing_in_no_two (numbered (row_lines lines)) (numbers_no_two (row_lines lines)))
      (omega (arith, missed_length))

  is_missing : (a : ℕ) → high < a → a < suc (top lines) → (row : ℕ) × ((field : ℕ) × (table_meaning lines a ≡ missing row field))
  is_missing a h l =
      let t = missing_in_in (numbered (row_lines lines)) (get_or missed (a - suc high) (table a)) (in_get_or missed (a - suc high) (table a) (omega (arith, missed_length))) in
      (t.0.number, (t.2.0, past a h ∙ t.2.1))

  -- Before any rule fires the numbers mean different values, none of them fresh.
  pub numbering : Numbering (filled_table (table_rows lines)) (suc (top lines)) (table_meaning lines)
  numbering =
      record {
        one_to_one = λ a b p q e. one a b p q e (dec_le a high) (dec_le b high);
        not_fresh = λ a l. old a l (dec_le a high);
        numbered = λ w a i j.
            elim (filled_rows_in (suc high) (table_rows lines) w a i j) [
              | inl s ↦ omega (arith, in_largest a (numbers_in (table_rows lines)) s.0)
              | inr s ↦ omega (arith, s.1)
            ];
      }
    where
      one : (a b : ℕ) → a < suc (top lines) → b < suc (top lines) → table_meaning lines a ≡ table_meaning lines b
          → Dec (a ≤ high) → Dec (b ≤ high) → a ≡ b
      one a b p q e (yes g) (yes h) = let f : table a ≡ table b = sym (low a g) ∙ e ∙ low b h in cc
      one a b p q e (yes g) (no h) =
          let t = is_missing b (omega arith) q in
          let f : table a ≡ missing t.0 t.1.0 = sym (low a g) ∙ e ∙ t.1.1 in
          absurd (false≢true cc)
      one a b p q e (no g) (yes h) =
          let t = is_missing a (omega arith) p in
          let f : table b ≡ missing t.0 t.1.0 = sym (low b h) ∙ sym e ∙ t.1.1 in
          absurd (false≢true cc)
      one a b p q e (no g) (no h) =
          omega (arith, sym (place a (omega arith) p) ∙ ap (λ (v : Value). index Value-discrete v missed) e ∙ place b (omega arith) q)

      old : (a : ℕ) → a < suc (top lines) → Dec (a ≤ high) → generation (table_meaning lines a) ≡ 0
      old a l (yes g) = ap generation (low a g)
      old a l (no g) = ap generation (is_missing a (omega arith) l).1.1

  -- The number at a field of the filled table means what the sheet has there.
  pub means_there : (k i n : ℕ) (l : Line) → nth (row_lines lines) k ≡ some l → nth l.numbers i ≡ some n
      → (w : Row) × (nth (filled_table (table_rows lines)) k ≡ some w) × ((a : ℕ) × (nth w.numbers i ≡ some a) × (table_meaning lines a ≡ row_value k i n))
  means_there k i n l e f =
      let rows = numbered (row_lines lines) in
      let Means : Numbered Line → Row → Type 0 = λ r w. row_record r ≡ meant (table_meaning lines) w in
      let t = rel_some Means (nth rows k) (nth (filled_table (table_rows lines)) k) (record { number = k; item = l })
      (nth_rel Means rows (filled_table (table_rows lines)) k (maps_each row_record (meant (table_meaning lines)) rows (filled_table (table_rows lines)) (sym same_rows)))
      (nth-numbered (row_lines lines) k l e) in
      let ns = numbered l.numbers in
      let value : Numbered ℕ → Value = λ m. row_value k m.number m.item in
      let MeansAt : Numbered ℕ → ℕ → Type 0 = λ m a. value m ≡ table_meaning lines a in
      let u = rel_some MeansAt (nth ns i) (nth t.0.numbers i) (record { number = i; item = n })
      (nth_rel MeansAt ns t.0.numbers i (maps_each value (table_meaning lines) ns t.0.numbers (ap (λ (x : Record). x.fields) t.2)))
      (nth-numbered l.numbers i n f) in
      (t.0, t.1, (u.0, u.1, sym u.2))
