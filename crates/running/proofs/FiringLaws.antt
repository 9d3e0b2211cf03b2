-- A rule of the table on a record that is held: whether it fires, what it makes. Assumes nothing.
use mathlib.Core.Path.{◌≡◌, refl, sym, ◌∙◌, ap, subst}
use mathlib.Core.Bool.{true}
use mathlib.Core.Logic.{inl, inr}
use mathlib.Core.List.{List, [], ◌∷◌, ◌++◌, map}
use mathlib.Core.Option.{Option as Maybe, none, some}
use Rattle.std.specs.Prelude.{Option, Some, None, is_some}
use Prim.Native.Nat.{ℕ, zero, suc, ◌+◌, ◌-◌, ◌*◌, ◌≤◌, ◌<◌, max}
use native.Mathlib.Decide.{ℕ_discrete, dec_lt}
use native.Mathlib.Numerals.{add-one}
use native.Mathlib.Omega.{arith}
use lib.ListN.{length, get_or, take, drop, get_elem?, length-map, get_or-eq_default}
use lib.Seq.{ext_get_or, take_all}
use Rattle.patterns.specs.Outcome.{padded}
use Rattle.patterns.specs.Pattern.{add, add_all, index}
use Rattle.patterns.proofs.ListLaws.{padded_at}
use Rattle.sheet.specs.Sheet.{top_mark}
use Rattle.chase.specs.Lists.{In, All}
use Rattle.chase.specs.Rules.{Head, Rule}
use Rattle.chase.specs.Making.{value_of, or_else, carried_values}
use Rattle.chase.proofs.MakingLaws.{agree_length, in_marks_of}
use Rattle.chase.proofs.StepLaws.{element_in}
use Rattle.rules.specs.Table.{rule_in, row_bytes, first_place}
use Rattle.rules.specs.Inner.Bytes.{Part}
use Rattle.rules.proofs.RuleLaws.{RowFits, row_fits, rule_kind, Width, head_nth, head_fits}
use Rattle.rules.proofs.Sources.{first_within, first_there}
use Rattle.rules.proofs.FirstPlaces.{map_at, at_place, value_first, first_field, agree_at, at_agree}
use Rattle.carrying.specs.Carrying.{Row, Row-discrete, FiresOn, fresh_marks, number_of, row_made}
use Rattle.carrying.proofs.MarkLaws.{in_fresh}
use Rattle.carrying.proofs.SheetMarks.{fresh_above, fresh_place}
use Rattle.carrying.proofs.ListLaws.{begins-add_all, begins-length}
use Rattle.running.specs.Inner.Held.{code_of, packed, unpacked, PackedRow, row_at, rows_at, Stored, Grown, OrOver}
use Rattle.running.specs.Inner.Firing.{rule_at, head_no, row_no, RecordIn, Ready, value_from}
use Rattle.running.proofs.RecordLaws.{row_at_cell, unpacked_of, packed-row, packed-length, unpacked-packed}

-- ---- the numbers of a packed row

module _ {row : List ℕ} (p : PackedRow row) where
  pub packed_code : get_or row 0 0 ≡ code_of (unpacked row).kind (length (unpacked row).numbers)
  packed_code =
      ap (λ (l : List ℕ). get_or l 0 0) p.is ∙ ap (λ (w : Row). code_of w.kind (length w.numbers)) (sym (unpacked_of p))

  pub packed_narrow : length (unpacked row).numbers ≤ 6
  packed_narrow = omega (arith, ap (λ (w : Row). length w.numbers) (unpacked_of p), p.narrow)

  pub packed-number : (k : ℕ) → k < 6 → get_or (unpacked row).numbers k 0 ≡ get_or row (1 + k) 0
  packed-number k h =
      ap (λ (w : Row). get_or w.numbers k 0) (unpacked_of p) ∙ sym (padded_at 6 p.of.numbers k h)
      ∙ ap (λ (n : ℕ). get_or (packed p.of) n 0) (let e : suc k ≡ 1 + k = omega arith in e)
      ∙ sym (ap (λ (l : List ℕ). get_or l (1 + k) 0) p.is)

-- ---- firing

-- The numbers below k are those of their marks' first places.
pub record Equal (marks row : List ℕ) (n k : ℕ) : Type 0 where
  pub within : k ≤ n
  pub each : (j : ℕ) → j < k → get_or row (1 + j) 0 ≡ get_or row (1 + first_field marks j) 0

pub equal_none : (marks row : List ℕ) (n : ℕ) → Equal marks row n 0
equal_none marks row n = record { within = omega arith; each = λ j h. absurd (omega arith) }

pub equal_more : {marks row : List ℕ} {n k : ℕ} → Equal marks row n k → k < n → get_or row (1 + k) 0 ≡ get_or row (1 + first_field marks k) 0 → Equal marks row n (k + 1)
equal_more {marks} {row} {n} {k} e h q = record { within = omega arith; each = λ j l. go j l (ℕ_discrete j k) }
  where
    go : (j : ℕ) → j < k + 1 → Dec (j ≡ k) → get_or row (1 + j) 0 ≡ get_or row (1 + first_field marks j) 0
    go j l (yes s) = subst (λ (x : ℕ). get_or row (1 + x) 0 ≡ get_or row (1 + first_field marks x) 0) (sym s) q
    go j l (no s) = e.each j (omega arith)

module _ {bytes row : List ℕ} (fit : RowFits bytes) (p : PackedRow row) where
  abbrev marks : List ℕ
  marks = (rule_in bytes).marks

  abbrev numbers : List ℕ
  numbers = (unpacked row).numbers

  -- The code is that of the rule's kind and width just if the row's kind and width are.
  pub other_code : (n : ℕ) → Width marks n → (code_of (get_or bytes 0 0) n ≡ get_or row 0 0 → ⊥) → FiresOn (rule_in bytes) (unpacked row) → ⊥
  other_code n w h f =
      let k = rule_kind bytes in
      let s = agree_length marks numbers f.1 in
      h (omega (arith, k, f.0, w.is, s, packed_code p))

  same_code : (n : ℕ) → Width marks n → code_of (get_or bytes 0 0) n ≡ get_or row 0 0 → ((unpacked row).kind ≡ (rule_in bytes).kind) × (length marks ≡ length numbers)
  same_code n w e =
      let k = rule_kind bytes in
      let z = w.is in
      let few = w.few in
      let c = packed_code p in
      let m = packed_narrow p in
      (omega arith, omega arith)

  first_few : (i : ℕ) → first_field marks i < 6
  first_few i = omega (arith, first_within (get_or marks i 0) marks, fit.fits.rule.marks.few)

  pub unequal : (i : ℕ) → i < length marks → (get_or row (1 + i) 0 ≡ get_or row (1 + first_field marks i) 0 → ⊥) → FiresOn (rule_in bytes) (unpacked row) → ⊥
  unequal i l h f =
      h (sym (packed-number p i (omega (arith, l, fit.fits.rule.marks.few)))
      ∙ agree_at marks numbers 0 (agree_length marks numbers f.1) f.1 i l ∙ packed-number p (first_field marks i) (first_few i))

  pub equal : (n k : ℕ) → Width marks n → code_of (get_or bytes 0 0) n ≡ get_or row 0 0 → n ≤ k → Equal marks row n k → FiresOn (rule_in bytes) (unpacked row)
  equal n k w code done e =
      let same = same_code n w code in
      let z = w.is in
      let few = w.few in (
        same.0,
        at_agree marks numbers 0 same.1
            (λ i l. packed-number p i (omega arith) ∙ e.each i (omega arith) ∙ sym (packed-number p (first_field marks i) (first_few i))),
      )

-- ---- the number that a mark gets

pub value_place : (numbers : List ℕ) (i fresh n m : ℕ) → (n ≡ 0 → ⊥) → n ≤ 6 → n ≡ m → get_or numbers (7 * i + n) 0 ≡ value_from (row_at numbers i) fresh m
value_place numbers i fresh zero m h few e = absurd (h refl)
value_place numbers i fresh (suc k) m h few e =
    ap (λ (n : ℕ). get_or numbers n 0) (let q : 7 * i + suc k ≡ 7 * i + (1 + k) = omega arith in q) ∙ sym (row_at_cell numbers i (1 + k) (omega arith))
    ∙ ap (value_from (row_at numbers i) fresh) e

pub in_get_or : (l : List ℕ) (k : ℕ) → k < length l → In (get_or l k 0) l
in_get_or [] k h = absurd (omega arith)
in_get_or (x ∷ l) zero h = inl refl
in_get_or (x ∷ l) (suc k) h = inr (in_get_or l k (omega arith))

top-le : (m n : ℕ) (l : List ℕ) → m ≤ n → All (λ k. (1 ≤ k) × (k ≤ n)) l → top_mark m l ≤ n
top-le m n [] h a = h
top-le m n (k ∷ l) h a = top-le (max m k) n l (omega (arith, a.0.1)) a.1

module _ {table : List ℕ} {rules r low : ℕ} (ready : Ready table rules r low) where
  abbrev rule : Rule
  rule = rule_at table r

  pub ready_row : RowFits (row_bytes table r)
  ready_row = row_fits table rules r ready.fits ready.there

  pub low_few : low ≤ 12
  low_few = omega (arith, ready.low_is, top-le 0 12 rule.marks (omega arith) ready_row.fits.rule.marks.each)

  module _ (h : ℕ) (there : h < get_or (row_bytes table r) 28 0) where
    abbrev head : Head
    head = head_no (row_bytes table r) h

    pub head_in : In head rule.heads
    head_in = element_in rule.heads h head (head_nth (row_bytes table r) ready_row.size ready_row.fits h there)

    pub head_narrow : length head.marks ≤ 6
    head_narrow = (head_fits (row_bytes table r) ready_row.size ready_row.fits h there).marks.few

    module _ (m : ℕ) (stands : In m head.marks) (none-there : first_place m rule.marks ≡ 0) where
      mark_fresh : In m (fresh_marks rule)
      mark_fresh = in_fresh rule m (in_marks_of rule.heads head m head_in stands) (λ i. let p = first_there m rule.marks i in omega arith)

      pub mark_above : low < m
      mark_above = omega (arith, (fresh_above rule ready.body ready.heads m mark_fresh).0, ready.low_is)

      mark_number : (next : ℕ) → next + (m - low - 1) ≡ next + index ℕ_discrete m (fresh_marks rule)
      mark_number next =
          let a = fresh_above rule ready.body ready.heads m mark_fresh in
          omega (arith, fresh_place rule ready.body ready.heads m a.0 a.1, ready.low_is)

    module _ {row : List ℕ} (p : PackedRow row) (fires : FiresOn rule (unpacked row)) (next : ℕ) where
      abbrev pub made_row : Row
      made_row = row_made next rule (unpacked row) head

      pub made_narrow : length made_row.numbers ≤ 6
      made_narrow = omega (
        arith,
        length-map head.marks
            (λ (m : ℕ). or_else (number_of next rule m (carried_values rule (unpacked row).numbers)) (value_of rule.marks (unpacked row).numbers m)),
        head_narrow,
      )

      pub made_size : length made_row.numbers ≡ length head.marks
      made_size = length-map head.marks
          (λ (m : ℕ). or_else (number_of next rule m (carried_values rule (unpacked row).numbers)) (value_of rule.marks (unpacked row).numbers m))

      pub made-number : (k m : ℕ) → k < length head.marks → m ≡ get_or head.marks k 0
          → value_from row (next + (m - low - 1)) (first_place m rule.marks) ≡ get_or made_row.numbers k 0
      made-number k m l e =
          go (first_place m rule.marks) refl
          ∙ ap (or_else (number_of next rule m (carried_values rule (unpacked row).numbers))) (sym (value_first rule.marks (unpacked row).numbers 0 m (agree_length rule.marks (unpacked row).numbers fires.1)))
          ∙ ap (λ (x : ℕ). or_else (number_of next rule x (carried_values rule (unpacked row).numbers)) (value_of rule.marks (unpacked row).numbers x)) e
          ∙ sym (map_at (λ (x : ℕ). or_else (number_of next rule x (carried_values rule (unpacked row).numbers)) (value_of rule.marks (unpacked row).numbers x)) head.marks k 0 0 l)
        where
          go : (n : ℕ) → first_place m rule.marks ≡ n → value_from row (next + (m - low - 1)) n ≡ or_else (number_of next rule m (carried_values rule (unpacked row).numbers)) (at_place (unpacked row).numbers 0 n)
          go zero q = mark_number m (subst (λ (x : ℕ). In x head.marks) (sym e) (in_get_or head.marks k l)) q next
          go (suc j) q = sym (packed-number p j (omega (arith, first_within m rule.marks, ready_row.fits.rule.marks.few)))

-- Seven numbers that are filled.
pub filled-packed : {row : List ℕ} (w : Row) → length w.numbers ≤ 6
    → Part (code_of w.kind (length w.numbers) ∷ 0 ∷ 0 ∷ 0 ∷ 0 ∷ 0 ∷ 0 ∷ []) 1 (length w.numbers) (λ (j : ℕ). get_or w.numbers j 0) row → row ≡ packed w
filled-packed {row} w few p =
    ext_get_or 0 row (packed w) (p.whole ∙ sym (packed-length w)) (λ j l. go j (omega (arith, l, p.whole)))
  where
    rest : (k : ℕ) → k < 6 → Dec (k < length w.numbers) → get_or row (1 + k) 0 ≡ get_or (padded 6 w.numbers) k 0
    rest k h (yes l) = p.bytes k l ∙ sym (padded_at 6 w.numbers k h)
    rest k h (no l) = p.above (1 + k) (omega arith) ∙ zeros k h ∙ sym (get_or-eq_default w.numbers 0 (omega arith)) ∙ sym (padded_at 6 w.numbers k h)
      where
        zeros : (k : ℕ) → k < 6 → get_or (code_of w.kind (length w.numbers) ∷ 0 ∷ 0 ∷ 0 ∷ 0 ∷ 0 ∷ 0 ∷ []) (1 + k) 0 ≡ 0
        zeros zero h = refl
        zeros (suc zero) h = refl
        zeros (suc (suc zero)) h = refl
        zeros (suc (suc (suc zero))) h = refl
        zeros (suc (suc (suc (suc zero)))) h = refl
        zeros (suc (suc (suc (suc (suc zero))))) h = refl
        zeros (suc (suc (suc (suc (suc (suc k)))))) h = absurd (omega arith)

    go : (j : ℕ) → j < 7 → get_or row j 0 ≡ get_or (packed w) j 0
    go zero h = p.below 0 (omega arith)
    go (suc k) h = ap (λ (n : ℕ). get_or row n 0) (let e : suc k ≡ 1 + k = omega arith in e) ∙ rest k (omega arith) (dec_lt k (length w.numbers))

pub filled_row_lem : {row : List ℕ} (w : Row) (n code k : ℕ) → n ≡ length w.numbers → code ≡ code_of w.kind n → k ≡ n → length w.numbers ≤ 6
    → Part (code ∷ 0 ∷ 0 ∷ 0 ∷ 0 ∷ 0 ∷ 0 ∷ []) 1 k (λ (j : ℕ). get_or w.numbers j 0) row → row ≡ packed w
filled_row_lem {row} w n code k a b e few p =
    filled-packed w few
    (subst (λ (x : ℕ). Part (code_of w.kind (length w.numbers) ∷ 0 ∷ 0 ∷ 0 ∷ 0 ∷ 0 ∷ 0 ∷ []) 1 x (λ (j : ℕ). get_or w.numbers j 0) row) (e ∙ a)
    (subst (λ (x : ℕ). Part (x ∷ 0 ∷ 0 ∷ 0 ∷ 0 ∷ 0 ∷ 0 ∷ []) 1 k (λ (j : ℕ). get_or w.numbers j 0) row) (b ∙ ap (code_of w.kind) a) p))

-- ---- all H lines

module _ {A : Type 0} (d : Discrete A) where
  pub add_all_last : (xs : List A) (x : A) (l : List A) → add_all d (xs ++ (x ∷ [])) l ≡ add d x (add_all d xs l)
  add_all_last [] x l = refl
  add_all_last (y ∷ xs) x l = add_all_last xs x (add d y l)

  add_all-append : (xs ys l : List A) → add_all d (xs ++ ys) l ≡ add_all d ys (add_all d xs l)
  add_all-append [] ys l = refl
  add_all-append (x ∷ xs) ys l = add_all-append xs ys (add d x l)

map-append : {A B : Type 0} (f : A → B) (xs ys : List A) → map f (xs ++ ys) ≡ map f xs ++ map f ys
map-append f [] ys = refl
map-append {B = B} f (x ∷ xs) ys = ap (λ (l : List B). f x ∷ l) (map-append f xs ys)

take-drop : {A : Type 0} (n : ℕ) (l : List A) → take n l ++ drop n l ≡ l
take-drop zero l = refl
take-drop (suc n) [] = refl
take-drop {A} (suc n) (x ∷ l) = ap (λ (k : List A). x ∷ k) (take-drop n l)

pub take_next : {A : Type 0} (l : List A) (h : ℕ) (x : A) → get_elem? l h ≡ some x → take (h + 1) l ≡ take h l ++ (x ∷ [])
take_next {A = A} l h x e = ap (λ (n : ℕ). take n l) (add-one h) ∙ go l h e
  where
    go : (l : List A) (h : ℕ) → get_elem? l h ≡ some x → take (suc h) l ≡ take h l ++ (x ∷ [])
    go [] h e = absurd (mathlib.Core.Option.none-ne-some x e)
    go (y ∷ l) zero e = let q : y ≡ x = cc in ap (λ (z : A). z ∷ []) q
    go (y ∷ l) (suc h) e = ap (λ (k : List A). y ∷ k) (go l h e)

-- The rows that the first h of some H lines make, added to some.
abbrev pub made_to : (Head → Row) → List Head → ℕ → List Row → List Row
made_to f heads h rows = add_all Row-discrete (map f (take h heads)) rows

pub made_next : (f : Head → Row) (heads : List Head) (h : ℕ) (x : Head) (rows : List Row) → get_elem? heads h ≡ some x
    → made_to f heads (h + 1) rows ≡ add Row-discrete (f x) (made_to f heads h rows)
made_next f heads h x rows e =
    ap (λ (l : List Head). add_all Row-discrete (map f l) rows) (take_next heads h x e)
    ∙ ap (λ (l : List Row). add_all Row-discrete l rows) (map-append f (take h heads) (x ∷ []))
    ∙ add_all_last Row-discrete (map f (take h heads)) (f x) rows

pub made_whole : (f : Head → Row) (heads : List Head) (h : ℕ) (rows : List Row) → length (made_to f heads h rows) ≤ length (add_all Row-discrete (map f heads) rows)
made_whole f heads h rows =
    let e : add_all Row-discrete (map f heads) rows ≡ add_all Row-discrete (map f (drop h heads)) (made_to f heads h rows)
    = ap (λ (l : List Head). add_all Row-discrete (map f l) rows) (sym (take-drop h heads))
    ∙ ap (λ (l : List Row). add_all Row-discrete l rows) (map-append f (take h heads) (drop h heads))
    ∙ add_all-append Row-discrete (map f (take h heads)) (map f (drop h heads)) rows in
    omega (
      arith,
      ap length e,
      begins-length (made_to f heads h rows) (add_all Row-discrete (map f (drop h heads)) (made_to f heads h rows))
          (begins-add_all Row-discrete (map f (drop h heads)) (made_to f heads h rows)),
    )

pub made_all : (f : Head → Row) (heads : List Head) (h : ℕ) (rows : List Row) → length heads ≤ h → made_to f heads h rows ≡ add_all Row-discrete (map f heads) rows
made_all f heads h rows e = ap (λ (l : List Head). add_all Row-discrete (map f l) rows) (take_all h heads e)

-- ---- records grown again

pub grown-none : {numbers index : List ℕ} {by count : ℕ} → Stored numbers index by count → Grown numbers index by count numbers index count (rows_at numbers count)
grown-none s =
    record {
      room = refl;
      size = s.size;
      more = omega arith;
      stored = λ l. s;
      rows_are = λ l. refl;
      over = λ l. absurd (omega (arith, s.few));
      same = λ i l. refl;
      beyond = λ j l. refl;
    }

module _ {a i a' i' a'' i'' : List ℕ} {by count n m : ℕ} {mid : List Row} (g : Grown a i by count a' i' n mid) (few : n ≤ 4096) where
  pub grown_again : (x : Row) {row : List ℕ} → row ≡ packed x → length x.numbers ≤ 6
      → Grown a' i' by n a'' i'' m (add Row-discrete (unpacked row) (rows_at a' n)) → (last : List Row) → last ≡ add Row-discrete x mid → Grown a i by count a'' i'' m last
  grown_again x {row} is narrow f last e =
      record {
        room = f.room ∙ g.room;
        size = f.size;
        more = omega (arith, g.more, f.more);
        stored = f.stored;
        rows_are = λ l. f.rows_are l ∙ same_list;
        over = λ l. omega (arith, f.over l, ap length same_list);
        same = λ k l. f.same k (omega (arith, g.more)) ∙ g.same k l;
        beyond = λ j l. f.beyond j l ∙ g.beyond j l;
      }
    where
      same_list : add Row-discrete (unpacked row) (rows_at a' n) ≡ last
      same_list = ap (λ (w : Row). add Row-discrete w (rows_at a' n)) (ap unpacked is ∙ unpacked-packed x narrow) ∙ ap (add Row-discrete x) (g.rows_are few) ∙ sym e

pub grown_over_whole : {a i a' i' : List ℕ} {by count n : ℕ} {new : List Row} (all : List Row) → Grown a i by count a' i' n new → 4096 < n → length new ≤ length all
    → Grown a i by count a' i' n all
grown_over_whole all g h l =
    record {
      room = g.room;
      size = g.size;
      more = g.more;
      stored = g.stored;
      rows_are = λ k. absurd (omega arith);
      over = λ k. omega (arith, g.over k);
      same = g.same;
      beyond = g.beyond;
    }

pub grown_as : {a i a' i' : List ℕ} {by count n : ℕ} {new : List Row} (all : List Row) → Grown a i by count a' i' n new → new ≡ all → Grown a i by count a' i' n all
grown_as {a} {i} {a'} {i'} {by} {count} {n} all g e = subst (Grown a i by count a' i' n) e g

-- There is room where no more records than that can be said of the answer.
pub room_left : {Said : ℕ → Type 0} (r : Option ℕ) → OrOver (λ n. n) Said r → ((n : ℕ) → Said n → n ≤ 4096) → is_some r ≡ true
room_left (Some n) o few = refl
room_left None o few = absurd (omega (arith, o.1, few o.0 o.2))

pub said_of : (Said : ℕ → Type 0) (r : Option ℕ) (n : ℕ) → r ≡ Some n → OrOver (λ m. m) Said r → Said n
said_of Said r n e o = (subst (OrOver (λ m. m) Said) e o).1

pub stored_record : {numbers index : List ℕ} {by count : ℕ} → Stored numbers index by count → (i : ℕ) → i < count → RecordIn numbers i
stored_record s i h = record { small = omega (arith, s.few); inside = omega (arith, s.room, s.few); packed = s.each i h }

-- What one H line more adds.
module _ {table : List ℕ} {rules r low : ℕ} (ready : Ready table rules r low) (next i : ℕ) {a x : List ℕ} {by count : ℕ} where
  pub grown_head : (fires : FiresOn (rule_at table r) (row_no a i)) → i < count → {a' x' : List ℕ} {n h : ℕ} (few : n ≤ 4096)
      → Grown a x by count a' x' n (made_to (row_made next (rule_at table r) (row_no a i)) (rule_at table r).heads h (rows_at a count))
      → h < get_or (row_bytes table r) 28 0 → {row : List ℕ} → row ≡ packed (row_made next (rule_at table r) (row_no a' i) (head_no (row_bytes table r) h))
      → {a'' x'' : List ℕ} {m : ℕ} → Grown a' x' by n a'' x'' m (add Row-discrete (unpacked row) (rows_at a' n))
      → PackedRow (row_at a i)
      → Grown a x by count a'' x'' m (made_to (row_made next (rule_at table r) (row_no a i)) (rule_at table r).heads (h + 1) (rows_at a count))
  grown_head fires low {a'} {x'} {n} {h} few g there {row} is f p =
      let fit = ready_row ready in
      let made = row_made next (rule_at table r) (row_no a i) in
      let alike = ap (λ (l : List ℕ). row_made next (rule_at table r) (unpacked l) (head_no (row_bytes table r) h)) (g.same i low) in
      grown_again g few (made (head_no (row_bytes table r) h)) (is ∙ ap packed alike) (made_narrow ready h there p fires next) f
      (made_to made (rule_at table r).heads (h + 1) (rows_at a count))
      (made_next made (rule_at table r).heads h (head_no (row_bytes table r) h) (rows_at a count)
      (head_nth (row_bytes table r) fit.size fit.fits h there))

pub made-packed : {row : List ℕ} (w : Row) → row ≡ packed w → length w.numbers ≤ 6 → (length row ≡ 7) × PackedRow row
made-packed w e h = (ap length e ∙ packed-length w, subst PackedRow (sym e) (packed-row w h))
