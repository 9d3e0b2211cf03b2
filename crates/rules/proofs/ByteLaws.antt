-- The marks and H lines that lent numbers show, the bytes of a rule, and the table of rules. Assumes nothing.
use mathlib.Core.Path.{◌≡◌, refl, sym, subst, ap, ap₂, ◌∙◌}
use mathlib.Core.Bool.{Bool, true, false, cond}
use mathlib.Core.List.{List, [], ◌∷◌}
use Prim.Native.Nat.{ℕ, zero, suc, ◌+◌, ◌-◌, ◌*◌, ◌/◌, ◌%◌, ◌≤◌, ◌<◌}
use native.Mathlib.Nat.{add-zero}
use native.Mathlib.Omega.{arith}
use borrow.Author.Tests.{eq-eqb, ne_eqb, lt-ltb, le-ltb, ltb-true, ltb-false}
use lib.Dec.{eqb, ltb}
use lib.ListN.{length, get_or, take, drop, length-drop}
use lib.Seq.{drop-cons, get_or-drop}
use Rattle.chase.specs.Lists.{All}
use Rattle.chase.specs.Rules.{Head, Rule}
use Rattle.rules.specs.Table.{heads_in, rule_in, later, first_place, source_at, MarksFit, HeadFits, RuleFits, BytesFit}
use Rattle.rules.specs.Inner.Bytes.{front, marks_at, heads_at, LineIn, line_byte, head_byte, byte_of}

-- ---- the marks of a line, from the front

-- The marks of line n from place i on.
abbrev pub marks_left : List ℕ → ℕ → ℕ → List ℕ
marks_left numbers n i = front (6 - i) (drop (8 * n + 2 + i) numbers)

pub marks_begun : (numbers : List ℕ) (n : ℕ) → marks_at numbers n ≡ marks_left numbers n 0
marks_begun numbers n = ap (λ k. front 6 (drop k numbers)) (sym (add-zero (8 * n + 2)))

pub marks_done : (numbers : List ℕ) (n i : ℕ) → 6 ≤ i → marks_left numbers n i ≡ []
marks_done numbers n i h = ap (λ w. front w (drop (8 * n + 2 + i) numbers)) (let e : 6 - i ≡ 0 = omega arith in e)

module _ (numbers : List ℕ) (n i : ℕ) (inside : LineIn numbers n) (here : i < 6) where
  marks_next : marks_left numbers n i ≡ cond (eqb (get_or numbers (8 * n + 2 + i) 0) 0) [] (get_or numbers (8 * n + 2 + i) 0 ∷ marks_left numbers n (i + 1))
  marks_next =
      let w : 6 - i ≡ suc (6 - (i + 1)) = omega arith in
      let e : suc (8 * n + 2 + i) ≡ 8 * n + 2 + (i + 1) = omega arith in
      ap (λ k. front k (drop (8 * n + 2 + i) numbers)) w ∙ ap (front (suc (6 - (i + 1)))) (drop-cons numbers (8 * n + 2 + i) 0 (omega arith))
      ∙ ap (λ k. cond (eqb (get_or numbers (8 * n + 2 + i) 0) 0) [] (get_or numbers (8 * n + 2 + i) 0 ∷ front (6 - (i + 1)) (drop k numbers))) e

  pub marks_stop : get_or numbers (8 * n + 2 + i) 0 ≡ 0 → marks_left numbers n i ≡ []
  marks_stop e = marks_next ∙ rw (eq-eqb (get_or numbers (8 * n + 2 + i) 0) 0 e)

  pub marks_more : (get_or numbers (8 * n + 2 + i) 0 ≡ 0 → ⊥) → marks_left numbers n i ≡ get_or numbers (8 * n + 2 + i) 0 ∷ marks_left numbers n (i + 1)
  marks_more d = marks_next ∙ rw (ne_eqb (get_or numbers (8 * n + 2 + i) 0) 0 d)

front-get_or : (w : ℕ) (ns : List ℕ) (i : ℕ) → i < length (front w ns) → get_or (front w ns) i 0 ≡ get_or ns i 0
front-get_or zero ns i h = absurd (omega arith)
front-get_or (suc w) [] i h = absurd (omega arith)
front-get_or (suc w) (n ∷ ns) i h = go (λ k. front-get_or w ns k) (eqb n 0) i h
  where
    go : ((k : ℕ) → k < length (front w ns) → get_or (front w ns) k 0 ≡ get_or ns k 0) → (t : Bool) (i : ℕ) → i < length (cond t [] (n ∷ front w ns))
        → get_or (cond t [] (n ∷ front w ns)) i 0 ≡ get_or (n ∷ ns) i 0
    go after true i h = absurd (omega arith)
    go after false zero h = refl
    go after false (suc i) h = after i (omega arith)

pub mark_there : (numbers : List ℕ) (n i : ℕ) → i < length (marks_at numbers n) → get_or (marks_at numbers n) i 0 ≡ get_or numbers (8 * n + 2 + i) 0
mark_there numbers n i h = front-get_or 6 (drop (8 * n + 2) numbers) i h ∙ get_or-drop (8 * n + 2) numbers i 0

-- ---- first places

-- A place among marks before which there are i others.
abbrev pub past : ℕ → ℕ → ℕ
past i zero = zero
past i (suc k) = suc (i + k)

pub past_none : (p : ℕ) → past 0 p ≡ p
past_none zero = refl
past_none (suc k) = omega arith

pub past_later : (i p : ℕ) → past i (later p) ≡ past (i + 1) p
past_later i zero = refl
past_later i (suc k) = omega arith

-- ---- how many marks a line has

pub record Counts (numbers : List ℕ) (n i : ℕ) : Type 0 where
  pub most : i ≤ 6
  pub same : length (marks_at numbers n) ≡ i + length (marks_left numbers n i)

pub counts_begun : (numbers : List ℕ) (n : ℕ) → Counts numbers n 0
counts_begun numbers n =
    let e = ap length (marks_begun numbers n) in
    record { most = omega arith; same = omega arith }

counts_none : {numbers : List ℕ} {n i : ℕ} → Counts numbers n i → marks_left numbers n i ≡ [] → i ≡ length (marks_at numbers n)
counts_none {numbers} {n} {i} s e =
    let z : length (marks_left numbers n i) ≡ 0 = ap length e in
    let h = s.same in
    omega arith

pub counts_done : {numbers : List ℕ} {n i : ℕ} → Counts numbers n i → 6 ≤ i → i ≡ length (marks_at numbers n)
counts_done {numbers} {n} {i} s h = counts_none s (marks_done numbers n i h)

module _ {numbers : List ℕ} {n i : ℕ} (inside : LineIn numbers n) (here : i < 6) (s : Counts numbers n i) where
  pub counts_stop : get_or numbers (8 * n + 2 + i) 0 ≡ 0 → i ≡ length (marks_at numbers n)
  counts_stop e = counts_none s (marks_stop numbers n i inside here e)

  pub counts_more : (get_or numbers (8 * n + 2 + i) 0 ≡ 0 → ⊥) → Counts numbers n (i + 1)
  counts_more d =
      let z : length (marks_left numbers n i) ≡ suc (length (marks_left numbers n (i + 1))) = ap length (marks_more numbers n i inside here d) in
      let h = s.same in
      record { most = omega arith; same = omega arith }

-- ---- the bytes of a line and of H lines

-- A byte of a lent line.
abbrev lent_byte : List ℕ → ℕ → ℕ → ℕ
lent_byte numbers n i = line_byte (get_or numbers (8 * n + 1) 0) (marks_at numbers n) i

pub head_byte_lem : (numbers : List ℕ) (heads n i : ℕ) → i / 8 < heads
    → head_byte (heads_at numbers n heads) i ≡ line_byte (get_or numbers (8 * (n + i / 8) + 1) 0) (marks_at numbers (n + i / 8)) (i % 8)
head_byte_lem numbers zero n i h = absurd (omega arith)
head_byte_lem numbers (suc k) n i h = go (head_byte_lem numbers k (n + 1) (i - 8)) (ltb i 8) refl
  where
    go : ((i - 8) / 8 < k → head_byte (heads_at numbers (n + 1) k) (i - 8) ≡ lent_byte numbers (n + 1 + (i - 8) / 8) ((i - 8) % 8))
        → (t : Bool) → ltb i 8 ≡ t → cond t (lent_byte numbers n i) (head_byte (heads_at numbers (n + 1) k) (i - 8)) ≡ lent_byte numbers (n + i / 8) (i % 8)
    go after true e =
        let small : i < 8 = ltb-true i 8 e in
        ap₂ (lent_byte numbers) (let z : n ≡ n + i / 8 = omega arith in z) (let z : i ≡ i % 8 = omega arith in z)
    go after false e =
        let large : 8 ≤ i = ltb-false i 8 e in
        after (omega arith)
        ∙ ap₂ (lent_byte numbers) (let z : n + 1 + (i - 8) / 8 ≡ n + i / 8 = omega arith in z) (let z : (i - 8) % 8 ≡ i % 8 = omega arith in z)

pub no_head_byte : (numbers : List ℕ) (heads n i : ℕ) → heads ≤ i / 8 → head_byte (heads_at numbers n heads) i ≡ 0
no_head_byte numbers zero n i h = refl
no_head_byte numbers (suc k) n i h = go (no_head_byte numbers k (n + 1) (i - 8)) (ltb i 8) refl
  where
    go : (k ≤ (i - 8) / 8 → head_byte (heads_at numbers (n + 1) k) (i - 8) ≡ 0) → (t : Bool) → ltb i 8 ≡ t
        → cond t (lent_byte numbers n i) (head_byte (heads_at numbers (n + 1) k) (i - 8)) ≡ 0
    go after true e = let small : i < 8 = ltb-true i 8 e in absurd (omega arith)
    go after false e = let large : 8 ≤ i = ltb-false i 8 e in after (omega arith)

pub length-heads_at : (numbers : List ℕ) (heads n : ℕ) → length (heads_at numbers n heads) ≡ heads
length-heads_at numbers zero n = refl
length-heads_at numbers (suc k) n = ap suc (length-heads_at numbers k (n + 1))

-- ---- the bytes of a rule, by their places

module _ (r : Rule) (i : ℕ) where
  pub byte_line : {x : ℕ} → i < 8 → x ≡ line_byte r.kind r.marks i → x ≡ byte_of r i
  unfolding byte_of
  byte_line a h = rw (lt-ltb i 8 a) h

  pub byte_place : {x : ℕ} → 8 ≤ i → i < 21 → x ≡ first_place (i - 8) r.marks → x ≡ byte_of r i
  unfolding byte_of
  byte_place a b h = rw (le-ltb i 8 a, lt-ltb i 21 b) h

  pub byte_source : {x : ℕ} → 21 ≤ i → i < 28 → x ≡ source_at r (i - 21) → x ≡ byte_of r i
  unfolding byte_of
  byte_source a b h = let c : 8 ≤ i = omega arith in rw (le-ltb i 8 c, le-ltb i 21 a, lt-ltb i 28 b) h

  pub byte_head : {x : ℕ} → 32 ≤ i → x ≡ head_byte r.heads (i - 32) → x ≡ byte_of r i
  unfolding byte_of
  byte_head a h =
      let c : 8 ≤ i = omega arith in
      let d : 21 ≤ i = omega arith in
      let e : 28 ≤ i = omega arith in
      rw (le-ltb i 8 c, le-ltb i 21 d, le-ltb i 28 e, le-ltb i 32 a) h

  byte_between : 28 ≤ i → i < 32 → (t : Bool) → eqb i 28 ≡ t → byte_of r i ≡ cond t (length r.heads) 0
  unfolding byte_of
  byte_between a b t e =
      let c : 8 ≤ i = omega arith in
      let d : 21 ≤ i = omega arith in
      rw (le-ltb i 8 c, le-ltb i 21 d, le-ltb i 28 a, lt-ltb i 32 b, e)

  pub byte_heads : {x : ℕ} → i ≡ 28 → x ≡ length r.heads → x ≡ byte_of r i
  byte_heads e h = h ∙ sym (byte_between (omega arith) (omega arith) true (eq-eqb i 28 e))

  pub byte_unused : 28 ≤ i → i < 32 → (i ≡ 28 → ⊥) → 0 ≡ byte_of r i
  byte_unused a b d = sym (byte_between a b false (ne_eqb i 28 d))

-- ---- marks are small

pub marks_small : (ms : List ℕ) → All (λ m. (1 ≤ m) × (m ≤ 12)) ms → (i : ℕ) → get_or ms i 0 ≤ 12
marks_small [] a i = omega arith
marks_small (m ∷ ms) a zero = a.0.1
marks_small (m ∷ ms) a (suc i) = marks_small ms a.1 i

-- ---- a rule's bytes read back

take_is : (xs ys : List ℕ) → length xs ≤ length ys → ((i : ℕ) → i < length xs → get_or ys i 0 ≡ get_or xs i 0) → take (length xs) ys ≡ xs
take_is [] ys h e = refl
take_is (x ∷ xs) [] h e = absurd (omega arith)
take_is (x ∷ xs) (y ∷ ys) h e = ap₂ ◌∷◌ (e 0 (omega arith)) (take_is xs ys (omega arith) (λ i k. e (suc i) (omega arith)))

line_read : (kind : ℕ) (marks bytes : List ℕ) → MarksFit marks → 8 ≤ length bytes → ((i : ℕ) → i < 8 → get_or bytes i 0 ≡ line_byte kind marks i)
    → (get_or bytes 0 0 ≡ kind) × (take (get_or bytes 1 0) (drop 2 bytes) ≡ marks)
line_read kind marks bytes m size e = (
  e 0 (omega arith),
  ap (λ k. take k (drop 2 bytes)) (e 1 (omega arith))
      ∙ take_is marks (drop 2 bytes) (let few = m.few in omega (arith, length-drop 2 bytes))
      (λ i h. get_or-drop 2 bytes i 0 ∙ ap (λ k. get_or bytes k 0) (let z : 2 + i ≡ suc (suc i) = omega arith in z) ∙ e (suc (suc i)) (let few = m.few in omega arith)),
)

heads_read : (hs : List Head) (bytes : List ℕ) → All HeadFits hs → 8 * length hs ≤ length bytes → ((i : ℕ) → i < 8 * length hs → get_or bytes i 0 ≡ head_byte hs i)
    → heads_in (length hs) bytes ≡ hs
heads_read [] bytes a size e = refl
heads_read (h ∷ hs) bytes a size e =
    let first : (i : ℕ) → i < 8 → get_or bytes i 0 ≡ line_byte h.kind h.marks i =
    λ i small. e i (omega arith) ∙ ap (λ (t : Bool). cond t (line_byte h.kind h.marks i) (head_byte hs (i - 8))) (lt-ltb i 8 small) in
    let (k, ms) = line_read h.kind h.marks bytes a.0.marks (omega arith) first in
    ap₂ (λ (k : ℕ) (ms : List ℕ). record { kind = k; marks = ms } ∷ heads_in (length hs) (drop 8 bytes)) k ms
    ∙ ap (λ (r : List Head). h ∷ r)
    (heads_read hs (drop 8 bytes) a.1 (omega (arith, length-drop 8 bytes))
    (λ i small.
    get_or-drop 8 bytes i 0 ∙ e (8 + i) (omega arith)
    ∙ ap (λ (t : Bool). cond t (line_byte h.kind h.marks (8 + i)) (head_byte hs (8 + i - 8))) (le-ltb (8 + i) 8 (omega arith))
    ∙ ap (head_byte hs) (let z : 8 + i - 8 ≡ i = omega arith in z)))

-- The count of marks of H line h.
count_small : (hs : List Head) → All HeadFits hs → (h : ℕ) → head_byte hs (8 * h + 1) ≤ 6
count_small [] a h = omega arith
count_small (x ∷ hs) a zero = a.0.marks.few
count_small (x ∷ hs) a (suc h) =
    let e : head_byte (x ∷ hs) (8 * suc h + 1) ≡ head_byte hs (8 * h + 1) =
    ap (λ (t : Bool). cond t (line_byte x.kind x.marks (8 * suc h + 1)) (head_byte hs (8 * suc h + 1 - 8))) (le-ltb (8 * suc h + 1) 8 (omega arith))
    ∙ ap (head_byte hs) (let z : 8 * suc h + 1 - 8 ≡ 8 * h + 1 = omega arith in z) in
    omega (arith, count_small hs a.1 h)

module _ (r : Rule) (bytes : List ℕ) (f : RuleFits r) (size : length bytes ≡ 64) (e : (i : ℕ) → i < 64 → get_or bytes i 0 ≡ byte_of r i) where
  heads_counted : get_or bytes 28 0 ≡ length r.heads
  heads_counted = e 28 (omega arith) ∙ sym (byte_heads r 28 refl refl)

  pub rule_read : rule_in bytes ≡ r
  unfolding rule_in
  rule_read =
      let (k, ms) = line_read r.kind r.marks bytes f.marks (omega arith) (λ i small. e i (omega arith) ∙ sym (byte_line r i small refl)) in
      let hs : heads_in (get_or bytes 28 0) (drop 32 bytes) ≡ r.heads =
      ap (λ k. heads_in k (drop 32 bytes)) heads_counted
      ∙ heads_read r.heads (drop 32 bytes) f.heads (let few = f.few in omega (arith, length-drop 32 bytes))
      (λ i small.
      let few = f.few in
      get_or-drop 32 bytes i 0 ∙ e (32 + i) (omega arith) ∙ sym (byte_head r (32 + i) (omega arith) refl)
      ∙ ap (head_byte r.heads) (let z : 32 + i - 32 ≡ i = omega arith in z)) in
      λ i. record { kind = k i; marks = ms i; heads = hs i }

  pub bytes_fit : BytesFit bytes
  bytes_fit =
      let back : r ≡ rule_in bytes = sym rule_read in
      record {
        rule = subst RuleFits back f;
        places = λ m h.
            e (8 + m) (omega arith) ∙ sym (byte_place r (8 + m) (omega arith) (omega arith) refl)
            ∙ ap (λ k. first_place k r.marks) (let z : 8 + m - 8 ≡ m = omega arith in z)
            ∙ ap (λ (q : Rule). first_place m q.marks) back;
        sources = λ p h.
            e (21 + p) (omega arith) ∙ sym (byte_source r (21 + p) (omega arith) (omega arith) refl)
            ∙ ap (source_at r) (let z : 21 + p - 21 ≡ p = omega arith in z)
            ∙ ap (λ (q : Rule). source_at q p) back;
        widths = λ h small.
            let n = heads_counted in
            let few = f.few in
            let at : get_or bytes (33 + 8 * h) 0 ≡ head_byte r.heads (8 * h + 1) =
            e (33 + 8 * h) (omega arith) ∙ sym (byte_head r (33 + 8 * h) (omega arith) refl)
            ∙ ap (head_byte r.heads) (let z : 33 + 8 * h - 32 ≡ 8 * h + 1 = omega arith in z) in
            omega (arith, count_small r.heads f.heads h);
      }
