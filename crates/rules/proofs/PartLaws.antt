-- Parts of a table are put: marks, lines, first places, sources, H lines, a rule. Assumes nothing.
use mathlib.Core.Path.{◌≡◌, refl, sym, subst, ap, ap₂, ◌∙◌}
use mathlib.Core.Logic.{◌⊎◌, inl, inr}
use mathlib.Core.Bool.{Bool, true, false, cond, ◌&&◌}
use mathlib.Core.List.{List, [], ◌∷◌, ◌++◌, append_assoc, append-nil}
use Prim.Native.Nat.{ℕ, zero, suc, ◌+◌, ◌-◌, ◌*◌, ◌/◌, ◌%◌, ◌≤◌, ◌<◌}
use native.Mathlib.Numerals.{add-one}
use native.Mathlib.Omega.{arith}
use native.Mathlib.Decide.{ℕ_discrete, dec_lt}
use borrow.Author.Count.{below_more}
use borrow.Author.Tests.{eq-eqb, ne_eqb}
use lib.Dec.{eqb}
use lib.ListN.{length, get_or, take, drop, set, replicate, length-set, drop_of_length-le, get_or-eq_default}
use lib.Seq.{drop-cons, take-suc, get_or-set_same, get_or-set_other}
use Rattle.chase.specs.Lists.{In, All}
use Rattle.chase.specs.Rules.{Head, Rule, marks_of}
use Rattle.chase.specs.Making.{has, carried_marks}
use Rattle.chase.proofs.CodedLaws.{carried_in, in_carried}
use Rattle.rules.specs.Table.{later, first_place, flag, source_at, MarksFit, HeadFits, RuleFits}
use Rattle.rules.specs.Inner.Bytes.{marks_at, head_at, heads_at, rule_at, LineIn, line_byte, head_byte, byte_of, Blank, Part, mark_byte, place_byte, place_in, PlacesFit, source_once, source_after, sources_with, HeadsPut, RowPut}
use Rattle.rules.proofs.Sources.{body_place, place_within, placed_stands, stands_placed, Source, nothing, first, source_is, no_source, carried_source}
use Rattle.rules.proofs.ByteLaws.{Counts, counts_begun, counts_done, counts_stop, counts_more, mark_there, marks_small, past, past_none, past_later, head_byte_lem, no_head_byte, length-heads_at, byte_line, byte_place, byte_source, byte_head, byte_heads, byte_unused}

-- ---- parts

pub part_none : (before : List ℕ) (at : ℕ) (f : ℕ → ℕ) → Part before at 0 f before
part_none before at f = record { whole = refl; below = λ j h. refl; above = λ j h. refl; bytes = λ i h. absurd (omega arith) }

module _ {before : List ℕ} {at size : ℕ} {f : ℕ → ℕ} {after : List ℕ} (p : Part before at size f after) where
  -- One more byte.
  pub part_more : {x : ℕ} → at + size < length before → x ≡ f size → Part before at (size + 1) f (set after (at + size) x)
  part_more {x} room e =
      let w = p.whole in
      record {
        whole = length-set after (at + size) x ∙ w;
        below = λ j h. get_or-set_other after (at + size) j x 0 (λ q. omega arith) ∙ p.below j h;
        above = λ j h. get_or-set_other after (at + size) j x 0 (λ q. omega arith) ∙ p.above j (omega arith);
        bytes = below_more (λ i. get_or (set after (at + size) x) (at + i) 0 ≡ f i) size
            (λ i h. get_or-set_other after (at + size) (at + i) x 0 (λ q. omega arith) ∙ p.bytes i h)
            (get_or-set_same after (at + size) x 0 (omega arith) ∙ e);
      }

  -- The same, by its place.
  pub part_next : {x k : ℕ} → k ≡ at + size → k < length before → x ≡ f size → Part before at (size + 1) f (set after k x)
  part_next {x} {k} e room is = subst (λ (j : ℕ). Part before at (size + 1) f (set after j x)) (sym e) (part_more (omega arith) is)

  -- Bytes past the end that are right as they stand.
  pub part_wider : (more : ℕ) → size ≤ more → ((i : ℕ) → size ≤ i → i < more → get_or before (at + i) 0 ≡ f i) → Part before at more f after
  part_wider more h e = record { whole = p.whole; below = p.below; above = λ j l. p.above j (omega arith); bytes = λ i l. go i l (dec_lt i size) }
    where
      go : (i : ℕ) → i < more → Dec (i < size) → get_or after (at + i) 0 ≡ f i
      go i l (yes s) = p.bytes i s
      go i l (no s) = p.above (at + i) (omega arith) ∙ e i (omega arith) l

  pub part_as : (g : ℕ → ℕ) → ((i : ℕ) → i < size → f i ≡ g i) → Part before at size g after
  part_as g e = record { whole = p.whole; below = p.below; above = p.above; bytes = λ i h. p.bytes i h ∙ e i h }

  -- The same bytes put again.
  pub part_again : {g : ℕ → ℕ} {last : List ℕ} → Part after at size g last → Part before at size g last
  part_again q =
      record {
        whole = q.whole ∙ p.whole;
        below = λ j h. q.below j h ∙ p.below j h;
        above = λ j h. q.above j h ∙ p.above j h;
        bytes = q.bytes;
      }

  pub part_blank : Blank before at → Blank after (at + size)
  part_blank b = record { each = λ j h. p.above j h ∙ b.each j (omega arith) }

-- ---- zeros

-- All bytes are 0 where as many as there are were put so.
pub part-zeros : {before : List ℕ} {size : ℕ} {after : List ℕ} → Part before 0 size (λ i. 0) after → length after ≤ size → Blank after 0
part-zeros {before} {size} {after} p h = record { each = λ j l. go j (dec_lt j size) }
  where
    go : (j : ℕ) → Dec (j < size) → get_or after j 0 ≡ 0
    go j (yes s) = ap (λ (k : ℕ). get_or after k 0) (let e : j ≡ 0 + j = omega arith in e) ∙ p.bytes j s
    go j (no s) = get_or-eq_default after 0 {n = j} (omega arith)

abbrev pub zeros : ℕ → List ℕ
zeros n = replicate n 0

pub zero_at : (n k : ℕ) → get_or (zeros n) k 0 ≡ 0
zero_at zero k = refl
zero_at (suc n) zero = refl
zero_at (suc n) (suc k) = zero_at n k

-- ---- the marks of a line

-- The first i marks are put, and there are as many.
pub record Marking (before : List ℕ) (at : ℕ) (numbers : List ℕ) (n i : ℕ) (after : List ℕ) : Type 0 where
  pub counts : Counts numbers n i
  pub put : Part before at i (mark_byte (marks_at numbers n)) after

pub marking_none : (before : List ℕ) (at : ℕ) (numbers : List ℕ) (n : ℕ) → Marking before at numbers n 0 before
marking_none before at numbers n = record { counts = counts_begun numbers n; put = part_none before at (mark_byte (marks_at numbers n)) }

module _ {before : List ℕ} {at : ℕ} {numbers : List ℕ} {n i : ℕ} {after : List ℕ} (m : Marking before at numbers n i after) where
  marking_all : Blank before at → i ≡ length (marks_at numbers n)
      → (i ≡ length (marks_at numbers n)) × Part before at 6 (mark_byte (marks_at numbers n)) after
  marking_all b e =
      let few = m.counts.most in (
        e,
        part_wider m.put 6 few
            (λ k h l. b.each (at + k) (omega arith) ∙ sym (get_or-eq_default (marks_at numbers n) 0 {n = k} (omega arith))),
      )

  pub marking_done : Blank before at → 6 ≤ i → (i ≡ length (marks_at numbers n)) × Part before at 6 (mark_byte (marks_at numbers n)) after
  marking_done b h = marking_all b (counts_done m.counts h)

  module _ (inside : LineIn numbers n) (here : i < 6) where
    pub marking_stop : Blank before at → get_or numbers (8 * n + 2 + i) 0 ≡ 0
        → (i ≡ length (marks_at numbers n)) × Part before at 6 (mark_byte (marks_at numbers n)) after
    marking_stop b e = marking_all b (counts_stop inside here m.counts e)

    module _ (some : get_or numbers (8 * n + 2 + i) 0 ≡ 0 → ⊥) where
      marking_here : i < length (marks_at numbers n)
      marking_here = let s = (counts_more inside here m.counts some).same in omega arith

      pub marking_small : MarksFit (marks_at numbers n) → get_or numbers (8 * n + 2 + i) 0 ≤ 12
      marking_small f = omega (arith, mark_there numbers n i marking_here, marks_small (marks_at numbers n) f.each i)

      pub marking_more : at + 6 ≤ length before → Marking before at numbers n (i + 1) (set after (at + i) (get_or numbers (8 * n + 2 + i) 0))
      marking_more room =
          record { counts = counts_more inside here m.counts some; put = part_more m.put (omega arith) (sym (mark_there numbers n i marking_here)) }

-- ---- a line

pub set_two : (l : List ℕ) (a b x y j : ℕ) → (j ≡ a → ⊥) → (j ≡ b → ⊥) → get_or (set (set l a x) b y) j 0 ≡ get_or l j 0
set_two l a b x y j p q = get_or-set_other (set l a x) b j y 0 q ∙ get_or-set_other l a j x 0 p

-- The first of two bytes put.
pub set_first : (l : List ℕ) (a b x y : ℕ) → a < length l → (a ≡ b → ⊥) → get_or (set (set l a x) b y) a 0 ≡ x
set_first l a b x y h d = get_or-set_other (set l a x) b a y 0 d ∙ get_or-set_same l a x 0 h

pub set_second : (l : List ℕ) (a b x y : ℕ) → b < length l → get_or (set (set l a x) b y) b 0 ≡ y
set_second l a b x y h = get_or-set_same (set l a x) b y 0 (omega (arith, length-set l a x))

pub length_two : (l : List ℕ) (a b x y : ℕ) → length (set (set l a x) b y) ≡ length l
length_two l a b x y = length-set (set l a x) b y ∙ length-set l a x

pub line_put : {before : List ℕ} {at : ℕ} (marks : List ℕ) {after : List ℕ} {kind count : ℕ} → Part before (at + 2) 6 (mark_byte marks) after → at + 8 ≤ length before
    → count ≡ length marks → Part before at 8 (line_byte kind marks) (set (set after at kind) (at + 1) count)
line_put {before} {at} marks {after} {kind} {count} p room e =
    let w = p.whole in
    record {
      whole = length_two after at (at + 1) kind count ∙ w;
      below = λ j h. set_two after at (at + 1) kind count j (λ q. omega arith) (λ q. omega arith) ∙ p.below j (omega arith);
      above = λ j h. set_two after at (at + 1) kind count j (λ q. omega arith) (λ q. omega arith) ∙ p.above j (omega arith);
      bytes = bytes;
    }
  where
    at_byte : (j k : ℕ) → j ≡ k → get_or (set (set after at kind) (at + 1) count) j 0 ≡ get_or (set (set after at kind) (at + 1) count) k 0
    at_byte j k q = ap (λ i. get_or (set (set after at kind) (at + 1) count) i 0) q

    bytes : (i : ℕ) → i < 8 → get_or (set (set after at kind) (at + 1) count) (at + i) 0 ≡ line_byte kind marks i
    bytes zero h = let w = p.whole in at_byte (at + 0) at (omega arith) ∙ set_first after at (at + 1) kind count (omega arith) (λ q. omega arith)
    bytes (suc zero) h = let w = p.whole in set_second after at (at + 1) kind count (omega arith) ∙ e
    bytes (suc (suc i)) h =
        at_byte (at + suc (suc i)) (at + 2 + i) (omega arith) ∙ set_two after at (at + 1) kind count (at + 2 + i) (λ q. omega arith) (λ q. omega arith)
        ∙ p.bytes i (omega arith)

-- ---- first places

pub mark_few : {marks : List ℕ} → MarksFit marks → (i : ℕ) → get_or marks i 0 ≤ 12
mark_few {marks} f i = marks_small marks f.each i

pub mark-before : (numbers : List ℕ) (n i : ℕ) → 0 < i → i ≤ length (marks_at numbers n) → get_or numbers (8 * n + 1 + i) 0 ≡ get_or (marks_at numbers n) (i - 1) 0
mark-before numbers n i some most =
    ap (λ k. get_or numbers k 0) (let z : 8 * n + 1 + i ≡ 8 * n + 2 + (i - 1) = omega arith in z) ∙ sym (mark_there numbers n (i - 1) (omega arith))

pub mark_before_few : (numbers : List ℕ) (n i : ℕ) → MarksFit (marks_at numbers n) → 0 < i → i ≤ length (marks_at numbers n) → get_or numbers (8 * n + 1 + i) 0 ≤ 12
mark_before_few numbers n i f some most = omega (arith, mark-before numbers n i some most, mark_few f (i - 1))

-- The first places of the marks from mark i on.
abbrev pub places_from : List ℕ → ℕ → ℕ → ℕ
places_from marks i m = past i (first_place m (drop i marks))

-- They are put into the rule that starts at a byte.
pub record Placing (before : List ℕ) (at : ℕ) (marks : List ℕ) (i : ℕ) (after : List ℕ) : Type 0 where
  pub most : i ≤ length marks
  pub put : Part before (at + 8) 13 (places_from marks i) after

pub placing_none : (before : List ℕ) (at : ℕ) (marks : List ℕ) {count : ℕ} → Blank before (at + 8) → count ≡ length marks → Placing before at marks count before
placing_none before at marks {count} b e =
    record {
      most = omega arith;
      put = part_wider (part_none before (at + 8) (places_from marks count)) 13 (omega arith)
          (λ m h l. b.each (at + 8 + m) (omega arith) ∙ sym (ap (λ (ms : List ℕ). past count (first_place m ms)) (drop_of_length-le marks {i = count} (omega arith))));
    }

module _ {before : List ℕ} {at : ℕ} {marks : List ℕ} {i : ℕ} {after : List ℕ} (p : Placing before at marks i after) where
  pub placing_done : i ≤ 0 → Part before (at + 8) 13 (place_byte marks) after
  placing_done h =
      let z : i ≡ 0 = omega arith in
      part_as p.put (place_byte marks) (λ m l. ap (λ k. places_from marks k m) z ∙ past_none (first_place m marks))

  pub placing_more : {mark : ℕ} → 0 < i → at + 21 ≤ length before → mark ≡ get_or marks (i - 1) 0 → mark ≤ 12
      → Placing before at marks (i - 1) (set after (at + 8 + mark) i)
  placing_more {mark} some room e small =
      let few = p.most in
      let w = p.put.whole in
      record {
        most = omega arith;
        put =
            record {
              whole = length-set after (at + 8 + mark) i ∙ w;
              below = λ j h. get_or-set_other after (at + 8 + mark) j i 0 (λ q. omega arith) ∙ p.put.below j h;
              above = λ j h. get_or-set_other after (at + 8 + mark) j i 0 (λ q. omega arith) ∙ p.put.above j h;
              bytes = λ m h. go m h (ℕ_discrete m mark);
            };
      }
    where
      next : (m : ℕ) → places_from marks (i - 1) m ≡ past (i - 1) (cond (eqb m mark) 1 (later (first_place m (drop i marks))))
      next m =
          let few = p.most in
          ap (λ (ms : List ℕ). past (i - 1) (first_place m ms)) (drop-cons marks (i - 1) 0 (omega arith))
          ∙ ap₂ (λ (b k : ℕ). past (i - 1) (cond (eqb m b) 1 (later (first_place m (drop k marks))))) (sym e) (let z : suc (i - 1) ≡ i = omega arith in z)

      go : (m : ℕ) → m < 13 → Dec (m ≡ mark) → get_or (set after (at + 8 + mark) i) (at + 8 + m) 0 ≡ places_from marks (i - 1) m
      go m h (yes q) =
          let w = p.put.whole in
          ap (λ k. get_or (set after (at + 8 + mark) i) (at + 8 + k) 0) q ∙ get_or-set_same after (at + 8 + mark) i 0 (omega arith)
          ∙ (let z : i ≡ suc (i - 1 + 0) = omega arith in z)
          ∙ sym (next m ∙ ap (λ (t : Bool). past (i - 1) (cond t 1 (later (first_place m (drop i marks))))) (eq-eqb m mark q))
      go m h (no d) =
          get_or-set_other after (at + 8 + mark) (at + 8 + m) i 0 (λ q. d (omega arith)) ∙ p.put.bytes m h
          ∙ ap (λ k. past k (first_place m (drop i marks))) (let z : i ≡ i - 1 + 1 = omega arith in z)
          ∙ sym
          (next m ∙ ap (λ (t : Bool). past (i - 1) (cond t 1 (later (first_place m (drop i marks))))) (ne_eqb m mark d)
          ∙ past_later (i - 1) (first_place m (drop i marks)))

-- ---- sources

module _ (before : List ℕ) (at mark : ℕ) {place : ℕ} (is : place ≡ place_in before at mark) where
  pub source_none : place ≡ 0 → Part before (at + 21) 7 (sources_with before at (mark ∷ [])) before
  source_none e =
      part_wider (part_none before (at + 21) (sources_with before at (mark ∷ []))) 7 (omega arith)
      (λ p h l. sym (ap (λ k. source_once k p (get_or before (at + 21 + p) 0)) (sym is ∙ e)))

  pub source_put : (place ≡ 0 → ⊥) → place ≤ 6 → at + 28 ≤ length before
      → Part before (at + 21) 7 (sources_with before at (mark ∷ [])) (set (set before (at + 21) 0) (at + 21 + place) 1)
  source_put d few room =
      record {
        whole = length_two before (at + 21) (at + 21 + place) 0 1;
        below = λ j h. set_two before (at + 21) (at + 21 + place) 0 1 j (λ q. omega arith) (λ q. omega arith);
        above = λ j h. set_two before (at + 21) (at + 21 + place) 0 1 j (λ q. omega arith) (λ q. omega arith);
        bytes = λ p h. go place d few p h ∙ ap (λ k. source_once k p (get_or before (at + 21 + p) 0)) is;
      }
    where
      go : (k : ℕ) → (k ≡ 0 → ⊥) → k ≤ 6 → (p : ℕ) → p < 7
          → get_or (set (set before (at + 21) 0) (at + 21 + k) 1) (at + 21 + p) 0 ≡ source_once k p (get_or before (at + 21 + p) 0)
      go zero n f p h = absurd (n refl)
      go (suc k) n f zero h =
          ap (λ j. get_or (set (set before (at + 21) 0) (at + 21 + suc k) 1) j 0) (let z : at + 21 + 0 ≡ at + 21 = omega arith in z)
          ∙ set_first before (at + 21) (at + 21 + suc k) 0 1 (omega arith) (λ q. omega arith)
      go (suc k) n f (suc i) h = pick (ℕ_discrete k i)
        where
          pick : Dec (k ≡ i) → get_or (set (set before (at + 21) 0) (at + 21 + suc k) 1) (at + 21 + suc i) 0 ≡ cond (eqb k i) 1 (get_or before (at + 21 + suc i) 0)
          pick (yes q) =
              ap (λ j. get_or (set (set before (at + 21) 0) (at + 21 + suc k) 1) (at + 21 + suc j) 0) (sym q)
              ∙ set_second before (at + 21) (at + 21 + suc k) 0 1 (omega arith)
              ∙ sym (ap (λ (t : Bool). cond t 1 (get_or before (at + 21 + suc i) 0)) (eq-eqb k i q))
          pick (no q) =
              set_two before (at + 21) (at + 21 + suc k) 0 1 (at + 21 + suc i) (λ z. omega arith) (λ z. q (omega arith))
              ∙ sym (ap (λ (t : Bool). cond t 1 (get_or before (at + 21 + suc i) 0)) (ne_eqb k i q))

after_append : (place : ℕ → ℕ) (ms ns : List ℕ) (p x : ℕ) → source_after place (ms ++ ns) p x ≡ source_after place ns p (source_after place ms p x)
after_append place [] ns p x = refl
after_append place (m ∷ ms) ns p x = after_append place ms ns p (source_once (place m) p x)

-- It rests on the first places of the marks alone.
after_same : (f g : ℕ → ℕ) (ms : List ℕ) → All (λ m. (1 ≤ m) × (m ≤ 12)) ms → ((m : ℕ) → m ≤ 12 → f m ≡ g m) → (p x : ℕ)
    → source_after f ms p x ≡ source_after g ms p x
after_same f g [] a e p x = refl
after_same f g (m ∷ ms) a e p x =
    ap (λ k. source_after f ms p (source_once k p x)) (e m a.0.1) ∙ after_same f g ms a.1 e p (source_once (g m) p x)

-- The sources that the first i marks show are put.
pub record Sourcing (before : List ℕ) (at : ℕ) (marks : List ℕ) (i : ℕ) (after : List ℕ) : Type 0 where
  pub put : Part before (at + 21) 7 (sources_with before at (take i marks)) after

pub sourcing_none : (before : List ℕ) (at : ℕ) (marks : List ℕ) → Sourcing before at marks 0 before
sourcing_none before at marks =
    record { put = part_wider (part_none before (at + 21) (sources_with before at [])) 7 (omega arith) (λ p h l. refl) }

module _ {before : List ℕ} {at : ℕ} {marks : List ℕ} {i : ℕ} {after : List ℕ} (s : Sourcing before at marks i after) where
  -- The first places stay.
  pub sourcing_places : PlacesFit before at → PlacesFit after at
  sourcing_places f = record { small = λ m h. subst (λ k. k ≤ 6) (sym (s.put.below (at + 8 + m) (omega arith))) (f.small m h) }

  pub sourcing_more : {mark : ℕ} {last : List ℕ} → i < length marks → mark ≡ get_or marks i 0 → mark ≤ 12
      → Part after (at + 21) 7 (sources_with after at (mark ∷ [])) last → Sourcing before at marks (i + 1) last
  sourcing_more {mark} {last} here e small q =
      let p = s.put in
      record {
        put = part_as (part_again p q) (sources_with before at (take (i + 1) marks))
            (λ k h.
            ap₂ (λ (a x : ℕ). source_once a k x) (p.below (at + 8 + mark) (omega arith)) (p.bytes k h)
            ∙ sym
            (ap (λ (ms : List ℕ). source_after (place_in before at) ms k (get_or before (at + 21 + k) 0))
            (ap (λ j. take j marks) (add-one i) ∙ take-suc marks i 0 here ∙ ap (λ (m : ℕ). take i marks ++ (m ∷ [])) (sym e))
            ∙ after_append (place_in before at) (take i marks) (mark ∷ []) k (get_or before (at + 21 + k) 0)));
      }

  pub sourcing_done : length marks ≤ i → Part before (at + 21) 7 (sources_with before at marks) after
  sourcing_done h =
      part_as s.put (sources_with before at marks)
      (λ k l. ap (λ (ms : List ℕ). source_after (place_in before at) ms k (get_or before (at + 21 + k) 0)) (take_all marks i h))
    where
      take_all : (l : List ℕ) (n : ℕ) → length l ≤ n → take n l ≡ l
      take_all [] zero h = refl
      take_all [] (suc n) h = refl
      take_all (x ∷ l) zero h = absurd (omega arith)
      take_all (x ∷ l) (suc n) h = ap (λ (r : List ℕ). x ∷ r) (take_all l n (omega arith))

-- ---- all the sources of a rule

module _ (place : ℕ → ℕ) where
  once_one : (k i : ℕ) → source_once k (suc i) 1 ≡ 1
  once_one zero i = refl
  once_one (suc k) i = go (eqb k i)
    where
      go : (t : Bool) → ◌≡◌ {A = ℕ} (cond t 1 1) 1
      go true = refl
      go false = refl

  after_one : (ms : List ℕ) (i : ℕ) → source_after place ms (suc i) 1 ≡ 1
  after_one [] i = refl
  after_one (m ∷ ms) i = ap (source_after place ms (suc i)) (once_one (place m) i) ∙ after_one ms i

  -- A source, where a mark with that first place is there.
  after_there : (ms : List ℕ) (i m x : ℕ) → In m ms → place m ≡ suc i → source_after place ms (suc i) x ≡ 1
  after_there [] i m x h e = absurd h
  after_there (n ∷ ms) i m x (inl q) e =
      ap (λ k. source_after place ms (suc i) (source_once k (suc i) x)) (ap place (sym q) ∙ e)
      ∙ ap (λ (t : Bool). source_after place ms (suc i) (cond t 1 x)) (eq-eqb i i refl) ∙ after_one ms i
  after_there (n ∷ ms) i m x (inr h) e = after_there ms i m (source_once (place n) (suc i) x) h e

  once_other : (k i x : ℕ) → (k ≡ suc i → ⊥) → source_once k (suc i) x ≡ x
  once_other zero i x d = refl
  once_other (suc k) i x d = ap (λ (t : Bool). cond t 1 x) (ne_eqb k i (λ e. d (ap suc e)))

  -- As it was, where none is.
  after_other : (ms : List ℕ) (i x : ℕ) → ((m : ℕ) → In m ms → place m ≡ suc i → ⊥) → source_after place ms (suc i) x ≡ x
  after_other [] i x d = refl
  after_other (m ∷ ms) i x d =
      ap (source_after place ms (suc i)) (once_other (place m) i x (d m (inl refl))) ∙ after_other ms i x (λ n h. d n (inr h))

  once_zero : (k : ℕ) → source_once k 0 0 ≡ 0
  once_zero zero = refl
  once_zero (suc k) = refl

  after_zero : (ms : List ℕ) → source_after place ms 0 0 ≡ 0
  after_zero [] = refl
  after_zero (m ∷ ms) = ap (source_after place ms 0) (once_zero (place m)) ∙ after_zero ms

  once_some : (k x : ℕ) → (k ≡ 0 → ⊥) → source_once k 0 x ≡ 0
  once_some zero x d = absurd (d refl)
  once_some (suc k) x d = refl

  -- Place 0 is none, where a mark has a place.
  after_some : (ms : List ℕ) (m x : ℕ) → In m ms → (place m ≡ 0 → ⊥) → source_after place ms 0 x ≡ 0
  after_some [] m x h d = absurd h
  after_some (n ∷ ms) m x (inl q) d = ap (source_after place ms 0) (once_some (place n) x (λ e. d (ap place q ∙ e))) ∙ after_zero ms
  after_some (n ∷ ms) m x (inr h) d = after_some ms m (source_once (place n) 0 x) h d

  after_empty : (ms : List ℕ) (x : ℕ) → ((m : ℕ) → In m ms → place m ≡ 0) → source_after place ms 0 x ≡ x
  after_empty [] x e = refl
  after_empty (m ∷ ms) x e = ap (λ k. source_after place ms 0 (source_once k 0 x)) (e m (inl refl)) ∙ after_empty ms x (λ n h. e n (inr h))

flag-cases : (t : Bool) → (flag t ≡ 1) ⊎ (flag t ≡ 0)
flag-cases true = inl refl
flag-cases false = inr refl

module _ (r : Rule) where
  not_first : (m : ℕ) → In m (carried_marks r) → body_place r m ≡ 0 → ⊥
  not_first m i e = omega (arith, stands_placed r m (carried_in r m i).0)

  -- A mark of an H line with a place is carried.
  placed_carried : (m k : ℕ) → In m (marks_of r.heads) → body_place r m ≡ suc k → In m (carried_marks r)
  placed_carried m k h e = in_carried r m (placed_stands r m (omega arith)) h

  from_zero : (cs : List ℕ) → carried_marks r ≡ cs → source_after (body_place r) (marks_of r.heads) 0 1 ≡ source_at r 0
  from_zero [] e = after_empty (body_place r) (marks_of r.heads) 1 (λ m h. go m h (body_place r m) refl) ∙ sym (no_source r e)
    where
      go : (m : ℕ) → In m (marks_of r.heads) → (k : ℕ) → body_place r m ≡ k → body_place r m ≡ 0
      go m h zero q = q
      go m h (suc k) q = absurd (subst (λ (l : List ℕ). In m l) e (placed_carried m k h q))
  from_zero (m ∷ cs) e =
      let i : In m (carried_marks r) = subst (λ (l : List ℕ). In m l) (sym e) (inl refl) in
      after_some (body_place r) (marks_of r.heads) m 1 (carried_in r m i).1 (not_first m i) ∙ sym (rw e)

  from_place : (i : ℕ) → (source_at r (suc i) ≡ 1) ⊎ (source_at r (suc i) ≡ 0)
      → source_after (body_place r) (marks_of r.heads) (suc i) 0 ≡ source_at r (suc i)
  from_place i (inl e) = go (source_is r (suc i) e) ∙ sym e
    where
      go : Source r (suc i) → source_after (body_place r) (marks_of r.heads) (suc i) 0 ≡ 1
      go (nothing z c) = absurd (omega arith)
      go (first m c p) = after_there (body_place r) (marks_of r.heads) i m 0 (carried_in r m c).1 (sym p)
  from_place i (inr e) =
      after_other (body_place r) (marks_of r.heads) i 0
      (λ m h q.
      let s = carried_source r m (placed_carried m i h q) in
      let t = ap (source_at r) q in
      let z : ◌≡◌ {A = ℕ} 0 1 = sym e ∙ sym t ∙ s in
      omega arith)
      ∙ sym e

  pub sources_all : (p : ℕ) → source_after (body_place r) (marks_of r.heads) p (flag (eqb p 0)) ≡ source_at r p
  sources_all zero = from_zero (carried_marks r) refl
  sources_all (suc i) =
      ap (λ (t : Bool). source_after (body_place r) (marks_of r.heads) (suc i) (flag t)) (ne_eqb (suc i) 0 (λ e. omega arith))
      ∙ from_place i (flag-cases (eqb (body_place r (get_or r.marks i 0)) (suc i) && has (get_or r.marks i 0) (marks_of r.heads)))

-- ---- H lines

heads_more : (numbers : List ℕ) (h n : ℕ) → heads_at numbers n (suc h) ≡ heads_at numbers n h ++ (head_at numbers (n + h) ∷ [])
heads_more numbers zero n = ap (λ k. head_at numbers k ∷ []) (let z : n ≡ n + 0 = omega arith in z)
heads_more numbers (suc h) n =
    ap (λ (r : List Head). head_at numbers n ∷ r)
    (heads_more numbers h (n + 1) ∙ ap (λ k. heads_at numbers (n + 1) h ++ (head_at numbers k ∷ [])) (let z : n + 1 + h ≡ n + suc h = omega arith in z))

marks_more_heads : (hs : List Head) (d : Head) → marks_of (hs ++ (d ∷ [])) ≡ marks_of hs ++ d.marks
marks_more_heads [] d = append-nil d.marks
marks_more_heads (h ∷ hs) d = ap (λ (r : List ℕ). h.marks ++ r) (marks_more_heads hs d) ∙ sym (append_assoc h.marks (marks_of hs) d.marks)

pub heads_few : (numbers : List ℕ) (n heads : ℕ) → RuleFits (rule_at numbers n heads) → heads ≤ 4
heads_few numbers n heads f = let few = f.few in omega (arith, length-heads_at numbers heads (n + 1))

pub heads_each : (numbers : List ℕ) (heads n h : ℕ) → All HeadFits (heads_at numbers n heads) → h < heads → HeadFits (head_at numbers (n + h))
heads_each numbers zero n h a l = absurd (omega arith)
heads_each numbers (suc k) n zero a l = subst (λ i. HeadFits (head_at numbers i)) (let z : n ≡ n + 0 = omega arith in z) a.0
heads_each numbers (suc k) n (suc h) a l =
    subst (λ i. HeadFits (head_at numbers i)) (let z : n + 1 + h ≡ n + suc h = omega arith in z) (heads_each numbers k (n + 1) h a.1 (omega arith))

-- The first h of the lines from line n on are put.
pub record Heading (before : List ℕ) (at : ℕ) (numbers : List ℕ) (n h : ℕ) (after : List ℕ) : Type 0 where
  pub put : HeadsPut before at (heads_at numbers n h) after

pub heads_none : (before : List ℕ) (at : ℕ) (numbers : List ℕ) (n : ℕ) → Blank before (at + 32) → Heading before at numbers n 0 before
heads_none before at numbers n b =
    record {
      put =
          record {
            whole = refl;
            below = λ j h. refl;
            between = λ j h l. refl;
            above = λ j h. refl;
            sources = λ p h. refl;
            lines = λ i h. b.each (at + 32 + i) (omega arith);
          };
    }

module _ {before : List ℕ} {at : ℕ} {numbers : List ℕ} {n h : ℕ} {after : List ℕ} (put : Heading before at numbers n h after) where
  pub heads_done : {heads : ℕ} → h ≤ heads → heads ≤ h → HeadsPut before at (heads_at numbers n heads) after
  heads_done {heads} l g = subst (λ k. HeadsPut before at (heads_at numbers n k) after) (let z : h ≡ heads = omega arith in z) put.put

  pub heads_blank : Blank before (at + 32) → h < 4 → Blank after (at + 32 + 8 * h)
  heads_blank b l = record { each = λ j g. go j g (dec_lt j (at + 64)) }
    where
      go : (j : ℕ) → at + 32 + 8 * h ≤ j → Dec (j < at + 64) → get_or after j 0 ≡ 0
      go j g (yes s) =
          ap (λ k. get_or after k 0) (let z : j ≡ at + 32 + (j - (at + 32)) = omega arith in z) ∙ put.put.lines (j - (at + 32)) (omega arith)
          ∙ no_head_byte numbers h n (j - (at + 32)) (omega arith)
      go j g (no s) = put.put.above j (omega arith) ∙ b.each j (omega arith)

  -- The line that is put now.
  module _ {now : List ℕ} (q : Part after (at + 32 + 8 * h) 8 (line_byte (get_or numbers (8 * (n + h) + 1) 0) (marks_at numbers (n + h))) now) where
    heads_place : (m : ℕ) → m ≤ 12 → place_in now at m ≡ place_in before at m
    heads_place m l = q.below (at + 8 + m) (omega arith) ∙ put.put.below (at + 8 + m) (omega arith)

    pub heads_places : PlacesFit before at → PlacesFit now at
    heads_places f = record { small = λ m l. subst (λ k. k ≤ 6) (sym (heads_place m l)) (f.small m l) }

    module _ {last : List ℕ} (few : h < 4) (fits : MarksFit (marks_at numbers (n + h))) (s : Part now (at + 21) 7 (sources_with now at (marks_at numbers (n + h))) last) where
      heads_sources : (k : ℕ) → k < 7 → get_or last (at + 21 + k) 0 ≡ sources_with before at (marks_of (heads_at numbers n (suc h))) k
      heads_sources k l =
          s.bytes k l ∙ after_same (place_in now at) (place_in before at) (marks_at numbers (n + h)) fits.each heads_place k (get_or now (at + 21 + k) 0)
          ∙ ap (source_after (place_in before at) (marks_at numbers (n + h)) k) (q.below (at + 21 + k) (omega arith) ∙ put.put.sources k l)
          ∙ sym
          (ap (λ (ms : List ℕ). source_after (place_in before at) ms k (get_or before (at + 21 + k) 0))
          (ap marks_of (heads_more numbers h n) ∙ marks_more_heads (heads_at numbers n h) (head_at numbers (n + h)))
          ∙ after_append (place_in before at) (marks_of (heads_at numbers n h)) (marks_at numbers (n + h)) k (get_or before (at + 21 + k) 0))

      heads_lines : (i : ℕ) → i < 32 → Dec (i < 8 * h) → Dec (i < 8 * h + 8) → get_or last (at + 32 + i) 0 ≡ head_byte (heads_at numbers n (suc h)) i
      heads_lines i l (yes a) d =
          s.above (at + 32 + i) (omega arith) ∙ q.below (at + 32 + i) (omega arith) ∙ put.put.lines i l ∙ head_byte_lem numbers h n i (omega arith)
          ∙ sym (head_byte_lem numbers (suc h) n i (omega arith))
      heads_lines i l (no a) (yes b) =
          let e : i / 8 ≡ h = omega arith in
          let f : i % 8 ≡ i - 8 * h = omega arith in
          s.above (at + 32 + i) (omega arith)
          ∙ ap (λ k. get_or now k 0) (let z : at + 32 + i ≡ at + 32 + 8 * h + (i - 8 * h) = omega arith in z)
          ∙ q.bytes (i - 8 * h) (omega arith)
          ∙ ap₂ (λ (a k : ℕ). line_byte (get_or numbers (8 * (n + a) + 1) 0) (marks_at numbers (n + a)) k) (sym e) (sym f)
          ∙ sym (head_byte_lem numbers (suc h) n i (omega arith))
      heads_lines i l (no a) (no b) =
          s.above (at + 32 + i) (omega arith) ∙ q.above (at + 32 + i) (omega arith) ∙ put.put.lines i l ∙ no_head_byte numbers h n i (omega arith)
          ∙ sym (no_head_byte numbers (suc h) n i (omega arith))

      heads_next : HeadsPut before at (heads_at numbers n (suc h)) last
      heads_next =
          record {
            whole = s.whole ∙ q.whole ∙ put.put.whole;
            below = λ j l. s.below j l ∙ q.below j (omega arith) ∙ put.put.below j l;
            between = λ j l g. s.above j (omega arith) ∙ q.below j (omega arith) ∙ put.put.between j l g;
            above = λ j l. s.above j (omega arith) ∙ q.above j (omega arith) ∙ put.put.above j l;
            sources = heads_sources;
            lines = λ i l. heads_lines i l (dec_lt i (8 * h)) (dec_lt i (8 * h + 8));
          }

      pub heads_put : Heading before at numbers n (h + 1) last
      heads_put = record { put = subst (λ k. HeadsPut before at (heads_at numbers n k) last) (sym (add-one h)) heads_next }

-- ---- a rule

-- All but the H lines and the sources that they show is put.
pub record BodyPut (before : List ℕ) (at : ℕ) (rule : Rule) (after : List ℕ) : Type 0 where
  pub whole : length after ≡ length before
  pub below : (j : ℕ) → j < at → get_or after j 0 ≡ get_or before j 0
  pub above : (j : ℕ) → at + 29 ≤ j → get_or after j 0 ≡ get_or before j 0
  pub line : (i : ℕ) → i < 8 → get_or after (at + i) 0 ≡ line_byte rule.kind rule.marks i
  pub places : (m : ℕ) → m ≤ 12 → place_in after at m ≡ body_place rule m
  pub sources : (p : ℕ) → p < 7 → get_or after (at + 21 + p) 0 ≡ flag (eqb p 0)
  pub count : get_or after (at + 28) 0 ≡ length rule.heads

module _ {before : List ℕ} {at : ℕ} (rule : Rule) {line places : List ℕ} (blank : Blank before at) (room : at + 64 ≤ length before)
    (p : Part before at 8 (line_byte rule.kind rule.marks) line) (q : Part line (at + 8) 13 (place_byte rule.marks) places) where
  pub body-put : {heads : ℕ} → heads ≡ length rule.heads → BodyPut before at rule (set (set places (at + 21) 1) (at + 28) heads)
  body-put {heads} e =
      let w = q.whole in
      let v = p.whole in
      record {
        whole = length_two places (at + 21) (at + 28) 1 heads ∙ w ∙ v;
        below = λ j h. other j (λ z. omega arith) (λ z. omega arith) ∙ q.below j (omega arith) ∙ p.below j h;
        above = λ j h. other j (λ z. omega arith) (λ z. omega arith) ∙ q.above j (omega arith) ∙ p.above j (omega arith);
        line = λ i h. other (at + i) (λ z. omega arith) (λ z. omega arith) ∙ q.below (at + i) (omega arith) ∙ p.bytes i h;
        places = λ m h. other (at + 8 + m) (λ z. omega arith) (λ z. omega arith) ∙ q.bytes m (omega arith);
        sources = sources;
        count = set_second places (at + 21) (at + 28) 1 heads (omega arith) ∙ e;
      }
    where
      other : (j : ℕ) → (j ≡ at + 21 → ⊥) → (j ≡ at + 28 → ⊥) → get_or (set (set places (at + 21) 1) (at + 28) heads) j 0 ≡ get_or places j 0
      other j a b = set_two places (at + 21) (at + 28) 1 heads j a b

      sources : (k : ℕ) → k < 7 → get_or (set (set places (at + 21) 1) (at + 28) heads) (at + 21 + k) 0 ≡ flag (eqb k 0)
      sources zero h =
          let w = q.whole in
          let v = p.whole in
          ap (λ j. get_or (set (set places (at + 21) 1) (at + 28) heads) j 0) (let z : at + 21 + 0 ≡ at + 21 = omega arith in z)
          ∙ set_first places (at + 21) (at + 28) 1 heads (omega arith) (λ z. omega arith)
      sources (suc k) h =
          other (at + 21 + suc k) (λ z. omega arith) (λ z. omega arith) ∙ q.above (at + 21 + suc k) (omega arith) ∙ p.above (at + 21 + suc k) (omega arith)
          ∙ blank.each (at + 21 + suc k) (omega arith) ∙ sym (ap flag (ne_eqb (suc k) 0 (λ e. omega arith)))

module _ {before : List ℕ} {at : ℕ} {rule : Rule} {after : List ℕ} (blank : Blank before at) (fits : RuleFits rule) (b : BodyPut before at rule after) where
  pub body-places : PlacesFit after at
  body-places =
      record { small = λ m h. subst (λ k. k ≤ 6) (sym (b.places m h)) (let few = fits.marks.few in omega (arith, place_within rule m)) }

  pub body_blank : Blank after (at + 32)
  body_blank = record { each = λ j h. b.above j (omega arith) ∙ blank.each j (omega arith) }

all_append : (P : ℕ → Type 0) (xs ys : List ℕ) → All P xs → All P ys → All P (xs ++ ys)
all_append P [] ys a b = b
all_append P (x ∷ xs) ys a b = (a.0, all_append P xs ys a.1 b)

marks_fit : (hs : List Head) → All HeadFits hs → All (λ m. (1 ≤ m) × (m ≤ 12)) (marks_of hs)
marks_fit [] a = a
marks_fit (h ∷ hs) a = all_append (λ m. (1 ≤ m) × (m ≤ 12)) h.marks (marks_of hs) a.0.marks.each (marks_fit hs a.1)

module _ {before : List ℕ} (r : ℕ) {rule : Rule} {body after : List ℕ} (size : length before ≡ 16384) (blank : Blank before (64 * r)) (fits : RuleFits rule)
    (b : BodyPut before (64 * r) rule body) (p : HeadsPut body (64 * r) rule.heads after) where
  rule_source : (k : ℕ) → k < 7 → get_or after (64 * r + 21 + k) 0 ≡ source_at rule k
  rule_source k h =
      p.sources k h
      ∙ after_same (place_in body (64 * r)) (body_place rule) (marks_of rule.heads) (marks_fit rule.heads fits.heads) b.places k
      (get_or body (64 * r + 21 + k) 0)
      ∙ ap (source_after (body_place rule) (marks_of rule.heads) k) (b.sources k h) ∙ sources_all rule k

  -- A byte, by the part that it stands in.
  rule-byte : (i : ℕ) → i < 64 → Dec (i < 8) → Dec (i < 21) → Dec (i < 28) → Dec (i < 32) → Dec (i ≡ 28) → get_or after (64 * r + i) 0 ≡ byte_of rule i
  rule-byte i h (yes a) d e f g = byte_line rule i a (p.below (64 * r + i) (omega arith) ∙ b.line i a)
  rule-byte i h (no a) (yes d) e f g =
      byte_place rule i (omega arith) d
      (p.below (64 * r + i) (omega arith)
      ∙ ap (λ k. get_or body k 0) (let z : 64 * r + i ≡ 64 * r + 8 + (i - 8) = omega arith in z)
      ∙ b.places (i - 8) (omega arith))
  rule-byte i h (no a) (no d) (yes e) f g =
      byte_source rule i (omega arith) e
      (ap (λ k. get_or after k 0) (let z : 64 * r + i ≡ 64 * r + 21 + (i - 21) = omega arith in z) ∙ rule_source (i - 21) (omega arith))
  rule-byte i h (no a) (no d) (no e) (yes f) (yes g) =
      byte_heads rule i g
      (p.between (64 * r + i) (omega arith) (omega arith) ∙ ap (λ k. get_or body (64 * r + k) 0) g ∙ b.count)
  rule-byte i h (no a) (no d) (no e) (yes f) (no g) =
      p.between (64 * r + i) (omega arith) (omega arith) ∙ b.above (64 * r + i) (omega arith) ∙ blank.each (64 * r + i) (omega arith)
      ∙ byte_unused rule i (omega arith) f g
  rule-byte i h (no a) (no d) (no e) (no f) g =
      byte_head rule i (omega arith)
      (ap (λ k. get_or after k 0) (let z : 64 * r + i ≡ 64 * r + 32 + (i - 32) = omega arith in z) ∙ p.lines (i - 32) (omega arith))

  pub rule_put : RowPut before r rule after × Blank after (64 * r + 64)
  rule_put = (
    record {
      size = p.whole ∙ b.whole ∙ size;
      same = λ j h. p.below j (omega arith) ∙ b.below j h;
      bytes = λ i h. rule-byte i h (dec_lt i 8) (dec_lt i 21) (dec_lt i 28) (dec_lt i 32) (ℕ_discrete i 28);
    },
    record { each = λ j h. p.above j (omega arith) ∙ b.above j (omega arith) ∙ blank.each j (omega arith) },
  )
