-- The marks of each rule: the largest of some, and what firing uses of them. Assumes nothing.
use mathlib.Core.Path.{◌≡◌, refl, sym, ◌∙◌, ap}
use mathlib.Core.Bool.{true, ◌&&◌, and-eq-true_iff}
use mathlib.Core.List.{List, [], ◌∷◌, ◌++◌, append-nil, append_assoc}
use Prim.Native.Nat.{ℕ, suc, ◌+◌, ◌-◌, ◌*◌, ◌≤◌, ◌<◌, max}
use native.Mathlib.Numerals.{add-one}
use native.Mathlib.Omega.{arith}
use borrow.Author.Count.{below_more}
use borrow.Author.Tests.{leb-true}
use lib.Dec.{leb}
use lib.ListN.{length, get_or, take, drop, set, length-set, length-drop}
use lib.Seq.{take-suc, take_all, get_or-drop, get_or-set_same, get_or-set_other}
use Rattle.sheet.specs.Sheet.{top_mark, marks_from}
use Rattle.chase.specs.Rules.{Head, Rule, marks_of}
use Rattle.rules.specs.Table.{rule_in, TableFits}
use Rattle.rules.proofs.RuleLaws.{RowFits, head_nth, heads_length}
use Rattle.carrying.specs.Carrying.{fresh_marks}
use Rattle.carrying.proofs.SheetMarks.{top_is, fresh_length}
use Rattle.running.specs.Inner.Firing.{rule_at, head_no}
use Rattle.running.specs.Inner.Visits.{MarksRight, Prepared, Keeping}
use Rattle.running.proofs.FiringLaws.{take_next}

-- ---- the largest of some numbers

pub top-append : (m : ℕ) (xs ys : List ℕ) → top_mark m (xs ++ ys) ≡ top_mark (top_mark m xs) ys
top-append m [] ys = refl
top-append m (x ∷ xs) ys = top-append (max m x) xs ys

-- One number more of those from a place on.
pub top_more : (l : List ℕ) (at m t k b : ℕ) → at + k < length l → t ≡ top_mark m (take k (drop at l)) → b ≡ get_or l (at + k) 0
    → max t b ≡ top_mark m (take (k + 1) (drop at l))
top_more l at m t k b h e f =
    let next : take (k + 1) (drop at l) ≡ take k (drop at l) ++ (b ∷ []) =
    ap (λ (n : ℕ). take n (drop at l)) (add-one k) ∙ take-suc (drop at l) k 0 (omega (arith, length-drop at l))
    ∙ ap (λ (x : ℕ). take k (drop at l) ++ (x ∷ [])) (get_or-drop at l k 0 ∙ sym f) in
    ap (λ (x : ℕ). max x b) e ∙ sym (top-append m (take k (drop at l)) (b ∷ [])) ∙ sym (ap (top_mark m) next)

pub top_from : (m : ℕ) (ns : List ℕ) → m ≤ top_mark m ns
top_from m ns = omega (arith, top_is m ns)

-- Marks that are right are at most 12.
pub top_most : (m : ℕ) (ns : List ℕ) → m ≤ 12 → marks_from m ns ≡ true → top_mark m ns ≤ 12
top_most m [] h e = h
top_most m (n ∷ ns) h e =
    let (u, rest) = (and-eq-true_iff (leb 1 n && leb n 12 && leb n (suc m)) (marks_from (max m n) ns)).0 e in
    let (v, _) = (and-eq-true_iff (leb 1 n && leb n 12) (leb n (suc m))).0 u in
    let (_, high) = (and-eq-true_iff (leb 1 n) (leb n 12)).0 v in
    top_most (max m n) ns (omega (arith, leb-true n 12 high)) rest

-- ---- the H lines

marks_append : (xs ys : List Head) → marks_of (xs ++ ys) ≡ marks_of xs ++ marks_of ys
marks_append [] ys = refl
marks_append (x ∷ xs) ys = ap (λ (l : List ℕ). x.marks ++ l) (marks_append xs ys) ∙ sym (append_assoc x.marks (marks_of xs) (marks_of ys))

-- The largest of m and the marks of the first h H lines.
abbrev pub top_to : ℕ → List Head → ℕ → ℕ
top_to m heads h = top_mark m (marks_of (take h heads))

module _ {bytes : List ℕ} (fit : RowFits bytes) (m : ℕ) where
  pub top_head : (h t t' w : ℕ) → h < get_or bytes 28 0 → t ≡ top_to m (rule_in bytes).heads h → w ≡ get_or bytes (32 + 8 * h + 1) 0
      → t' ≡ top_mark t (take w (drop (32 + 8 * h + 2) bytes)) → t' ≡ top_to m (rule_in bytes).heads (h + 1)
  top_head h t t' w there e g f =
      let heads = (rule_in bytes).heads in
      let next : marks_of (take (h + 1) heads) ≡ marks_of (take h heads) ++ (head_no bytes h).marks =
      ap marks_of (take_next heads h (head_no bytes h) (head_nth bytes fit.size fit.fits h there))
      ∙ marks_append (take h heads) (head_no bytes h ∷ []) ∙ ap (λ (l : List ℕ). marks_of (take h heads) ++ l) (append-nil (head_no bytes h).marks) in
      f ∙ ap (λ (x : ℕ). top_mark t (take x (drop (32 + 8 * h + 2) bytes))) g ∙ ap (λ (x : ℕ). top_mark x (head_no bytes h).marks) e
      ∙ sym (top-append m (marks_of (take h heads)) (head_no bytes h).marks) ∙ sym (ap (top_mark m) next)

  pub top-heads : (h t : ℕ) → get_or bytes 28 0 ≤ h → t ≡ top_to m (rule_in bytes).heads h → t ≡ top_mark m (marks_of (rule_in bytes).heads)
  top-heads h t all e =
      e ∙ ap (λ (l : List Head). top_mark m (marks_of l)) (take_all h (rule_in bytes).heads (omega (arith, heads_length bytes)))

-- ---- the marks of each rule

abbrev pub low_of : Rule → ℕ
low_of r = top_mark 0 r.marks

abbrev pub top_of : Rule → ℕ
top_of r = top_mark (low_of r) (marks_of r.heads)

pub low_read : (bytes : List ℕ) (w t : ℕ) → w ≡ get_or bytes 1 0 → t ≡ top_mark 0 (take w (drop 2 bytes)) → t ≡ low_of (rule_in bytes)
unfolding rule_in
low_read bytes w t e f = f ∙ ap (λ (n : ℕ). top_mark 0 (take n (drop 2 bytes))) e

pub top_read : (r : Rule) (low t : ℕ) → low ≡ low_of r → t ≡ top_mark low (marks_of r.heads) → t ≡ top_of r
top_read r low t e f = f ∙ ap (λ (m : ℕ). top_mark m (marks_of r.heads)) e

-- The first r rules have theirs.
-- A number in each of the four sections.
module _ (fresh : List ℕ) (r a b k d : ℕ) (size : length fresh ≡ 1024) (low : r < 256) where
  abbrev pub put_four : List ℕ
  put_four = set (set (set (set fresh r a) (256 + r) b) (512 + r) k) (768 + r) d

  one : length (set fresh r a) ≡ 1024
  one = length-set fresh r a ∙ size

  two : length (set (set fresh r a) (256 + r) b) ≡ 1024
  two = length-set (set fresh r a) (256 + r) b ∙ one

  three : length (set (set (set fresh r a) (256 + r) b) (512 + r) k) ≡ 1024
  three = length-set (set (set fresh r a) (256 + r) b) (512 + r) k ∙ two

  four_size : length put_four ≡ 1024
  four_size = length-set (set (set (set fresh r a) (256 + r) b) (512 + r) k) (768 + r) d ∙ three

  four_other : (j : ℕ) → (j ≡ r → ⊥) → (j ≡ 256 + r → ⊥) → (j ≡ 512 + r → ⊥) → (j ≡ 768 + r → ⊥) → get_or put_four j 0 ≡ get_or fresh j 0
  four_other j e f g h =
      get_or-set_other (set (set (set fresh r a) (256 + r) b) (512 + r) k) (768 + r) j d 0 h
      ∙ get_or-set_other (set (set fresh r a) (256 + r) b) (512 + r) j k 0 g ∙ get_or-set_other (set fresh r a) (256 + r) j b 0 f ∙ get_or-set_other fresh r j a 0 e

  four_first : get_or put_four r 0 ≡ a
  four_first =
      get_or-set_other (set (set (set fresh r a) (256 + r) b) (512 + r) k) (768 + r) r d 0 (λ q. omega arith)
      ∙ get_or-set_other (set (set fresh r a) (256 + r) b) (512 + r) r k 0 (λ q. omega arith) ∙ get_or-set_other (set fresh r a) (256 + r) r b 0 (λ q. omega arith)
      ∙ get_or-set_same fresh r a 0 (omega arith)

  four_second : get_or put_four (256 + r) 0 ≡ b
  four_second =
      get_or-set_other (set (set (set fresh r a) (256 + r) b) (512 + r) k) (768 + r) (256 + r) d 0 (λ q. omega arith)
      ∙ get_or-set_other (set (set fresh r a) (256 + r) b) (512 + r) (256 + r) k 0 (λ q. omega arith)
      ∙ get_or-set_same (set fresh r a) (256 + r) b 0 (omega (arith, one))

  four_third : get_or put_four (512 + r) 0 ≡ k
  four_third =
      get_or-set_other (set (set (set fresh r a) (256 + r) b) (512 + r) k) (768 + r) (512 + r) d 0 (λ q. omega arith)
      ∙ get_or-set_same (set (set fresh r a) (256 + r) b) (512 + r) k 0 (omega (arith, two))

  four_fourth : get_or put_four (768 + r) 0 ≡ d
  four_fourth = get_or-set_same (set (set (set fresh r a) (256 + r) b) (512 + r) k) (768 + r) d 0 (omega (arith, three))

pub record PreparedTo (table : List ℕ) (least : ℕ) (fresh : List ℕ) (r : ℕ) : Type 0 where
  pub size : length fresh ≡ 1024
  pub low : (j : ℕ) → j < r → get_or fresh j 0 ≡ low_of (rule_at table j)
  pub counted : (j : ℕ) → j < r → get_or fresh (256 + j) 0 ≡ top_of (rule_at table j) - low_of (rule_at table j)
  pub kept : (j : ℕ) → j < r → get_or fresh (512 + j) 0 ≡ max least (top_of (rule_at table j) - low_of (rule_at table j))
  pub kinds : (j : ℕ) → j < r → get_or fresh (768 + j) 0 ≡ (rule_at table j).kind

pub prepared_none : (table : List ℕ) (least : ℕ) (fresh : List ℕ) → length fresh ≡ 1024 → PreparedTo table least fresh 0
prepared_none table least fresh e =
    record { size = e; low = λ j h. absurd (omega arith); counted = λ j h. absurd (omega arith); kept = λ j h. absurd (omega arith); kinds = λ j h. absurd (omega arith) }

pub prepared_more : {table : List ℕ} {least : ℕ} {fresh : List ℕ} {r : ℕ} → PreparedTo table least fresh r → r < 256 → (low new keep kind : ℕ) → low ≡ low_of (rule_at table r)
    → new ≡ top_of (rule_at table r) - low_of (rule_at table r) → keep ≡ max least new → kind ≡ (rule_at table r).kind
    → PreparedTo table least (set (set (set (set fresh r low) (256 + r) new) (512 + r) keep) (768 + r) kind) (r + 1)
prepared_more {table} {least} {fresh} {r} p h low new keep kind e f g d =
    let put = put_four fresh r low new keep kind p.size h in
    let other = four_other fresh r low new keep kind p.size h in
    record {
      size = four_size fresh r low new keep kind p.size h;
      low = below_more (λ j. get_or put j 0 ≡ low_of (rule_at table j)) r
          (λ j l. other j (λ q. omega arith) (λ q. omega arith) (λ q. omega arith) (λ q. omega arith) ∙ p.low j l)
          (four_first fresh r low new keep kind p.size h ∙ e);
      counted = below_more (λ j. get_or put (256 + j) 0 ≡ top_of (rule_at table j) - low_of (rule_at table j)) r
          (λ j l. other (256 + j) (λ q. omega arith) (λ q. omega arith) (λ q. omega arith) (λ q. omega arith) ∙ p.counted j l)
          (four_second fresh r low new keep kind p.size h ∙ f);
      kept = below_more (λ j. get_or put (512 + j) 0 ≡ max least (top_of (rule_at table j) - low_of (rule_at table j))) r
          (λ j l. other (512 + j) (λ q. omega arith) (λ q. omega arith) (λ q. omega arith) (λ q. omega arith) ∙ p.kept j l)
          (four_third fresh r low new keep kind p.size h ∙ g ∙ ap (max least) f);
      kinds = below_more (λ j. get_or put (768 + j) 0 ≡ (rule_at table j).kind) r
          (λ j l. other (768 + j) (λ q. omega arith) (λ q. omega arith) (λ q. omega arith) (λ q. omega arith) ∙ p.kinds j l)
          (four_fourth fresh r low new keep kind p.size h ∙ d);
    }

module _ {table : List ℕ} {rules : ℕ} (right : MarksRight table rules) (r : ℕ) (h : r < rules) where
  pub low_most : low_of (rule_at table r) ≤ 12
  low_most = top_most 0 (rule_at table r).marks (omega arith) (right.body r h)

  pub all_most : top_of (rule_at table r) ≤ 12
  all_most = top_most (low_of (rule_at table r)) (marks_of (rule_at table r).heads) low_most (right.heads r h)

module _ {table : List ℕ} {least : ℕ} {fresh : List ℕ} {rules r : ℕ} (right : MarksRight table rules) (p : PreparedTo table least fresh r) (all : rules ≤ r) where
  fresh_are : (j : ℕ) → j < rules → top_of (rule_at table j) - low_of (rule_at table j) ≡ length (fresh_marks (rule_at table j))
  fresh_are j h = sym (fresh_length (rule_at table j) (right.body j h) (right.heads j h))

  pub prepared_all : TableFits table rules → Prepared table rules fresh
  prepared_all fits =
      record {
        size = p.size;
        ready = λ j h. record { fits = fits; there = h; low_is = p.low j (omega arith); body = right.body j h; heads = right.heads j h };
        counted = λ j h. p.counted j (omega arith) ∙ fresh_are j h;
        few = λ j h. omega (arith, p.counted j (omega arith), all_most right j h);
        kinds = λ j h. p.kinds j (omega arith);
      }

  pub keeping_all : Keeping table rules least fresh
  keeping_all = record { kept = λ j h. p.kept j (omega arith) ∙ ap (max least) (fresh_are j h) }
