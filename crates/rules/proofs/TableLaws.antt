-- The table of rules: the H lines and the rule at a line of a sheet, the rows of a table, how it is filled, and where it lies. Assumes nothing.
use mathlib.Core.Path.{◌≡◌, refl, sym, subst, ap, ap₂, ◌∙◌}
use mathlib.Core.Logic.{◌⊎◌, inl, inr}
use mathlib.Core.Bool.{Bool, true, false, cond}
use mathlib.Core.List.{List, [], ◌∷◌, ◌++◌, append_assoc, append-nil}
use mathlib.Core.Option.{some}
use Prim.Native.Nat.{ℕ, zero, suc, ◌+◌, ◌-◌, ◌*◌, ◌/◌, ◌≤◌, ◌<◌}
use native.Mathlib.Numerals.{add-one}
use native.Mathlib.Omega.{arith}
use borrow.Author.Count.{below_more}
use borrow.Author.Tests.{eqb-true, eq-eqb, ne_eqb, ltb-true, ltb-false}
use lib.Dec.{eqb, ltb}
use lib.ListN.{length, get_or, take, drop, length-append, length-drop, drop_of_length-le}
use lib.Seq.{get_or-take, get_or-drop, length-take-le, take-append_seam, drop-append_seam, drop-cons, drop-drop, ext_get_or}
use Rattle.sheet.specs.Line.{B, H, Line}
use Rattle.patterns.specs.Outcome.{padded}
use Rattle.chase.specs.Lists.{All}
use Rattle.chase.specs.Rules.{Head, Rule, nth, heads_of, rules_of}
use Rattle.rules.specs.Table.{SheetHeld, lines_in, rules_in, rule_in, row_bytes, table_rules, RuleFits, BytesFit, TableFits}
use Rattle.rules.specs.Answer.{TableHeld}
use Rattle.rules.specs.Inner.Bytes.{front, marks_at, heads_at, rule_at, LinesIn, head_count, byte_of, Blank, RowPut}
use Rattle.rules.proofs.SheetLaws.{no_line, line_no, held_lines, size_held, LentLine, lent_line, rules_fit_from, rules_few}
use Rattle.rules.proofs.ByteLaws.{bytes_fit, rule_read}

-- ---- the H lines of a rule

-- An H line, and a B line with the H lines after it, as a rule has them.
abbrev head_line : Line → Head
head_line l = record { kind = l.kind; marks = l.numbers }

abbrev body_line : Line → List Head → Rule
body_line l hs = record { kind = l.kind; marks = l.numbers; heads = hs }

-- The rule that lent numbers show at line n.
abbrev pub rule_here : List ℕ → ℕ → Rule
rule_here numbers n = rule_at numbers n (head_count numbers (n + 1))

-- The H lines from a line on.
heads_from : (ls : List Line) (i : ℕ) → i < length ls
    → heads_of (drop i ls) ≡ cond (eqb (line_no ls i).letter H) (head_line (line_no ls i) ∷ heads_of (drop (i + 1) ls)) []
heads_from ls i h =
    ap heads_of (drop-cons ls i no_line h)
    ∙ ap (λ k. cond (eqb (line_no ls i).letter H) (head_line (line_no ls i) ∷ heads_of (drop k ls)) []) (sym (add-one i))

heads_where : (ls : List Line) (i : ℕ) → i < length ls → (t : Bool) → eqb (line_no ls i).letter H ≡ t
    → heads_of (drop i ls) ≡ cond t (head_line (line_no ls i) ∷ heads_of (drop (i + 1) ls)) []
heads_where ls i h t e =
    heads_from ls i h ∙ ap (λ (u : Bool). cond u (head_line (line_no ls i) ∷ heads_of (drop (i + 1) ls)) []) e

-- How many H lines there are from line n on, as far as those before line i are.
pub record HeadsSeen (numbers : List ℕ) (n i : ℕ) : Type 0 where
  pub low : n ≤ i
  pub inside : 8 * i ≤ length numbers
  pub same : n + head_count numbers n ≡ i + head_count numbers i

pub heads_begun : {numbers : List ℕ} → SheetHeld numbers → (n : ℕ) → n ≤ length (lines_in numbers) → HeadsSeen numbers n n
heads_begun s n h = record { low = omega arith; inside = omega (arith, size_held s); same = refl }

module _ {numbers : List ℕ} {n i : ℕ} (held : SheetHeld numbers) (s : HeadsSeen numbers n i) where
  heads_none : head_count numbers i ≡ 0 → i - n ≡ head_count numbers n
  heads_none e =
      let h = s.same in
      let l = s.low in
      omega arith

  pub heads_done : length numbers ≤ 8 * i → i - n ≡ head_count numbers n
  heads_done h =
      let size = size_held held in
      heads_none (ap (λ r. length (heads_of r)) (drop_of_length-le (lines_in numbers) {i = i} (omega arith)))

  module _ (here : 8 * i < length numbers) where
    pub heads_stop : (get_or numbers (8 * i) 0 ≡ H → ⊥) → i - n ≡ head_count numbers n
    heads_stop d =
        let line = lent_line held i here in
        heads_none
        (ap length (heads_where (lines_in numbers) i line.inside false (ne_eqb (line_no (lines_in numbers) i).letter H (λ e. d (line.letter ∙ e)))))

    pub heads_more : get_or numbers (8 * i) 0 ≡ H → HeadsSeen numbers n (i + 1)
    heads_more e =
        let line = lent_line held i here in
        let next : head_count numbers i ≡ suc (head_count numbers (i + 1)) =
        ap length (heads_where (lines_in numbers) i line.inside true (eq-eqb (line_no (lines_in numbers) i).letter H (sym line.letter ∙ e))) in
        let h = s.same in
        let l = s.low in
        let w = line.whole in
        record { low = omega arith; inside = omega arith; same = omega arith }

-- ---- the rows of a table

pub row_long : (table : List ℕ) (r : ℕ) → 64 * r + 64 ≤ length table → length (row_bytes table r) ≡ 64
row_long table r h = length-take-le 64 (drop (64 * r) table) (omega (arith, length-drop (64 * r) table))

pub row_size : (table : List ℕ) (r : ℕ) → length table ≡ 16384 → r < 256 → length (row_bytes table r) ≡ 64
row_size table r e h = row_long table r (omega arith)

pub row_at : (table : List ℕ) (r i : ℕ) → i < 64 → get_or (row_bytes table r) i 0 ≡ get_or table (64 * r + i) 0
row_at table r i h = get_or-take 64 (drop (64 * r) table) i 0 h ∙ get_or-drop (64 * r) table i 0

-- The rules of a table, one by one and how many.
pub table_rule : (table : List ℕ) (n r : ℕ) → r < n → nth (table_rules table n) (suc r) ≡ some (rule_in (row_bytes table r))
table_rule table zero r l = absurd (omega arith)
table_rule table (suc n) zero l = refl
table_rule table (suc n) (suc r) l =
    table_rule (drop 64 table) n r (omega arith)
    ∙ ap (λ (t : List ℕ). some (rule_in (take 64 t))) (drop-drop (64 * r) 64 table ∙ ap (λ (k : ℕ). drop k table) (let q : 64 + 64 * r ≡ 64 * suc r = omega arith in q))

pub table_count : (table : List ℕ) (n : ℕ) → length (table_rules table n) ≡ n
table_count table zero = refl
table_count table (suc n) = ap suc (table_count (drop 64 table) n)

row_same : (a b : List ℕ) (k : ℕ) → 64 * k + 64 ≤ length a → 64 * k + 64 ≤ length b
    → ((i : ℕ) → i < 64 → get_or a (64 * k + i) 0 ≡ get_or b (64 * k + i) 0) → row_bytes a k ≡ row_bytes b k
row_same a b k p q e =
    let m = row_long a k p in
    let n = row_long b k q in
    ext_get_or 0 (row_bytes a k) (row_bytes b k) (m ∙ sym n) (λ i h. let small : i < 64 = omega arith in row_at a k i small ∙ e i small ∙ sym (row_at b k i small))

table_more : (table : List ℕ) (n : ℕ) → table_rules table (suc n) ≡ table_rules table n ++ (rule_in (row_bytes table n) ∷ [])
table_more table zero = refl
table_more table (suc n) =
    ap (λ (r : List Rule). rule_in (take 64 table) ∷ r)
    (table_more (drop 64 table) n
    ∙ ap (λ (bytes : List ℕ). table_rules (drop 64 table) n ++ (rule_in (take 64 bytes) ∷ []))
    (drop-drop (64 * n) 64 table ∙ ap (λ k. drop k table) (let z : 64 + 64 * n ≡ 64 * suc n = omega arith in z)))

table_same : (a b : List ℕ) (n : ℕ) → ((k : ℕ) → k < n → row_bytes a k ≡ row_bytes b k) → table_rules a n ≡ table_rules b n
table_same a b zero e = refl
table_same a b (suc n) e =
    table_more a n
    ∙ ap₂ (λ (rs : List Rule) (bytes : List ℕ). rs ++ (rule_in bytes ∷ [])) (table_same a b n (λ k h. e k (omega arith))) (e n (omega arith))
    ∙ sym (table_more b n)

-- ---- the rule at a B line

front-padded : (w : ℕ) (ns rest : List ℕ) → All (λ m. (1 ≤ m) × (m ≤ 12)) ns → length ns ≤ w → front w (padded w ns ++ rest) ≡ ns
front-padded zero [] rest a h = refl
front-padded zero (n ∷ ns) rest a h = absurd (omega arith)
front-padded (suc w) [] rest a h = refl
front-padded (suc w) (n ∷ ns) rest a h =
    let some = a.0.0 in
    ap (λ (t : Bool). cond t [] (n ∷ front w (padded w ns ++ rest))) (ne_eqb n 0 (λ e. omega arith))
    ∙ ap (λ (r : List ℕ). n ∷ r) (front-padded w ns rest a.1 (omega arith))

-- The marks that a B or H line shows are its own.
marks_are : {numbers : List ℕ} {n : ℕ} → LentLine numbers n → ((line_no (lines_in numbers) n).letter ≡ B) ⊎ ((line_no (lines_in numbers) n).letter ≡ H)
    → marks_at numbers n ≡ (line_no (lines_in numbers) n).numbers
marks_are {numbers} {n} line e =
    ap (front 6) line.six.1 ∙ front-padded 6 (line_no (lines_in numbers) n).numbers line.six.0 (line.fits.marks e) line.fits.few

module _ {numbers : List ℕ} (held : SheetHeld numbers) where
  heads_are : (hs : List Head) (n : ℕ) → n ≤ length (lines_in numbers) → heads_of (drop n (lines_in numbers)) ≡ hs
      → (heads_at numbers n (length hs) ≡ hs) × (n + length hs ≤ length (lines_in numbers))
  heads_are [] n h e = (refl, omega arith)
  heads_are (x ∷ hs) n h e = go (λ k q. heads_are hs (n + 1) k q) (ltb n (length (lines_in numbers))) refl
    where
      one : ((n + 1 ≤ length (lines_in numbers)) → heads_of (drop (n + 1) (lines_in numbers)) ≡ hs
          → (heads_at numbers (n + 1) (length hs) ≡ hs) × (n + 1 + length hs ≤ length (lines_in numbers)))
          → n < length (lines_in numbers) → LentLine numbers n → (t : Bool) → eqb (line_no (lines_in numbers) n).letter H ≡ t
          → (heads_at numbers n (suc (length hs)) ≡ x ∷ hs) × (n + suc (length hs) ≤ length (lines_in numbers))
      one after inside line true q =
          let here : head_line (line_no (lines_in numbers) n) ∷ heads_of (drop (n + 1) (lines_in numbers)) ≡ x ∷ hs =
          sym (heads_where (lines_in numbers) n inside true q) ∙ e in
          let (rest, few) = after (omega arith) cc in
          let first : ◌≡◌ {A = Head} (head_line (line_no (lines_in numbers) n)) x = cc in (
            ap₂ (λ (k : ℕ) (ms : List ℕ). record { kind = k; marks = ms } ∷ heads_at numbers (n + 1) (length hs)) line.kind
                (marks_are line (inr (eqb-true (line_no (lines_in numbers) n).letter H q)))
                ∙ ap₂ (λ (h : Head) (r : List Head). h ∷ r) first rest,
            omega arith,
          )
      one after inside line false q =
          let z : ◌≡◌ {A = List Head} [] (x ∷ hs) = sym (heads_where (lines_in numbers) n inside false q) ∙ e in
          absurd (let w : ◌≡◌ {A = ℕ} 0 1 = cc in omega arith)

      go : ((n + 1 ≤ length (lines_in numbers)) → heads_of (drop (n + 1) (lines_in numbers)) ≡ hs
          → (heads_at numbers (n + 1) (length hs) ≡ hs) × (n + 1 + length hs ≤ length (lines_in numbers)))
          → (t : Bool) → ltb n (length (lines_in numbers)) ≡ t
          → (heads_at numbers n (suc (length hs)) ≡ x ∷ hs) × (n + suc (length hs) ≤ length (lines_in numbers))
      go after true q =
          let inside : n < length (lines_in numbers) = ltb-true n (length (lines_in numbers)) q in
          let line = lent_line held n (omega (arith, size_held held)) in
          one after inside line (eqb (line_no (lines_in numbers) n).letter H) refl
      go after false q =
          let out : length (lines_in numbers) ≤ n = ltb-false n (length (lines_in numbers)) q in
          let z : ◌≡◌ {A = List Head} [] (x ∷ hs) = sym (ap heads_of (drop_of_length-le (lines_in numbers) {i = n} out)) ∙ e in
          absurd (let w : ◌≡◌ {A = ℕ} 0 1 = cc in omega arith)

  -- The rules from a line on.
  rules_where : (n : ℕ) → n < length (lines_in numbers) → (t : Bool) → eqb (line_no (lines_in numbers) n).letter B ≡ t
      → rules_of (drop n (lines_in numbers))
      ≡ cond t
      (body_line (line_no (lines_in numbers) n) (heads_of (drop (n + 1) (lines_in numbers))) ∷ rules_of (drop (n + 1) (lines_in numbers)))
      (rules_of (drop (n + 1) (lines_in numbers)))
  rules_where n h t e =
      ap rules_of (drop-cons (lines_in numbers) n no_line h)
      ∙ ap₂
      (λ (u : Bool) (k : ℕ).
      cond u
      (body_line (line_no (lines_in numbers) n) (heads_of (drop k (lines_in numbers))) ∷ rules_of (drop k (lines_in numbers)))
      (rules_of (drop k (lines_in numbers))))
      e (sym (add-one n))

  -- A B line at a place: the rule is what the lent numbers show, it fits, and its lines are lent.
  pub record RuleHere (n : ℕ) : Type 0 where
    pub is : rules_of (drop n (lines_in numbers)) ≡ rule_here numbers n ∷ rules_of (drop (n + 1) (lines_in numbers))
    pub fits : RuleFits (rule_here numbers n)
    pub lines : LinesIn numbers (n + 1) (head_count numbers (n + 1))
    pub next : n + 1 ≤ length (lines_in numbers)

  pub rule-here : (n : ℕ) → 8 * n < length numbers → get_or numbers (8 * n) 0 ≡ B → RuleHere n
  rule-here n h e =
      let line = lent_line held n h in
      let inside = line.inside in
      let letter : (line_no (lines_in numbers) n).letter ≡ B = sym line.letter ∙ e in
      let (heads, few) = heads_are (heads_of (drop (n + 1) (lines_in numbers))) (n + 1) (omega arith) refl in
      let rule : body_line (line_no (lines_in numbers) n) (heads_of (drop (n + 1) (lines_in numbers))) ≡ rule_here numbers n =
      λ i. record { kind = sym line.kind i; marks = sym (marks_are line (inl letter)) i; heads = sym heads i } in
      let is : rules_of (drop n (lines_in numbers)) ≡ rule_here numbers n ∷ rules_of (drop (n + 1) (lines_in numbers)) =
      rules_where n inside true (eq-eqb (line_no (lines_in numbers) n).letter B letter) ∙ ap (λ (r : Rule). r ∷ rules_of (drop (n + 1) (lines_in numbers))) rule in
      record {
        is = is;
        fits = (subst (λ (rs : List Rule). All RuleFits rs) is (rules_fit_from (lines_in numbers) n (held_lines held).1 (omega arith))).0;
        lines = omega (arith, size_held held);
        next = omega arith;
      }

-- ---- filling a table

-- The rules of the lines before line n are in the table, which is 0 after them.
pub record Filled (numbers table : List ℕ) (count n : ℕ) : Type 0 where
  pub size : length table ≡ 16384
  pub blank : Blank table (64 * count)
  pub inside : n ≤ length (lines_in numbers)
  pub each : (k : ℕ) → k < count → BytesFit (row_bytes table k)
  pub rules : rules_in numbers ≡ table_rules table count ++ rules_of (drop n (lines_in numbers))

pub filled_none : (numbers table : List ℕ) → length table ≡ 16384 → Blank table 0 → Filled numbers table 0 0
filled_none numbers table size blank = record { size = size; blank = blank; inside = omega arith; each = λ k h. absurd (omega arith); rules = refl }

module _ {numbers table : List ℕ} {count n : ℕ} (held : SheetHeld numbers) (f : Filled numbers table count n) where
  pub filled_inside : 8 * n ≤ length numbers
  filled_inside = let h = f.inside in omega (arith, size_held held)

  filled_count : count + length (rules_of (drop n (lines_in numbers))) ≤ 256
  filled_count =
      omega (
        arith,
        rules_few (lines_in numbers) (held_lines held).1,
        ap length f.rules,
        length-append (table_rules table count) (rules_of (drop n (lines_in numbers))),
        table_count table count,
      )

  pub filled_end : length numbers / 8 ≤ n → TableFits table count × (table_rules table count ≡ rules_in numbers)
  filled_end h =
      let none : rules_of (drop n (lines_in numbers)) ≡ [] = ap rules_of (drop_of_length-le (lines_in numbers) {i = n} (omega (arith, size_held held))) in (
        record { size = f.size; few = omega (arith, filled_count); each = f.each },
        sym (f.rules ∙ ap (λ (rs : List Rule). table_rules table count ++ rs) none ∙ append-nil (table_rules table count)),
      )

  module _ (here : 8 * n < length numbers) where
    pub filled_other : (get_or numbers (8 * n) 0 ≡ B → ⊥) → Filled numbers table count (n + 1)
    filled_other d =
        let line = lent_line held n here in
        let inside = line.inside in
        record {
          size = f.size;
          blank = f.blank;
          inside = omega arith;
          each = f.each;
          rules =
              f.rules
              ∙ ap (λ (rs : List Rule). table_rules table count ++ rs)
              (rules_where held n inside false (ne_eqb (line_no (lines_in numbers) n).letter B (λ e. d (line.letter ∙ e))));
        }

    module _ (body : get_or numbers (8 * n) 0 ≡ B) where
      pub filled_room : count < 256
      filled_room = omega (arith, filled_count, ap length (rule-here held n here body).is)

      filled_more : (after : List ℕ) → RowPut table count (rule_here numbers n) after → Blank after (64 * count + 64) → Filled numbers after (count + 1) (n + 1)
      filled_more after put blank =
          let r = rule-here held n here body in
          let room = filled_room in
          let long = f.size in
          let long2 = put.size in
          let size : length (row_bytes after count) ≡ 64 = row_long after count (omega arith) in
          let bytes : (i : ℕ) → i < 64 → get_or (row_bytes after count) i 0 ≡ byte_of (rule_here numbers n) i =
          λ i h. row_at after count i h ∙ put.bytes i h in
          let same : (k : ℕ) → k < count → row_bytes after k ≡ row_bytes table k =
          λ k h. row_same after table k (omega arith) (omega arith) (λ i small. put.same (64 * k + i) (omega arith)) in
          record {
            size = put.size;
            blank = record { each = λ j h. blank.each j (omega arith) };
            inside = r.next;
            each = below_more (λ k. BytesFit (row_bytes after k)) count (λ k h. subst BytesFit (sym (same k h)) (f.each k h))
                (bytes_fit (rule_here numbers n) (row_bytes after count) r.fits size bytes);
            rules =
                f.rules
                ∙ ap₂ (λ (rs qs : List Rule). rs ++ qs) (sym (table_same after table count same)) r.is
                ∙ sym (append_assoc (table_rules after count) (rule_here numbers n ∷ []) (rules_of (drop (n + 1) (lines_in numbers))))
                ∙ ap (λ (q : Rule). table_rules after count ++ (q ∷ []) ++ rules_of (drop (n + 1) (lines_in numbers)))
                (sym (rule_read (rule_here numbers n) (row_bytes after count) r.fits size bytes))
                ∙ ap (λ (rs : List Rule). rs ++ rules_of (drop (n + 1) (lines_in numbers))) (sym (table_more after count) ∙ ap (table_rules after) (sym (add-one count)));
          }

      module _ {heads : ℕ} (all : heads ≡ head_count numbers (n + 1)) where
        -- What putting the rule asks.
        pub filled_asks : (length table ≡ 16384) × (count < 256) × LinesIn numbers (n + 1) heads × RuleFits (rule_at numbers n heads) × Blank table (64 * count)
        filled_asks =
            let r = rule-here held n here body in
            let lines = r.lines in
            (f.size, filled_room, omega arith, subst (λ k. RuleFits (rule_at numbers n k)) (sym all) r.fits, f.blank)

        -- Once it is put.
        pub filled_rule : {after : List ℕ} → RowPut table count (rule_at numbers n heads) after × Blank after (64 * count + 64)
            → Filled numbers after (count + 1) (n + 1)
        filled_rule {after} put = filled_more after (subst (λ k. RowPut table count (rule_at numbers n k) after) all put.0) put.1

-- ---- lent memory

-- A table in the first bytes of lent memory.
pub table_held : {numbers before table : List ℕ} {count : ℕ} → SheetHeld numbers → 16384 ≤ length before
    → TableFits table count × (table_rules table count ≡ rules_in numbers) → TableHeld numbers before count (table ++ drop 16384 before)
table_held {numbers} {before} {table} {count} held room (fits, rules) =
    let size = fits.size in
    let front : take 16384 (table ++ drop 16384 before) ≡ table =
    ap (λ (n : ℕ). take n (table ++ drop 16384 before)) (sym size) ∙ take-append_seam table (drop 16384 before) in
    record {
      sheet = held;
      whole = omega (arith, length-append table (drop 16384 before), length-drop 16384 before);
      fits = subst (λ (t : List ℕ). TableFits t count) (sym front) fits;
      rules = ap (λ (t : List ℕ). table_rules t count) front ∙ rules;
      rest = ap (λ (n : ℕ). drop n (table ++ drop 16384 before)) (sym size) ∙ drop-append_seam table (drop 16384 before);
    }
