-- The laws of the lines that rules begin with: found line by line, and the kinds that stand there. Assumes nothing.
use mathlib.Core.Path.{◌≡◌, sym, ap, ap₂, subst, ◌∙◌}
use mathlib.Core.Bool.{Bool, true, false, cond}
use mathlib.Core.List.{List, [], ◌∷◌}
use mathlib.Core.Logic.{by_cases}
use mathlib.Core.Option.{Option, some, none-ne-some, some-injective}
use Prim.Native.Nat.{ℕ, zero, suc, ◌+◌, ◌-◌, ◌*◌, ◌/◌, ◌≤◌, ◌<◌}
use native.Mathlib.Decide.{dec_lt}
use native.Mathlib.Numerals.{add-one}
use native.Mathlib.Omega.{arith}
use borrow.Author.Tests.{eq-eqb, ne_eqb}
use lib.Dec.{eqb}
use lib.ListN.{length, get_or, set, drop, length-set, length-drop, drop_of_length-le}
use lib.Seq.{drop-cons, get_or-drop, get_or-set_same, get_or-set_other}
use Rattle.sheet.specs.Line.{B, H, Line}
use Rattle.chase.specs.Rules.{Head, Rule, heads_of, rules_of, nth}
use Rattle.rules.specs.Table.{SheetHeld, lines_in, rules_in}
use Rattle.rules.proofs.SheetLaws.{no_line, line_no, rules_few, held_lines, size_held, lent_line}
use Rattle.sentences.specs.Sentence.{body_kind, head_kind, made_kind}
use Rattle.sentences.specs.Inner.Naming.{Names}
use Rattle.explaining.specs.Inner.Text.{KindsAre, Starts}

-- ---- lines

-- Where all lines are counted none is left.
pub line_over : {numbers : List ℕ} {n count : ℕ} → SheetHeld numbers → count ≡ length numbers / 8 → count ≤ n → length numbers ≤ 8 * n
line_over held is h = omega (arith, size_held held)

-- ---- lists

-- What is there has a number from 1 to the length.
pub nth_bounds : {A : Type 0} (l : List A) (i : ℕ) (x : A) → nth l i ≡ some x → (1 ≤ i) × (i ≤ length l)
nth_bounds l zero x e = absurd (none-ne-some x e)
nth_bounds [] (suc i) x e = absurd (none-ne-some x e)
nth_bounds (y ∷ l) (suc zero) x e = (omega arith, omega arith)
nth_bounds (y ∷ l) (suc (suc i)) x e = let b = nth_bounds l (suc i) x e in (omega arith, omega arith)

nth-later : {A : Type 0} (x : A) (l : List A) (k : ℕ) → 1 < k → nth (x ∷ l) k ≡ nth l (k - 1)
nth-later x l zero h = absurd (omega arith)
nth-later x l (suc zero) h = absurd (omega arith)
nth-later x l (suc (suc k)) h = let e : suc (suc k) - 1 ≡ suc k = omega arith in sym (ap (nth l) e)

-- ---- H lines

-- H line h of some lines is the h-th of them.
head-line : (ls : List Line) (h : ℕ) (head : Head) → nth (heads_of ls) h ≡ some head → (1 ≤ h) × (h ≤ length ls) × ((line_no ls (h - 1)).kind ≡ head.kind)
head-line [] zero head e = absurd (none-ne-some head e)
head-line [] (suc h) head e = absurd (none-ne-some head e)
head-line (l ∷ ls) h head e = go (eqb l.letter H) h e (λ k e. head-line ls k head e)
  where
    go : (b : Bool) (h : ℕ) → nth (cond b (record { kind = l.kind; marks = l.numbers } ∷ heads_of ls) []) h ≡ some head
        → ((k : ℕ) → nth (heads_of ls) k ≡ some head → (1 ≤ k) × (k ≤ length ls) × ((line_no ls (k - 1)).kind ≡ head.kind))
        → (1 ≤ h) × (h ≤ suc (length ls)) × ((line_no (l ∷ ls) (h - 1)).kind ≡ head.kind)
    go false zero e later = absurd (none-ne-some head e)
    go false (suc h) e later = absurd (none-ne-some head e)
    go true zero e later = absurd (none-ne-some head e)
    go true (suc zero) e later =
        (omega arith, omega arith, ap (λ (d : Head). d.kind) (some-injective (record { kind = l.kind; marks = l.numbers }) head e))
    go true (suc (suc h)) e later =
        let (low, high, is) = later (suc h) e in
        let one : suc (suc h) - 1 ≡ suc h = omega arith in
        let less : suc h - 1 ≡ h = omega arith in
        (omega arith, omega arith, ap (λ (k : ℕ). (line_no (l ∷ ls) k).kind) one ∙ ap (λ (k : ℕ). (line_no ls k).kind) (sym less) ∙ is)

-- ---- B lines

module _ (numbers : List ℕ) where
  abbrev ls : List Line
  ls = lines_in numbers

  -- The rule that begins at line n.
  abbrev rule_from : ℕ → Rule
  rule_from n = record { kind = (line_no ls n).kind; marks = (line_no ls n).numbers; heads = heads_of (drop (n + 1) ls) }

  rules_here : (n : ℕ) → n < length ls → (b : Bool) → eqb (line_no ls n).letter B ≡ b
      → rules_of (drop n ls) ≡ cond b (rule_from n ∷ rules_of (drop (n + 1) ls)) (rules_of (drop (n + 1) ls))
  rules_here n h b e =
      ap rules_of (drop-cons ls n no_line h)
      ∙ ap₂ (λ (c : Bool) (k : ℕ). cond c (record { kind = (line_no ls n).kind; marks = (line_no ls n).numbers; heads = heads_of (drop k ls) } ∷ rules_of (drop k ls)) (rules_of (drop k ls)))
      e (sym (add-one n))

  -- A rule begins at a line.
  pub record BeginsAt (rule n : ℕ) : Type 0 where
    pub inside : n < length ls
    pub is : nth (rules_of ls) rule ≡ some (rule_from n)

  -- The lines up to n: the rules that begin there are found, and the others begin later.
  pub record StartsTo (starts : List ℕ) (count n : ℕ) : Type 0 where
    pub size : length starts ≡ 256
    pub low : n ≤ length ls
    pub counts : count + length (rules_of (drop n ls)) ≡ length (rules_of ls)
    pub later : (rule : ℕ) → count < rule → nth (rules_of ls) rule ≡ nth (rules_of (drop n ls)) (rule - count)
    pub found : (rule : ℕ) → 1 ≤ rule → rule ≤ count → BeginsAt rule (get_or starts (rule - 1) 0)

  pub starts_begun : (starts : List ℕ) → length starts ≡ 256 → StartsTo starts 0 0
  starts_begun starts size =
      record {
        size = size;
        low = omega arith;
        counts = omega arith;
        later = λ rule h. let e : rule - 0 ≡ rule = omega arith in ap (nth (rules_of ls)) (sym e);
        found = λ rule low high. absurd (omega arith);
      }

  module _ {starts : List ℕ} {count n : ℕ} (held : SheetHeld numbers) (so_far : StartsTo starts count n) where
    pub line-end : 8 * n ≤ length numbers
    line-end = omega (arith, size_held held, so_far.low)

    module _ (more : 8 * n < length numbers) where
      inside : n < length ls
      inside = (lent_line held n more).inside

      letter_is : (b : Bool) → eqb (get_or numbers (8 * n) 0) B ≡ b → eqb (line_no ls n).letter B ≡ b
      letter_is b e = ap (λ (k : ℕ). eqb k B) (sym (lent_line held n more).letter) ∙ e

      -- Another line begins no rule.
      pub other_line : (get_or numbers (8 * n) 0 ≡ B → ⊥) → StartsTo starts count (n + 1)
      other_line other =
          let same : rules_of (drop n ls) ≡ rules_of (drop (n + 1) ls) = rules_here n inside false (letter_is false (ne_eqb (get_or numbers (8 * n) 0) B other)) in
          record {
            size = so_far.size;
            low = omega (arith, inside);
            counts = subst (λ (rs : List Rule). count + length rs ≡ length (rules_of ls)) same so_far.counts;
            later = λ rule h. so_far.later rule h ∙ ap (λ (rs : List Rule). nth rs (rule - count)) same;
            found = so_far.found;
          }

      module _ (begins : get_or numbers (8 * n) 0 ≡ B) where
        rules_are : rules_of (drop n ls) ≡ rule_from n ∷ rules_of (drop (n + 1) ls)
        rules_are = rules_here n inside true (letter_is true (eq-eqb (get_or numbers (8 * n) 0) B begins))

        counts_next : count + 1 + length (rules_of (drop (n + 1) ls)) ≡ length (rules_of ls)
        counts_next = omega (arith, so_far.counts, ap length rules_are)

        -- There is room for it.
        pub few_so_far : count < 256
        few_so_far = omega (arith, counts_next, rules_few ls (held_lines held).1)

        next_later : (rule : ℕ) → count + 1 < rule → nth (rules_of ls) rule ≡ nth (rules_of (drop (n + 1) ls)) (rule - (count + 1))
        next_later rule h =
            let less : rule - count - 1 ≡ rule - (count + 1) = omega arith in
            so_far.later rule (omega arith) ∙ ap (λ (rs : List Rule). nth rs (rule - count)) rules_are
            ∙ nth-later (rule_from n) (rules_of (drop (n + 1) ls)) (rule - count) (omega arith)
            ∙ ap (nth (rules_of (drop (n + 1) ls))) less

        next_found : (rule : ℕ) → 1 ≤ rule → rule ≤ count + 1 → BeginsAt rule (get_or (set starts count n) (rule - 1) 0)
        next_found rule low high = by_cases (dec_lt count rule) last before
          where
            last : count < rule → BeginsAt rule (get_or (set starts count n) (rule - 1) 0)
            last h =
                let at : rule - 1 ≡ count = omega arith in
                let one : rule - count ≡ 1 = omega arith in
                let here : get_or (set starts count n) (rule - 1) 0 ≡ n =
                ap (λ (k : ℕ). get_or (set starts count n) k 0) at ∙ get_or-set_same starts count n 0 (omega (arith, so_far.size, few_so_far)) in
                subst (BeginsAt rule) (sym here)
                (record {
                  inside = inside;
                  is = so_far.later rule h ∙ ap (λ (rs : List Rule). nth rs (rule - count)) rules_are ∙ ap (nth (rule_from n ∷ rules_of (drop (n + 1) ls))) one;
                })

            before : (count < rule → ⊥) → BeginsAt rule (get_or (set starts count n) (rule - 1) 0)
            before h =
                subst (BeginsAt rule) (sym (get_or-set_other starts count (rule - 1) n 0 (λ e. h (omega arith)))) (so_far.found rule low (omega arith))

        -- A B line begins the next rule.
        pub body-line : StartsTo (set starts count n) (count + 1) (n + 1)
        body-line =
            record {
              size = length-set starts count n ∙ so_far.size;
              low = omega (arith, inside);
              counts = counts_next;
              later = next_later;
              found = next_found;
            }

    -- At the end all rules are found.
    module _ (over : length numbers ≤ 8 * n) where
      none_left : rules_of (drop n ls) ≡ []
      none_left = ap rules_of (drop_of_length-le ls {i = n} (omega (arith, size_held held)))

      all_found : count ≡ length (rules_of ls)
      all_found = omega (arith, so_far.counts, ap length none_left)

      module _ (rule head : ℕ) (names : Names (rules_in numbers) rule head) where
        abbrev start : ℕ
        start = get_or starts (rule - 1) 0

        rule_begins : BeginsAt rule start
        rule_begins = let b = nth_bounds (rules_of ls) rule names.rule names.named in so_far.found rule b.0 (omega (arith, all_found))

        rule_is : names.rule ≡ rule_from start
        rule_is = some-injective names.rule (rule_from start) (sym names.named ∙ rule_begins.is)

        head_there : nth (heads_of (drop (start + 1) ls)) head ≡ some names.head
        head_there = ap (λ (r : Rule). nth r.heads head) (sym rule_is) ∙ names.line

        after_start : (1 ≤ head) × (start + head < length ls) × ((line_no ls (start + head)).kind ≡ names.head.kind)
        after_start =
            let (low, high, is) = head-line (drop (start + 1) ls) head names.head head_there in
            let size = length-drop (start + 1) ls in
            let at : start + 1 + (head - 1) ≡ start + head = omega arith in
            (low, omega arith, ap (λ (k : ℕ). (line_no ls k).kind) (sym at) ∙ ap (λ (l : Line). l.kind) (sym (get_or-drop (start + 1) ls (head - 1) no_line)) ∙ is)

        head_inside : 8 * (start + head) + 8 ≤ length numbers
        head_inside = omega (arith, after_start.1, size_held held)

        kinds_found : KindsAre (rules_in numbers) rule head (get_or numbers (8 * start + 1) 0) (get_or numbers (8 * (start + head) + 1) 0)
        kinds_found = (
          (lent_line held start (omega (arith, rule_begins.inside, size_held held))).kind ∙ sym (ap body_kind rule_begins.is),
          (lent_line held (start + head) (omega (arith, head_inside))).kind ∙ after_start.2
              ∙ sym (ap (λ (r : Option Rule). made_kind r head) names.named ∙ ap head_kind names.line),
        )

      pub starts_found : Starts numbers starts
      starts_found =
          record {
            size = so_far.size;
            few = rules_few ls (held_lines held).1;
            inside = head_inside;
            kinds = kinds_found;
          }

-- Where a rule that is named begins: there is a place for it, and its lines are there.
pub record Room (numbers starts : List ℕ) (rule head : ℕ) : Type 0 where
  pub low : 1 ≤ rule
  pub place : rule - 1 < length starts
  pub small : rule - 1 < 256
  pub lines : 8 * (get_or starts (rule - 1) 0 + head) + 8 ≤ length numbers

pub room : {numbers starts : List ℕ} {rule head : ℕ} → Starts numbers starts → Names (rules_in numbers) rule head → Room numbers starts rule head
room {numbers} {starts} {rule} {head} s names =
    let (low, high) = nth_bounds (rules_in numbers) rule names.rule names.named in
    record {
      low = low;
      place = omega (arith, s.size, s.few);
      small = omega (arith, s.few);
      lines = s.inside rule head names;
    }
