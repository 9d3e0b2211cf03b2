-- Coefficients that sum up the terms of a list: what is summed up and what is left is the whole sum, whatever t is. Assumes nothing.
use mathlib.Core.Path.{◌≡◌, refl, sym, ◌∙◌, ap, ap₂, subst}
use mathlib.Core.Bool.{Bool, true, false, cond, ◌&&◌}
use mathlib.Core.List.{List, [], ◌∷◌}
use Prim.Native.Nat.{ℕ, zero, suc, ◌+◌, ◌*◌, ◌/◌, ◌≤◌, ◌<◌}
use native.Mathlib.Nat.{mul-zero, mul-suc, mul-add, mul_left_comm, one-mul}
use native.Mathlib.Decide.{ℕ_discrete}
use native.Mathlib.Numerals.{add-one}
use native.Mathlib.Omega.{arith}
use borrow.Author.Tests.{eq-eqb, ne_eqb}
use lib.Dec.{eqb}
use lib.ListN.{length, get_or, set, drop, length-set, drop_of_length-le}
use lib.Seq.{get_or-set_same, get_or-set_other, drop-cons}
use Rattle.sheet.specs.Line.{K, B, Line}
use Rattle.sheet.specs.Sheet.{width_of}
use Rattle.chase.specs.Rules.{Rule, heads_of, rules_of}
use Rattle.chase.specs.Making.{carried_marks}
use Rattle.rules.specs.Table.{SheetHeld, lines_in}
use Rattle.rules.proofs.SheetLaws.{no_line, line_no, lines_before, continues_at, held_lines, size_held, LentLine, lent_line, rules_few}
use Rattle.rules.proofs.TableLaws.{rule-here}
use Rattle.rules.proofs.PartLaws.{zeros, zero_at}
use Rattle.arithmetic.specs.Capped.{polynomial}
use Rattle.growth.specs.Forecast.{power, sum_of, new_with, kind_lines, width_in}
use Rattle.forecasting.specs.Inner.Terms.{rule_here, MarksCounted, KindsCounted, RulesCounted}
use Rattle.forecasting.specs.declared.marks.MarkCounts.{MarkCounts}

-- ---- lines

-- Where all lines are counted none is left.
pub line_over : {numbers : List ℕ} {n count : ℕ} → SheetHeld numbers → count ≡ length numbers / 8 → count ≤ n → length numbers ≤ 8 * n
line_over held is h = omega (arith, size_held held)

-- ---- coefficients

polynomial-zeros : (n t : ℕ) → polynomial (zeros n) t ≡ 0
polynomial-zeros zero t = refl
polynomial-zeros (suc n) t = omega (arith, ap (λ (x : ℕ). t * x) (polynomial-zeros n t), mul-zero t)

-- A coefficient that is raised by n raises the value by n × t to its power.
polynomial_raised : (cs : List ℕ) (k n t : ℕ) → k < length cs → polynomial (set cs k (get_or cs k 0 + n)) t ≡ polynomial cs t + n * power t k
polynomial_raised [] k n t h = absurd (omega arith)
polynomial_raised (c ∷ cs) zero n t h = omega arith
polynomial_raised (c ∷ cs) (suc k) n t h =
    let p : ℕ = polynomial cs t in
    let q : ℕ = power t k in
    omega (
      arith,
      ap (λ (x : ℕ). t * x) (polynomial_raised cs k n t (omega arith)),
      mul-add t p (n * q),
      mul_left_comm t n q,
    )

-- ---- a sum by its coefficients

-- Of a list of terms some are left. Each is at most `most` times a power of t up to the sixth.
pub record Summed {A : Type 0} (term : ℕ → A → ℕ) (most : ℕ) (all left : List A) (cs : List ℕ) : Type 0 where
  pub size : length cs ≡ 7
  pub low : (k : ℕ) → get_or cs k 0 + most * length left ≤ most * length all
  pub sum : (t : ℕ) → polynomial cs t + sum_of (term t) left ≡ sum_of (term t) all

summed_none : {A : Type 0} (term : ℕ → A → ℕ) (most : ℕ) (all : List A) → Summed term most all all (zeros 7)
summed_none term most all = record { size = refl; low = λ k. omega (arith, zero_at 7 k); sum = λ t. omega (arith, polynomial-zeros 7 t) }

module _ {A : Type 0} {term : ℕ → A → ℕ} {most : ℕ} {all left : List A} {cs : List ℕ} (s : Summed term most all left cs) where
  summed_all : left ≡ [] → (t : ℕ) → polynomial cs t ≡ sum_of (term t) all
  summed_all none t = omega (arith, s.sum t, ap (sum_of (term t)) none)

  -- No term more.
  summed_same : {after : List A} → left ≡ after → Summed term most all after cs
  summed_same same = subst (λ (xs : List A). Summed term most all xs cs) same s

  -- One term more.
  module _ {x : A} {after : List A} (next : left ≡ x ∷ after) (n k : ℕ) (few : n ≤ most) where
    room : (j : ℕ) → get_or cs j 0 + most + most * length after ≤ most * length all
    room j = omega (arith, s.low j, ap (λ (xs : List A). most * length xs) next, mul-suc most (length after))

    summed_fits : get_or cs k 0 + n ≤ most * length all
    summed_fits = omega (arith, room k)

    summed_more : k < 7 → ((t : ℕ) → term t x ≡ n * power t k) → Summed term most all after (set cs k (get_or cs k 0 + n))
    summed_more small is =
        let size = s.size in
        record {
          size = length-set cs k (get_or cs k 0 + n) ∙ size;
          low = λ j. go j (ℕ_discrete j k);
          sum = λ t. omega (arith, s.sum t, polynomial_raised cs k n t (omega arith), ap (sum_of (term t)) next, is t);
        }
      where
        go : (j : ℕ) → Dec (j ≡ k) → get_or (set cs k (get_or cs k 0 + n)) j 0 + most * length after ≤ most * length all
        go j (yes e) =
            let size = s.size in
            let raised : get_or (set cs k (get_or cs k 0 + n)) j 0 ≡ get_or cs k 0 + n =
            ap (λ (i : ℕ). get_or (set cs k (get_or cs k 0 + n)) i 0) e ∙ get_or-set_same cs k (get_or cs k 0 + n) 0 (omega arith) in
            omega (arith, room k)
        go j (no d) = omega (arith, get_or-set_other cs k j (get_or cs k 0 + n) 0 d, room j)

-- ---- the kinds and the rules from a line on

abbrev pub kind_term : ℕ → Line → ℕ
kind_term t l = power t (width_in l)

abbrev pub pair_term : ℕ → Rule → ℕ
pair_term t r = power t (length (carried_marks r))

kinds_few : (ls : List Line) → length (kind_lines ls) ≤ length ls
kinds_few [] = omega arith
kinds_few (l ∷ ls) = go (eqb l.letter K) (kinds_few ls)
  where
    go : (b : Bool) → length (kind_lines ls) ≤ length ls → length (cond b (l ∷ kind_lines ls) (kind_lines ls)) ≤ suc (length ls)
    go true h = omega arith
    go false h = omega arith

-- What lines with one letter make, from line n on: one more where line n has the letter, else the same.
module _ {A : Type 0} (of : List Line → List A) (letter : ℕ) (made : Line → List Line → A)
    (more : (l : Line) (ls : List Line) → of (l ∷ ls) ≡ cond (eqb l.letter letter) (made l ls ∷ of ls) (of ls)) where
  from_line : (ls : List Line) (n : ℕ) → n < length ls → (b : Bool) → eqb (line_no ls n).letter letter ≡ b
      → of (drop n ls) ≡ cond b (made (line_no ls n) (drop (n + 1) ls) ∷ of (drop (n + 1) ls)) (of (drop (n + 1) ls))
  from_line ls n inside b e =
      ap of (drop-cons ls n no_line inside) ∙ more (line_no ls n) (drop (suc n) ls)
      ∙ ap₂ (λ (u : Bool) (k : ℕ). cond u (made (line_no ls n) (drop k ls) ∷ of (drop k ls)) (of (drop k ls))) e (sym (add-one n))

  module _ {numbers : List ℕ} {n : ℕ} (line : LentLine numbers n) where
    from_met : get_or numbers (8 * n) 0 ≡ letter
        → of (drop n (lines_in numbers)) ≡ made (line_no (lines_in numbers) n) (drop (n + 1) (lines_in numbers)) ∷ of (drop (n + 1) (lines_in numbers))
    from_met e = from_line (lines_in numbers) n line.inside true (eq-eqb (line_no (lines_in numbers) n).letter letter (sym line.letter ∙ e))

    from_other : (get_or numbers (8 * n) 0 ≡ letter → ⊥) → of (drop n (lines_in numbers)) ≡ of (drop (n + 1) (lines_in numbers))
    from_other d = from_line (lines_in numbers) n line.inside false (ne_eqb (line_no (lines_in numbers) n).letter letter (λ e. d (line.letter ∙ e)))

-- A declared width is at most 6.
width_low : {numbers : List ℕ} → SheetHeld numbers → (n : ℕ) → 8 * n < length numbers → get_or numbers (8 * n) 0 ≡ K → get_or numbers (8 * n + 2) 0 ≤ 6
width_low {numbers} held n here e =
    let ls : List Line = lines_in numbers in
    let line = lent_line held n here in
    let l : Line = line_no ls n in
    let inside = line.inside in
    let width : width_of (lines_before (suc n) ls) l.kind ≡ width_in l =
    ap₂ (λ (a b : Bool). cond (a && b) (width_in l) (width_of (lines_before n ls) l.kind)) (eq-eqb l.letter K (sym line.letter ∙ e)) (eq-eqb l.kind l.kind refl) in
    let declared : 0 < width_in l → width_in l ≤ 6 =
    λ some. subst (λ (w : ℕ). w ≤ 6) width ((continues_at ls (suc n) (held_lines held).1 (omega arith)).0.each l.kind (omega arith)).1 in
    go (width_in l) declared line.first
  where
    go : (w : ℕ) → (0 < w → w ≤ 6) → get_or numbers (8 * n + 2) 0 ≡ w → get_or numbers (8 * n + 2) 0 ≤ 6
    go zero h is = omega arith
    go (suc w) h is = omega (arith, h (omega arith))

-- ---- the loops

-- The kinds of the lines before line n are counted by their widths.
pub record KindsSeen (numbers : List ℕ) (n : ℕ) (cs : List ℕ) : Type 0 where
  pub inside : 8 * n ≤ length numbers
  pub kinds : Summed kind_term 1 (kind_lines (lines_in numbers)) (kind_lines (drop n (lines_in numbers))) cs

-- The rules of the lines before line n are counted by their carried marks.
pub record RulesSeen (numbers : List ℕ) (n : ℕ) (cs ds : List ℕ) : Type 0 where
  pub inside : 8 * n ≤ length numbers
  pub fresh : Summed new_with 12 (rules_of (lines_in numbers)) (rules_of (drop n (lines_in numbers))) cs
  pub pairs : Summed pair_term 1 (rules_of (lines_in numbers)) (rules_of (drop n (lines_in numbers))) ds

pub kinds_begun : (numbers : List ℕ) → KindsSeen numbers 0 (zeros 7)
kinds_begun numbers = record { inside = omega arith; kinds = summed_none kind_term 1 (kind_lines (lines_in numbers)) }

pub rules_begun : (numbers : List ℕ) → RulesSeen numbers 0 (zeros 7) (zeros 7)
rules_begun numbers =
    record {
      inside = omega arith;
      fresh = summed_none new_with 12 (rules_of (lines_in numbers));
      pairs = summed_none pair_term 1 (rules_of (lines_in numbers));
    }

module _ {numbers : List ℕ} (held : SheetHeld numbers) where
  abbrev ls : List Line
  ls = lines_in numbers

  none_left : (n : ℕ) → length numbers ≤ 8 * n → drop n ls ≡ []
  none_left n all = drop_of_length-le ls {i = n} (omega (arith, size_held held))

  next_inside : (n : ℕ) → 8 * n < length numbers → 8 * (n + 1) ≤ length numbers
  next_inside n here = let w = (lent_line held n here).whole in omega arith

  module _ {n : ℕ} {kinds : List ℕ} (s : KindsSeen numbers n kinds) where
    pub kinds_all : length numbers ≤ 8 * n → KindsCounted ls kinds
    kinds_all all =
        record { size = s.kinds.size; sum = summed_all s.kinds (ap kind_lines (none_left n all)) }

    module _ (here : 8 * n < length numbers) where
      line : LentLine numbers n
      line = lent_line held n here

      pub kinds_other : (get_or numbers (8 * n) 0 ≡ K → ⊥) → KindsSeen numbers (n + 1) kinds
      kinds_other d =
          record {
            inside = next_inside n here;
            kinds = summed_same s.kinds (from_other kind_lines K (λ l ms. l) (λ l ms. refl) line d);
          }

      module _ (kind : get_or numbers (8 * n) 0 ≡ K) (width : ℕ) (is : width ≡ get_or numbers (8 * n + 2) 0) where
        pub width_small : width < 7
        width_small = omega (arith, width_low held n here kind)

        next_kinds : kind_lines (drop n ls) ≡ line_no ls n ∷ kind_lines (drop (n + 1) ls)
        next_kinds = from_met kind_lines K (λ l ms. l) (λ l ms. refl) line kind

        pub kinds_fit : get_or kinds width 0 + 1 ≤ length numbers
        kinds_fit = omega (arith, summed_fits s.kinds next_kinds 1 width (omega arith), kinds_few ls, size_held held)

        pub kinds_more : KindsSeen numbers (n + 1) (set kinds width (get_or kinds width 0 + 1))
        kinds_more =
            record {
              inside = next_inside n here;
              kinds =
                  summed_more s.kinds next_kinds 1 width (omega arith) width_small
                  (λ t. ap (power t) (sym (is ∙ line.first)) ∙ sym (one-mul (power t width)));
            }

  module _ {n : ℕ} {fresh pairs : List ℕ} (s : RulesSeen numbers n fresh pairs) where
    pub rules_all : length numbers ≤ 8 * n → RulesCounted ls (record { fresh = fresh; pairs = pairs })
    rules_all all =
        let none : rules_of (drop n ls) ≡ [] = ap rules_of (none_left n all) in
        record {
          fresh_size = s.fresh.size;
          pairs_size = s.pairs.size;
          fresh = summed_all s.fresh none;
          pairs = summed_all s.pairs none;
        }

    module _ (here : 8 * n < length numbers) where
      pub rules_other : (get_or numbers (8 * n) 0 ≡ B → ⊥) → RulesSeen numbers (n + 1) fresh pairs
      rules_other d =
          let same : rules_of (drop n ls) ≡ rules_of (drop (n + 1) ls) =
          from_other rules_of B (λ l ms. record { kind = l.kind; marks = l.numbers; heads = heads_of ms }) (λ l ms. refl) (lent_line held n here) d in
          record {
            inside = next_inside n here;
            fresh = summed_same s.fresh same;
            pairs = summed_same s.pairs same;
          }

      module _ (body : get_or numbers (8 * n) 0 ≡ B) (c : MarkCounts) (counted : MarksCounted numbers n c) where
        next_rules : rules_of (drop n ls) ≡ rule_here numbers n ∷ rules_of (drop (n + 1) ls)
        next_rules = (rule-here held n here body).is

        pub fresh_fit : get_or fresh c.carried 0 + c.fresh ≤ 3072
        fresh_fit = omega (arith, summed_fits s.fresh next_rules c.fresh c.carried counted.few_fresh, rules_few ls (held_lines held).1)

        pub pairs_fit : get_or pairs c.carried 0 + 1 ≤ 256
        pairs_fit = omega (arith, summed_fits s.pairs next_rules 1 c.carried (omega arith), rules_few ls (held_lines held).1)

        pub rules_more : RulesSeen numbers (n + 1) (set fresh c.carried (get_or fresh c.carried 0 + c.fresh)) (set pairs c.carried (get_or pairs c.carried 0 + 1))
        rules_more =
            let few = counted.few_carried in
            let carried : (t : ℕ) → power t (length (carried_marks (rule_here numbers n))) ≡ power t c.carried = λ t. ap (power t) (sym counted.carried) in
            record {
              inside = next_inside n here;
              fresh =
                  summed_more s.fresh next_rules c.fresh c.carried counted.few_fresh (omega arith)
                  (λ t. ap₂ (λ (a b : ℕ). a * b) (sym counted.fresh) (carried t));
              pairs =
                  summed_more s.pairs next_rules 1 c.carried (omega arith) (omega arith)
                  (λ t. carried t ∙ sym (one-mul (power t c.carried)));
            }
