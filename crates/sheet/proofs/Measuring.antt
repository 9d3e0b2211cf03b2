-- Measuring lent lines: line by line its tests and the size of its text, then what is answered. Assumes nothing.
use mathlib.Core.Path.{◌≡◌, refl, sym, ap, ◌∙◌}
use mathlib.Core.Bool.{Bool, cond}
use mathlib.Core.List.{List, [], ◌∷◌, ◌++◌}
use Prim.Native.Nat.{ℕ, suc, ◌+◌, ◌-◌, ◌*◌, ◌<◌, ◌≤◌}
use native.Mathlib.Nat.{add-zero}
use native.Mathlib.Numerals.{add-one}
use native.Mathlib.Omega.{arith}
use borrow.Author.Tests.{eq-eqb, ne_eqb}
use lib.Dec.{eqb}
use lib.ListN.{length, take, length-append, length-take, length-drop, drop_of_length-le}
use Rattle.sheet.specs.Line.{B, Line, render, text_of}
use Rattle.patterns.specs.Outcome.{Outcome, good, refused, map_good}
use Rattle.sheet.specs.Sheet.{letter_before}
use Rattle.sheet.specs.Read.{Taken, takes, refuses, in_front, go_on, checked}
use Rattle.sheet.specs.Write.{taken_lent, parts_of, sheet_held}
use Rattle.sheet.specs.Inner.Promises.{Keeps, size_of}
use Rattle.sheet.specs.declared.order.Seen.{Seen}
use Rattle.sheet.proofs.Lines.{length-render, length-lent}
use Rattle.sheet.proofs.Sheets.{parts_at, lent_shows}
use Rattle.sheet.proofs.LentLines.{line_of, from, LineAt, GoesOn}
use Rattle.sheet.proofs.LineCount.{Few, few_none, few_more}
use Rattle.sheet.proofs.Refused.{lent_refuses}

-- More bytes before.
abbrev plus : ℕ → Outcome ℕ → Outcome ℕ
plus size (good more) = good (size + more)
plus size (refused number line) = refused number line

plus_none : (o : Outcome ℕ) → o ≡ plus 0 o
plus_none (good more) = ap good (omega arith)
plus_none (refused number line) = refl

plus_line : (size : ℕ) (l : Line) (o : Outcome (List Line)) → plus size (map_good size_of (in_front l o)) ≡ plus (size + (9 * length l.numbers + 11)) (map_good size_of o)
plus_line size l (good ls) =
    let e : size + length (render l ++ text_of ls) ≡ size + (9 * length l.numbers + 11) + length (text_of ls) = omega (arith, length-append (render l) (text_of ls), length-render l) in
    ap good e
plus_line size l (refused number line) = refl

-- What is known when n lines are measured.
pub record Measures (numbers : List ℕ) (seen : Seen) (size n : ℕ) : Type 0 where
  pub before : List Line
  pub kept : Keeps before seen
  pub count : length before ≡ n
  pub few : Few before
  pub inside : 8 * n ≤ length numbers
  pub small : size ≤ 65 * n
  pub rest : map_good size_of (sheet_held numbers) ≡ plus size (map_good size_of (checked taken_lent 8 before (parts_of (length (from n numbers)) (from n numbers))))

pub measure_begun : (numbers : List ℕ) (seen : Seen) → Keeps [] seen → Measures numbers seen 0 0
unfolding sheet_held
measure_begun numbers seen kept =
    record {
      before = [];
      kept = kept;
      count = refl;
      few = few_none;
      inside = omega arith;
      small = omega arith;
      rest = plus_none (map_good size_of (checked taken_lent 8 [] (parts_of (length numbers) numbers)));
    }

taken_or : (before : List Line) (x : List ℕ) → ((l : Line) → taken_lent before x ≡ takes l → ⊥) → taken_lent before x ≡ refuses 8
taken_or before x h = go (taken_lent before x) refl
  where
    go : (t : Taken) → taken_lent before x ≡ t → taken_lent before x ≡ refuses 8
    go (takes l) e = absurd (h l e)
    go (refuses n) e = e ∙ ap refuses (lent_refuses before x n e)

module _ {numbers : List ℕ} {seen : Seen} {size n : ℕ} (m : Measures numbers seen size n) where
  abbrev onward : Outcome (List Line)
  onward = checked taken_lent 8 m.before (parts_of (length (from n numbers)) (from n numbers))

  module _ (more : 8 * n < length numbers) (x : List ℕ) (is : x ≡ take 8 (from n numbers)) where
    step : onward ≡ go_on (taken_lent m.before x) (λ l. checked taken_lent 8 (l ∷ m.before) (parts_of (length (from (n + 1) numbers)) (from (n + 1) numbers))) (suc (length m.before))
    step =
        ap (checked taken_lent 8 m.before) (parts_at numbers n more)
        ∙ ap (λ (y : List ℕ). checked taken_lent 8 m.before (y ∷ parts_of (length (from (suc n) numbers)) (from (suc n) numbers))) (sym is)
        ∙ ap (λ (k : ℕ). checked taken_lent 8 m.before (x ∷ parts_of (length (from k numbers)) (from k numbers))) (sym (add-one n))

    pub line-wrong : ((l : Line) → LineAt m.before l x → ⊥) → refused 8 (n + 1) ≡ map_good size_of (sheet_held numbers)
    line-wrong none =
        let e : taken_lent m.before x ≡ refuses 8 =
        taken_or m.before x (λ l t. let o = lent_shows.only m.before x l t in none l (record { is = o.0; formed = o.1; passed = o.2 })) in
        let c : suc (length m.before) ≡ n + 1 = let p = m.count in omega arith in
        sym
        (m.rest
        ∙ ap (λ (o : Outcome (List Line)). plus size (map_good size_of o))
        (step
        ∙ ap (λ t. go_on t (λ l. checked taken_lent 8 (l ∷ m.before) (parts_of (length (from (n + 1) numbers)) (from (n + 1) numbers))) (suc (length m.before))) e)
        ∙ ap (λ (k : ℕ). refused 8 k) c)

    pub line_taken :
        (fields : ℕ) → fields ≤ 6 → 8 * (n + 1) ≤ length numbers → (next : Seen) → GoesOn m.before fields x next
        → Measures numbers next (size + (9 * fields + 11)) (n + 1)
    line_taken fields few room next t =
        let l : Line = line_of fields x in
        let e : taken_lent m.before x ≡ takes l =
        ap (taken_lent m.before) t.line.is ∙ lent_shows.each m.before l t.line.formed t.line.passed in
        let s = m.small in
        let p = m.count in
        record {
          before = l ∷ m.before;
          kept = t.kept;
          count = omega arith;
          few = few_more m.before l m.few t.line.formed t.line.passed;
          inside = room;
          small = omega arith;
          rest =
              m.rest
              ∙ ap (λ (o : Outcome (List Line)). plus size (map_good size_of o))
              (step
              ∙ ap (λ t. go_on t (λ l. checked taken_lent 8 (l ∷ m.before) (parts_of (length (from (n + 1) numbers)) (from (n + 1) numbers))) (suc (length m.before))) e)
              ∙ plus_line size l (checked taken_lent 8 (l ∷ m.before) (parts_of (length (from (n + 1) numbers)) (from (n + 1) numbers)))
              ∙ ap (λ (k : ℕ). plus (size + (9 * k + 11)) (map_good size_of (checked taken_lent 8 (l ∷ m.before) (parts_of (length (from (n + 1) numbers)) (from (n + 1) numbers))))) t.used;
        }

  module _ (over : length numbers ≤ 8 * n) where
    ended : map_good size_of (sheet_held numbers) ≡ plus size (map_good size_of (cond (eqb (letter_before m.before) B) (refused 8 (suc (length m.before))) (good [])))
    ended = m.rest ∙ ap (λ (xs : List ℕ). plus size (map_good size_of (checked taken_lent 8 m.before (parts_of (length xs) xs)))) (drop_of_length-le numbers over)

    pub rule_without_head : seen.letter ≡ B → refused 8 (n + 1) ≡ map_good size_of (sheet_held numbers)
    rule_without_head e =
        let c : suc (length m.before) ≡ n + 1 = let p = m.count in omega arith in
        sym
        (ended
        ∙ ap (λ (t : Bool). plus size (map_good size_of (cond t (refused 8 (suc (length m.before))) (good [])))) (eq-eqb (letter_before m.before) B (sym m.kept.letter ∙ e))
        ∙ ap (λ (k : ℕ). refused 8 k) c)

    pub measured : (seen.letter ≡ B → ⊥) → good size ≡ map_good size_of (sheet_held numbers)
    measured h =
        sym
        (ended
        ∙ ap (λ (t : Bool). plus size (map_good size_of (cond t (refused 8 (suc (length m.before))) (good [])))) (ne_eqb (letter_before m.before) B (λ q. h (m.kept.letter ∙ q)))
        ∙ ap good (add-zero size))

-- A part of fewer than eight numbers is no line.
pub incomplete :
    (numbers : List ℕ) (n : ℕ) → length numbers - 8 * n < 8 → (before : List Line) (l : Line) → LineAt before l (take 8 (from n numbers)) → ⊥
incomplete numbers n h before l a =
    let e : length (take 8 (from n numbers)) ≡ 8 = ap length a.is ∙ length-lent l in
    omega (arith, length-take 8 (from n numbers), length-drop (8 * n) numbers)
