-- How rules and rows are numbered and counted: theorems for a reader. Assumes nothing.
use mathlib.Core.Path.{◌≡◌, refl, sym, ◌∙◌, ap}
use mathlib.Core.Bool.{Bool, cond}
use mathlib.Core.Logic.{◌↔◌, inl, inr}
use mathlib.Core.List.{List, [], ◌∷◌, map}
use mathlib.Core.Option.{some, none-ne-some}
use Prim.Native.Nat.{ℕ, zero, suc, ◌≤◌, ◌<◌}
use native.Mathlib.Decide.{ℕ_discrete}
use native.Mathlib.Omega.{arith}
use lib.ListN.{length, get_elem?}
use borrow.Author.Tests.{eq-eqb}
use Rattle.patterns.specs.Lists.{numbered}
use Rattle.columns.specs.Column.{column, number_in}
use Rattle.sheet.specs.Line.{B, R, Line, line_in, form_of}
use Rattle.sheet.specs.Sheet.{in_place, kind_right, marks_right, room_for, refusal}
use Rattle.sheet.specs.Read.{sheet_in, taken_text}
use Rattle.chase.specs.Lists.{In}
use Rattle.chase.specs.Rules.{Rule, heads_of, rules_of, row_lines, nth}
use Rattle.chase.specs.Value.{table}
use Rattle.chase.specs.Making.{Record}
use Rattle.chase.specs.Run.{row_record, rows_of, row}
use Rattle.chase.specs.Shape.{Fired}
use Rattle.chase.specs.Counting.{Count}
use Rattle.chase.specs.Cases.{as_text}
use Rattle.chase.proofs.CountLaws.{pigeonhole, element_below, fired_below}
use Rattle.chase.proofs.RowLaws.{row_named}
use Rattle.chase.proofs.CaseCheck.{lines_in}

-- Rules, H lines, rows and fields count from 1: the numbers of a list's elements are 1 to its length,
pub numbers_from_one : {A : Type 0} (l : List A) (n : ℕ) → ((x : A) × (nth l n ≡ some x)) ↔ ((0 < n) × (n ≤ length l))
numbers_from_one l n = (λ s. below l n s.0 s.1, λ s. there l n s.0 s.1)
  where
    below : {A : Type 0} (l : List A) (n : ℕ) (x : A) → nth l n ≡ some x → (0 < n) × (n ≤ length l)
    below l zero x e = absurd (none-ne-some x e)
    below l (suc n) x e = (omega arith, omega (arith, element_below l n x e))

    element : {A : Type 0} (l : List A) (n : ℕ) → n < length l → (x : A) × (get_elem? l n ≡ some x)
    element [] n k = absurd (omega arith)
    element (x ∷ l) zero k = (x, refl)
    element (x ∷ l) (suc n) k = element l n (omega arith)

    there : {A : Type 0} (l : List A) (n : ℕ) → 0 < n → n ≤ length l → (x : A) × (nth l n ≡ some x)
    there l zero p k = absurd (omega arith)
    there l (suc n) p k = element l n (omega arith)

-- and the first R line is row 1.
pub first_row_is_one : (l : Line) (ls : List Line) → l.letter ≡ R → nth (rows_of (l ∷ ls)) 1 ≡ some (row_record (record { number = 1; item = l }))
first_row_is_one l ls e =
    ap (λ (b : Bool). nth (map row_record (numbered (cond b (l ∷ row_lines ls) (row_lines ls)))) 1) (eq-eqb l.letter R e)

-- A row has the number that its R line has among the R lines; a value that is missing there has it too.
pub row-has_its_number : (ls : List Line) (k : ℕ) (l : Line) → nth (row_lines ls) k ≡ some l → nth (rows_of ls) k ≡ some (row_record (record { number = k; item = l }))
row-has_its_number = row_named

-- Each B line is a rule, whether or not an equal one stands elsewhere.
pub each_body_is_a_rule : (l : Line) (ls : List Line) → l.letter ≡ B
    → rules_of (l ∷ ls) ≡ record { kind = l.kind; marks = l.numbers; heads = heads_of ls } ∷ rules_of ls
each_body_is_a_rule l ls e =
    ap (λ (b : Bool). cond b (record { kind = l.kind; marks = l.numbers; heads = heads_of ls } ∷ rules_of ls) (rules_of ls)) (eq-eqb l.letter B e)

-- Equal rules fire alike,
pub equal_rules_fire_alike : (rules : List Rule) (rows : List Record) (n k : ℕ) → nth rules n ≡ nth rules k → Fired rules rows n → Fired rules rows k
equal_rules_fire_alike rules rows n k e w =
    record { rule = w.rule; named = sym e ∙ w.named; on = w.on; reachable = w.reachable; fires = w.fires }

-- and count as two.
pub equal_rules_count_as_two : (rules : List Rule) (rows : List Record) (n k c : ℕ) → (n ≡ k → ⊥) → nth rules n ≡ nth rules k → Fired rules rows n
    → Count (Fired rules rows) c → 2 ≤ c
equal_rules_count_as_two rules rows n k c d e w s =
    omega (arith, s.size, pigeonhole (n ∷ k ∷ []) s.list ((λ i. elim i [ inl p ↦ d p | inr j ↦ j ]), ((λ j. j), tt)) there)
  where
    there : (i : ℕ) → In i (n ∷ k ∷ []) → In i s.list
    there i (inl p) = rw p (s.complete n w)
    there i (inr (inl p)) = rw p (s.complete k (equal_rules_fire_alike rules rows n k e w))
    there i (inr (inr none)) = elim none [ ]

-- P(1)→P(2) twice, row 5.
abbrev pub twins : List Line
twins =
    lines_in (sheet_in (as_text ("K        1        1" ∷ "B        1        1" ∷ "H        1        2" ∷ "B        1        1" ∷ "H        1        2" ∷ "R        1        5" ∷ [])))

abbrev pub twin : Rule
twin = record { kind = 1; marks = 1 ∷ []; heads = record { kind = 1; marks = 2 ∷ [] } ∷ [] }

pub twins_are_two : (rules_of twins ≡ twin ∷ twin ∷ []) × (rows_of twins ≡ record { kind = 1; fields = table 5 ∷ [] } ∷ [])
unfolding sheet_in taken_text line_in number_in column form_of refusal in_place kind_right marks_right room_for
twins_are_two = (refl, refl)

twin_fires : Fired (twin ∷ twin ∷ []) (record { kind = 1; fields = table 5 ∷ [] } ∷ []) 1
unfolding ℕ_discrete
twin_fires = record { rule = twin; named = refl; on = record { kind = 1; fields = table 5 ∷ [] }; reachable = row (inl refl); fires = (refl, refl) }

-- Both are counted.
pub twins_count_as_two : (c : ℕ) → Count (Fired (rules_of twins) (rows_of twins)) c → c ≡ 2
twins_count_as_two c s =
    let (p, q) = twins_are_two in
    two (rules_of twins) (rows_of twins) p q s
  where
    two : (rules : List Rule) (rows : List Record) → rules ≡ twin ∷ twin ∷ [] → rows ≡ record { kind = 1; fields = table 5 ∷ [] } ∷ []
        → Count (Fired rules rows) c → c ≡ 2
    two rules rows p q s =
        omega (
          arith,
          ap length p,
          fired_below rules rows c s,
          equal_rules_count_as_two rules rows 1 2 c (λ e. omega arith) (rw p refl) (rw (p, q) twin_fires) s,
        )
