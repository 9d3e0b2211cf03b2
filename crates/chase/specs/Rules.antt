-- The sheet that lines are: its rules and its rows. (Kind, mark and rule are predicate, variable and linear TGD in the literature.) Assumes nothing.
use Rattle.std.specs.Prelude.{cond, List, [], ◌∷◌, ◌++◌, ℕ, zero, suc, eqb}
use Rattle.std.proofs.Math.Option.{Option, none, some}
use Rattle.std.proofs.Math.ListN.{get_elem?}
use Rattle.sheet.specs.Line.{B, H, R, Line}

-- A record that a rule makes, as its H line says.
pub record Head : Type 0 where
  pub kind : ℕ
  pub marks : List ℕ

-- A rule: the kind and the marks of its B line, and its H lines.
pub record Rule : Type 0 where
  pub kind : ℕ
  pub marks : List ℕ
  pub heads : List Head

-- The H lines at the front of some lines.
abbrev pub heads_of : List Line → List Head
heads_of [] = []
heads_of (l ∷ ls) = cond (eqb l.letter H) (record { kind = l.kind; marks = l.numbers } ∷ heads_of ls) []

-- The rules in sheet order. Equal rules are two rules.
abbrev pub rules_of : List Line → List Rule
rules_of [] = []
rules_of (l ∷ ls) =
    cond (eqb l.letter B) (record { kind = l.kind; marks = l.numbers; heads = heads_of ls } ∷ rules_of ls) (rules_of ls)

-- The R lines in sheet order.
abbrev pub row_lines : List Line → List Line
row_lines [] = []
row_lines (l ∷ ls) = cond (eqb l.letter R) (l ∷ row_lines ls) (row_lines ls)

-- The marks of all H lines of a rule.
abbrev pub marks_of : List Head → List ℕ
marks_of [] = []
marks_of (h ∷ hs) = h.marks ++ marks_of hs

-- Rules, H lines and rows count from 1.
abbrev pub nth : {A : Type 0} → List A → ℕ → Option A
nth xs zero = none
nth xs (suc n) = get_elem? xs n
