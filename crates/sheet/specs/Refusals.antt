-- Why a text or lent lines are refused, said in lines and their renderings alone. No contract cites this: theorems show that it is what the contracts say. Assumes nothing.
use Rattle.std.specs.Prelude.{◌≡◌, true, List, [], ◌∷◌, ◌++◌, reverse, ℕ, suc, ◌<◌, length}
use Rattle.sheet.specs.Line.{B, Line, render, text_of, well_formed, lent, lent_of}
use Rattle.sheet.specs.Sheet.{letter_before, refusal}

-- Lines that are taken after the lines before: each has a text and gets no refusal after those before it.
abbrev pub TakenAfter : List Line → List Line → Type 0
TakenAfter before [] = Unit {0}
TakenAfter before (l ∷ ls) = (well_formed l ≡ true) × (refusal before l ≡ 0) × TakenAfter (l ∷ before) ls

-- What is wrong with the rest of a text after the lines before, the latest first, and the refusal's number: the last rule has no H line; or the rest does not begin with a line in the form; or it begins with a line that gets a refusal.
pub data TextFault (before : List Line) (rest : List ℕ) (number : ℕ) : Type 0 where
  unfinished : rest ≡ [] → letter_before before ≡ B → number ≡ 3 → TextFault before rest number
  formless : (rest ≡ [] → ⊥) → ((l : Line) (more : List ℕ) → well_formed l ≡ true → rest ≡ render l ++ more → ⊥) → number ≡ 2
      → TextFault before rest number
  unfit : (l : Line) (more : List ℕ) → well_formed l ≡ true → rest ≡ render l ++ more → refusal before l ≡ number → 0 < number
      → TextFault before rest number

-- What is wrong with the rest of lent numbers, and the refusal's number: the last rule has no H line; or the rest does not begin with a line that has a text and gets no refusal.
pub data LentFault (before : List Line) (rest : List ℕ) (number : ℕ) : Type 0 where
  unfinished : rest ≡ [] → letter_before before ≡ B → number ≡ 8 → LentFault before rest number
  unfit : (rest ≡ [] → ⊥) → ((l : Line) (more : List ℕ) → well_formed l ≡ true → refusal before l ≡ 0 → rest ≡ lent l ++ more → ⊥) → number ≡ 8
      → LentFault before rest number

-- An input begins with what shows some lines, which are taken; the refusal is that of the rest, and its line is the one after them.
pub record RefusedAt (shown : List Line → List ℕ) (Fault : List Line → List ℕ → ℕ → Type 0) (input : List ℕ) (number line : ℕ) : Type 0 where
  pub lines : List Line
  pub rest : List ℕ
  pub split : input ≡ shown lines ++ rest
  pub taken : TakenAfter [] lines
  pub fault : Fault (reverse lines) rest number
  pub after : line ≡ suc (length lines)

abbrev pub TextRefused : List ℕ → ℕ → ℕ → Type 0
TextRefused text number line = RefusedAt text_of TextFault text number line

abbrev pub LentRefused : List ℕ → ℕ → ℕ → Type 0
LentRefused numbers number line = RefusedAt lent_of LentFault numbers number line
