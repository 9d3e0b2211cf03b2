-- The theorems on what is printed that a reader relies on: it has at most 299,008 bytes, sentences are no refusal's line, and 25 is never printed. Assumes nothing.
use mathlib.Core.Path.{◌≡◌, refl, sym, subst, ap, ◌∙◌}
use mathlib.Core.Bool.{Bool, true, false}
use mathlib.Core.List.{List, [], ◌∷◌, ◌++◌, append_assoc}
use mathlib.Core.Option.{some-injective}
use Prim.Native.Nat.{ℕ, ◌≤◌}
use native.Mathlib.Omega.{arith}
use lib.ListN.{length, get_or, take, drop}
use lib.Seq.{take_at}
use Rattle.columns.specs.Column.{largest_number, column, number_in}
use Rattle.columns.proofs.ColumnLaws.{length-column, number_in-column}
use Rattle.sheet.specs.Line.{columns}
use Rattle.sheet.proofs.Theorems.{read-numbers}
use Rattle.chase.specs.Judge.{shape_limit}
use Rattle.sentences.specs.Sentence.{Said, Told, sentence, text_of}
use Rattle.sentences.specs.Explain.{Explains, Refuses}
use Rattle.sentences.proofs.Sizes.{explained_most, enough_lent}
use Rattle.report.specs.Lines.{line_text}
use Rattle.report.specs.Report.{letter_n, line_limit, refusal_text}
use Rattle.report.proofs.Filling.{length-line_text}
use Rattle.explanation.specs.Explanation.{explanation_limit, Tells, Prints}
use Rattle.explanation.proofs.ExplanationLaws.{refusal-number}

-- What is printed has at most as many bytes as must be lent.
refusal_most : (printed : List ℕ) (number line : ℕ) → printed ≡ refusal_text number line → length printed ≤ explanation_limit
refusal_most printed number line e = omega (arith, ap length e, length-line_text letter_n (number ∷ line ∷ []))

tells_most : (numbers printed : List ℕ) → Tells numbers printed → length printed ≤ explanation_limit
tells_most numbers printed (Tells.sentences e) = explained_most shape_limit numbers printed e
tells_most numbers printed (Tells.unexplained before number line room r e) = refusal_most printed number line e

pub printed_most : (text printed : List ℕ) → Prints text printed → length printed ≤ explanation_limit
printed_most text printed (Prints.unread number line u e) = refusal_most printed number line e
printed_most text printed (Prints.read lines g t) = tells_most _ printed t

-- Sentences begin with R, and a refusal with N; no sentences are no bytes.
first_letter : (in_loop : Bool) (s : Said) (rest : List ℕ) → get_or (sentence in_loop s ++ rest) 0 0 ≡ 82
unfolding sentence
first_letter in_loop s rest = refl

text_no_refusal : (t : Told) (number line : ℕ) → text_of t ≡ refusal_text number line → ⊥
unfolding text_of line_text
text_no_refusal t number line = go t.trail t.loop
  where
    go : (trail loop : List Said) → text_of (record { trail = trail; loop = loop }) ≡ refusal_text number line → ⊥
    go [] [] e = let one : 0 ≡ letter_n = ap (λ (l : List ℕ). get_or l 0 0) e in omega arith
    go [] (s ∷ ss) e = let one = sym (first_letter true s _) ∙ ap (λ (l : List ℕ). get_or l 0 0) e in omega (arith, one)
    go (s ∷ ss) loop e =
        let one = sym (first_letter false s _) ∙ ap (λ (l : List ℕ). get_or l 0 0) (sym (append_assoc (sentence false s) _ _) ∙ e) in
        omega (arith, one)

pub sentences_no_refusal : (limit : ℕ) (numbers printed : List ℕ) → Explains limit numbers printed → (number line : ℕ) → printed ≡ refusal_text number line → ⊥
sentences_no_refusal limit numbers printed x number line e = text_no_refusal _ number line (sym x.text_is ∙ e)

-- An N line has one number.
number_read : (number line : ℕ) → take 9 (drop 1 (refusal_text number line)) ≡ column number
unfolding line_text
number_read number line =
    ap (take 9) (append_assoc (column number) (columns (line ∷ [])) (10 ∷ [])) ∙ take_at (column number) _ 9 (length-column number)

one_number : (n m k l : ℕ) → n ≤ largest_number → m ≤ largest_number → refusal_text n k ≡ refusal_text m l → n ≡ m
one_number n m k l a b e =
    some-injective n m
    (sym (number_in-column n a)
    ∙ ap number_in (sym (number_read n k) ∙ ap (λ (t : List ℕ). take 9 (drop 1 t)) e ∙ number_read m l)
    ∙ number_in-column m b)

-- 25 is never printed: so much is lent that the sentences fit.
tells_no_25 : (numbers printed : List ℕ) (line : ℕ) → Tells numbers printed → printed ≡ refusal_text 25 line → ⊥
tells_no_25 numbers printed line (Tells.sentences x) e = sentences_no_refusal shape_limit numbers printed x 25 line e
tells_no_25 numbers printed line (Tells.unexplained before number k room r is) e =
    let small = refusal-number numbers before number k r in
    let n = one_number number 25 k line (omega arith) (omega arith) (sym is ∙ e) in
    enough_lent shape_limit numbers before room k (subst (λ (m : ℕ). Refuses shape_limit numbers before m k) n r)

pub never_25 : (text printed : List ℕ) (line : ℕ) → Prints text printed → printed ≡ refusal_text 25 line → ⊥
never_25 text printed line (Prints.unread number k u is) e =
    let small = (read-numbers text line_limit number k u).1 in
    omega (arith, one_number number 25 k line (omega arith) (omega arith) (sym is ∙ e))
never_25 text printed line (Prints.read lines g t) e = tells_no_25 _ printed line t e
