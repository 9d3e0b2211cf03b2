-- What a form says of a letter, of a column count, of a line in the form and of its lent numbers. Assumes nothing.
use mathlib.Core.Path.{◌≡◌, refl, sym, subst, ap, ◌∙◌}
use mathlib.Core.Logic.{◌⊎◌, inl, inr, ⊎_elim}
use mathlib.Core.Bool.{Bool, true, false, cond, false≢true, and-eq-true_iff}
use mathlib.Core.List.{List, [], ◌∷◌}
use Prim.Native.Nat.{ℕ, zero, suc, ◌-◌, ◌≤◌, ◌<◌}
use native.Mathlib.Omega.{arith}
use borrow.Author.Tests.{eqb-true, leb-true}
use lib.Dec.{eqb, leb}
use lib.ListN.{length, get_or, take, drop}
use Rattle.std.proofs.Common.{Option, Some, None}
use Rattle.patterns.specs.Outcome.{Outcome, good, refused, padded}
use Rattle.sheet.specs.Line.{K, B, H, R, Line, form_says, known, with_fields, form_of, form_of_line, in_range, well_formed, lent}
use Rattle.sheet.specs.Inner.Promises.{FieldsFit}
use Rattle.sheet.specs.declared.Form.{Form}
use Rattle.sheet.specs.declared.Form.TheVariants.{Kind, Body, Head, Row}

-- A letter and a column count: that letter, a kind and n fields.
pub record Fielded (expected n found c : ℕ) : Type 0 where
  pub letter : found ≡ expected
  pub columns : c ≡ suc n
  pub some : 1 ≤ n
  pub few : n ≤ 6

-- The letter and the number of fields of a form.
abbrev pub letter_of : Form → ℕ
letter_of Kind = K
letter_of (Body n) = B
letter_of (Head n) = H
letter_of (Row n) = R

abbrev pub fields_of : Form → ℕ
fields_of Kind = 1
fields_of (Body n) = n
fields_of (Head n) = n
fields_of (Row n) = n

abbrev pub FormSays : Option Form → ℕ → ℕ → Type 0
FormSays None letter c = Unit {0}
FormSays (Some f) letter c = Fielded (letter_of f) (fields_of f) letter c

-- Forms of which the same is said are the same.
form_said : Outcome (ℕ × ℕ) → Option Form
form_said (good (letter, n)) = Some (cond (eqb letter K) Kind (cond (eqb letter B) (Body n) (cond (eqb letter H) (Head n) (Row n))))
form_said (refused number line) = None

said_back : (f : Option Form) → form_said (form_says f) ≡ f
unfolding form_said
said_back (Some Kind) = refl
said_back (Some (Body n)) = refl
said_back (Some (Head n)) = refl
said_back (Some (Row n)) = refl
said_back None = refl

pub form_says_one_to_one : (f g : Option Form) → form_says f ≡ form_says g → f ≡ g
form_says_one_to_one f g e = sym (said_back f) ∙ ap form_said e ∙ said_back g

-- What holds of both arms holds of the chosen one.
pub chosen : (P : Option Form → Type 0) (b : Bool) (x y : Option Form) → (b ≡ true → P x) → (b ≡ false → P y) → P (cond b x y)
chosen P true x y f g = f refl
chosen P false x y f g = g refl

fields_say : (expected letter c : ℕ) (form : ℕ → Form) → letter ≡ expected
    → ((n : ℕ) → Fielded expected n letter c → FormSays (Some (form n)) letter c) → FormSays (with_fields c form) letter c
fields_say expected letter c form same says =
    let P : Option Form → Type 0 = λ f. FormSays f letter c in
    chosen P (leb 2 c) _ None
    (λ low.
    chosen P (leb c 7) (Some (form (c - 1))) None
    (λ high.
    let h : 2 ≤ c = leb-true 2 c low in
    let k : c ≤ 7 = leb-true c 7 high in
    says (c - 1) (record { letter = same; columns = omega arith; some = omega arith; few = omega arith }))
    (λ _. tt))
    (λ _. tt)

-- What the form of a letter and a column count says of them.
pub form-says : (letter c : ℕ) → FormSays (form_of letter c) letter c
unfolding form_of
form-says letter c =
    let P : Option Form → Type 0 = λ f. FormSays f letter c in
    chosen P (eqb letter K) _ _
    (λ k.
    chosen P (eqb c 2) (Some Kind) None
    (λ e. record { letter = eqb-true letter K k; columns = eqb-true c 2 e; some = omega arith; few = omega arith })
    (λ _. tt))
    (λ _.
    chosen P (eqb letter B) _ _ (λ k. fields_say B letter c Body (eqb-true letter B k) (λ n f. f))
    (λ _.
    chosen P (eqb letter H) _ _ (λ k. fields_say H letter c Head (eqb-true letter H k) (λ n f. f))
    (λ _.
    chosen P (eqb letter R) _ None (λ k. fields_say R letter c Row (eqb-true letter R k) (λ n f. f))
    (λ _. tt))))

-- The form that a letter and a column count have.
pub form_known : (o : Option Form) → known o ≡ true → (f : Form) × (o ≡ Some f)
form_known (Some f) e = (f, refl)
form_known None e = absurd (false≢true e)

pub form_fields : (f : Form) (letter c : ℕ) → form_of letter c ≡ Some f → Fielded (letter_of f) (fields_of f) letter c
form_fields f letter c e = subst (λ (o : Option Form). FormSays o letter c) e (form-says letter c)

-- A form of a line has two to seven columns.
pub known_columns : (letter c : ℕ) → known (form_of letter c) ≡ true → (2 ≤ c) × (c ≤ 7)
known_columns letter c k =
    let (f, e) = form_known (form_of letter c) k in
    let s = form_fields f letter c e in
    let count = s.columns in
    let low = s.some in
    let high = s.few in
    (omega arith, omega arith)

said_fit : (f : Form) (letter c : ℕ) → Fielded (letter_of f) (fields_of f) letter c → FieldsFit f
said_fit Kind letter c s = tt
said_fit (Body n) letter c s = s.few
said_fit (Head n) letter c s = s.few
said_fit (Row n) letter c s = tt

pub fields_fit : (f : Form) (letter c : ℕ) → form_of letter c ≡ Some f → FieldsFit f
fields_fit f letter c e = said_fit f letter c (form_fields f letter c e)

-- A line in the form.

pub formed_known : (l : Line) → well_formed l ≡ true → known (form_of_line l) ≡ true
unfolding well_formed
formed_known l e = ((and-eq-true_iff (known (form_of_line l)) (in_range (l.kind ∷ l.numbers))).0 e).0

pub formed_range : (l : Line) → well_formed l ≡ true → in_range (l.kind ∷ l.numbers) ≡ true
unfolding well_formed
formed_range l e = ((and-eq-true_iff (known (form_of_line l)) (in_range (l.kind ∷ l.numbers))).0 e).1

-- What its form says of a line's letter and numbers.
form_is_said : (l : Line) → well_formed l ≡ true → (f : Form) × Fielded (letter_of f) (fields_of f) l.letter (suc (length l.numbers))
form_is_said l e =
    let (f, is) = form_known (form_of_line l) (formed_known l e) in (f, form_fields f l.letter (suc (length l.numbers)) is)

pub formed_few : (l : Line) → well_formed l ≡ true → length l.numbers ≤ 6
formed_few l e = let (f, s) = form_is_said l e in let few = s.few in let c = s.columns in omega arith

letter_is : (f : Form) (letter : ℕ) → letter ≡ letter_of f → (letter ≡ K) ⊎ ((letter ≡ B) ⊎ ((letter ≡ H) ⊎ (letter ≡ R)))
letter_is Kind letter e = inl e
letter_is (Body n) letter e = inr (inl e)
letter_is (Head n) letter e = inr (inr (inl e))
letter_is (Row n) letter e = inr (inr (inr e))

-- A line's letter is one of the four.
pub letter_cases : (l : Line) → well_formed l ≡ true → (l.letter ≡ K) ⊎ ((l.letter ≡ B) ⊎ ((l.letter ≡ H) ⊎ (l.letter ≡ R)))
letter_cases l e = let (f, s) = form_is_said l e in letter_is f l.letter s.letter

one_field : (f : Form) → letter_of f ≡ K → fields_of f ≡ 1
one_field Kind e = refl
one_field (Body n) e = absurd (omega arith)
one_field (Head n) e = absurd (omega arith)
one_field (Row n) e = absurd (omega arith)

-- A K line has one number, its width.
pub formed_K : (l : Line) → well_formed l ≡ true → l.letter ≡ K → length l.numbers ≡ 1
formed_K l e k =
    let (f, s) = form_is_said l e in
    let one = one_field f (sym s.letter ∙ k) in
    let c = s.columns in
    omega arith

pub letter_small : (l : Line) → well_formed l ≡ true → l.letter < 256
letter_small l formed =
    ⊎_elim (λ e. omega arith) (⊎_elim (λ e. omega arith) (⊎_elim (λ e. omega arith) (λ e. omega arith)))
    (letter_cases l formed)

pub take-padded : (w : ℕ) (ns : List ℕ) → length ns ≤ w → take (length ns) (padded w ns) ≡ ns
take-padded zero [] h = refl
take-padded zero (n ∷ ns) h = let z : ⊥ = omega arith in absurd z
take-padded (suc w) [] h = refl
take-padded (suc w) (n ∷ ns) h = ap (λ (l : List ℕ). n ∷ l) (take-padded w ns (omega arith))

-- The fields that lent numbers show, and the line, where it has this form.
abbrev pub shown_fields : Form → List ℕ → List ℕ
shown_fields f numbers = take (fields_of f) (drop 2 numbers)

abbrev pub shown_line : Form → List ℕ → Line
shown_line f numbers = record { letter = letter_of f; kind = get_or numbers 1 0; numbers = shown_fields f numbers }

pub record Shown (f : Form) (numbers : List ℕ) (l : Line) : Type 0 where
  pub line : l ≡ shown_line f numbers
  pub size : length (shown_fields f numbers) ≡ fields_of f
  pub some : 1 ≤ fields_of f

-- A line of a form is the one that its lent numbers show.
pub line_shown : (f : Form) (l : Line) (numbers : List ℕ) → Some f ≡ form_of_line l → numbers ≡ lent l → Shown f numbers l
unfolding lent
line_shown f l numbers form e =
    let says : Fielded (letter_of f) (fields_of f) l.letter (suc (length l.numbers)) = form_fields f l.letter (suc (length l.numbers)) (sym form) in
    let size : length l.numbers ≡ fields_of f = let h = says.columns in omega arith in
    let same : shown_fields f numbers ≡ l.numbers = rw (e, ← size) (take-padded 6 l.numbers (let h = says.few in omega arith)) in
    let kinds : l.kind ≡ get_or numbers 1 0 = rw e in
    record {
      line = λ i. record { letter = says.letter i; kind = kinds i; numbers = sym same i };
      size = ap length same ∙ size;
      some = says.some;
    }
