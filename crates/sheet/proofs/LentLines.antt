-- The line that lent numbers hold: the numbers it uses, and what its tests say of it after the lines before. Assumes nothing.
use mathlib.Core.Path.{◌≡◌, refl, sym, ap, ◌∙◌}
use mathlib.Core.Bool.{true, cond, false≢true, and-eq-true_iff}
use mathlib.Core.List.{List, [], ◌∷◌}
use Prim.Native.Nat.{ℕ, zero, suc, ◌+◌, ◌*◌, ◌/◌, ◌<◌, ◌≤◌}
use native.Mathlib.Numerals.{add-one}
use native.Mathlib.Omega.{arith}
use Rattle.std.proofs.Common.{false, Some, None, Result, Ok, Err, is_err}
use borrow.Author.Tests.{eqb-true}
use lib.Dec.{eqb}
use lib.ListN.{length, get_or, take, drop, length-drop}
use lib.Seq.{take-nil, drop-cons, length-take-le}
use Rattle.std.specs.Simd.{first_chunks}
use Rattle.sheet.specs.Line.{K, Line, form_of, known, in_range, form_of_line, well_formed, lent}
use Rattle.patterns.specs.Outcome.{padded}
use Rattle.sheet.specs.Sheet.{refusal}
use Rattle.sheet.specs.Inner.Promises.{Widths, Keeps, Admits, AdmittedAs, used_of, zeros, ranges_right}
use Rattle.sheet.specs.declared.Form.{Form}
use Rattle.sheet.specs.declared.order.Seen.{Seen}
use Rattle.sheet.specs.declared.order.Fault.{Fault}
use Rattle.sheet.proofs.Lines.{both, drop_twice}
use Rattle.sheet.proofs.OrderLaws.{fault_some}
use Rattle.sheet.proofs.FormLaws.{formed_known, formed_range, formed_few, take-padded}
use Rattle.sheet.proofs.Sheets.{used_all, refusal_passes}

-- The line of which these numbers are lent and `fields` are used.
abbrev pub line_of : ℕ → List ℕ → Line
line_of fields numbers = record { letter = get_or numbers 0 0; kind = get_or numbers 1 0; numbers = take fields (drop 2 numbers) }

-- The lines from line n on.
abbrev pub from : ℕ → List ℕ → List ℕ
from n numbers = drop (8 * n) numbers

-- The lines that are whole, eight numbers each: line n's stand at its place.
chunk_at : (k : ℕ) (xs : List ℕ) (n : ℕ) → n < k → get_or (first_chunks 8 k xs) n [] ≡ take 8 (from n xs)
chunk_at zero xs n h = absurd (omega arith)
chunk_at (suc k) xs zero h = refl
chunk_at (suc k) xs (suc n) h =
    chunk_at k (drop 8 xs) n (omega arith) ∙ ap (λ (ys : List ℕ). take 8 ys) (drop_twice (8 * n) 8 (8 * suc n) xs (omega arith))

pub record Eight (numbers : List ℕ) (n : ℕ) (x : List ℕ) : Type 0 where
  pub room : 8 * n + 8 ≤ length numbers
  pub is : x ≡ take 8 (from n numbers)
  pub size : length x ≡ 8

pub eight_at : (numbers : List ℕ) (whole : List (List ℕ)) → whole ≡ first_chunks 8 (length numbers / 8) numbers → length whole ≡ length numbers / 8
    → (n : ℕ) → n < length whole → Eight numbers n (get_or whole n [])
eight_at numbers whole are count n h =
    let room : 8 * n + 8 ≤ length numbers = omega arith in
    let is : get_or whole n [] ≡ take 8 (from n numbers) = rw are (chunk_at (length numbers / 8) numbers n (omega arith)) in
    record { room = room; is = is; size = rw is (length-take-le 8 (from n numbers) (omega (arith, length-drop (8 * n) numbers))) }

-- The lent numbers are those of a line that goes on from the lines before.
pub record LineAt (before : List Line) (l : Line) (numbers : List ℕ) : Type 0 where
  pub is : numbers ≡ lent l
  pub formed : well_formed l ≡ true
  pub passed : refusal before l ≡ 0

-- The numbers that are used of a line's lent numbers.
pub used-is :
    (before : List Line) (widths : List ℕ) (l : Line) → Widths before widths → well_formed l ≡ true → refusal before l ≡ 0 → used_of widths (lent l) ≡ length l.numbers
used-is before widths l table formed passed =
    ap (λ (w : ℕ). cond (eqb (get_or (lent l) 0 0) K) 1 w) (table.each (get_or (lent l) 1 0)) ∙ used_all before l formed (refusal_passes before l passed)

zeros-padded : (w : ℕ) (ns : List ℕ) → zeros (drop (length ns) (padded w ns)) ≡ true
zeros-padded zero [] = refl
zeros-padded zero (n ∷ ns) = refl
zeros-padded (suc w) [] = zeros-padded w []
zeros-padded (suc w) (n ∷ ns) = zeros-padded w ns

ranges_lent : (l : Line) → well_formed l ≡ true → ranges_right (lent l) (length l.numbers) ≡ true
unfolding lent
ranges_lent l formed =
    let e : drop (length l.numbers + 2) (lent l) ≡ drop (length l.numbers) (padded 6 l.numbers) = sym (drop_twice (length l.numbers) 2 (length l.numbers + 2) (lent l) (omega arith)) in
    both (ap (λ (ns : List ℕ). in_range (l.kind ∷ ns)) (take-padded 6 l.numbers (formed_few l formed)) ∙ formed_range l formed) (ap zeros e ∙ zeros-padded 6 l.numbers)

module _
    (before : List Line) (widths : List ℕ) (table : Widths before widths) (numbers : List ℕ) (fields : ℕ) (used : fields ≡ used_of widths numbers) (l : Line) (a : LineAt before l numbers)
  where
    fields_are : fields ≡ length l.numbers
    fields_are = used ∙ ap (used_of widths) a.is ∙ used-is before widths l table a.formed a.passed

    pub not_too_wide : 6 < fields → ⊥
    not_too_wide h = let e = fields_are in let k = formed_few l a.formed in omega arith

    pub ranges_hold : ranges_right numbers fields ≡ true
    ranges_hold = ap (ranges_right numbers) fields_are ∙ ap (λ (x : List ℕ). ranges_right x (length l.numbers)) a.is ∙ ranges_lent l a.formed

    form_is : form_of (get_or numbers 0 0) (fields + 1) ≡ form_of_line l
    unfolding lent
    form_is =
        ap (λ (k : ℕ). form_of (get_or numbers 0 0) k) (ap (λ (k : ℕ). k + 1) fields_are ∙ add-one (length l.numbers))
        ∙ ap (λ (x : List ℕ). form_of (get_or x 0 0) (suc (length l.numbers))) a.is

    pub not_formless : None ≡ form_of (get_or numbers 0 0) (fields + 1) → ⊥
    not_formless e = false≢true (ap known (e ∙ form_is) ∙ formed_known l a.formed)

    pub not_refused :
        {A : Type 0} (seen : Seen) → Keeps before seen → (form : Form) → Some form ≡ form_of (get_or numbers 0 0) (fields + 1) → (answer : Result A Fault) (next : Seen)
        → Admits seen form numbers answer next → is_err answer ≡ true → ⊥
    not_refused {A = A} seen kept form e answer next admits wrong = go answer (admits.each before l kept (e ∙ form_is) a.is) wrong
      where
        go : (answer : Result A Fault) → AdmittedAs before l answer next → is_err answer ≡ true → ⊥
        go (Ok x) r w = false≢true w
        go (Err fault) r w = fault_some fault (sym r ∙ a.passed)

padded-take : (w f : ℕ) (ns : List ℕ) → length ns ≡ w → zeros (drop f ns) ≡ true → padded w (take f ns) ≡ ns
padded-take zero f [] e z = ap (padded zero) (take-nil f)
padded-take zero f (n ∷ ns) e z = absurd (omega arith)
padded-take (suc w) f [] e z = absurd (omega arith)
padded-take (suc w) zero (n ∷ ns) e z =
    let (p, q) = (and-eq-true_iff (eqb n 0) (zeros ns)).0 z in
    ap (λ (m : ℕ). m ∷ padded w []) (sym (eqb-true n 0 p)) ∙ ap (λ (r : List ℕ). n ∷ r) (padded-take w zero ns (omega arith) q)
padded-take (suc w) (suc f) (n ∷ ns) e z = ap (λ (r : List ℕ). n ∷ r) (padded-take w f ns (omega arith) z)

front_two : (numbers : List ℕ) → length numbers ≡ 8 → numbers ≡ get_or numbers 0 0 ∷ get_or numbers 1 0 ∷ drop 2 numbers
front_two numbers eight = drop-cons numbers 0 0 (omega arith) ∙ ap (λ (r : List ℕ). get_or numbers 0 0 ∷ r) (drop-cons numbers 1 0 (omega arith))

-- A line that is admitted: it goes on from the lines before, and this is kept with it.
pub record GoesOn (before : List Line) (fields : ℕ) (numbers : List ℕ) (seen : Seen) : Type 0 where
  pub line : LineAt before (line_of fields numbers) numbers
  pub kept : Keeps (line_of fields numbers ∷ before) seen
  pub used : length (take fields (drop 2 numbers)) ≡ fields

module _ (before : List Line) (numbers : List ℕ) (eight : length numbers ≡ 8) (fields : ℕ) (few : fields ≤ 6) (right : ranges_right numbers fields ≡ true) where
  line_lent : numbers ≡ lent (line_of fields numbers)
  unfolding lent
  line_lent =
      let e : drop (fields + 2) numbers ≡ drop fields (drop 2 numbers) = sym (drop_twice fields 2 (fields + 2) numbers (omega arith)) in
      let z : zeros (drop fields (drop 2 numbers)) ≡ true =
      ap zeros (sym e) ∙ ((and-eq-true_iff (in_range (take (suc fields) (drop 1 numbers))) (zeros (drop (fields + 2) numbers))).0 right).1 in
      front_two numbers eight
      ∙ ap (λ (r : List ℕ). get_or numbers 0 0 ∷ get_or numbers 1 0 ∷ r) (sym (padded-take 6 fields (drop 2 numbers) (omega (arith, length-drop 2 numbers)) z))

  used_long : length (take fields (drop 2 numbers)) ≡ fields
  used_long = length-take-le fields (drop 2 numbers) (omega (arith, length-drop 2 numbers))

  used_range : in_range (get_or numbers 1 0 ∷ take fields (drop 2 numbers)) ≡ true
  used_range =
      ap in_range (sym (ap (take (suc fields)) (drop-cons numbers 1 0 (omega arith))))
      ∙ ((and-eq-true_iff (in_range (take (suc fields) (drop 1 numbers))) (zeros (drop (fields + 2) numbers))).0 right).0

  pub taken :
      {A : Type 0} (seen : Seen) → Keeps before seen → (form : Form) → Some form ≡ form_of (get_or numbers 0 0) (fields + 1) → (answer : Result A Fault) (next : Seen)
      → Admits seen form numbers answer next → is_err answer ≡ false → GoesOn before fields numbers next
  unfolding well_formed
  taken {A = A} seen kept form e answer next admits right = go answer (admits.each before (line_of fields numbers) kept f line_lent) right
    where
      f : Some form ≡ form_of_line (line_of fields numbers)
      f = e ∙ ap (form_of (get_or numbers 0 0)) (add-one fields ∙ ap suc (sym used_long))

      go : (answer : Result A Fault) → AdmittedAs before (line_of fields numbers) answer next → is_err answer ≡ false → GoesOn before fields numbers next
      go (Ok x) r w = record { line = record { is = line_lent; formed = both (ap known (sym f)) used_range; passed = r.0 }; kept = r.1; used = used_long }
      go (Err fault) r w = absurd (false≢true (sym w))
