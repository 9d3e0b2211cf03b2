-- The declared widths: what a K line's tests say of its kind and its width, and what it adds to them. Assumes nothing.
use mathlib.Core.Path.{◌≡◌, refl, sym, ◌∙◌}
use mathlib.Core.Bool.{Bool, true, false, cond, ◌&&◌, and-eq-true_iff}
use mathlib.Core.List.{List, [], ◌∷◌}
use Prim.Native.Nat.{ℕ, suc, ◌<◌, ◌≤◌}
use native.Mathlib.Omega.{arith}
use borrow.Author.Tests.{eqb-true, eqb-false, eq-eqb, leb-true, ltb-true}
use lib.Dec.{eqb, leb, ltb}
use lib.ListN.{length, get_or, set, length-set}
use lib.Seq.{get_or-set_same, get_or-set_other}
use Rattle.patterns.specs.Outcome.{padded}
use Rattle.sheet.specs.Line.{K, Line, lent}
use Rattle.sheet.specs.Sheet.{kind_before, width_of, kind_right, refusal}
use Rattle.sheet.specs.Inner.Promises.{Widths, declares}
use Rattle.sheet.proofs.Sheets.{refusal_passes}

-- A kind and a width that are right after the kind `last`.
pub record KindDeclared (last kind width : ℕ) : Type 0 where
  pub low : 1 ≤ kind
  pub high : kind ≤ 64
  pub rises : last < kind
  pub some : 1 ≤ width
  pub few : width ≤ 6

declares_is : (last kind width : ℕ) → declares last kind width ≡ true → KindDeclared last kind width
declares_is last kind width e =
    let (a, few) = (and-eq-true_iff (leb 1 kind && leb kind 64 && ltb last kind && leb 1 width) (leb width 6)).0 e in
    let (b, some) = (and-eq-true_iff (leb 1 kind && leb kind 64 && ltb last kind) (leb 1 width)).0 a in
    let (c, rises) = (and-eq-true_iff (leb 1 kind && leb kind 64) (ltb last kind)).0 b in
    let (low, high) = (and-eq-true_iff (leb 1 kind) (leb kind 64)).0 c in
    record {
      low = leb-true 1 kind low;
      high = leb-true kind 64 high;
      rises = ltb-true last kind rises;
      some = leb-true 1 width some;
      few = leb-true width 6 few;
    }

-- They are small.
pub declares_low : (last kind width : ℕ) → declares last kind width ≡ true → (kind < 65) × (width < 256)
declares_low last kind width e =
    let d = declares_is last kind width e in
    let k = d.high in
    let w = d.few in
    (omega arith, omega arith)

-- A K line's kind and width.
pub kind_declared : (before : List Line) (l : Line) → l.letter ≡ K → kind_right before l ≡ true → KindDeclared (kind_before before) l.kind (get_or l.numbers 0 0)
unfolding kind_right
kind_declared before l e right = declares_is (kind_before before) l.kind (get_or l.numbers 0 0) (rw (eq-eqb l.letter K e) at right)

pub kind_width : (before : List Line) (l : Line) → l.letter ≡ K → refusal before l ≡ 0 → (l.kind < 65) × (get_or l.numbers 0 0 ≤ 6)
kind_width before l e passed =
    let d = kind_declared before l e (refusal_passes before l passed).kind in
    let k = d.high in
    (omega arith, d.few)

-- The width of a K line's kind is put at the kind's place.
pub widths-added :
    (before : List Line) (widths : List ℕ) (l : Line) → Widths before widths → eqb l.letter K ≡ true → l.kind < 65 → (w : ℕ) → w ≡ get_or l.numbers 0 0
    → Widths (l ∷ before) (set widths l.kind w)
widths-added before widths l table is low w e =
    record { size = length-set widths l.kind w ∙ table.size; each = λ kind. rw is (go kind (eqb l.kind kind) refl) }
  where
    go : (kind : ℕ) (b : Bool) → eqb l.kind kind ≡ b → get_or (set widths l.kind w) kind 0 ≡ cond b (get_or l.numbers 0 0) (width_of before kind)
    go kind true h =
        let inside : l.kind < length widths = let n = table.size in omega arith in
        rw (← eqb-true l.kind kind h) (get_or-set_same widths l.kind w 0 inside ∙ e)
    go kind false h = get_or-set_other widths l.kind kind w 0 (λ z. eqb-false l.kind kind h (sym z)) ∙ table.each kind

pub first_padded : (w : ℕ) (ns : List ℕ) → get_or (padded (suc w) ns) 0 0 ≡ get_or ns 0 0
first_padded w [] = refl
first_padded w (n ∷ ns) = refl

-- The widths with what a line declares.
abbrev pub declared_in : List ℕ → List ℕ → List ℕ
declared_in widths numbers = cond (eqb (get_or numbers 0 0) K) (set widths (get_or numbers 1 0) (get_or numbers 2 0)) widths

pub widths_more : (before : List Line) (widths : List ℕ) (l : Line) → Widths before widths → refusal before l ≡ 0 → Widths (l ∷ before) (declared_in widths (lent l))
unfolding lent
widths_more before widths l table passed = go (eqb l.letter K) refl
  where
    go :
        (t : Bool) → eqb l.letter K ≡ t
        → Widths (l ∷ before) (cond (eqb l.letter K) (set widths l.kind (get_or (padded 6 l.numbers) 0 0)) widths)
    go true k =
        rw k
        (widths-added before widths l table k (kind_width before l (eqb-true l.letter K k) passed).0 (get_or (padded 6 l.numbers) 0 0)
        (first_padded 5 l.numbers))
    go false k = rw k (record { size = table.size; each = λ kind. rw k (table.each kind) })
