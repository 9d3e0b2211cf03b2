-- The contract of carrying out leaves one answer. Assumes nothing.
use mathlib.Core.Path.{◌≡◌, refl, sym, ◌∙◌, subst}
use mathlib.Core.Bool.{false≢true}
use mathlib.Core.List.{List}
use Prim.Native.Nat.{ℕ, ◌+◌, ◌≤◌, ◌<◌}
use native.Mathlib.Omega.{arith}
use lib.ListN.{length}
use Rattle.patterns.specs.Outcome.{good, refused}
use Rattle.columns.specs.Column.{largest_number}
use Rattle.sheet.specs.Line.{Line}
use Rattle.sheet.specs.Write.{sheet_held}
use Rattle.chase.specs.Rules.{rules_of}
use Rattle.chase.specs.Run.{Reachable, rows_of}
use Rattle.chase.specs.Shape.{Reached}
use Rattle.chase.specs.Judge.{Bounded, Unbounded, shape_limit}
use Rattle.chase.specs.Counting.{Count, MoreThan}
use Rattle.chase.proofs.CountLaws.{more_than_count}
use Rattle.chase.proofs.FiniteLaws.{finite_bounded}
use Rattle.carrying.specs.Contract.{record_limit, record_room, Carried, carried, refuses, top, Taken, CarriedOut, Refuses, short, wrong, many_shapes, endless, many_records, large_number, CarryMeets}
use Rattle.carrying.specs.Meaning.{Made}
use Rattle.carrying.proofs.Theorems.{ends_settles, more_records, largest-number}
use Rattle.carrying.proofs.ContractLaws.{one_sheet, carried_one}

module _ (numbers before : List ℕ) where
  -- What rules out what.
  no_short : (ls : List Line) → Taken numbers before ls → length before < record_room → ⊥
  no_short ls t h = omega (arith, t.room, h)

  good_wrong : (ls : List Line) (line : ℕ) → sheet_held numbers ≡ good ls → sheet_held numbers ≡ refused 8 line → ⊥
  good_wrong ls line p q = let e : good ls ≡ refused 8 line = sym p ∙ q in false≢true cc

  no_many : (ls ms : List Line) → Taken numbers before ls → sheet_held numbers ≡ good ms → MoreThan (Reached (rules_of ms) (rows_of ms)) shape_limit → ⊥
  no_many ls ms t q m =
      let more = subst (λ (l : List Line). MoreThan (Reached (rules_of l) (rows_of l)) shape_limit) (one_sheet numbers ms ls q t.sheet) m in
      omega (arith, t.within, more_than_count (Reached (rules_of ls) (rows_of ls)) shape_limit t.shapes more t.counted)

  no_both : (ls ms : List Line) → Taken numbers before ls → Taken numbers before ms → Unbounded (rules_of ls) (rows_of ls)
      → (d : ℕ) → Bounded (rules_of ms) (rows_of ms) d → ⊥
  no_both ls ms t u forever d bound =
      let s = subst (λ (l : List Line). Unbounded (rules_of l) (rows_of l)) (one_sheet numbers ls ms t.sheet u.sheet) forever d in
      omega (arith, s.2, bound s.0 s.1)

  count_bounded : (ls : List Line) (n : ℕ) → Count (Reachable (rules_of ls) (rows_of ls)) n → (d : ℕ) × Bounded (rules_of ls) (rows_of ls) d
  count_bounded ls n c = finite_bounded (rules_of ls) (rows_of ls) c.list c.complete

  no_over : (ls ms : List Line) → Taken numbers before ls → Taken numbers before ms → MoreThan (Reachable (rules_of ls) (rows_of ls)) record_limit
      → (n : ℕ) → Count (Reachable (rules_of ms) (rows_of ms)) n → n ≤ record_limit → ⊥
  no_over ls ms t u m n c h =
      let more = subst (λ (l : List Line). MoreThan (Reachable (rules_of l) (rows_of l)) record_limit) (one_sheet numbers ls ms t.sheet u.sheet) m in
      omega (arith, h, more_than_count (Reachable (rules_of ms) (rows_of ms)) record_limit n more c)

  -- No sheet that is carried out is refused.
  carried_refused : (records firings number line : ℕ) (now : List ℕ) → CarriedOut numbers before records firings now → Refuses numbers before number line → ⊥
  carried_refused records firings number line now c (short h) = no_short c.lines c.taken h
  carried_refused records firings number line now c (wrong l h e) = good_wrong c.lines l c.taken.sheet e
  carried_refused records firings number line now c (many_shapes ls h e m) = no_many c.lines ls c.taken e m
  carried_refused records firings number line now c (endless ls t u) =
      let b = ends_settles c.lines c.visits c.ends in
      no_both ls c.lines t c.taken u b.0 b.1
  carried_refused records firings number line now c (many_records ls t d b m) =
      let more = subst (λ (l : List Line). MoreThan (Reachable (rules_of l) (rows_of l)) record_limit) (one_sheet numbers ls c.lines t.sheet c.taken.sheet) m in
      omega (arith, c.few, c.records_are, more_records c.lines c.visits c.ends record_limit more)
  carried_refused records firings number line now c (large_number ls t n k h fresh made large) =
      let same = one_sheet numbers ls c.lines t.sheet c.taken.sheet in
      let made' = subst (λ (l : List Line). Count (Made (rules_of l) (rows_of l)) fresh) same made in
      let large' = subst (λ (l : List Line). largest_number < top l + fresh) same large in
      omega (arith, large', c.small, largest-number c.lines c.visits c.ends fresh made')

  -- Two refusals are the same.
  wrong_one : (k l : ℕ) → sheet_held numbers ≡ refused 8 k → sheet_held numbers ≡ refused 8 l → k ≡ l
  wrong_one k l p q = let e : refused 8 k ≡ refused 8 l = sym p ∙ q in cc

  abbrev Same : ℕ → ℕ → ℕ → ℕ → Type 0
  Same m k n l = (m ≡ n) × (k ≡ l)

  refused_one : (m k n l : ℕ) → Refuses numbers before m k → Refuses numbers before n l → Same m k n l
  refused_one m k n l (short h) (short g) = (refl, refl)
  refused_one m k n l (short h) (wrong i g e) = absurd (omega arith)
  refused_one m k n l (short h) (many_shapes ls g e q) = absurd (omega arith)
  refused_one m k n l (short h) (endless ls t u) = absurd (no_short ls t h)
  refused_one m k n l (short h) (many_records ls t d b q) = absurd (no_short ls t h)
  refused_one m k n l (short h) (large_number ls t i c g fresh a b) = absurd (no_short ls t h)
  refused_one m k n l (wrong j h p) (short g) = absurd (omega arith)
  refused_one m k n l (wrong j h p) (wrong i g e) = (refl, wrong_one j i p e)
  refused_one m k n l (wrong j h p) (many_shapes ls g e q) = absurd (good_wrong ls j e p)
  refused_one m k n l (wrong j h p) (endless ls t u) = absurd (good_wrong ls j t.sheet p)
  refused_one m k n l (wrong j h p) (many_records ls t d b q) = absurd (good_wrong ls j t.sheet p)
  refused_one m k n l (wrong j h p) (large_number ls t i c g fresh a b) = absurd (good_wrong ls j t.sheet p)
  refused_one m k n l (many_shapes ms h p r) (short g) = absurd (omega arith)
  refused_one m k n l (many_shapes ms h p r) (wrong i g e) = absurd (good_wrong ms i p e)
  refused_one m k n l (many_shapes ms h p r) (many_shapes ls g e q) = (refl, refl)
  refused_one m k n l (many_shapes ms h p r) (endless ls t u) = absurd (no_many ls ms t p r)
  refused_one m k n l (many_shapes ms h p r) (many_records ls t d b q) = absurd (no_many ls ms t p r)
  refused_one m k n l (many_shapes ms h p r) (large_number ls t i c g fresh a b) = absurd (no_many ls ms t p r)
  refused_one m k n l (endless ms s v) (short g) = absurd (no_short ms s g)
  refused_one m k n l (endless ms s v) (wrong i g e) = absurd (good_wrong ms i s.sheet e)
  refused_one m k n l (endless ms s v) (many_shapes ls g e q) = absurd (no_many ms ls s e q)
  refused_one m k n l (endless ms s v) (endless ls t u) = (refl, refl)
  refused_one m k n l (endless ms s v) (many_records ls t d b q) = absurd (no_both ms ls s t v d b)
  refused_one m k n l (endless ms s v) (large_number ls t i c g fresh a b) =
      let bound = count_bounded ls i c in
      absurd (no_both ms ls s t v bound.0 bound.1)
  refused_one m k n l (many_records ms s f v r) (short g) = absurd (no_short ms s g)
  refused_one m k n l (many_records ms s f v r) (wrong i g e) = absurd (good_wrong ms i s.sheet e)
  refused_one m k n l (many_records ms s f v r) (many_shapes ls g e q) = absurd (no_many ms ls s e q)
  refused_one m k n l (many_records ms s f v r) (endless ls t u) = absurd (no_both ls ms t s u f v)
  refused_one m k n l (many_records ms s f v r) (many_records ls t d b q) = (refl, refl)
  refused_one m k n l (many_records ms s f v r) (large_number ls t i c g fresh a b) = absurd (no_over ms ls s t r i c g)
  refused_one m k n l (large_number ms s j x h old y z) (short g) = absurd (no_short ms s g)
  refused_one m k n l (large_number ms s j x h old y z) (wrong i g e) = absurd (good_wrong ms i s.sheet e)
  refused_one m k n l (large_number ms s j x h old y z) (many_shapes ls g e q) = absurd (no_many ms ls s e q)
  refused_one m k n l (large_number ms s j x h old y z) (endless ls t u) =
      let bound = count_bounded ms j x in
      absurd (no_both ls ms t s u bound.0 bound.1)
  refused_one m k n l (large_number ms s j x h old y z) (many_records ls t d b q) = absurd (no_over ls ms t s q j x h)
  refused_one m k n l (large_number ms s j x h old y z) (large_number ls t i c g fresh a b) = (refl, refl)

  -- One answer, and one thing that the lent records then hold.
  pub one_answer : (a b : Carried) (now then : List ℕ) → CarryMeets numbers before a now → CarryMeets numbers before b then → (a ≡ b) × (now ≡ then)
  one_answer (carried m f) (carried n g) now then c d =
      let s = carried_one numbers before m n f g now then c d in
      ((λ i. carried (s.0 i) (s.1 i)), s.2)
  one_answer (carried m f) (refuses n l) now then c d = absurd (carried_refused m f n l now c d.0)
  one_answer (refuses m k) (carried n g) now then c d = absurd (carried_refused n g m k then d c.0)
  one_answer (refuses m k) (refuses n l) now then c d =
      let s = refused_one m k n l c.0 d.0 in
      ((λ i. refuses (s.0 i) (s.1 i)), c.1 ∙ sym d.1)
