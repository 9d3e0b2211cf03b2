-- The codes at the first places of marks: each is its mark's code, and a rule applies and makes as these places say. Assumes nothing.
use mathlib.Core.Path.{◌≡◌, refl, sym, ◌∙◌, ap}
use mathlib.Core.Bool.{cond}
use mathlib.Core.List.{List, [], ◌∷◌, map}
use mathlib.Core.Option.{Option, none, some, none-ne-some}
use Prim.Native.Nat.{ℕ, zero, suc, ◌-◌, ◌≤◌, ◌<◌}
use native.Mathlib.Decide.{ℕ_discrete}
use native.Mathlib.Omega.{arith}
use lib.Dec.{eqb}
use lib.ListN.{length, get_or, length-map}
use lib.Seq.{ext_get_or}
use borrow.Author.Tests.{eq-eqb, ne_eqb}
use Rattle.patterns.specs.Pattern.{pick}
pub use Rattle.patterns.proofs.ListLaws.{map_at}
use Rattle.chase.specs.Rules.{Head, Rule, nth}
use Rattle.chase.specs.Making.{value_of, Agree, or_else, carried_values}
use Rattle.chase.specs.Shape.{Shape}
use Rattle.chase.specs.Simplification.{Applies}
use Rattle.chase.proofs.ListLaws.{map_same}
use Rattle.chase.proofs.CodedLaws.{body_width, code_at, codes_made, OneToOne, applies_coded}
use Rattle.rules.specs.Table.{later, first_place}
use Rattle.rules.proofs.Sources.{first_some, body_place}

-- FIRST PLACES in a list of marks. The field at a mark's first place is the mark's value.
first_value : {A : Type 0} (m : ℕ) (bs : List ℕ) (xs : List A) (x : A) → value_of bs xs m ≡ some x → nth xs (first_place m bs) ≡ some x
first_value m [] xs x e = absurd (none-ne-some x e)
first_value m (b ∷ bs) [] x e = absurd (none-ne-some x e)
first_value {A = A} m (b ∷ bs) (y ∷ xs) x e = go (ℕ_discrete m b) e (λ q. first_value m bs xs x q)
  where
    after : (p : ℕ) → nth xs p ≡ some x → nth (y ∷ xs) (later p) ≡ some x
    after zero q = absurd (none-ne-some x q)
    after (suc p) q = q

    go : (d : Dec (m ≡ b)) → pick d (some y) (value_of bs xs m) ≡ some x → (value_of bs xs m ≡ some x → nth xs (first_place m bs) ≡ some x)
        → nth (y ∷ xs) (cond (eqb m b) 1 (later (first_place m bs))) ≡ some x
    go (yes p) e ih = rw (eq-eqb m b p) e
    go (no h) e ih = rw (ne_eqb m b h) (after (first_place m bs) (ih e))

-- The value at a place, from 1.
abbrev pub at_place : {A : Type 0} → List A → A → ℕ → Option A
at_place fields d zero = none
at_place fields d (suc k) = some (get_or fields k d)

at_later : {A : Type 0} (x : A) (fields : List A) (d : A) (n : ℕ) → at_place fields d n ≡ at_place (x ∷ fields) d (later n)
at_later x fields d zero = refl
at_later x fields d (suc k) = refl

at_some : {A : Type 0} (fields : List A) (d : A) (n : ℕ) → 1 ≤ n → at_place fields d n ≡ some (get_or fields (n - 1) d)
at_some fields d zero h = absurd (omega arith)
at_some fields d (suc k) h = ap (λ (n : ℕ). some (get_or fields n d)) (omega arith)

pub value_first : {A : Type 0} (marks : List ℕ) (fields : List A) (d : A) (m : ℕ) → length marks ≡ length fields
    → value_of marks fields m ≡ at_place fields d (first_place m marks)
value_first [] fields d m e = refl
value_first (b ∷ bs) [] d m e = absurd (omega arith)
value_first (b ∷ bs) (x ∷ xs) d m e = go (ℕ_discrete m b) (value_first bs xs d m (omega arith))
  where
    go : (p : Dec (m ≡ b)) → value_of bs xs m ≡ at_place xs d (first_place m bs)
        → pick p (some x) (value_of bs xs m) ≡ at_place (x ∷ xs) d (cond (eqb m b) 1 (later (first_place m bs)))
    go (yes p) ih = rw (eq-eqb m b p)
    go (no h) ih = rw (ne_eqb m b h) (ih ∙ at_later x xs d (first_place m bs))

-- The field of a mark's first place.
abbrev pub first_field : List ℕ → ℕ → ℕ
first_field marks i = first_place (get_or marks i 0) marks - 1

-- OF A RULE. The first place of a mark has the mark's code.
module _ (r : Rule) (m : ℕ) where
  pub code_there : {A : Type 0} (xs : List A) (x : A) → code_at r xs m ≡ some x → nth xs (body_place r m) ≡ some x
  code_there xs x e = first_value m r.marks xs x e

  pub code_place : {A : Type 0} (xs : List A) (d : A) → body_width r ≡ length xs → code_at r xs m ≡ at_place xs d (body_place r m)
  code_place xs d wide = value_first r.marks xs d m wide

-- A rule applies where each code is equal to that of its mark's first place.
module _ {A : Type 0} (marks : List ℕ) (xs : List A) (d : A) (same : length marks ≡ length xs) where
  value-at : (i : ℕ) → i < length marks → value_of marks xs (get_or marks i 0) ≡ some (get_or xs (first_field marks i) d)
  value-at i h = value_first marks xs d (get_or marks i 0) same ∙ at_some xs d (first_place (get_or marks i 0) marks) (first_some marks i h)

  pub agree_at : Agree marks xs → (i : ℕ) → i < length marks → get_or xs i d ≡ get_or xs (first_field marks i) d
  agree_at a i h =
      let u = map_at (value_of marks xs) marks i 0 none h in
      let v = map_at (λ (x : A). some x) xs i d none (omega arith) in
      let w = value-at i h in
      let z = ap (λ (l : List (Option A)). get_or l i none) a in
      cc

  pub at_agree : ((i : ℕ) → i < length marks → get_or xs i d ≡ get_or xs (first_field marks i) d) → Agree marks xs
  at_agree f =
      let l = length-map marks (value_of marks xs) in
      ext_get_or none (map (value_of marks xs) marks) (map some xs) (l ∙ same ∙ sym (length-map xs (λ (x : A). some x)))
      (λ i h.
      let k : i < length marks = omega arith in
      map_at (value_of marks xs) marks i 0 none k ∙ value-at i k ∙ ap some (sym (f i k)) ∙ sym (map_at (λ (x : A). some x) xs i d none (omega arith)))

module _ {A : Type 0} (f : A → ℕ) (r : Rule) (s : Shape) (xs : List A) (d : A) (is : map f xs ≡ s.pattern) (one : OneToOne f xs)
    (wide : body_width r ≡ length xs) where
  pub applies_places : Applies r s → (i : ℕ) → i < body_width r → get_or xs i d ≡ get_or xs (first_field r.marks i) d
  applies_places a i h = agree_at r.marks xs d wide ((applies_coded f r s xs is one).0 a).1 i h

  pub places_apply : s.kind ≡ r.kind → ((i : ℕ) → i < body_width r → get_or xs i d ≡ get_or xs (first_field r.marks i) d) → Applies r s
  places_apply k e = (applies_coded f r s xs is one).1 (k, at_agree r.marks xs d wide e)

-- What an H line makes of codes, by the first places of its marks.
pub made-places : {A : Type 0} (new : ℕ → List A → A) (r : Rule) (xs : List A) (d : A) (h : Head) → body_width r ≡ length xs
    → codes_made new r xs h ≡ map (λ m. or_else (new m (carried_values r xs)) (at_place xs d (body_place r m))) h.marks
made-places new r xs d h wide =
    map_same (λ m. or_else (new m (carried_values r xs)) (code_at r xs m)) (λ m. or_else (new m (carried_values r xs)) (at_place xs d (body_place r m))) h.marks
    (λ m i. ap (or_else (new m (carried_values r xs))) (code_place r m xs d wide))
