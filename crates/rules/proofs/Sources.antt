-- The first places of marks in a rule's body, and the places that fresh numbers come from: those of the carried marks. Assumes nothing.
use mathlib.Core.Path.{◌≡◌, refl, sym}
use mathlib.Core.Bool.{Bool, true, false, cond, ◌&&◌, false≢true, and-eq-true_iff}
use mathlib.Core.Logic.{◌⊎◌, inl, inr}
use mathlib.Core.List.{List, [], ◌∷◌}
use Prim.Native.Nat.{ℕ, zero, suc, ◌≤◌, ◌<◌}
use native.Mathlib.Decide.{ℕ_discrete}
use native.Mathlib.Omega.{arith}
use lib.Dec.{eqb}
use lib.ListN.{length, get_or}
use borrow.Author.Tests.{eqb-true, eq-eqb, ne_eqb}
use Rattle.patterns.proofs.ListLaws.{in_get_or}
use Rattle.chase.specs.Lists.{In}
use Rattle.chase.specs.Rules.{Rule, marks_of}
use Rattle.chase.specs.Making.{has, carried_marks}
use Rattle.chase.proofs.MakingLaws.{has_in, in_has}
use Rattle.chase.proofs.CodedLaws.{carried_in, in_carried, InBody, body_width}
use Rattle.rules.specs.Table.{later, first_place, is_none, flag, source_at}

-- FIRST PLACES in a list of marks. The first place of a mark is at most the number of marks, and 0 only where the mark is not there.
pub first_within : (m : ℕ) (bs : List ℕ) → first_place m bs ≤ length bs
first_within m [] = omega arith
first_within m (b ∷ bs) = go (eqb m b) (first_place m bs) (first_within m bs)
  where
    go : (t : Bool) (p : ℕ) → p ≤ length bs → cond t 1 (later p) ≤ suc (length bs)
    go true p l = omega arith
    go false zero l = omega arith
    go false (suc p) l = omega arith

pub first_in : (m : ℕ) (bs : List ℕ) → 0 < first_place m bs → In m bs
first_in m [] l = absurd (omega arith)
first_in m (b ∷ bs) l = go (eqb m b) refl (first_place m bs) (λ h. first_in m bs h) l
  where
    go : (t : Bool) → eqb m b ≡ t → (p : ℕ) → (0 < p → In m bs) → 0 < cond t 1 (later p) → In m (b ∷ bs)
    go true q p ih l = inl (eqb-true m b q)
    go false q zero ih l = absurd (omega arith)
    go false q (suc p) ih l = inr (ih (omega arith))

-- That place has the mark.
pub first_at : (m : ℕ) (bs : List ℕ) → In m bs → (i : ℕ) × (first_place m bs ≡ suc i) × (get_or bs i 0 ≡ m)
first_at m [] i = absurd i
first_at m (b ∷ bs) i = go (ℕ_discrete m b) i (λ j. first_at m bs j)
  where
    go : Dec (m ≡ b) → (m ≡ b) ⊎ In m bs → (In m bs → (i : ℕ) × (first_place m bs ≡ suc i) × (get_or bs i 0 ≡ m))
        → (i : ℕ) × (cond (eqb m b) 1 (later (first_place m bs)) ≡ suc i) × (get_or (b ∷ bs) i 0 ≡ m)
    go (yes e) i ih = (0, rw (eq-eqb m b e), sym e)
    go (no h) (inl e) ih = absurd (h e)
    go (no h) (inr j) ih =
        let s = ih j in
        (suc s.0, rw (ne_eqb m b h, s.1), s.2)

pub first_there : (m : ℕ) (bs : List ℕ) → In m bs → 0 < first_place m bs
first_there m bs i = omega (arith, (first_at m bs i).1)

pub first_some : (bs : List ℕ) (i : ℕ) → i < length bs → 0 < first_place (get_or bs i 0) bs
first_some bs i h = first_there (get_or bs i 0) bs (in_get_or bs i 0 h)

first_none : (m : ℕ) (bs : List ℕ) → (In m bs → ⊥) → first_place m bs ≡ 0
first_none m bs d = go (first_place m bs) refl
  where
    go : (k : ℕ) → first_place m bs ≡ k → k ≡ 0
    go zero e = refl
    go (suc k) e = absurd (d (first_in m bs (omega arith)))

-- OF A RULE. The place of a mark in its body, from 1; 0 where the mark does not stand there.
abbrev pub body_place : Rule → ℕ → ℕ
body_place r m = first_place m r.marks

module _ (r : Rule) (m : ℕ) where
  pub place_within : body_place r m ≤ body_width r
  place_within = first_within m r.marks

  pub placed_stands : 0 < body_place r m → InBody r m
  placed_stands h = first_in m r.marks h

  pub stands_placed : InBody r m → 0 < body_place r m
  stands_placed i = first_there m r.marks i

  pub not_placed : (InBody r m → ⊥) → body_place r m ≡ 0
  not_placed d = first_none m r.marks d

-- A place that fresh numbers come from is 0, where nothing is carried, or the first one of a carried mark.
pub data Source (r : Rule) (place : ℕ) : Type 0 where
  nothing : place ≡ 0 → carried_marks r ≡ [] → Source r place
  first : (m : ℕ) → In m (carried_marks r) → place ≡ body_place r m → Source r place

flag_one : (b : Bool) → flag b ≡ 1 → b ≡ true
flag_one true e = refl
flag_one false e = absurd (omega arith)

none_empty : (ms : List ℕ) → is_none ms ≡ true → ms ≡ []
none_empty [] e = refl
none_empty (m ∷ ms) e = absurd (false≢true cc)

pub source_is : (r : Rule) (place : ℕ) → source_at r place ≡ 1 → Source r place
source_is r zero e = nothing refl (none_empty (carried_marks r) (flag_one (is_none (carried_marks r)) e))
source_is r (suc i) e =
    let m : ℕ = get_or r.marks i 0 in
    let s = (and-eq-true_iff (eqb (body_place r m) (suc i)) (has m (marks_of r.heads))).0
    (flag_one (eqb (body_place r m) (suc i) && has m (marks_of r.heads)) e) in
    let q : body_place r m ≡ suc i = eqb-true (body_place r m) (suc i) s.0 in
    first m (in_carried r m (placed_stands r m (omega arith)) (has_in m (marks_of r.heads) s.1)) (sym q)

pub no_source : (r : Rule) → carried_marks r ≡ [] → source_at r 0 ≡ 1
no_source r e = rw e

pub carried_source : (r : Rule) (m : ℕ) → In m (carried_marks r) → source_at r (body_place r m) ≡ 1
carried_source r m i =
    let s = carried_in r m i in
    let f = first_at m r.marks s.0 in
    rw (f.1, f.2, eq-eqb (body_place r m) (suc f.0) f.1, in_has m (marks_of r.heads) s.1)
