-- The way to a found shape: the firings by which the search reached it, from a row, through shapes at rising places. Assumes nothing.
use mathlib.Core.Path.{◌≡◌, refl, sym, ◌∙◌, ap}
use mathlib.Core.Logic.{◌⊎◌, inl, inr}
use mathlib.Core.List.{List, [], ◌∷◌, ◌++◌}
use mathlib.Core.Option.{some}
use Prim.Native.Nat.{ℕ, zero, suc, ◌-◌, ◌≤◌, ◌<◌}
use native.Mathlib.Omega.{arith}
use lib.ListN.{length, get_or, length-append}
use Rattle.chase.specs.Lists.{In}
use Rattle.chase.specs.Rules.{Rule, nth}
use Rattle.chase.specs.Making.{Record}
use Rattle.chase.specs.Shape.{Shape, shape_of}
use Rattle.chase.specs.Counting.{NoTwo}
use Rattle.chase.specs.Steps.{Step, Goes, Reaching}
use Rattle.chase.specs.Certificate.{as_record, shape_after, EachShape, last_shape, shapes_on, WayOn}
use Rattle.chase.proofs.ListLaws.{in_append}
use Rattle.chase.proofs.StepLaws.{last_shape-append}
use Rattle.chase.proofs.CodedLaws.{applies_as_record, after_coded}
use Rattle.judging.specs.Inner.Codes.{shape_from}
use Rattle.judging.specs.Inner.Found.{shape_no, Via, via_row, via_rule, Kept, parent_at, maker_at, h_line_at}
use Rattle.judging.specs.Inner.Written.{reach_step, made_of, way_back, way_to, WayLength}
use Rattle.judging.proofs.Places.{no_two_snoc}
use Rattle.judging.proofs.FoundLaws.{same_place}

-- Steps one after another, shape by shape.
module _ (rules : List Rule) where
  pub each_shape_append : (P : Step → Record → Type 0) (s : Shape) (ss ts : List Step) → EachShape rules P s ss
      → EachShape rules P (last_shape rules s ss) ts → EachShape rules P s (ss ++ ts)
  each_shape_append P s [] ts a b = b
  each_shape_append P s (st ∷ ss) ts a b = (a.0, each_shape_append P (shape_after rules st s) ss ts a.1 b)

  pub shapes_on-append : (s : Shape) (ss ts : List Step) → shapes_on rules s (ss ++ ts) ≡ shapes_on rules s ss ++ shapes_on rules (last_shape rules s ss) ts
  shapes_on-append s [] ts = refl
  shapes_on-append s (st ∷ ss) ts = ap (λ (l : List Shape). s ∷ l) (shapes_on-append (shape_after rules st s) ss ts)

-- The shapes of some steps, with the last one.
abbrev all_shapes : List Rule → Shape → List Step → List Shape
all_shapes rules s ss = shapes_on rules s ss ++ (last_shape rules s ss ∷ [])

all_shapes_snoc : (rules : List Rule) (s : Shape) (ss : List Step) (st : Step)
    → all_shapes rules s (ss ++ (st ∷ [])) ≡ all_shapes rules s ss ++ (shape_after rules st (last_shape rules s ss) ∷ [])
all_shapes_snoc rules s ss st = rw (shapes_on-append rules s ss (st ∷ []), last_shape-append rules s ss (st ∷ []))

pub way_to-length : (ways : List (List ℕ)) (w k : ℕ) → length (way_to ways w k) ≡ w
way_to-length ways zero k = refl
way_to-length ways (suc w) k =
    length-append (way_to ways w (made_of ways k)) (reach_step (maker_at ways k) (h_line_at ways k) ∷ [])
    ∙ omega (arith, way_to-length ways w (made_of ways k))

module _ (rules : List Rule) (rows : List Record) (codes index : List ℕ) (ways : List (List ℕ)) (count : ℕ)
    (kept : Kept rules rows codes index ways count) where
  -- What w firings that lead to the shape at place k are.
  pub record WayFound (w k : ℕ) : Type 0 where
    pub row : Record
    pub named : nth rows (maker_at ways (way_back ways w k)) ≡ some row
    pub reaching : EachShape rules (Reaching rules) (shape_of row) (way_to ways w k)
    pub last : last_shape rules (shape_of row) (way_to ways w k) ≡ shape_no codes k
    pub different : NoTwo (all_shapes rules (shape_of row) (way_to ways w k))
    pub within : (t : Shape) → In t (all_shapes rules (shape_of row) (way_to ways w k)) → (j : ℕ) × (j ≤ k) × (t ≡ shape_no codes j)

  at_row : (k : ℕ) (way : List ℕ) → get_or way 0 0 ≡ 0 → Via rules rows codes k way → (x : Record) × (nth rows (get_or way 1 0) ≡ some x) × (shape_of x ≡ shape_no codes k)
  at_row k way z (via_row x e named is) = (x, named, sym is)
  at_row k way z (via_rule s r h e l named line applies is) = absurd (omega arith)

  -- How the shape at place k is made of the one at place s.
  record MadeFrom (k s m d : ℕ) : Type 0 where
    before : s < k
    goes : Goes rules (reach_step m d) (as_record (shape_no codes s))
    to : shape_from goes.rule (shape_no codes s) goes.head ≡ shape_no codes k

  at_rule : (k : ℕ) (way : List ℕ) → 0 < get_or way 0 0 → Via rules rows codes k way → MadeFrom k (get_or way 0 0 - 1) (get_or way 1 0) (get_or way 2 0)
  at_rule k way z (via_row x e named is) = absurd (omega arith)
  at_rule k way z (via_rule s r h e l named line applies is) =
      let q : get_or way 0 0 - 1 ≡ s = omega arith in
      rw q
      (record {
        before = l;
        goes = record { rule = r; named = named; head = h; line = line; fires = applies_as_record r (shape_no codes s) applies };
        to = sym is;
      })

  module _ (k w : ℕ) (here : k < count) (m : MadeFrom k (made_of ways k) (maker_at ways k) (h_line_at ways k)) (f : WayFound w (made_of ways k)) where
    abbrev ss : List Step
    ss = way_to ways w (made_of ways k)

    abbrev st : Step
    st = reach_step (maker_at ways k) (h_line_at ways k)

    abbrev p : ℕ
    p = made_of ways k

    step_reaching : Reaching rules st (as_record (shape_no codes p))
    step_reaching = record { goes = m.goes; from = refl; to = refl; fresh = refl }

    step_to : shape_after rules st (shape_no codes p) ≡ shape_no codes k
    step_to =
        after_coded rules st (shape_no codes p) m.goes (kept.fits p (omega (arith, m.before))).own ∙ m.to

    step_last : shape_after rules st (last_shape rules (shape_of f.row) ss) ≡ shape_no codes k
    step_last = rw f.last step_to

    step_shapes : all_shapes rules (shape_of f.row) (ss ++ (st ∷ [])) ≡ all_shapes rules (shape_of f.row) ss ++ (shape_no codes k ∷ [])
    step_shapes = all_shapes_snoc rules (shape_of f.row) ss st ∙ ap (λ (t : Shape). all_shapes rules (shape_of f.row) ss ++ (t ∷ [])) step_last

    -- The shape at place k is none of those before.
    step_new : In (shape_no codes k) (all_shapes rules (shape_of f.row) ss) → ⊥
    step_new i =
        let s = f.within (shape_no codes k) i in
        let q = same_place kept k s.0 here (omega (arith, s.1, m.before)) s.2 in
        omega (arith, s.1, m.before)

    step_within : (t : Shape) → In t (all_shapes rules (shape_of f.row) ss ++ (shape_no codes k ∷ [])) → (j : ℕ) × (j ≤ k) × (t ≡ shape_no codes j)
    step_within t i = go (in_append t (all_shapes rules (shape_of f.row) ss) (shape_no codes k ∷ []) i)
      where
        go : In t (all_shapes rules (shape_of f.row) ss) ⊎ In t (shape_no codes k ∷ []) → (j : ℕ) × (j ≤ k) × (t ≡ shape_no codes j)
        go (inl a) =
            let s = f.within t a in
            (s.0, omega (arith, s.1, m.before), s.2)
        go (inr (inl e)) = (k, omega arith, e)
        go (inr (inr a)) = absurd a

    one_more : WayFound (suc w) k
    one_more =
        record {
          row = f.row;
          named = f.named;
          reaching =
              each_shape_append rules (Reaching rules) (shape_of f.row) ss (st ∷ []) f.reaching
              (rw f.last step_reaching, tt);
          last = last_shape-append rules (shape_of f.row) ss (st ∷ []) ∙ step_last;
          different = rw step_shapes (no_two_snoc (all_shapes rules (shape_of f.row) ss) (shape_no codes k) f.different step_new);
          within = rw step_shapes step_within;
        }

  way_found : (w k : ℕ) → k < count → parent_at ways (way_back ways w k) ≡ 0
      → ((j : ℕ) → j < w → 0 < parent_at ways (way_back ways j k)) → WayFound w k
  way_found zero k here z made =
      let s = at_row k (get_or ways k []) z (kept.via k here) in
      record {
        row = s.0;
        named = s.1;
        reaching = tt;
        last = s.2;
        different = ((λ i. i), tt);
        within = λ t i. elim i [ inl e ↦ (k, omega arith, e ∙ s.2) | inr a ↦ absurd a ];
      }
  way_found (suc w) k here z made =
      let m = at_rule k (get_or ways k []) (made 0 (omega arith)) (kept.via k here) in
      one_more k w here m (way_found w (made_of ways k) (omega (arith, m.before)) z (λ j l. made (suc j) (omega arith)))

  -- The way to the shape at place k.
  pub record WayFrom (w k : ℕ) : Type 0 where
    pub row : Record
    pub named : nth rows (maker_at ways (way_back ways w k)) ≡ some row
    pub way : WayOn rules (shape_of row) (way_to ways w k)
    pub last : last_shape rules (shape_of row) (way_to ways w k) ≡ shape_no codes k
    pub size : length (way_to ways w k) ≡ w
    pub short : w ≤ k

  pub way_on : (k w : ℕ) → k < count → WayLength ways k w → WayFrom w k
  way_on k w here l =
      let f = way_found w k here l.row l.made in
      record {
        row = f.row;
        named = f.named;
        way = record { reaching = f.reaching; different = f.different };
        last = f.last;
        size = way_to-length ways w k;
        short = l.short;
      }
