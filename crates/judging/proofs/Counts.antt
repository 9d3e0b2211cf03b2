-- The shapes that were found are those that are reached, each at one place, and the marked rules are those that fire. Assumes nothing.
use mathlib.Core.Path.{◌≡◌, refl, sym, ◌∙◌, ap, subst}
use mathlib.Core.Bool.{Bool, true, false, cond}
use mathlib.Core.Logic.{inl, inr}
use mathlib.Core.List.{List, [], ◌∷◌, map}
use mathlib.Core.Option.{some}
use Prim.Native.Nat.{ℕ, zero, suc, ◌+◌, ◌<◌}
use native.Mathlib.Omega.{arith}
use lib.ListN.{length, get_or, length-map}
use Rattle.std.proofs.lemmas.Bool.{false≢true}
use Rattle.chase.specs.Lists.{In}
use Rattle.chase.specs.Rules.{Rule, nth}
use Rattle.chase.specs.Making.{Record}
use Rattle.chase.specs.Run.{Reachable, row, made_from}
use Rattle.chase.specs.Shape.{Shape, shape_of, Reached, Fired}
use Rattle.chase.specs.Simplification.{Applies, Derived}
use Rattle.chase.specs.Counting.{NoTwo, Count, MoreThan}
use Rattle.chase.proofs.ListLaws.{in_map, map_in}
use Rattle.chase.proofs.StepLaws.{nth_in}
use Rattle.chase.proofs.CodedLaws.{fires_applies, applies_fires, made-digits, derived_reached, reached_coded}
use Rattle.judging.specs.Inner.Codes.{shape_from}
use Rattle.judging.specs.Inner.Found.{shape_no, Has, Via, via_row, via_rule, Kept, Whole, FiredRules, fired_in}
use Rattle.judging.proofs.FoundLaws.{same_place}
use Rattle.judging.proofs.Places.{below, below_length, below_in, in_below, no_two_below, nth_below}

-- A found shape is reached.
module _ (rules : List Rule) (rows : List Record) (codes index : List ℕ) (ways : List (List ℕ)) (count : ℕ)
    (kept : Kept rules rows codes index ways count) where
  reached_to : (n k : ℕ) → k < n → k < count → Reached rules rows (shape_no codes k)
  reached_to zero k a b = absurd (omega arith)
  reached_to (suc n) k a b = go (get_or ways k []) (kept.via k b) (λ s l. reached_to n s (omega arith) (omega arith))
    where
      go : (way : List ℕ) → Via rules rows codes k way → ((s : ℕ) → s < k → Reached rules rows (shape_no codes s)) → Reached rules rows (shape_no codes k)
      go way (via_row x e named is) ih = record { on = x; reachable = row (nth_in rows (get_or way 1 0) x named); shape = sym is }
      go way (via_rule s r h e l named line applies is) ih =
          subst (Reached rules rows) (sym is) (reached_coded rules rows (shape_no codes s) (get_or way 1 0) (get_or way 2 0) r h named line applies (ih s l))

  pub place_reached : (k : ℕ) → k < count → Reached rules rows (shape_no codes k)
  place_reached k l = reached_to (suc k) k (omega arith) l

-- Every reachable record has a shape that was found.
module _ (rules : List Rule) (rows : List Record) (codes : List ℕ) (count : ℕ) (whole : Whole rules rows codes count) where
  pub reachable_has : {x : Record} → Reachable rules rows x → Has codes count (shape_of x)
  reachable_has (row {x = x} i) = whole.rows_in x i
  reachable_has (made_from {x = x} n r h e w f i) =
      let s = reachable_has w in
      let a : Applies r (shape_no codes s.place) = subst (λ (t : Shape). Applies r t) (sym s.there) (fires_applies r x f) in
      let t = whole.rules-in s.place n r h s.below e a i in
      record {
        place = t.place;
        below = t.below;
        there = t.there ∙ ap (λ (u : Shape). shape_from r u h) s.there ∙ sym (made-digits n r x h i);
      }

-- So the shapes that were found are just those that are reached.
pub shapes_counted : (rules : List Rule) (rows : List Record) (codes index : List ℕ) (ways : List (List ℕ)) (count : ℕ)
    → Kept rules rows codes index ways count → Whole rules rows codes count → Count (Reached rules rows) count
shapes_counted rules rows codes index ways count kept whole =
    record {
      list = map (shape_no codes) (below count);
      different = no_two_below (shape_no codes) count
          (λ i j l m e. let q = same_place kept i j (omega arith) m e in omega arith);
      sound = λ s i.
          let t = map_in (shape_no codes) (below count) s i in
          rw t.2 (place_reached rules rows codes index ways count kept t.0 (below_in count t.0 t.1));
      complete = λ s r.
          let t = reachable_has rules rows codes count whole r.reachable in
          subst (λ (u : Shape). In u (map (shape_no codes) (below count))) (t.there ∙ r.shape)
          (in_map (shape_no codes) t.place (below count) (in_below count t.place t.below));
      size = length-map (below count) (shape_no codes) ∙ below_length count;
    }

-- The numbers of the rules that are marked.
abbrev marked : ℕ → ℕ → List Bool → List ℕ
marked a zero ms = []
marked a (suc n) [] = []
marked a (suc n) (m ∷ ms) = cond m (suc a ∷ marked (suc a) n ms) (marked (suc a) n ms)

marked_length : (a n : ℕ) (ms : List Bool) → length (marked a n ms) ≡ fired_in n ms
marked_length a zero ms = refl
marked_length a (suc n) [] = refl
marked_length a (suc n) (m ∷ ms) = go m (marked_length (suc a) n ms)
  where
    go : (b : Bool) → length (marked (suc a) n ms) ≡ fired_in n ms
        → length (cond b (suc a ∷ marked (suc a) n ms) (marked (suc a) n ms)) ≡ cond b (suc (fired_in n ms)) (fired_in n ms)
    go true ih = ap suc ih
    go false ih = ih

marked_in : (a n : ℕ) (ms : List Bool) (x : ℕ) → In x (marked a n ms) → (j : ℕ) × (x ≡ suc (a + j)) × (get_or ms j false ≡ true)
marked_in a zero ms x i = absurd i
marked_in a (suc n) [] x i = absurd i
marked_in a (suc n) (m ∷ ms) x i = go m refl i (λ j. marked_in (suc a) n ms x j)
  where
    after : (j : ℕ) × (x ≡ suc (suc a + j)) × (get_or ms j false ≡ true) → (j : ℕ) × (x ≡ suc (a + j)) × (get_or (m ∷ ms) j false ≡ true)
    after s = (suc s.0, omega (arith, s.1), s.2)

    go : (b : Bool) → m ≡ b → In x (cond b (suc a ∷ marked (suc a) n ms) (marked (suc a) n ms))
        → (In x (marked (suc a) n ms) → (j : ℕ) × (x ≡ suc (suc a + j)) × (get_or ms j false ≡ true))
        → (j : ℕ) × (x ≡ suc (a + j)) × (get_or (m ∷ ms) j false ≡ true)
    go true q (inl p) ih = (0, omega arith, q)
    go true q (inr i) ih = after (ih i)
    go false q i ih = after (ih i)

in_marked : (a n : ℕ) (ms : List Bool) (j : ℕ) → j < n → get_or ms j false ≡ true → In (suc (a + j)) (marked a n ms)
in_marked a zero ms j l e = absurd (omega arith)
in_marked a (suc n) [] j l e = absurd (false≢true e)
in_marked a (suc n) (m ∷ ms) zero l e = rw e (inl (omega arith))
in_marked a (suc n) (m ∷ ms) (suc j) l e = go m (in_marked (suc a) n ms j (omega arith) e)
  where
    same : suc (a + suc j) ≡ suc (suc a + j)
    same = omega arith

    go : (b : Bool) → In (suc (suc a + j)) (marked (suc a) n ms)
        → In (suc (a + suc j)) (cond b (suc a ∷ marked (suc a) n ms) (marked (suc a) n ms))
    go true ih = inr (subst (λ (v : ℕ). In v (marked (suc a) n ms)) (sym same) ih)
    go false ih = subst (λ (v : ℕ). In v (marked (suc a) n ms)) (sym same) ih

marked_no_two : (a n : ℕ) (ms : List Bool) → NoTwo (marked a n ms)
marked_no_two a zero ms = tt
marked_no_two a (suc n) [] = tt
marked_no_two a (suc n) (m ∷ ms) = go m (marked_no_two (suc a) n ms)
  where
    go : (b : Bool) → NoTwo (marked (suc a) n ms) → NoTwo (cond b (suc a ∷ marked (suc a) n ms) (marked (suc a) n ms))
    go true ih = ((λ i. omega (arith, (marked_in (suc a) n ms (suc a) i).1)), ih)
    go false ih = ih

pub fired-counted : (rules : List Rule) (rows : List Record) (codes index : List ℕ) (ways : List (List ℕ)) (fired : List Bool) (count : ℕ)
    → Kept rules rows codes index ways count → Whole rules rows codes count → FiredRules rules codes fired count
    → Count (Fired rules rows) (fired_in (length rules) fired)
fired-counted rules rows codes index ways fired count kept whole marks =
    record {
      list = marked 0 (length rules) fired;
      different = marked_no_two 0 (length rules) fired;
      sound = sound;
      complete = complete;
      size = marked_length 0 (length rules) fired;
    }
  where
    sound : (n : ℕ) → In n (marked 0 (length rules) fired) → Fired rules rows n
    sound n i =
        let s = marked_in 0 (length rules) fired n i in
        let t = marks.sound s.0 s.2 in
        let r = t.0 in
        let k = t.2.0 in
        let w = place_reached rules rows codes index ways count kept k t.2.1 in
        let is : n ≡ suc s.0 = omega (arith, s.1) in
        record {
          rule = r;
          named = ap (nth rules) is ∙ t.1;
          on = w.on;
          reachable = w.reachable;
          fires = applies_fires r w.on (subst (λ (u : Shape). Applies r u) (sym w.shape) t.2.2);
        }

    complete : (n : ℕ) → Fired rules rows n → In n (marked 0 (length rules) fired)
    complete n f =
        let s = nth_below rules n f.rule f.named in
        let t = reachable_has rules rows codes count whole f.reachable in
        let a : Applies f.rule (shape_no codes t.place) =
        subst (λ (u : Shape). Applies f.rule u) (sym t.there) (fires_applies f.rule f.on f.fires) in
        let is : n ≡ suc (0 + s.0) = omega (arith, s.1) in
        let named : nth rules (suc s.0) ≡ some f.rule = rw s.1 at f.named in
        rw is (in_marked 0 (length rules) fired s.0 s.2 (marks.complete s.0 t.place f.rule named t.below a))

-- More than so many shapes are derived, so more than so many are reached.
pub over : (rules : List Rule) (rows : List Record) (n : ℕ) → MoreThan (Derived rules rows) n → MoreThan (Reached rules rows) n
over rules rows n m =
    record {
      list = m.list;
      different = m.different;
      sound = λ s i. derived_reached rules rows s (m.sound s i);
      size = m.size;
    }
