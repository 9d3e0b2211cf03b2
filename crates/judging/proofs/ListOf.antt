-- Where the generations are stable along all links, the found shapes with the generations of their fields are a closed list. Assumes nothing.
use mathlib.Core.Path.{◌≡◌, refl, sym, ◌∙◌, ap, subst}
use mathlib.Core.Logic.{inl, inr}
use mathlib.Core.List.{List, [], ◌∷◌, map}
use mathlib.Core.Option.{some, none-ne-some}
use Prim.Native.Nat.{ℕ, zero, suc, ◌+◌, ◌*◌, ◌≤◌, ◌<◌}
use native.Mathlib.Omega.{arith}
use lib.ListN.{length, get_elem?}
use Rattle.chase.specs.Lists.{In, All, All2}
use Rattle.chase.specs.Rules.{Head, Rule, nth}
use Rattle.chase.specs.Making.{Record, Fires, carried_marks, carried_values}
use Rattle.chase.specs.Shape.{Shape}
use Rattle.chase.specs.Simplification.{Applies}
use Rattle.chase.specs.Certificate.{as_record, shape_made, largest, new_generation, Listed, deepest_of, Covers, ClosedList}
use Rattle.chase.proofs.ListLaws.{in_map, map_in, all_in}
use Rattle.chase.proofs.CodedLaws.{carried_values_in, InBody, body_width, code_at, mark_at, codes_made, mark_below, applies_wide, made_width, made_each, own_record, as_record_applies, shape_made-digits}
use Rattle.chase.proofs.StepLaws.{nth_in}
use Rattle.chase.proofs.BoundLaws.{largest-deepest}
use Rattle.rules.specs.Table.{RuleFits}
use Rattle.judging.specs.Inner.Codes.{ShapeFits, shape_from}
use Rattle.judging.specs.Inner.Found.{shape_no, Kept, Whole}
use Rattle.judging.specs.Inner.Nodes.{at, weight, Stable}
use Rattle.judging.specs.Inner.Links.{Link, Begins, carried, new}
use Rattle.judging.proofs.Places.{below, below_in, in_below, nth_below, in_nth}
use Rattle.judging.proofs.LinkLaws.{link-of}
use Rattle.rules.proofs.Sources.{body_place, place_within, no_source, carried_source}
use Rattle.rules.proofs.FirstPlaces.{code_there}

-- The numbers of n nodes, from node a on.
abbrev pub numbers_from : (ℕ → ℕ) → ℕ → ℕ → List ℕ
numbers_from G a zero = []
numbers_from G a (suc n) = G a ∷ numbers_from G (suc a) n

-- The shape at place k with the numbers of its fields, which count from 1.
abbrev pub entry_at : List ℕ → (ℕ → ℕ) → ℕ → Listed
entry_at codes G k = record { shape = shape_no codes k; numbers = numbers_from G (7 * k + 1) (length (shape_no codes k).pattern) }

abbrev pub list_of : List ℕ → List (List ℕ) → ℕ → List Listed
list_of codes generations count = map (entry_at codes (at generations)) (below count)

numbers_from-length : (G : ℕ → ℕ) (a n : ℕ) → length (numbers_from G a n) ≡ n
numbers_from-length G a zero = refl
numbers_from-length G a (suc n) = ap suc (numbers_from-length G (suc a) n)

numbers_from_element : (G : ℕ → ℕ) (a n i x : ℕ) → get_elem? (numbers_from G a n) i ≡ some x → (x ≡ G (a + i)) × (i < n)
numbers_from_element G a zero i x e = absurd (none-ne-some x e)
numbers_from_element G a (suc n) zero x e =
    let q : G a ≡ x = cc in
    let z : a + 0 ≡ a = omega arith in
    (sym q ∙ sym (ap G z), omega arith)
numbers_from_element G a (suc n) (suc i) x e =
    let s = numbers_from_element G (suc a) n i x e in
    let z : suc a + i ≡ a + suc i = omega arith in
    (s.0 ∙ ap G z, omega (arith, s.1))

-- The number of field p of the shape at place k.
numbers_nth : (G : ℕ → ℕ) (k n p x : ℕ) → nth (numbers_from G (7 * k + 1) n) p ≡ some x → x ≡ G (7 * k + p)
numbers_nth G k n zero x e = absurd (none-ne-some x e)
numbers_nth G k n (suc p) x e =
    let z : 7 * k + 1 + p ≡ 7 * k + suc p = omega arith in
    (numbers_from_element G (7 * k + 1) n p x e).0 ∙ ap G z

in_numbers_from : (G : ℕ → ℕ) (a n i : ℕ) → i < n → In (G (a + i)) (numbers_from G a n)
in_numbers_from G a zero i l = absurd (omega arith)
in_numbers_from G a (suc n) zero l = let z : a + 0 ≡ a = omega arith in inl (ap G z)
in_numbers_from G a (suc n) (suc i) l = let z : suc a + i ≡ a + suc i = omega arith in inr (subst (λ (v : ℕ). In (G v) (numbers_from G (suc a) n)) z (in_numbers_from G (suc a) n i (omega arith)))

numbers_from_in : (G : ℕ → ℕ) (a n x : ℕ) → In x (numbers_from G a n) → (i : ℕ) × (i < n) × (x ≡ G (a + i))
numbers_from_in G a n x i =
    let s = in_nth (numbers_from G a n) x i in
    let t = numbers_from_element G a n s.0 x s.1 in
    (s.0, t.1, t.0)

largest_below : (ns : List ℕ) (x : ℕ) → 0 < x → ((n : ℕ) → In n ns → suc n ≤ x) → suc (largest ns) ≤ x
largest_below [] x p h = omega arith
largest_below (n ∷ ns) x p h = omega (arith, h n (inl refl), largest_below ns x p (λ m i. h m (inr i)))

largest-has : (ns : List ℕ) (n : ℕ) → In n ns → n ≤ largest ns
largest-has [] n i = absurd i
largest-has (m ∷ ns) n (inl p) = omega arith
largest-has (m ∷ ns) n (inr i) = omega (arith, largest-has ns n i)

largest_most : (ns : List ℕ) (x : ℕ) → ((n : ℕ) → In n ns → n ≤ x) → largest ns ≤ x
largest_most [] x h = omega arith
largest_most (n ∷ ns) x h = omega (arith, h n (inl refl), largest_most ns x (λ m i. h m (inr i)))

deepest_most : (list : List Listed) (x : ℕ) → ((l : Listed) → In l list → largest l.numbers ≤ x) → deepest_of list ≤ x
deepest_most [] x h = omega arith
deepest_most (l ∷ list) x h = omega (arith, h l (inl refl), deepest_most list x (λ m i. h m (inr i)))

module _ (rules : List Rule) (codes : List ℕ) (count : ℕ) (fit : All RuleFits rules) (G : ℕ → ℕ) (stable : Stable (Link rules codes count) G) where
  -- A rule and an H line by which the shape at place t is made of that at place k.
  module _ (k t n h : ℕ) (r : Rule) (d : Head) (k-below : k < count) (t_below : t < count) (named : nth rules (suc n) ≡ some r)
      (line : nth r.heads (suc h) ≡ some d) (applies : Applies r (shape_no codes k)) (to : shape_from r (shape_no codes k) d ≡ shape_no codes t) where
    fits : RuleFits r
    fits = all_in RuleFits r rules fit (nth_in rules (suc n) r named)

    numbers : List ℕ
    numbers = numbers_from G (7 * k + 1) (length (shape_no codes k).pattern)

    as_long : body_width r ≡ length numbers
    unfolding numbers
    as_long = applies_wide r (shape_no codes k) applies ∙ sym (numbers_from-length G (7 * k + 1) (length (shape_no codes k).pattern))

    -- The number of a mark is that of its place.
    mark_number : (m x : ℕ) → code_at r numbers m ≡ some x → x ≡ G (7 * k + body_place r m)
    unfolding numbers
    mark_number m x e = numbers_nth G k (length (shape_no codes k).pattern) (body_place r m) x (code_there r m numbers x e)

    -- A link raises.
    raises : (j m place fresh : ℕ) → mark_at d (suc j) ≡ some m → Begins r m place fresh
        → G (7 * k + place) + weight (8 * n + 2 * h + fresh) ≤ G (7 * t + suc j)
    unfolding Stable
    raises j m place fresh e b =
        stable (7 * k + place) (7 * t + suc j) (8 * n + 2 * h + fresh) (link-of rules codes count k t n h k-below t_below named line applies to j e b refl refl refl)

    place_small : (m : ℕ) → body_place r m ≤ 6
    place_small m = omega (arith, place_within r m, fits.marks.few)

    carried_raises : (j m x : ℕ) → mark_at d (suc j) ≡ some m → InBody r m → code_at r numbers m ≡ some x → x ≤ G (7 * t + suc j)
    carried_raises j m x e i v = omega (arith, mark_number m x v, raises j m (body_place r m) 0 e (carried i refl refl))

    new_raises : (j m : ℕ) → mark_at d (suc j) ≡ some m → (InBody r m → ⊥) → suc (largest (carried_values r numbers)) ≤ G (7 * t + suc j)
    new_raises j m e i = largest_below (carried_values r numbers) (G (7 * t + suc j)) (some_raise (carried_marks r) refl) each_raise
      where
        each_raise : (x : ℕ) → In x (carried_values r numbers) → suc x ≤ G (7 * t + suc j)
        each_raise x a =
            let c = carried_values_in r numbers x a in
            let l = raises j m (body_place r c.0) 1 e (new i (place_small c.0) (carried_source r c.0 c.1) refl) in
            omega (arith, mark_number c.0 x c.2, l)

        some_raise : (cs : List ℕ) → carried_marks r ≡ cs → 0 < G (7 * t + suc j)
        some_raise [] q = omega (arith, raises j m 0 1 e (new i (omega arith) (no_source r q) refl))
        some_raise (c ∷ cs) q =
            let a : In c (carried_marks r) = subst (λ (l : List ℕ). In c l) (sym q) (inl refl) in
            omega (arith, raises j m (body_place r c) 1 e (new i (place_small c) (carried_source r c a) refl))

    pub numbers_cover : All2 ◌≤◌ (codes_made new_generation r (numbers_from G (7 * k + 1) (length (shape_no codes k).pattern)) d)
        (numbers_from G (7 * t + 1) (length (shape_no codes t).pattern))
    unfolding numbers
    numbers_cover =
        made_each ◌≤◌ new_generation r numbers as_long d (numbers_from G (7 * t + 1) (length (shape_no codes t).pattern))
        (sym (numbers_from-length G (7 * t + 1) (length (shape_no codes t).pattern) ∙ ap (λ (u : Shape). length u.pattern) (sym to) ∙ made_width r (shape_no codes k) d))
        (λ j m x y e q i v. omega (arith, numbers_nth G t (length (shape_no codes t).pattern) (suc j) y q, carried_raises j m x e i v))
        (λ j m y e q i. omega (arith, numbers_nth G t (length (shape_no codes t).pattern) (suc j) y q, new_raises j m e i))

module _ (rules : List Rule) (rows : List Record) (codes index : List ℕ) (ways : List (List ℕ)) (count : ℕ) (generations : List (List ℕ))
    (fit : All RuleFits rules) (kept : Kept rules rows codes index ways count) (whole : Whole rules rows codes count)
    (stable : Stable (Link rules codes count) (at generations)) where
  abbrev entry : ℕ → Listed
  entry k = entry_at codes (at generations) k

  in_list : (k : ℕ) → k < count → In (entry k) (list_of codes generations count)
  in_list k l = in_map entry k (below count) (in_below count k l)

  covers : (k n : ℕ) (r : Rule) (h : Head) → k < count → nth rules n ≡ some r → Fires r (as_record (shape_no codes k)) → In h r.heads
      → Covers (list_of codes generations count) (shape_made r (shape_no codes k) h) (codes_made new_generation r (entry k).numbers h)
  covers k n r h l named f i =
      let a = as_record_applies r (shape_no codes k) f in
      let t = whole.rules-in k n r h l named a i in
      let p = nth_below rules n r named in
      let q = in_nth r.heads h i in
      record {
        entry = entry t.place;
        listed = in_list t.place t.below;
        shape = t.there ∙ sym (shape_made-digits r (shape_no codes k) h i (own_record (shape_no codes k) (kept.fits k l).own));
        above =
            numbers_cover rules codes count fit (at generations) stable k t.place p.0 q.0 r h l t.below (rw p.1 at named) q.1 a
            (sym t.there);
      }

  pub closed_list : ClosedList rules rows (list_of codes generations count)
  closed_list =
      record {
        sized = λ l i.
            let s = map_in entry (below count) l i in
            rw s.2 (numbers_from-length (at generations) (7 * s.0 + 1) (length (shape_no codes s.0).pattern));
        rows_in = λ x i.
            let t = whole.rows_in x i in
            (entry t.place, in_list t.place t.below, t.there);
        closed = λ n r h l named i f j.
            let s = map_in entry (below count) l i in
            subst (λ (l : Listed). Covers (list_of codes generations count) (shape_made r l.shape h) (codes_made new_generation r l.numbers h))
            (sym s.2)
            (covers s.0 n r h (below_in count s.0 s.1) named (subst (λ (l : Listed). Fires r (as_record l.shape)) s.2 f) j);
      }

-- A node that a link leads to is a field of a listed shape.
pub number_listed : (rules : List Rule) (codes : List ℕ) (count : ℕ) (fit : All RuleFits rules) (fits : (k : ℕ) → k < count → ShapeFits (shape_no codes k))
    (generations : List (List ℕ)) (u v code : ℕ) → Link rules codes count u v code → at generations v ≤ deepest_of (list_of codes generations count)
number_listed rules codes count fit fits generations u v code l =
    let a = mark_below l.head l.j l.mark l.to in
    let w = ap (λ (u : Shape). length u.pattern) (sym l.makes) ∙ made_width l.rule (shape_no codes l.s) l.head in
    let b : l.j < length (shape_no codes l.t).pattern = omega arith in
    let i = in_numbers_from (at generations) (7 * l.t + 1) (length (shape_no codes l.t).pattern) l.j b in
    let node : v ≡ 7 * l.t + 1 + l.j = omega (arith, l.to_is) in
    let here = entry_at codes (at generations) l.t in
    omega (
      arith,
      ap (at generations) node,
      largest-has here.numbers (at generations (7 * l.t + 1 + l.j)) i,
      largest-deepest (list_of codes generations count) here
          (in_map (entry_at codes (at generations)) l.t (below count) (in_below count l.t l.t_below)),
    )

-- Every listed number is that of a node.
pub listed_number : (codes : List ℕ) (count : ℕ) (fits : (k : ℕ) → k < count → ShapeFits (shape_no codes k)) (generations : List (List ℕ)) (x : ℕ)
    → ((v : ℕ) → v < 7 * count → at generations v ≤ x) → deepest_of (list_of codes generations count) ≤ x
listed_number codes count fits generations x most = deepest_most (list_of codes generations count) x each
  where
    each : (l : Listed) → In l (list_of codes generations count) → largest l.numbers ≤ x
    each l i =
        let s = map_in (entry_at codes (at generations)) (below count) l i in
        let k : ℕ = s.0 in
        let b : k < count = below_in count k s.1 in
        let w = (fits k b).few in
        rw s.2
        (largest_most (numbers_from (at generations) (7 * k + 1) (length (shape_no codes k).pattern)) x
        (λ n j.
        let t = numbers_from_in (at generations) (7 * k + 1) (length (shape_no codes k).pattern) n j in
        omega (arith, t.2, most (7 * k + 1 + t.0) (omega (arith, t.1)))))
