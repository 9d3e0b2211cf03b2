-- A rule fires on a record exactly where a homomorphism from its body gives the record, and then what it makes is its head under μ. Assumes nothing.
use mathlib.Core.Path.{◌≡◌, refl, sym, ◌∙◌, ap}
use mathlib.Core.Logic.{◌⊎◌, inl, inr}
use mathlib.Core.List.{List, [], ◌∷◌, map, map-map}
use mathlib.Core.Option.{some}
use Prim.Native.Nat.{ℕ}
use native.Mathlib.Decide.{ℕ_discrete}
use Rattle.patterns.specs.Pattern.{pick}
use Rattle.chase.specs.Lists.{In}
use Rattle.chase.specs.Rules.{Head, Rule, nth}
use Rattle.chase.specs.Value.{Value, table}
use Rattle.chase.specs.Making.{value_of, present, or_else, carried_marks, carried_values, Record, Fires, fresh_of, made}
use Rattle.chase.specs.Homomorphism.{Substitution, image, body, Frontier, frontier?, SameOnFrontier, null, μ}
use Rattle.chase.proofs.ListLaws.{map_same, same_map, nth_one}
use Rattle.chase.proofs.MakingLaws.{no_mark_no_value, in_marks_of, carried_in, in_carried}
use Rattle.chase.proofs.ShapeLaws.{fresh_of_injective}

-- THE FRONTIER

-- The carried marks are the frontier.
pub frontier_carried : (r : Rule) (m : ℕ) → Frontier r m → In m (carried_marks r)
frontier_carried r m f = in_carried r m f.0 f.1

pub carried_frontier : (r : Rule) (m : ℕ) → In m (carried_marks r) → Frontier r m
carried_frontier r m i = carried_in r m i

-- THE HOMOMORPHISM OF A RECORD

-- A mark of a body has the value that the substitution gives it.
value_of-map : (marks : List ℕ) (h : Substitution) (m : ℕ) → In m marks → value_of marks (map h marks) m ≡ some (h m)
value_of-map [] h m i = absurd i
value_of-map (b ∷ bs) h m i = go (ℕ_discrete m b) i (λ j. value_of-map bs h m j)
  where
    go : (p : Dec (m ≡ b)) → (m ≡ b) ⊎ In m bs → (In m bs → value_of bs (map h bs) m ≡ some (h m))
        → pick p (some (h b)) (value_of bs (map h bs) m) ≡ some (h m)
    go (yes p) i ih = ap (λ (m : ℕ). some (h m)) (sym p)
    go (no k) (inl p) ih = absurd (k p)
    go (no k) (inr j) ih = ih j

-- A rule fires on the image of its body.
pub fires_image : (r : Rule) (h : Substitution) → Fires r (image h (body r))
fires_image r h =
    (refl, map_same (value_of r.marks (map h r.marks)) (λ m. some (h m)) r.marks (value_of-map r.marks h) ∙ sym (map-map some h r.marks))

-- The substitution that a record gives: each mark of the body has the value of its field.
abbrev pub given_by : Rule → Record → Substitution
given_by r x m = or_else (table 0) (value_of r.marks x.fields m)

-- The record is its image.
pub image_given : (r : Rule) (x : Record) → Fires r x → x ≡ image (given_by r x) (body r)
image_given r x f =
    let p = f.0 in
    let q = sym (unwrap x.fields) ∙ ap (map (or_else (table 0))) (sym f.1) ∙ map-map (or_else (table 0)) (value_of r.marks x.fields) r.marks in
    λ i. record { kind = p i; fields = q i }
  where
    unwrap : (vs : List Value) → map (or_else (table 0)) (map some vs) ≡ vs
    unwrap [] = refl
    unwrap (v ∷ vs) = ap (λ (l : List Value). v ∷ l) (unwrap vs)

-- No other substitution has this image, but for marks that the body has not.
pub image_determines : (r : Rule) (h g : Substitution) → image h (body r) ≡ image g (body r) → (m : ℕ) → In m r.marks → h m ≡ g m
image_determines r h g e m i = same_map h g r.marks (ap (λ (x : Record). x.fields) e) m i

-- THE RESULT

-- The carried values are those of the frontier.
carried_values-map : (r : Rule) (h : Substitution) → carried_values r (map h r.marks) ≡ map h (carried_marks r)
carried_values-map r h =
    ap present
    (map_same (value_of r.marks (map h r.marks)) (λ m. some (h m)) (carried_marks r)
    (λ m i. value_of-map r.marks h m (carried_in r m i).0)) ∙ go (carried_marks r)
  where
    go : (ms : List ℕ) → present (map (λ m. some (h m)) ms) ≡ map h ms
    go [] = refl
    go (m ∷ ms) = ap (λ (l : List Value). h m ∷ l) (go ms)

module _ (n : ℕ) (r : Rule) (h : Substitution) where
  -- What a rule makes of the image of its body is the image of its head under μ.
  made-image : (a : Head) → In a r.heads → made n r (image h (body r)) a ≡ image (μ n r h) a
  made-image a i =
      let p : map (λ m. or_else (fresh_of n m (carried_values r (map h r.marks))) (value_of r.marks (map h r.marks) m)) a.marks ≡ map (μ n r h) a.marks
      = map_same (λ m. or_else (fresh_of n m (carried_values r (map h r.marks))) (value_of r.marks (map h r.marks) m)) (μ n r h) a.marks
      (λ m j. mark m j (frontier? r m)) in
      λ t. record { kind = a.kind; fields = p t }
    where
      mark : (m : ℕ) → In m a.marks → (d : Dec (Frontier r m))
          → or_else (fresh_of n m (carried_values r (map h r.marks))) (value_of r.marks (map h r.marks) m) ≡ pick d (h m) (null n r h m)
      mark m j (yes s) = ap (or_else (fresh_of n m (carried_values r (map h r.marks)))) (value_of-map r.marks h m s.0)
      mark m j (no k) =
          ap (or_else (fresh_of n m (carried_values r (map h r.marks))))
          (no_mark_no_value r.marks (map h r.marks) m (λ b. k (b, in_marks_of r.heads a m i j)))
          ∙ ap (fresh_of n m) (carried_values-map r h)

  pub made_is_result : (x : Record) → x ≡ image h (body r) → map (made n r x) r.heads ≡ map (image (μ n r h)) r.heads
  made_is_result x e =
      ap (λ (z : Record). map (made n r z) r.heads) e ∙ map_same (made n r (image h (body r))) (image (μ n r h)) r.heads made-image

-- The result depends on the substitution's values on the frontier alone.
module _ (n : ℕ) (r : Rule) (h g : Substitution) (f : SameOnFrontier r h g) where
  null_same : (m : ℕ) → null n r h m ≡ null n r g m
  null_same m = ap (fresh_of n m) (map_same h g (carried_marks r) (λ k i. f k (carried_frontier r k i)))

  μ-same : (m : ℕ) → μ n r h m ≡ μ n r g m
  μ-same m = go (frontier? r m)
    where
      go : (d : Dec (Frontier r m)) → pick d (h m) (null n r h m) ≡ pick d (g m) (null n r g m)
      go (yes i) = f m i
      go (no k) = null_same m

  pub result_same : map (image (μ n r h)) r.heads ≡ map (image (μ n r g)) r.heads
  result_same = map_same (image (μ n r h)) (image (μ n r g)) r.heads (λ a i. same_image a)
    where
      same_image : (a : Head) → image (μ n r h) a ≡ image (μ n r g) a
      same_image a =
          let p = map_same (μ n r h) (μ n r g) a.marks (λ m i. μ-same m) in
          λ t. record { kind = a.kind; fields = p t }

-- A null is fixed by its rule, its mark and the substitution on the frontier.
module _ (rules : List Rule) (n k : ℕ) (r s : Rule) (p : nth rules n ≡ some r) (q : nth rules k ≡ some s) (h g : Substitution) (m l : ℕ) where
  rule_same : n ≡ k → s ≡ r
  rule_same a = sym (nth_one rules n k r s a p q)

  pub null_determines : null n r h m ≡ null k s g l → (n ≡ k) × (m ≡ l) × SameOnFrontier r h g
  null_determines e =
      let (a, b, c) = fresh_of_injective n m k l (map h (carried_marks r)) (map g (carried_marks s)) e in
      let d : map h (carried_marks r) ≡ map g (carried_marks r) = c ∙ ap (λ (t : Rule). map g (carried_marks t)) (rule_same a) in
      (a, b, λ m f. same_map h g (carried_marks r) d m (frontier_carried r m f))

  pub null_determined : n ≡ k → m ≡ l → SameOnFrontier r h g → null n r h m ≡ null k s g l
  null_determined a b f =
      let c = map_same h g (carried_marks r) (λ m i. f m (carried_frontier r m i)) in
      let d : map g (carried_marks r) ≡ map g (carried_marks s) = ap (λ (t : Rule). map g (carried_marks t)) (sym (rule_same a)) in
      λ i. fresh_of (a i) (b i) ((c ∙ d) i)
