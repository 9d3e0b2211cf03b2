-- Laws of twins: two tables whose rows have the same shapes reach the same shapes, fire the same rules and have the same generations. Assumes nothing.
use mathlib.Core.Path.{◌≡◌, refl, sym, ◌∙◌, ap}
use mathlib.Core.Logic.{inl, inr, ◌↔◌}
use mathlib.Core.List.{List, [], ◌∷◌, map}
use Prim.Native.Nat.{ℕ, suc}
use native.Mathlib.Omega.{arith}
use lib.ListN.{length}
use Rattle.patterns.proofs.PatternLaws.{length-pattern}
use Rattle.chase.specs.Lists.{In, All2}
use Rattle.chase.specs.Rules.{Head, Rule}
use Rattle.chase.specs.Value.{Value, Value-discrete, values, generation, deepest}
use Rattle.chase.specs.Making.{Record, Fires, made, fresh_of}
use Rattle.chase.specs.Run.{Reachable, row, made_from}
use Rattle.chase.specs.Shape.{Shape, shape_of, Reached, Fired}
use Rattle.chase.specs.Counting.{Count}
use Rattle.chase.specs.Judge.{Left, Bounded, Unbounded}
use Rattle.chase.proofs.ListLaws.{in_map, map_in}
use Rattle.chase.proofs.CountLaws.{count_iff}
use Rattle.chase.proofs.MakingLaws.{makes_rel}
use Rattle.chase.proofs.ShapeLaws.{fires_shape, made_shape}
use Rattle.chase.proofs.RunLaws.{left_reachable, reachable_left}
use Rattle.chase.proofs.BoundLaws.{TableRows}
use Rattle.chase.proofs.CertificateLaws.{Met, Says, settles, endless}

-- Values of the same generation.
abbrev pub Peers : Value → Value → Type 0
Peers v w = generation v ≡ generation w

peers_zero : (vs ws : List Value) → length vs ≡ length ws → ((v : Value) → In v vs → generation v ≡ 0) → ((w : Value) → In w ws → generation w ≡ 0)
    → All2 Peers vs ws
peers_zero [] [] l p q = tt
peers_zero [] (w ∷ ws) l p q = absurd (omega arith)
peers_zero (v ∷ vs) [] l p q = absurd (omega arith)
peers_zero (v ∷ vs) (w ∷ ws) l p q =
    (p v (inl refl) ∙ sym (q w (inl refl)), peers_zero vs ws (omega arith) (λ u i. p u (inr i)) (λ u i. q u (inr i)))

peers_deepest : (vs ws : List Value) → All2 Peers vs ws → deepest (values vs) ≡ deepest (values ws)
peers_deepest [] [] a = refl
peers_deepest [] (w ∷ ws) a = absurd a
peers_deepest (v ∷ vs) [] a = absurd a
peers_deepest (v ∷ vs) (w ∷ ws) a = omega (arith, a.0, peers_deepest vs ws a.1)

peers_in : (vs ws : List Value) → All2 Peers vs ws → (v : Value) → In v vs → (w : Value) × In w ws × (generation v ≡ generation w)
peers_in [] ws a v i = absurd i
peers_in (u ∷ vs) [] a v i = absurd a
peers_in (u ∷ vs) (w ∷ ws) a v (inl p) = (w, inl refl, ap generation p ∙ a.0)
peers_in (u ∷ vs) (w ∷ ws) a v (inr i) = let s = peers_in vs ws a.1 v i in (s.0, inr s.1, s.2)

-- Records of one shape with the same generations field by field.
pub record Twin (x y : Record) : Type 0 where
  pub shape : shape_of x ≡ shape_of y
  pub generations : All2 Peers x.fields y.fields

pub made_twin : (n : ℕ) (r : Rule) (x y : Record) (h : Head) → In h r.heads → Fires r x → Twin x y → Twin (made n r x h) (made n r y h)
made_twin n r x y h i f t =
    record {
      shape = made_shape n n r x y h i t.shape f;
      generations =
          makes_rel Peers r x.fields y.fields t.generations (fresh_of n) (fresh_of n) (λ m us vs a. ap suc (peers_deepest us vs a)) h.marks;
    }

-- The rows of the one have the shapes of rows of the other.
abbrev pub Matched : List Record → List Record → Type 0
Matched rows others = (x : Record) → In x rows → (y : Record) × In y others × (shape_of x ≡ shape_of y)

-- Rows of one shape are twins.
pub row_twin : (rows others : List Record) → TableRows rows → TableRows others → (x y : Record) → In x rows → In y others → shape_of x ≡ shape_of y → Twin x y
row_twin rows others t u x y i j e =
    record {
      shape = e;
      generations =
          peers_zero x.fields y.fields
          (omega (arith, ap (λ (z : Shape). length z.pattern) e, length-pattern Value-discrete x.fields, length-pattern Value-discrete y.fields))
          (λ v k. t.zero x v i k) (λ v k. u.zero y v j k);
    }

module _ (rules : List Rule) (rows others : List Record) (t : TableRows rows) (u : TableRows others) (match : Matched rows others) where
  pub reachable_twin : {x : Record} → Reachable rules rows x → (y : Record) × Reachable rules others y × Twin x y
  reachable_twin (row {x = x} i) =
      let s = match x i in
      (s.0, row s.1, row_twin rows others t u x s.0 i s.1 s.2)
  reachable_twin (made_from {x = x} n r h e w f i) =
      let s = reachable_twin w in (
        made n r s.0 h,
        made_from n r h e s.1 (fires_shape r x s.0 s.2.shape f) i,
        made_twin n r x s.0 h i f s.2,
      )

  reached_there : (s : Shape) → Reached rules rows s → Reached rules others s
  reached_there s w =
      let p = reachable_twin w.reachable in
      record { on = p.0; reachable = p.1; shape = sym p.2.shape ∙ w.shape }

  fired_there : (n : ℕ) → Fired rules rows n → Fired rules others n
  fired_there n f =
      let p = reachable_twin f.reachable in
      record {
        rule = f.rule;
        named = f.named;
        on = p.0;
        reachable = p.1;
        fires = fires_shape f.rule f.on p.0 p.2.shape f.fires;
      }

  pub left_there : (v : Value) → Left rules rows v → (w : Value) × Left rules others w × (generation v ≡ generation w)
  left_there v l =
      let s = left_reachable rules rows v l in
      let p = reachable_twin s.1 in
      let w = peers_in s.0.fields p.0.fields p.2.generations v s.2 in
      (w.0, reachable_left rules others w.0 p.0 p.1 w.1, w.2)

  bounded_back : (d : ℕ) → Bounded rules others d → Bounded rules rows d
  bounded_back d b v l = let s = left_there v l in omega (arith, s.2, b s.0 s.1)

  unbounded_there : Unbounded rules rows → Unbounded rules others
  unbounded_there u n =
      let s = u n in
      let w = left_there s.0 s.1 in
      (w.0, w.1, omega (arith, s.2, w.2))

  met_there : (d : ℕ) → Met rules rows d → Met rules others d
  met_there d (inl z) = inl z
  met_there d (inr s) = let w = left_there s.0 s.1 in inr (w.0, w.1, sym w.2 ∙ s.2)

-- Two tables with the same set of shapes.
pub record SameShapes (rows others : List Record) : Type 0 where
  pub table : TableRows rows
  pub other : TableRows others
  pub shapes : (s : Shape) → In s (map shape_of rows) ↔ In s (map shape_of others)

pub matched : (rows others : List Record) → ((s : Shape) → In s (map shape_of rows) → In s (map shape_of others)) → Matched rows others
matched rows others f x i =
    let s = map_in shape_of others (shape_of x) (f (shape_of x) (in_map shape_of x rows i)) in
    (s.0, s.1, s.2)

module _ (rules : List Rule) (rows others : List Record) (same : SameShapes rows others) where
  there : Matched rows others
  there = matched rows others (λ s. (same.shapes s).0)

  back : Matched others rows
  back = matched others rows (λ s. (same.shapes s).1)

  pub reached_by_shapes : (s : Shape) → Reached rules rows s ↔ Reached rules others s
  reached_by_shapes s = (
    reached_there rules rows others same.table same.other there s,
    reached_there rules others rows same.other same.table back s,
  )

  pub fired_by_shapes : (n : ℕ) → Fired rules rows n ↔ Fired rules others n
  fired_by_shapes n = (
    fired_there rules rows others same.table same.other there n,
    fired_there rules others rows same.other same.table back n,
  )

  pub reached_count : (n : ℕ) → Count (Reached rules rows) n → Count (Reached rules others) n
  reached_count n = count_iff (Reached rules rows) (Reached rules others) n (λ s. (reached_by_shapes s).0) (λ s. (reached_by_shapes s).1)

  pub fired-count : (n : ℕ) → Count (Fired rules rows) n → Count (Fired rules others) n
  fired-count n = count_iff (Fired rules rows) (Fired rules others) n (λ k. (fired_by_shapes k).0) (λ k. (fired_by_shapes k).1)

  pub bounded_by_shapes : (d : ℕ) → Bounded rules rows d ↔ Bounded rules others d
  bounded_by_shapes d = (
    bounded_back rules others rows same.other same.table back d,
    bounded_back rules rows others same.table same.other there d,
  )

  pub unbounded_by_shapes : Unbounded rules rows ↔ Unbounded rules others
  unbounded_by_shapes = (
    unbounded_there rules rows others same.table same.other there,
    unbounded_there rules others rows same.other same.table back,
  )

  pub says_by_shapes : (c d : ℕ) → Says rules rows c d → Says rules others c d
  says_by_shapes c d (settles e b m) = settles e ((bounded_by_shapes e).0 b) (met_there rules rows others same.table same.other there e m)
  says_by_shapes c d (endless u) = endless (unbounded_by_shapes.0 u)
