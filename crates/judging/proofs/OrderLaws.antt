-- The walk that finds the order of the sweeps: what it keeps, and one law for each event. Assumes nothing.
use mathlib.Core.Path.{◌≡◌, refl, sym, subst, ap, ◌∙◌}
use mathlib.Core.Bool.{Bool, true, false, cond, false≢true}
use mathlib.Core.List.{List, ◌++◌}
use mathlib.Core.Logic.{◌⊎◌, inl, inr, ⊎_elim, by_cases}
use Prim.Native.Nat.{ℕ, zero, suc, ◌+◌, ◌-◌, ◌≤◌, ◌<◌}
use native.Mathlib.Omega.{arith}
use native.Mathlib.Decide.{ℕ_discrete}
use lib.ListN.{length, get_or, set, replicate, length-set, length-append, get_or-append}
use lib.Seq.{get_or-set_same, get_or-set_other}
use Rattle.judging.specs.Inner.Passes.{sum_to}
use Rattle.judging.specs.Inner.Order.{Stands, Ordered}
use Rattle.judging.proofs.NodeLaws.{Change, sum_change, sum_low}

-- How many of the first `count` shapes are marked.
unfoldable pub marked : ℕ → List Bool → ℕ
marked count marks = sum_to count (λ x. cond (get_or marks x false) 1 0)

-- The shapes below r are marked. A marked shape stands on the stack, below `depth`, or in the order, from `left` on.
pub record Walk (count r : ℕ) (order : List ℕ) (marks : List Bool) (stack : List ℕ) (left depth : ℕ) : Type 0 where
  pub few : count ≤ 512
  pub size_order : length order ≡ 512
  pub size_marks : length marks ≡ 512
  pub size_stack : length stack ≡ 512
  pub within : left ≤ count
  pub room : depth + count ≤ left + marked count marks
  pub places : (i : ℕ) → i < count → get_or order i 0 < count
  pub stacked : (i : ℕ) → i < depth → get_or stack i 0 < count
  pub passed : (x : ℕ) → x < r → get_or marks x false ≡ true
  pub held : (x : ℕ) → x < count → get_or marks x false ≡ true → Stands stack 0 depth x ⊎ Stands order left count x

one_most : (b : Bool) → cond b 1 0 ≤ 1
one_most true = omega arith
one_most false = omega arith

marked_few : (count : ℕ) (marks : List Bool) → marked count marks ≤ count
unfolding marked
marked_few count marks = omega (arith, sum_low count 1 (λ x. cond (get_or marks x false) 1 0) (λ x. one_most (get_or marks x false)))

mark_change : (marks : List Bool) (v : ℕ) → v < length marks → Change (λ x. cond (get_or marks x false) 1 0) (λ x. cond (get_or (set marks v true) x false) 1 0) v 1
mark_change marks v low =
    record {
      same = ap (λ b. cond b 1 0) (get_or-set_same marks v true false low);
      other = λ x d. ap (λ b. cond b 1 0) (get_or-set_other marks v x true false d);
    }

marked_more : (count : ℕ) (marks : List Bool) (t : ℕ) → t < length marks → t < count → get_or marks t false ≡ false
    → marked count (set marks t true) ≡ marked count marks + 1
unfolding marked
marked_more count marks t low below z =
    let none : cond {A = ℕ} (get_or marks t false) 1 0 ≡ 0 = ap (λ (b : Bool). cond {A = ℕ} b 1 0) z in
    omega (arith, sum_change (mark_change marks t low) count below)

-- Nothing is marked.
pub unmarked_at : (n k : ℕ) → get_or (replicate n false) k false ≡ false
unmarked_at zero k = refl
unmarked_at (suc n) zero = refl
unmarked_at (suc n) (suc k) = unmarked_at n k

pub walk_none : {order : List ℕ} {marks : List Bool} {stack : List ℕ} {count : ℕ} → count ≤ 512 → length order ≡ 512 → length marks ≡ 512 → length stack ≡ 512
    → ((x : ℕ) → get_or order x 0 ≡ 0) → ((x : ℕ) → get_or marks x false ≡ false) → Walk count 0 order marks stack count 0
walk_none few so sm ss zo zm =
    record {
      few = few;
      size_order = so;
      size_marks = sm;
      size_stack = ss;
      within = omega arith;
      room = omega arith;
      places = λ i l. omega (arith, zo i);
      stacked = λ i l. absurd (omega arith);
      passed = λ x l. absurd (omega arith);
      held = λ x l e. absurd (false≢true (sym (zm x) ∙ e));
    }

module _ {count r : ℕ} {order : List ℕ} {marks : List Bool} {stack : List ℕ} {left depth : ℕ} (w : Walk count r order marks stack left depth) where
  pub depth_left : depth ≤ left
  depth_left = let a = w.room in omega (arith, marked_few count marks)

  pub unmarked_few : marked count marks ≤ count
  unmarked_few = marked_few count marks

  module _ (t : ℕ) (below : t < count) (bare : get_or marks t false ≡ false) where
    low : t < length marks
    low = let a = w.size_marks in let b = w.few in omega arith

    pub more : marked count (set marks t true) ≡ marked count marks + 1
    more = marked_more count marks t low below bare

    pub deeper : depth < 512
    deeper =
        let a = w.room in
        let b = w.few in
        let c = w.within in
        omega (arith, marked_few count (set marks t true), more)

    stack_low : depth < length stack
    stack_low = let a = deeper in let b = w.size_stack in omega arith

    stack_same : (i : ℕ) → i < depth → get_or (set stack depth t) i 0 ≡ get_or stack i 0
    stack_same i l = get_or-set_other stack depth i t 0 (λ e. omega arith)

    pub entered : get_or (set marks t true) t false ≡ true
    entered = get_or-set_same marks t true false low

    -- Shape t is entered.
    pub enter : Walk count r order (set marks t true) (set stack depth t) left (depth + 1)
    enter =
        record {
          few = w.few;
          size_order = w.size_order;
          size_marks = length-set marks t true ∙ w.size_marks;
          size_stack = length-set stack depth t ∙ w.size_stack;
          within = w.within;
          room = let a = w.room in omega (arith, more);
          places = w.places;
          stacked = λ i l.
              by_cases (ℕ_discrete i depth)
              (λ (e : i ≡ depth). rw e (omega (arith, get_or-set_same stack depth t 0 stack_low)))
              (λ (d : i ≡ depth → ⊥). let b : i < depth = omega arith in omega (arith, stack_same i b, w.stacked i b));
          passed = λ x l.
              by_cases (ℕ_discrete x t)
              (λ (e : x ≡ t). rw e (get_or-set_same marks t true false low))
              (λ (d : x ≡ t → ⊥). get_or-set_other marks t x true false d ∙ w.passed x l);
          held = λ x l e.
              by_cases (ℕ_discrete x t)
              (λ (q : x ≡ t). inl (record { place = depth; from = omega arith; below = omega arith; is = get_or-set_same stack depth t 0 stack_low ∙ sym q }))
              (λ (d : x ≡ t → ⊥).
              ⊎_elim
              (λ (s : Stands stack 0 depth x).
              inl (record { place = s.place; from = omega arith; below = (let b = s.below in omega arith); is = stack_same s.place s.below ∙ s.is }))
              (λ (s : Stands order left count x). inr s)
              (w.held x l (sym (get_or-set_other marks t x true false d) ∙ e)));
        }

    -- Shape t is put down without a walk.
    pub shelve : Walk count r (set order (left - 1) t) (set marks t true) stack (left - 1) depth
    shelve =
        let m = more in
        let few = w.few in
        let within = w.within in
        let room = w.room in
        let full = marked_few count (set marks t true) in
        let some : depth < left = omega arith in
        let at : left - 1 < length order = (let a = w.size_order in omega arith) in
        record {
          few = few;
          size_order = length-set order (left - 1) t ∙ w.size_order;
          size_marks = length-set marks t true ∙ w.size_marks;
          size_stack = w.size_stack;
          within = omega arith;
          room = omega arith;
          places = λ i l.
              by_cases (ℕ_discrete i (left - 1))
              (λ (e : i ≡ left - 1). rw e (omega (arith, get_or-set_same order (left - 1) t 0 at)))
              (λ (d : i ≡ left - 1 → ⊥). omega (arith, get_or-set_other order (left - 1) i t 0 d, w.places i l));
          stacked = w.stacked;
          passed = λ x l.
              by_cases (ℕ_discrete x t)
              (λ (e : x ≡ t). rw e (get_or-set_same marks t true false low))
              (λ (d : x ≡ t → ⊥). get_or-set_other marks t x true false d ∙ w.passed x l);
          held = λ x l e.
              by_cases (ℕ_discrete x t)
              (λ (q : x ≡ t). inr (record { place = left - 1; from = omega arith; below = omega arith; is = get_or-set_same order (left - 1) t 0 at ∙ sym q }))
              (λ (d : x ≡ t → ⊥).
              ⊎_elim
              (λ (s : Stands stack 0 depth x). inl s)
              (λ (s : Stands order left count x).
              inr (record {
                place = s.place;
                from = (let a = s.from in omega arith);
                below = s.below;
                is = get_or-set_other order (left - 1) s.place t 0 (λ q. let a = s.from in omega arith) ∙ s.is;
              }))
              (w.held x l (sym (get_or-set_other marks t x true false d) ∙ e)));
        }

  -- The shape on top of the stack is left.
  pub leave : 0 < depth → Walk count r (set order (left - 1) (get_or stack (depth - 1) 0)) marks stack (left - 1) (depth - 1)
  leave some =
      let dl = depth_left in
      let few = w.few in
      let within = w.within in
      let top = get_or stack (depth - 1) 0 in
      let low : left - 1 < length order = (let a = w.size_order in omega arith) in
      record {
        few = few;
        size_order = length-set order (left - 1) top ∙ w.size_order;
        size_marks = w.size_marks;
        size_stack = w.size_stack;
        within = omega arith;
        room = let a = w.room in omega arith;
        places = λ i l.
            by_cases (ℕ_discrete i (left - 1))
            (λ (e : i ≡ left - 1). rw e (omega (arith, get_or-set_same order (left - 1) top 0 low, w.stacked (depth - 1) (omega arith))))
            (λ (d : i ≡ left - 1 → ⊥). omega (arith, get_or-set_other order (left - 1) i top 0 d, w.places i l));
        stacked = λ i l. w.stacked i (omega arith);
        passed = w.passed;
        held = λ x l e.
            ⊎_elim
            (λ (s : Stands stack 0 depth x).
            by_cases (ℕ_discrete s.place (depth - 1))
            (λ (q : s.place ≡ depth - 1).
            inr (record {
              place = left - 1;
              from = omega arith;
              below = omega arith;
              is = get_or-set_same order (left - 1) top 0 low ∙ ap (λ (i : ℕ). get_or stack i 0) (sym q) ∙ s.is;
            }))
            (λ (d : s.place ≡ depth - 1 → ⊥).
            inl (record { place = s.place; from = omega arith; below = (let b = s.below in omega arith); is = s.is })))
            (λ (s : Stands order left count x).
            inr (record {
              place = s.place;
              from = (let a = s.from in omega arith);
              below = s.below;
              is = get_or-set_other order (left - 1) s.place top 0 (λ q. let a = s.from in omega arith) ∙ s.is;
            }))
            (w.held x l e);
      }

  -- Shape r is marked too.
  pub pass : get_or marks r false ≡ true → Walk count (r + 1) order marks stack left depth
  pass m =
      record {
        few = w.few;
        size_order = w.size_order;
        size_marks = w.size_marks;
        size_stack = w.size_stack;
        within = w.within;
        room = w.room;
        places = w.places;
        stacked = w.stacked;
        passed = λ x l.
            by_cases (ℕ_discrete x r)
            (λ (e : x ≡ r). rw e m)
            (λ (d : x ≡ r → ⊥). w.passed x (omega arith));
        held = w.held;
      }

  -- No shape is on the stack.
  pub settle : depth ≤ 0 → Walk count r order marks stack left 0
  settle z = let q : depth ≡ 0 = omega arith in subst (λ (d : ℕ). Walk count r order marks stack left d) q w

  -- All shapes are marked, and all are left.
  pub ordered : count ≤ r → depth ≤ 0 → Ordered order count
  ordered all z =
      record {
        size = w.size_order;
        places = w.places;
        covers = λ x l.
            ⊎_elim
            (λ (s : Stands stack 0 depth x). absurd (let b = s.below in omega arith))
            (λ (s : Stands order left count x). record { place = s.place; from = omega arith; below = s.below; is = s.is })
            (w.held x l (w.passed x (omega arith)));
      }

-- What was left is known by equations.
pub walk_is :
    {count r : ℕ} {order : List ℕ} {marks marks₁ : List Bool} {stack stack₁ : List ℕ} {left depth depth₁ : ℕ} → marks ≡ marks₁ → stack ≡ stack₁ → depth ≡ depth₁
    → Walk count r order marks₁ stack₁ left depth₁ → Walk count r order marks stack left depth
walk_is em es ed w = rw (em, es, ed) w

-- ---- the order of discovery

-- The first places hold themselves.
pub in_turn : {count : ℕ} (front rest : List ℕ) → length front ≡ count → length rest ≡ 512 - count → count ≤ 512 → ((j : ℕ) → j < count → get_or front j 0 ≡ j)
    → Ordered (front ++ rest) count
in_turn {count} front rest size left few each =
    record {
      size = length-append front rest ∙ omega arith;
      places = λ j l. omega (arith, is j l);
      covers = λ x l. record { place = x; from = omega arith; below = l; is = is x l };
    }
  where
    is : (j : ℕ) → j < count → get_or (front ++ rest) j 0 ≡ j
    is j l = get_or-append front rest 0 j (omega arith) ∙ each j l
