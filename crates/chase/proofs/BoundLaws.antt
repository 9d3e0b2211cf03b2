-- A list of shapes with numbers that no rule leads out of bounds every run: it has the shape of each reachable record, and no number has a later generation than the largest listed. Assumes nothing.
use mathlib.Core.Path.{◌≡◌, refl, sym, ◌∙◌, ap}
use mathlib.Core.Logic.{inl, inr}
use mathlib.Core.List.{List, [], ◌∷◌}
use mathlib.Core.Option.{some}
use Prim.Native.Nat.{ℕ, zero, suc, ◌≤◌}
use native.Mathlib.Omega.{arith}
use lib.ListN.{length}
use Rattle.patterns.specs.Lists.{Numbered, numbered}
use Rattle.patterns.proofs.PatternLaws.{length-pattern}
use Rattle.sheet.specs.Line.{Line}
use Rattle.chase.specs.Lists.{In, All2}
use Rattle.chase.specs.Rules.{Head, Rule, row_lines, nth}
use Rattle.chase.specs.Value.{Value, Value-discrete, values, generation, deepest}
use Rattle.chase.specs.Making.{Record, Fires, made, fresh_of, makes}
use Rattle.chase.specs.Run.{row_value, row_record, rows_of, Reachable, row, made_from}
use Rattle.chase.specs.Shape.{Shape, shape_of}
use Rattle.chase.specs.Judge.{Bounded}
use Rattle.chase.specs.Certificate.{as_record, shape_made, largest, new_generation, Listed, shapes_of, deepest_of, Covers, ClosedList}
use Rattle.chase.proofs.ListLaws.{in_map, map_in}
use Rattle.chase.proofs.MakingLaws.{makes_rel}
use Rattle.chase.proofs.ShapeLaws.{fires_shape, made-shape_made}
use Rattle.chase.proofs.RunLaws.{keep-run-start}
use Rattle.chase.proofs.StepLaws.{as_record_shape}

-- Rows hold table values and missing ones.
pub record TableRows (rows : List Record) : Type 0 where
  pub zero : (x : Record) (v : Value) → In x rows → In v x.fields → generation v ≡ 0

pub value_generation : (k i n : ℕ) → generation (row_value k i n) ≡ 0
value_generation k i zero = refl
value_generation k i (suc n) = refl

pub rows_of_tables : (lines : List Line) → TableRows (rows_of lines)
rows_of_tables lines =
    record {
      zero = λ x v i j.
          let s = map_in row_record (numbered (row_lines lines)) x i in
          let k = s.0.number in
          let t = map_in (λ (n : Numbered ℕ). row_value k n.number n.item) (numbered s.0.item.numbers) v (rw s.2 at j) in
          ap generation t.2 ∙ value_generation k t.0.number t.0.item;
    }

-- A value of a generation at most this.
abbrev Below : Value → ℕ → Type 0
Below v n = generation v ≤ n

all_zero_below : (vs : List Value) (ns : List ℕ) → length vs ≡ length ns → ((v : Value) → In v vs → generation v ≡ 0) → All2 Below vs ns
all_zero_below [] [] l z = tt
all_zero_below [] (n ∷ ns) l z = absurd (omega arith)
all_zero_below (v ∷ vs) [] l z = absurd (omega arith)
all_zero_below (v ∷ vs) (n ∷ ns) l z = (omega (arith, z v (inl refl)), all_zero_below vs ns (omega arith) (λ w i. z w (inr i)))

below_le : (vs : List Value) (ns ms : List ℕ) → All2 Below vs ns → All2 ◌≤◌ ns ms → All2 Below vs ms
below_le [] [] [] a b = tt
below_le [] [] (m ∷ ms) a b = absurd b
below_le [] (n ∷ ns) ms a b = absurd a
below_le (v ∷ vs) [] ms a b = absurd a
below_le (v ∷ vs) (n ∷ ns) [] a b = absurd b
below_le (v ∷ vs) (n ∷ ns) (m ∷ ms) a b = (omega (arith, a.0, b.0), below_le vs ns ms a.1 b.1)

below_largest : (vs : List Value) (ns : List ℕ) → All2 Below vs ns → (v : Value) → In v vs → generation v ≤ largest ns
below_largest [] ns a v i = absurd i
below_largest (u ∷ vs) [] a v i = absurd a
below_largest (u ∷ vs) (n ∷ ns) a v (inl p) = omega (arith, a.0, ap generation p)
below_largest (u ∷ vs) (n ∷ ns) a v (inr i) = omega (arith, below_largest vs ns a.1 v i)

deepest_below : (vs : List Value) (ns : List ℕ) → All2 Below vs ns → deepest (values vs) ≤ largest ns
deepest_below [] [] a = omega arith
deepest_below [] (n ∷ ns) a = absurd a
deepest_below (v ∷ vs) [] a = absurd a
deepest_below (v ∷ vs) (n ∷ ns) a = omega (arith, a.0, deepest_below vs ns a.1)

fresh_below : (n m : ℕ) (vs : List Value) (ns : List ℕ) → All2 Below vs ns → Below (fresh_of n m vs) (new_generation m ns)
fresh_below n m vs ns a = omega (arith, deepest_below vs ns a)

pub largest-deepest : (list : List Listed) (l : Listed) → In l list → largest l.numbers ≤ deepest_of list
largest-deepest [] l i = absurd i
largest-deepest (k ∷ list) l (inl p) = omega (arith, ap (λ (l : Listed). largest l.numbers) p)
largest-deepest (k ∷ list) l (inr i) = omega (arith, largest-deepest list l i)

module _ (rules : List Rule) (rows : List Record) (list : List Listed) (c : ClosedList rules rows list) where
  -- The shape of a record is listed.
  record Has (x : Record) : Type 0 where
    entry : Listed
    listed : In entry list
    shape : shape_of x ≡ entry.shape

  -- Its numbers are at least the generations of the record's values.
  record Bounds (x : Record) : Type 0 where
    has : Has x
    above : All2 Below x.fields has.entry.numbers

  row_has : (x : Record) → In x rows → Has x
  row_has x i = let s = c.rows_in x i in record { entry = s.0; listed = s.1; shape = sym s.2 }

  covered : (n : ℕ) (r : Rule) (x : Record) (h : Head) → nth rules n ≡ some r → (s : Has x) → Fires r x → In h r.heads
      → Covers list (shape_made r s.entry.shape h) (makes new_generation r s.entry.numbers h.marks)
  covered n r x h e s f i =
      c.closed n r h s.entry e s.listed
      (fires_shape r x (as_record s.entry.shape) (sym (as_record_shape x s.entry.shape s.shape)) f) i

  made-has : (n : ℕ) (r : Rule) (x : Record) (h : Head) → nth rules n ≡ some r → Has x → Fires r x → In h r.heads → Has (made n r x h)
  made-has n r x h e s f i =
      let t = covered n r x h e s f i in
      record {
        entry = t.entry;
        listed = t.listed;
        shape = made-shape_made n r x h i ∙ ap (λ (u : Shape). shape_made r u h) s.shape ∙ sym t.shape;
      }

  reachable_has : {x : Record} → Reachable rules rows x → Has x
  reachable_has (row {x = x} i) = row_has x i
  reachable_has (made_from {x = x} n r h e w f i) = made-has n r x h e (reachable_has w) f i

  -- The shape of each reachable record is listed.
  pub reachable_listed : (x : Record) → Reachable rules rows x → In (shape_of x) (shapes_of list)
  reachable_listed x w =
      let s = reachable_has w in
      rw s.shape (in_map (λ (l : Listed). l.shape) s.entry list s.listed)

  module _ (t : TableRows rows) where
    row_bounds : (x : Record) → In x rows → Bounds x
    unfolding row_has
    row_bounds x i =
        let s = row_has x i in
        record {
          has = s;
          above =
              all_zero_below x.fields s.entry.numbers
              (omega (arith, c.sized s.entry s.listed, ap (λ (u : Shape). length u.pattern) s.shape, length-pattern Value-discrete x.fields))
              (λ v j. t.zero x v i j);
        }

    made_bounds : (n : ℕ) (r : Rule) (x : Record) (h : Head) → nth rules n ≡ some r → Bounds x → Fires r x → In h r.heads
        → Bounds (made n r x h)
    unfolding made-has
    made_bounds n r x h e b f i =
        let s = b.has in
        record {
          has = made-has n r x h e s f i;
          above =
              below_le (made n r x h).fields (makes new_generation r s.entry.numbers h.marks) (covered n r x h e s f i).entry.numbers
              (makes_rel Below r x.fields s.entry.numbers b.above (fresh_of n) new_generation (fresh_below n) h.marks)
              (covered n r x h e s f i).above;
        }

    -- No run leaves a number of a later generation than the largest listed.
    pub closed_bounded : Bounded rules rows (deepest_of list)
    closed_bounded v l =
        let b = keep-run-start rules Bounds made_bounds rows row_bounds l.firings l.on l.left in
        omega (arith, below_largest l.on.fields b.has.entry.numbers b.above v l.holds, largest-deepest list b.has.entry b.has.listed)
