-- The search over shapes, rules and H lines: where it stands, and how each event keeps it. Assumes nothing.
use mathlib.Core.Path.{◌≡◌, refl, sym, subst, subst₂, ap, ◌∙◌}
use mathlib.Core.Bool.{Bool, true, false}
use mathlib.Core.List.{List, [], ◌∷◌}
use mathlib.Core.Logic.{by_cases}
use mathlib.Core.Option.{some, none-ne-some}
use Prim.Native.Nat.{ℕ, zero, suc, ◌+◌, ◌-◌, ◌*◌, ◌/◌, ◌%◌, ◌<◌, ◌≤◌}
use native.Mathlib.Decide.{ℕ_discrete, dec_lt}
use native.Mathlib.Numerals.{add-one}
use native.Mathlib.Omega.{arith}
use Rattle.std.proofs.lemmas.Bool.{false≢true}
use lib.ListN.{length, get_or, set, length-set}
use lib.Seq.{get_or-set_same, get_or-set_other}
use Rattle.patterns.specs.Pattern.{digits_of}
use Rattle.patterns.specs.Outcome.{padded}
use Rattle.chase.specs.Lists.{In}
use Rattle.chase.specs.Rules.{Head, Rule, nth}
use Rattle.chase.specs.Making.{Record}
use Rattle.chase.specs.Shape.{Shape, shape_of}
use Rattle.chase.specs.Counting.{MoreThan}
use Rattle.chase.specs.Simplification.{Applies, Derived}
use Rattle.judging.specs.Inner.Codes.{shape_at, ShapeFits, shape_from, DigitsFit, FiresOn, MadeOf}
use Rattle.judging.specs.Inner.Firing.{NextFire}
use Rattle.rules.specs.Table.{rule_in, row_bytes, table_rules, TableFits}
use Rattle.judging.specs.Inner.Found.{shape_no, Has, via_rule, Kept, Whole, FiredRules}
use Rattle.judging.specs.Inner.Rows.{RowsFound}
use Rattle.chase.proofs.CountLaws.{element_below}
use Rattle.chase.proofs.CodedLaws.{derived_coded}
use Rattle.judging.proofs.CodeLaws.{digits_at, digits_fit}
use Rattle.judging.proofs.Places.{in_nth, nth_there}
use Rattle.rules.proofs.TableLaws.{table_rule, table_count}
use Rattle.rules.proofs.RuleLaws.{heads_length}
use Rattle.judging.proofs.FoundLaws.{old, old_shape, new_shape, has_more, has_last, room_of, marked_has, kept_push, more_than, kept_derived}

-- The turn at which H line j of rule m is tried on shape k, all counted from 0.
abbrev pub turn : ℕ → ℕ → ℕ → ℕ
turn k m j = 1024 * k + 4 * m + j

-- At most 256 rules of at most four H lines each.
pub record Few (rules : List Rule) : Type 0 where
  pub rules_few : length rules ≤ 256
  pub heads_few : (m : ℕ) (r : Rule) → nth rules m ≡ some r → length r.heads ≤ 4

-- Where the search stands: H lines were tried up to turn t, and rules up to turn 4 * u.
pub record Doing (rules : List Rule) (rows : List Record) (codes index : List ℕ) (ways : List (List ℕ)) (fired : List Bool) (n t u : ℕ) : Type 0 where
  pub kept : Kept rules rows codes index ways n
  pub rows_in : (x : Record) → In x rows → Has codes n (shape_of x)
  pub made : (k m j : ℕ) (r : Rule) (h : Head) → k < n → turn k m j < t → nth rules (suc m) ≡ some r → Applies r (shape_no codes k)
      → nth r.heads (suc j) ≡ some h → Has codes n (shape_from r (shape_no codes k) h)
  pub size : length fired ≡ 256
  pub sound : (i : ℕ) → get_or fired i false ≡ true → (r : Rule) × (nth rules (suc i) ≡ some r) × ((k : ℕ) × (k < n) × Applies r (shape_no codes k))
  pub complete : (i k : ℕ) (r : Rule) → k < n → 256 * k + i < u → nth rules (suc i) ≡ some r → Applies r (shape_no codes k) → get_or fired i false ≡ true

-- The rows' shapes, and nothing tried.
pub doing_begun : {rules : List Rule} {rows : List Record} {codes index : List ℕ} {ways : List (List ℕ)} {n : ℕ} (fired : List Bool)
    → RowsFound rules rows codes index ways n (length rows) → length fired ≡ 256 → ((i : ℕ) → get_or fired i false ≡ false)
    → Doing rules rows codes index ways fired n (turn 0 0 0) (256 * 0)
doing_begun {rows = rows} fired found size none =
    record {
      kept = found.kept;
      rows_in = λ x i. let s = in_nth rows x i in found.rows_in s.0 x (element_below rows s.0 x s.1) s.1;
      made = λ k m j r h a b e f g. let z : ⊥ = omega arith in absurd z;
      size = size;
      sound = λ i m. absurd (false≢true (sym (none i) ∙ m));
      complete = λ i k r a b e f. let z : ⊥ = omega arith in absurd z;
    }

module _ {rules : List Rule} {rows : List Record} {codes index : List ℕ} {ways : List (List ℕ)} {fired : List Bool} {n t u : ℕ} (few : Few rules)
    (d : Doing rules rows codes index ways fired n t u) where
  -- More was tried: from turn (s, r, h) on, within rule r.
  doing_on : (s r h t' u' : ℕ) → r < 256 → h ≤ 4 → turn s r h ≤ t → t' ≤ turn s (r + 1) 0
      → ((j : ℕ) (w : Rule) (g : Head) → h ≤ j → turn s r j < t' → nth rules (suc r) ≡ some w → Applies w (shape_no codes s) → nth w.heads (suc j) ≡ some g
      → Has codes n (shape_from w (shape_no codes s) g))
      → ((i k : ℕ) (w : Rule) → k < n → 256 * k + i < u' → nth rules (suc i) ≡ some w → Applies w (shape_no codes k) → get_or fired i false ≡ true)
      → Doing rules rows codes index ways fired n t' u'
  doing_on s r h t' u' low high begin end new marks =
      record {
        kept = d.kept;
        rows_in = d.rows_in;
        made =
            λ k m j w g a b named applies line.
            by_cases (dec_lt (turn k m j) t)
            (λ (y : turn k m j < t). d.made k m j w g a y named applies line)
            (λ (z : turn k m j < t → ⊥).
            let b1 = few.rules_few in
            let b2 = element_below rules m w named in
            let b3 = few.heads_few (suc m) w named in
            let b4 = element_below w.heads j g line in
            let z' : t ≤ turn k m j = omega (arith, z) in
            let p : k ≡ s = omega arith in
            let q : m ≡ r = omega arith in
            subst (λ (v : ℕ). Has codes n (shape_from w (shape_no codes v) g)) (sym p)
            (new j w g (omega arith) (omega arith) (subst (λ (v : ℕ). nth rules (suc v) ≡ some w) q named) (subst (λ (v : ℕ). Applies w (shape_no codes v)) p applies) line));
        size = d.size;
        sound = d.sound;
        complete = marks;
      }

  same_rule : (r : ℕ) (v w : Rule) → nth rules (suc r) ≡ some v → nth rules (suc r) ≡ some w → v ≡ w
  same_rule r v w e f = cc

  named_from : (m : ℕ) (w : Rule) → nth rules m ≡ some w → (p : ℕ) × (m ≡ suc p)
  named_from zero w e = absurd (none-ne-some w e)
  named_from (suc m) w e = (m, refl)

  -- What an H line makes is there.
  pub doing_there : (s r h : ℕ) (w : Rule) (g : Head) → t ≡ turn s r h → nth rules (suc r) ≡ some w → nth w.heads (suc h) ≡ some g
      → Has codes n (shape_from w (shape_no codes s) g) → Doing rules rows codes index ways fired n (turn s r (h + 1)) u
  doing_there s r h w g at-t named line there =
      let b1 = few.rules_few in
      let b2 = element_below rules r w named in
      let b3 = few.heads_few (suc r) w named in
      let b4 = element_below w.heads h g line in
      doing_on s r h (turn s r (h + 1)) u (omega arith) (omega arith) (omega arith) (omega arith)
      (λ j v f a b e applies l.
      let q : j ≡ h = omega arith in
      let p : v ≡ w = same_rule r v w e named in
      let l' : nth w.heads (suc h) ≡ some f = subst (λ (y : ℕ). nth w.heads (suc y) ≡ some f) q (subst (λ (y : Rule). nth y.heads (suc j) ≡ some f) p l) in
      let o : g ≡ f = cc in
      subst (λ (y : Rule). Has codes n (shape_from y (shape_no codes s) f)) (sym p) (subst (λ (y : Head). Has codes n (shape_from w (shape_no codes s) y)) o there))
      d.complete

  -- The rule does not fire on the shape.
  pub doing_still : (s r : ℕ) (w : Rule) → t ≡ turn s r 0 → u ≡ 256 * s + r → nth rules (suc r) ≡ some w → (Applies w (shape_no codes s) → ⊥)
      → Doing rules rows codes index ways fired n (turn s (r + 1) 0) (256 * s + (r + 1))
  doing_still s r w at-t at-u named not =
      let b1 = few.rules_few in
      let b2 = element_below rules r w named in
      doing_on s r 0 (turn s (r + 1) 0) (256 * s + (r + 1)) (omega arith) (omega arith) (omega arith) (omega arith)
      (λ j v g a b e f l. absurd (not (subst (λ (y : Rule). Applies y (shape_no codes s)) (same_rule r v w e named) f)))
      (λ i k v a b e f.
      by_cases (dec_lt (256 * k + i) u)
      (λ (y : 256 * k + i < u). d.complete i k v a y e f)
      (λ (z : 256 * k + i < u → ⊥).
      let z' : u ≤ 256 * k + i = omega (arith, z) in
      let b3 = element_below rules i v e in
      let p : k ≡ s = omega arith in
      let q : i ≡ r = omega arith in
      absurd
      (not
      (subst (λ (y : Rule). Applies y (shape_no codes s)) (same_rule r v w (subst (λ (y : ℕ). nth rules (suc y) ≡ some v) q e) named)
      (subst (λ (y : ℕ). Applies v (shape_no codes y)) p f)))))

  -- All H lines of the rule were tried.
  pub doing_rule : (s r h : ℕ) (w : Rule) → t ≡ turn s r h → u ≡ 256 * s + r + 1 → nth rules (suc r) ≡ some w → length w.heads ≤ h → h ≤ 4
      → Doing rules rows codes index ways fired n (turn s (r + 1) 0) (256 * s + (r + 1))
  doing_rule s r h w at-t at-u named all high =
      let b1 = few.rules_few in
      let b2 = element_below rules r w named in
      doing_on s r h (turn s (r + 1) 0) (256 * s + (r + 1)) (omega arith) high (omega arith) (omega arith)
      (λ j v g a b e f l.
      let q = element_below v.heads j g l in
      let p = ap (λ (y : Rule). length y.heads) (same_rule r v w e named) in
      let z : ⊥ = omega arith in absurd z)
      (λ i k v a b e f. d.complete i k v a (omega arith) e f)

  -- All rules were tried.
  pub doing_shape : (s r : ℕ) → t ≡ turn s r 0 → u ≡ 256 * s + r → length rules ≤ r → r ≤ 256
      → Doing rules rows codes index ways fired n (turn (s + 1) 0 0) (256 * (s + 1))
  doing_shape s r at-t at-u all high =
      record {
        kept = d.kept;
        rows_in = d.rows_in;
        made =
            λ k m j w g a b named applies line.
            let b1 = few.rules_few in
            let b2 = element_below rules m w named in
            let b3 = few.heads_few (suc m) w named in
            let b4 = element_below w.heads j g line in
            d.made k m j w g a (omega arith) named applies line;
        size = d.size;
        sound = d.sound;
        complete = λ i k v a b e f. let b2 = element_below rules i v e in d.complete i k v a (omega arith) e f;
      }

  -- What an H line makes was there.
  pub doing_seen : (s r h code : ℕ) (w : Rule) (g : Head) → t ≡ turn s r h → nth rules (suc r) ≡ some w → nth w.heads (suc h) ≡ some g
      → shape_at code ≡ shape_from w (shape_no codes s) g → (get_or index code 0 ≡ 0 → ⊥)
      → Doing rules rows codes index ways fired n (turn s r (h + 1)) u
  doing_seen s r h code w g at-t named line is m = doing_there s r h w g at-t named line (subst (Has codes n) is (marked_has d.kept code m))

  -- The rule fires on the shape.
  pub doing_fires : (s r : ℕ) (w : Rule) → u ≡ 256 * s + r → s < n → nth rules (suc r) ≡ some w → Applies w (shape_no codes s)
      → Doing rules rows codes index ways (set fired r true) n t (256 * s + r + 1)
  doing_fires s r w at-u low named applies =
      let b1 = few.rules_few in
      let b2 = element_below rules r w named in
      let b3 = d.size in
      record {
        kept = d.kept;
        rows_in = d.rows_in;
        made = d.made;
        size = simp length-set b3;
        sound =
            λ i m.
            by_cases (ℕ_discrete i r)
            (λ (e : i ≡ r). (w, subst (λ (y : ℕ). nth rules (suc y) ≡ some w) (sym e) named, (s, low, applies)))
            (λ (e : i ≡ r → ⊥). d.sound i (sym (get_or-set_other fired r i true false e) ∙ m));
        complete =
            λ i k v a b e f.
            by_cases (ℕ_discrete i r)
            (λ (q : i ≡ r). subst (λ (y : ℕ). get_or (set fired r true) y false ≡ true) (sym q) (get_or-set_same fired r true false (omega arith)))
            (λ (q : i ≡ r → ⊥).
            let b4 = element_below rules i v e in
            get_or-set_other fired r i true false q ∙ d.complete i k v a (let y : 256 * k + i < u = omega (arith, q) in y) e f);
      }

  -- No more shapes are left to try.
  pub doing_all : (s : ℕ) → t ≡ turn s 0 0 → u ≡ 256 * s → n ≤ s
      → Kept rules rows codes index ways n × Whole rules rows codes n × FiredRules rules codes fired n
  doing_all s at-t at-u all = (
    d.kept,
    record {
      rows_in = d.rows_in;
      rules-in =
          λ k m r h low named applies i.
          let q = in_nth r.heads h i in
          let b1 = few.rules_few in
          let b3 = few.heads_few m r named in
          let b4 = element_below r.heads q.0 h q.1 in
          let p = named_from m r named in
          let e : nth rules (suc p.0) ≡ some r = subst (λ (y : ℕ). nth rules y ≡ some r) p.1 named in
          let b2 = element_below rules p.0 r e in
          d.made k p.0 q.0 r h low (omega arith) e applies q.1;
    },
    record {
      size = d.size;
      sound = d.sound;
      complete =
          λ i k r e low f.
          let b1 = few.rules_few in
          let b2 = element_below rules i r e in
          d.complete i k r low (omega arith) e f;
    },
  )

-- A shape put at the end, of a turn that is before all of its own.
pub doing_room : {rules : List Rule} {rows : List Record} {codes index : List ℕ} {ways : List (List ℕ)} {fired : List Bool} {n t u : ℕ}
    → Doing rules rows codes index ways fired n t u → (code : ℕ) (way : List ℕ) → (n ≡ 512 → ⊥) → t ≤ 1024 * n → u ≤ 256 * n
    → Kept rules rows (set codes n code) (set index code (n + 1)) (set ways n way) (n + 1)
    → Doing rules rows (set codes n code) (set index code (n + 1)) (set ways n way) fired (n + 1) t u
doing_room {codes = codes} {n = n} {t = t} {u = u} d code way ne low-t low-u kept =
    let room = room_of d.kept ne in
    record {
      kept = kept;
      rows_in = λ x i. has_more codes n code room (d.rows_in x i);
      made =
          λ k m j w g a b named applies line.
          let l : k < n = omega arith in
          subst (λ (v : Shape). Has (set codes n code) (n + 1) (shape_from w v g)) (sym (old_shape codes n code room k l))
          (has_more codes n code room (d.made k m j w g l b named (subst (Applies w) (old_shape codes n code room k l) applies) line));
      size = d.size;
      sound =
          λ i m.
          let v = d.sound i m in
          let k = v.2.0 in
          let l = v.2.1 in
          (v.0, v.1, (k, omega arith, subst (Applies v.0) (sym (old_shape codes n code room k l)) v.2.2));
      complete =
          λ i k w a b e f.
          let l : k < n = omega arith in
          d.complete i k w l b e (subst (Applies w) (old_shape codes n code room k l) f);
    }

-- What an H line makes, put at the end.
pub doing_push : {rules : List Rule} {rows : List Record} {codes index : List ℕ} {ways : List (List ℕ)} {fired : List Bool} {n t u : ℕ} → Few rules
    → Doing rules rows codes index ways fired n t u
    → (s r h code : ℕ) (w : Rule) (g : Head) → t ≡ turn s r h → u ≡ 256 * s + r + 1 → s < n → nth rules (suc r) ≡ some w → nth w.heads (suc h) ≡ some g
    → Applies w (shape_no codes s) → shape_at code ≡ shape_from w (shape_no codes s) g → (n ≡ 512 → ⊥) → code < 17792 → ShapeFits (shape_at code) → get_or index code 0 ≡ 0
    → Doing rules rows (set codes n code) (set index code (n + 1)) (set ways n ((s + 1) ∷ (r + 1) ∷ (h + 1) ∷ [])) fired (n + 1) (turn s r (h + 1)) u
doing_push {rules} {codes = codes} {n = n} {t = t} {u = u} few d s r h code w g at-t at-u low named line applies is ne small fit z =
    let b1 = few.rules_few in
    let b2 = element_below rules r w named in
    let b3 = few.heads_few (suc r) w named in
    let b4 = element_below w.heads h g line in
    let room = room_of d.kept ne in
    let o = old_shape codes n code room s low in
    let is' : shape_at code ≡ shape_from w (shape_no (set codes n code) s) g = is ∙ ap (λ (v : Shape). shape_from w v g) (sym o) in
    doing_there few
    (doing_room d code ((s + 1) ∷ (r + 1) ∷ (h + 1) ∷ []) ne (omega arith) (omega arith)
    (kept_push d.kept code ((s + 1) ∷ (r + 1) ∷ (h + 1) ∷ []) ne small fit z
    (via_rule s w g (add-one s) low (rw add-one named) (rw add-one line) (subst (Applies w) (sym o) applies) (new_shape codes n code room ∙ is'))))
    s r h w g at-t named line
    (subst (Has (set codes n code) (n + 1)) is' (has_last codes n code room))

-- There is no room for what an H line makes.
pub doing_more : {rules : List Rule} {rows : List Record} {codes index : List ℕ} {ways : List (List ℕ)} {fired : List Bool} {n t u : ℕ}
    → Doing rules rows codes index ways fired n t u
    → (s r h code : ℕ) (w : Rule) (g : Head) → s < n → nth rules (suc r) ≡ some w → nth w.heads (suc h) ≡ some g
    → Applies w (shape_no codes s) → shape_at code ≡ shape_from w (shape_no codes s) g → n ≡ 512 → code < 17792 → get_or index code 0 ≡ 0
    → MoreThan (Derived rules rows) 512
doing_more {rules} {rows} {codes} d s r h code w g low named line applies is full small z =
    more_than d.kept code full small z
    (subst (Derived rules rows) (sym is)
    (derived_coded rules rows (shape_no codes s) (suc r) (suc h) w g named line applies (d.kept.fits s low).own (kept_derived d.kept s low)))

-- The rules of a table.
module _ (store : List ℕ) (n : ℕ) (rules : List Rule) (fits : TableFits store n) (are : table_rules store n ≡ rules) where
  pub rule_named : (r : ℕ) → r < n → nth rules (suc r) ≡ some (rule_in (row_bytes store r))
  rule_named r l = subst (λ (rs : List Rule). nth rs (suc r) ≡ some (rule_in (row_bytes store r))) are (table_rule store n r l)

  pub rules_length : length rules ≡ n
  rules_length = ap length (sym are) ∙ table_count store n

  pub rules_are_few : Few rules
  rules_are_few = record { rules_few = omega (arith, rules_length, fits.few); heads_few = heads }
    where
      heads : (m : ℕ) (r : Rule) → nth rules m ≡ some r → length r.heads ≤ 4
      heads zero r e = absurd (none-ne-some r e)
      heads (suc m) r e =
          let b = element_below rules m r e in
          let len = rules_length in
          let l : m < n = omega arith in
          let q : rule_in (row_bytes store m) ≡ r = cc (rule_named m l) in
          subst (λ (w : Rule). length w.heads ≤ 4) q (fits.each m l).rule.few

  pub head_there : (r h : ℕ) → h < get_or (row_bytes store r) 28 0 → (g : Head) × (nth (rule_in (row_bytes store r)).heads (suc h) ≡ some g)
  head_there r h l = nth_there (rule_in (row_bytes store r)).heads h (let len = heads_length (row_bytes store r) in omega arith)

-- A shape that rules are tried on.
pub record Trying (shape kind : ℕ) (digits : List ℕ) : Type 0 where
  pub kind_is : kind ≡ (shape_at shape).kind
  pub digits_are : digits ≡ padded 6 (shape_at shape).pattern
  pub digits_fit : DigitsFit digits
  pub shape_fits : ShapeFits (shape_at shape)

pub kind_of : (shape : ℕ) → shape / 278 + 1 ≡ (shape_at shape).kind
unfolding shape_at
kind_of shape = refl

pub trying : (shape : ℕ) (digits : List ℕ) → ShapeFits (shape_at shape) → digits ≡ digits_of (shape % 278 + 1) → Trying shape (shape / 278 + 1) digits
trying shape digits fit e =
    let are = e ∙ digits_at shape in
    record { kind_is = kind_of shape; digits_are = are; digits_fit = subst DigitsFit (sym are) (digits_fit (shape_at shape) fit); shape_fits = fit }

module _ {shape kind : ℕ} {digits : List ℕ} (on : Trying shape kind digits) (w : Rule) where
  pub fires_yes : FiresOn w kind digits true → Applies w (shape_at shape)
  fires_yes f = f.each (shape_at shape) on.shape_fits on.kind_is on.digits_are

  pub fires_no : FiresOn w kind digits false → Applies w (shape_at shape) → ⊥
  fires_no f = f.each (shape_at shape) on.shape_fits on.kind_is on.digits_are

  pub made_is : (h code : ℕ) (g : Head) → MadeOf w h digits code → Applies w (shape_at shape) → nth w.heads (suc h) ≡ some g
      → shape_at code ≡ shape_from w (shape_at shape) g
  made_is h code g m a line = (m.each (shape_at shape) g on.shape_fits on.digits_are a line).1

  pub made-fits : (h code : ℕ) (g : Head) → MadeOf w h digits code → Applies w (shape_at shape) → nth w.heads (suc h) ≡ some g → ShapeFits (shape_at code)
  made-fits h code g m a line =
      let e = m.each (shape_at shape) g on.shape_fits on.digits_are a line in
      subst ShapeFits (sym e.1) e.2

-- The table has the rules.
pub record Ruled (rules : List Rule) (store : List ℕ) (m : ℕ) : Type 0 where
  pub fits : TableFits store m
  pub are : table_rules store m ≡ rules

-- Where rules are tried on the shape at place s: rule r is next.
pub record Ruling (rules : List Rule) (rows : List Record) (store digits : List ℕ) (m shape kind s r : ℕ) (codes index : List ℕ) (ways : List (List ℕ)) (fired : List Bool) (n : ℕ)
    : Type 0 where
  pub r_low : r ≤ m
  pub s_low : s < n
  pub here : shape ≡ get_or codes s 0
  pub ruled : Ruled rules store m
  pub on : Trying shape kind digits
  pub doing : Doing rules rows codes index ways fired n (turn s r 0) (256 * s + r)

-- Where H lines of rule r are tried on it: H line h is next.
pub record Heading (rules : List Rule) (rows : List Record) (store digits : List ℕ) (m shape kind s r heads h : ℕ) (codes index : List ℕ) (ways : List (List ℕ)) (fired : List Bool) (n : ℕ)
    : Type 0 where
  pub h_low : h ≤ heads
  pub r_low : r < m
  pub s_low : s < n
  pub here : shape ≡ get_or codes s 0
  pub ruled : Ruled rules store m
  pub on : Trying shape kind digits
  pub heads_are : heads ≡ get_or (row_bytes store r) 28 0
  pub applies : Applies (rule_in (row_bytes store r)) (shape_at shape)
  pub doing : Doing rules rows codes index ways fired n (turn s r h) (256 * s + r + 1)

few_ruled : {rules : List Rule} {store : List ℕ} {m : ℕ} → Ruled rules store m → Few rules
few_ruled {rules} {store} {m} ruled = rules_are_few store m rules ruled.fits ruled.are

named_ruled : {rules : List Rule} {store : List ℕ} {m : ℕ} → Ruled rules store m → (r : ℕ) → r < m → nth rules (suc r) ≡ some (rule_in (row_bytes store r))
named_ruled {rules} {store} {m} ruled r low = rule_named store m rules ruled.fits ruled.are r low

applies_here : (w : Rule) (codes : List ℕ) (s shape : ℕ) → shape ≡ get_or codes s 0 → Applies w (shape_at shape) → Applies w (shape_no codes s)
applies_here w codes s shape here a = subst (λ (v : ℕ). Applies w (shape_at v)) here a

-- The same numbers in other lists.
along : (P : List ℕ → List ℕ → List (List ℕ) → ℕ → Type 0) (a b a' b' : List ℕ) (c c' : List (List ℕ)) (n n' : ℕ) → a' ≡ a → b' ≡ b → c' ≡ c → n' ≡ n
    → P a b c n → P a' b' c' n'
along P a b a' b' c c' n n' ea eb ec en x = rw (ea, eb, ec, en) x

module _ {rules : List Rule} {rows : List Record} {store digits : List ℕ} {m shape kind s r : ℕ} {codes index : List ℕ} {ways : List (List ℕ)} {fired : List Bool} {n : ℕ}
    (x : Ruling rules rows store digits m shape kind s r codes index ways fired n) where
  -- The rule fires.
  pub ruling_fires : (heads : ℕ) → FiresOn (rule_in (row_bytes store r)) kind digits true → r < m → heads ≡ get_or (row_bytes store r) 28 0
      → Heading rules rows store digits m shape kind s r heads 0 codes index ways (set fired r true) n
  ruling_fires heads f low are =
      let a = fires_yes x.on (rule_in (row_bytes store r)) f in
      record {
        h_low = omega arith;
        r_low = low;
        s_low = x.s_low;
        here = x.here;
        ruled = x.ruled;
        on = x.on;
        heads_are = are;
        applies = a;
        doing =
            doing_fires (few_ruled x.ruled) x.doing s r (rule_in (row_bytes store r)) refl x.s_low (named_ruled x.ruled r low)
            (applies_here (rule_in (row_bytes store r)) codes s shape x.here a);
      }

  -- It does not.
  pub ruling_still : FiresOn (rule_in (row_bytes store r)) kind digits false → r < m
      → Ruling rules rows store digits m shape kind s (r + 1) codes index ways fired n
  ruling_still f low =
      record {
        r_low = omega arith;
        s_low = x.s_low;
        here = x.here;
        ruled = x.ruled;
        on = x.on;
        doing =
            doing_still (few_ruled x.ruled) x.doing s r (rule_in (row_bytes store r)) refl refl (named_ruled x.ruled r low)
            (λ (a : Applies (rule_in (row_bytes store r)) (shape_no codes s)).
            fires_no x.on (rule_in (row_bytes store r)) f (subst (λ (v : ℕ). Applies (rule_in (row_bytes store r)) (shape_at v)) (sym x.here) a));
      }

  -- All rules were tried.
  pub ruling_last : m ≤ r → Doing rules rows codes index ways fired n (turn (s + 1) 0 0) (256 * (s + 1))
  ruling_last all =
      let len = rules_length store m rules x.ruled.fits x.ruled.are in
      let top = x.ruled.fits.few in
      let low = x.r_low in
      doing_shape (few_ruled x.ruled) x.doing s r refl refl (omega arith) (omega arith)

-- The rules from rule r on, so many, do not fire.
ruling_skip : {rules : List Rule} {rows : List Record} {store digits : List ℕ} {m shape kind s r : ℕ} {codes index : List ℕ} {ways : List (List ℕ)} {fired : List Bool} {n : ℕ} (k : ℕ)
    → Ruling rules rows store digits m shape kind s r codes index ways fired n → r + k ≤ m
    → ((i : ℕ) → r ≤ i → i < r + k → FiresOn (rule_in (row_bytes store i)) kind digits false)
    → Ruling rules rows store digits m shape kind s (r + k) codes index ways fired n
ruling_skip {rules} {rows} {store} {digits} {m} {shape} {kind} {s} {r} {codes} {index} {ways} {fired} {n} zero x low still =
    let e : r ≡ r + 0 = omega arith in
    subst (λ (v : ℕ). Ruling rules rows store digits m shape kind s v codes index ways fired n) e x
ruling_skip {rules} {rows} {store} {digits} {m} {shape} {kind} {s} {r} {codes} {index} {ways} {fired} {n} (suc k) x low still =
    let e : r + 1 + k ≡ r + suc k = omega arith in
    subst (λ (v : ℕ). Ruling rules rows store digits m shape kind s v codes index ways fired n) e
    (ruling_skip {r = r + 1} k (ruling_still x (still r (omega arith) (omega arith)) (omega arith)) (omega arith) (λ i a b. still i (omega arith) (omega arith)))

-- The next rule that fires is found.
pub ruling_next : {rules : List Rule} {rows : List Record} {store digits : List ℕ} {m shape kind s r q : ℕ} {codes index : List ℕ} {ways : List (List ℕ)} {fired : List Bool} {n : ℕ}
    → Ruling rules rows store digits m shape kind s r codes index ways fired n → NextFire store m r kind digits q
    → Ruling rules rows store digits m shape kind s q codes index ways fired n
ruling_next {rules} {rows} {store} {digits} {m} {shape} {kind} {s} {r} {q} {codes} {index} {ways} {fired} {n} x f =
    let a = f.begun in
    let b = f.within in
    let e : r + (q - r) ≡ q = omega arith in
    subst (λ (v : ℕ). Ruling rules rows store digits m shape kind s v codes index ways fired n) e
    (ruling_skip (q - r) x (omega arith) (λ i l h. f.still i l (omega arith)))

module _ {rules : List Rule} {rows : List Record} {store digits : List ℕ} {m shape kind s r heads h : ℕ} {codes index : List ℕ} {ways : List (List ℕ)} {fired : List Bool} {n : ℕ}
    (x : Heading rules rows store digits m shape kind s r heads h codes index ways fired n) where
  -- All H lines were tried.
  pub heading_last : heads ≤ h → Ruling rules rows store digits m shape kind s (r + 1) codes index ways fired n
  heading_last all =
      let low = x.r_low in
      let up = x.h_low in
      let are = x.heads_are in
      let named = named_ruled x.ruled r low in
      let four = (few_ruled x.ruled).heads_few (suc r) (rule_in (row_bytes store r)) named in
      let len = heads_length (row_bytes store r) in
      record {
        r_low = omega arith;
        s_low = x.s_low;
        here = x.here;
        ruled = x.ruled;
        on = x.on;
        doing = doing_rule (few_ruled x.ruled) x.doing s r h (rule_in (row_bytes store r)) refl refl named (omega arith) (omega arith);
      }

  pub heading_same : (codes' index' : List ℕ) (ways' : List (List ℕ)) (n' : ℕ) → codes' ≡ codes → index' ≡ index → ways' ≡ ways → n' ≡ n
      → Heading rules rows store digits m shape kind s r heads h codes' index' ways' fired n'
  heading_same codes' index' ways' n' a b c d =
      along (λ codes index ways n. Heading rules rows store digits m shape kind s r heads h codes index ways fired n) codes index codes' index' ways ways' n n' a b c d x

  -- An H line is tried.
  pub heading_below : h < heads → h < get_or (row_bytes store r) 28 0
  heading_below l = let are = x.heads_are in omega arith

  pub heading_four : heads ≤ 4
  heading_four =
      let are = x.heads_are in
      let four = (few_ruled x.ruled).heads_few (suc r) (rule_in (row_bytes store r)) (named_ruled x.ruled r x.r_low) in
      let len = heads_length (row_bytes store r) in omega arith

  module _ (code : ℕ) (is : MadeOf (rule_in (row_bytes store r)) h digits code) (high : h < heads) where
    the_head : (g : Head) × (nth (rule_in (row_bytes store r)).heads (suc h) ≡ some g)
    the_head = head_there store m rules x.ruled.fits x.ruled.are r h (heading_below high)

    the_made : shape_at code ≡ shape_from (rule_in (row_bytes store r)) (shape_no codes s) the_head.0
    the_made =
        subst (λ (v : ℕ). shape_at code ≡ shape_from (rule_in (row_bytes store r)) (shape_at v) the_head.0) x.here
        (made_is x.on (rule_in (row_bytes store r)) h code the_head.0 is x.applies the_head.1)

    -- Its shape was there.
    pub heading_seen : (get_or index code 0 ≡ 0 → ⊥) → Heading rules rows store digits m shape kind s r heads (h + 1) codes index ways fired n
    heading_seen marked =
        record {
          h_low = omega arith;
          r_low = x.r_low;
          s_low = x.s_low;
          here = x.here;
          ruled = x.ruled;
          on = x.on;
          heads_are = x.heads_are;
          applies = x.applies;
          doing =
              doing_seen (few_ruled x.ruled) x.doing s r h code (rule_in (row_bytes store r)) the_head.0 refl (named_ruled x.ruled r x.r_low) the_head.1 the_made marked;
        }

    -- It is put at the end.
    pub heading_push : (n ≡ 512 → ⊥) → get_or index code 0 ≡ 0
        → Heading rules rows store digits m shape kind s r heads (h + 1) (set codes n code) (set index code (n + 1)) (set ways n ((s + 1) ∷ (r + 1) ∷ (h + 1) ∷ [])) fired (n + 1)
    heading_push ne z =
        let low = x.s_low in
        record {
          h_low = omega arith;
          r_low = x.r_low;
          s_low = omega arith;
          here = x.here ∙ sym (old codes n code (room_of x.doing.kept ne) s low);
          ruled = x.ruled;
          on = x.on;
          heads_are = x.heads_are;
          applies = x.applies;
          doing =
              doing_push (few_ruled x.ruled) x.doing s r h code (rule_in (row_bytes store r)) the_head.0 refl refl low (named_ruled x.ruled r x.r_low) the_head.1
              (applies_here (rule_in (row_bytes store r)) codes s shape x.here x.applies) the_made ne is.small
              (made-fits x.on (rule_in (row_bytes store r)) h code the_head.0 is x.applies the_head.1) z;
        }

    -- There is no room for it.
    pub heading_more : n ≡ 512 → get_or index code 0 ≡ 0 → MoreThan (Derived rules rows) 512
    heading_more full z =
        doing_more x.doing s r h code (rule_in (row_bytes store r)) the_head.0 x.s_low (named_ruled x.ruled r x.r_low) the_head.1
        (applies_here (rule_in (row_bytes store r)) codes s shape x.here x.applies) the_made full is.small z

-- Nothing is left to try.
pub try_all : {rules : List Rule} {rows : List Record} {codes index : List ℕ} {ways : List (List ℕ)} {fired : List Bool} {store : List ℕ} {n m : ℕ} → Ruled rules store m → (s : ℕ) → n ≤ s
    → Doing rules rows codes index ways fired n (turn s 0 0) (256 * s)
    → Kept rules rows codes index ways n × Whole rules rows codes n × FiredRules rules codes fired n
try_all ruled s all d = doing_all (few_ruled ruled) d s refl refl all

-- The first rule is next.
pub ruling_first : {rules : List Rule} {rows : List Record} {store codes index : List ℕ} {ways : List (List ℕ)} {fired : List Bool} {m n t : ℕ} (s shape : ℕ) (digits : List ℕ)
    → Ruled rules store m → Doing rules rows codes index ways fired n t (256 * s) → t ≡ turn s 0 0 → s < n → shape ≡ get_or codes s 0
    → digits ≡ digits_of (shape % 278 + 1)
    → Ruling rules rows store digits m shape (shape / 278 + 1) s 0 codes index ways fired n
ruling_first {rules} {rows} {store} {codes} {index} {ways} {fired} {m} {n} {t} s shape digits ruled d at-t low here are =
    record {
      r_low = omega arith;
      s_low = low;
      here = here;
      ruled = ruled;
      on = trying shape digits (subst (λ (v : ℕ). ShapeFits (shape_at v)) (sym here) (d.kept.fits s low)) are;
      doing =
          subst₂ (Doing rules rows codes index ways fired n) at-t (let e : 256 * s ≡ 256 * s + 0 = omega arith in e) d;
    }
