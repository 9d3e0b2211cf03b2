-- What the test of a table says: a table that passes is the table of patterns. Assumes nothing.
use mathlib.Core.Path.{◌≡◌, refl, sym, ◌∙◌, ap, ap₂, subst}
use mathlib.Core.Bool.{Bool, ◌&&◌}
use mathlib.Core.Logic.{inl, inr, ⊎_elim}
use mathlib.Core.List.{List, [], ◌∷◌, ◌++◌, append-nil, append_assoc}
use Prim.Native.Nat.{ℕ, zero, suc, ◌+◌, ◌<◌, ◌≤◌, max}
use native.Mathlib.Nat.{eq-or-lt_of_le}
use native.Mathlib.Omega.{arith}
use lib.Dec.{T, leb, eqb, leb→le, eqb→eq}
use lib.ListN.{length, length-append}
use Rattle.patterns.specs.Lists.{In}
use Rattle.patterns.specs.Pattern.{patterns, rows, pattern_table}
use Rattle.patterns.specs.PatternTable.{appears, Pattern, entries_of, same, every, digits_right, rising, largest, among, followed_to, followed, complete, entries_test, table_test}
use Rattle.patterns.proofs.BoolLaws.{both_left, both_right, either_cases}
use Rattle.patterns.proofs.PatternOrder.{Up, rising_up, up_unique}
use Rattle.patterns.proofs.PatternList.{appears_parts, listed, patterns_in, patterns_up}

-- What each part says.
same_is : (xs ys : List ℕ) → T (same xs ys) → xs ≡ ys
unfolding same
same_is [] [] t = refl
same_is [] (y ∷ ys) t = absurd t
same_is (x ∷ xs) [] t = absurd t
same_is (x ∷ xs) (y ∷ ys) t =
    ap₂ ◌∷◌ (eqb→eq x y (both_left (eqb x y) (same xs ys) t)) (same_is xs ys (both_right (eqb x y) (same xs ys) t))

every_in : (test : List ℕ → Bool) (l : List (List ℕ)) → T (every test l) → (p : List ℕ) → In p l → T (test p)
unfolding every
every_in test [] t p i = absurd i
every_in test (q ∷ l) t p (inl e) = subst (λ (x : List ℕ). T (test x)) (sym e) (both_left (test q) (every test l) t)
every_in test (q ∷ l) t p (inr i) = every_in test l (both_right (test q) (every test l) t) p i

digits_right_is : (p : List ℕ) → T (digits_right p) → Pattern p
unfolding digits_right
digits_right_is p t =
    let u = both_left (leb 1 (length p) && leb (length p) 6) (appears 0 p) t in
    record {
      some = leb→le 1 (length p) (both_left (leb 1 (length p)) (leb (length p) 6) u);
      most = leb→le (length p) 6 (both_right (leb 1 (length p)) (leb (length p) 6) u);
      digits = both_right (leb 1 (length p) && leb (length p) 6) (appears 0 p) t;
    }

among_in : (l : List (List ℕ)) (p : List ℕ) → T (among l p) → In p l
unfolding among
among_in [] p t = t
among_in (q ∷ l) p t = elim (either_cases (same p q) (among l p) t) [ inl s ↦ inl (same_is p q s) | inr s ↦ inr (among_in l p s) ]

followed_to_in : (l : List (List ℕ)) (p : List ℕ) (n d : ℕ) → T (followed_to l p n) → 1 ≤ d → d ≤ n → In (p ++ (d ∷ [])) l
unfolding followed_to
followed_to_in l p zero d t lo hi = let z : ⊥ = omega arith in absurd z
followed_to_in l p (suc n) d t lo hi =
    let here = both_left (among l (p ++ (suc n ∷ []))) (followed_to l p n) t in
    let more = both_right (among l (p ++ (suc n ∷ []))) (followed_to l p n) t in
    ⊎_elim
    (λ (e : d ≡ suc n). among_in l (p ++ (d ∷ [])) (subst (λ (k : ℕ). T (among l (p ++ (k ∷ [])))) (sym e) here))
    (λ (b : d < suc n). followed_to_in l p n d more lo (omega arith))
    (eq-or-lt_of_le hi)

followed_in : (l : List (List ℕ)) (p : List ℕ) (d : ℕ) → T (followed l p) → length p < 6 → 1 ≤ d → d ≤ suc (largest p) → In (p ++ (d ∷ [])) l
unfolding followed
followed_in l p d t b lo hi =
    elim (either_cases (leb 6 (length p)) (followed_to l p (suc (largest p))) t) [
      | inl s ↦ let z : ⊥ = omega (arith, leb→le 6 (length p) s) in absurd z
      | inr s ↦ followed_to_in l p (suc (largest p)) d s lo hi
    ]

largest_end : (p : List ℕ) (d : ℕ) → largest (p ++ (d ∷ [])) ≡ max (largest p) d
unfolding largest
largest_end [] d = omega arith
largest_end (x ∷ p) d = omega (arith, largest_end p d)

-- NONE IS MISSING: a list by first appearance is reached from nothing, digit by digit.
module _ (l : List (List ℕ)) (closed : (p : List ℕ) → In p ([] ∷ l) → T (followed l p)) where
  reached : (p ds : List ℕ) → In p ([] ∷ l) → T (appears (largest p) ds) → length p + length ds ≤ 6 → In (p ++ ds) ([] ∷ l)
  reached p [] i t h = subst (λ (q : List ℕ). In q ([] ∷ l)) (sym (append-nil p)) i
  reached p (d ∷ ds) i t h =
      let s = appears_parts (largest p) d ds t in
      let next = followed_in l p d (closed p i) (omega arith) s.0 s.1 in
      subst (λ (q : List ℕ). In q ([] ∷ l)) (append_assoc p (d ∷ []) ds)
      (reached (p ++ (d ∷ [])) ds (inr next) (subst (λ (m : ℕ). T (appears m ds)) (sym (largest_end p d)) s.2)
      (omega (arith, length-append p (d ∷ []))))

  closed_complete : (p : List ℕ) → Pattern p → In p l
  unfolding largest
  closed_complete p h =
      elim (reached [] p (inl refl) h.digits (omega (arith, h.most))) [
        | inl e ↦ let z : ⊥ = omega (arith, h.some, ap length e) in absurd z
        | inr i ↦ i
      ]

-- WHAT A PASSED TEST SAYS.
pub record Passed (table : List ℕ) : Type 0 where
  pub bytes : table ≡ rows (entries_of table)
  pub digits : (p : List ℕ) → In p (entries_of table) → Pattern p
  pub order : Up (entries_of table)
  pub has : (p : List ℕ) → Pattern p → In p (entries_of table)

pub passed : (table : List ℕ) → T (table_test table) → Passed table
unfolding table_test entries_test complete
passed table t =
    let l = entries_of table in
    let right = every digits_right l in
    let s = both_right (same table (rows l)) (right && (rising [] l && complete l)) t in
    let u = both_right right (rising [] l && complete l) s in
    record {
      bytes = same_is table (rows l) (both_left (same table (rows l)) (right && (rising [] l && complete l)) t);
      digits = λ p i. digits_right_is p (every_in digits_right l (both_left right (rising [] l && complete l) s) p i);
      order = rising_up [] l (both_left (rising [] l) (complete l) u);
      has = closed_complete l (every_in (followed l) ([] ∷ l) (both_right (rising [] l) (complete l) u));
    }

-- Its entries are the patterns, and it is their table.
pub entries_are : (table : List ℕ) → T (table_test table) → entries_of table ≡ patterns
entries_are table t =
    let s = passed table t in
    up_unique (entries_of table) patterns s.order patterns_up (λ p i. listed p (s.digits p i)) (λ p i. s.has p (patterns_in p i))

pub table_is : (table : List ℕ) → T (table_test table) → table ≡ pattern_table
unfolding pattern_table
table_is table t = (passed table t).bytes ∙ ap rows (entries_are table t)
