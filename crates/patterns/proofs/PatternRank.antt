-- A pattern's number is one more than the count of those before it, and a record's digits are a pattern. Assumes nothing.
use mathlib.Core.Path.{◌≡◌, refl, sym, ◌∙◌, ap, ap₂, subst}
use mathlib.Core.Logic.{⊎_elim}
use mathlib.Core.List.{List, [], ◌∷◌, ◌++◌, map}
use Prim.Native.Nat.{ℕ, zero, suc, ◌+◌, ◌-◌, ◌*◌, ◌<◌, ◌≤◌, min, max}
use native.Mathlib.Nat.{zero-mul, suc-mul, eq-or-lt_of_le}
use native.Mathlib.Decide.{ℕ_discrete, dec_lt}
use native.Mathlib.Omega.{arith}
use lib.Dec.{T}
use lib.ListN.{length, get_or, length-append, length-map}
use Rattle.patterns.specs.Lists.{In}
use Rattle.patterns.specs.Pattern.{index, add, pattern, led, going_on, patterns_to, patterns, lists_discrete, number_of}
use Rattle.patterns.specs.PatternTable.{appears, Pattern}
use Rattle.patterns.proofs.ListLaws.{in_map, map_in}
use Rattle.patterns.proofs.PatternLaws.{pick_yes, digits_from, pattern_from, length-pattern, length-add, index-le, index-lt, index_left, index_right, index-map, in_index, get_or-index, index-add, index-add_self, index-add_other}
use Rattle.patterns.proofs.PatternList.{appears-cons, appears_parts, in_going_on, in_patterns_to, listed, patterns_to_in}

-- In how many ways n fields can go on by first appearance after digits up to m: with one of the m digits, or with the next.
unfoldable pub ways : ℕ → ℕ → ℕ
ways zero m = 1
ways (suc n) m = m * ways n m + ways n (suc m)

-- The number of the first pattern of n fields: one more than there are patterns with fewer.
unfoldable pub first : ℕ → ℕ
first zero = 1
first (suc zero) = 1
first (suc (suc n)) = ways (suc n) 0 + first (suc n)

-- The count so far and, for each digit to come, the lists that go on with a lower one.
abbrev pub rank_from : ℕ → ℕ → List ℕ → ℕ
rank_from m count [] = count
rank_from m count (d ∷ ds) = rank_from (max m d) (count + (d - 1) * ways (length ds) m) ds

abbrev pub rank : List ℕ → ℕ
rank p = rank_from 0 (first (length p)) p

pub rank_from_grows : (m count : ℕ) (ds : List ℕ) → count ≤ rank_from m count ds
rank_from_grows m count [] = omega arith
rank_from_grows m count (d ∷ ds) = omega (arith, rank_from_grows (max m d) (count + (d - 1) * ways (length ds) m) ds)

-- HOW MANY there are.
length-led : (rest : ℕ → List (List ℕ)) (w v k d : ℕ) → ((j : ℕ) → d ≤ j → j < d + k → length (rest j) ≡ w)
    → ((j : ℕ) → j ≡ d + k → length (rest j) ≡ v) → length (led rest d (suc k)) ≡ k * w + v
unfolding led
length-led rest w v zero d h last =
    length-append (map (λ (p : List ℕ). d ∷ p) (rest d)) []
    ∙ omega (arith, length-map (rest d) (λ (p : List ℕ). d ∷ p), last d (omega arith), zero-mul w)
length-led rest w v (suc k) d h last =
    length-append (map (λ (p : List ℕ). d ∷ p) (rest d)) (led rest (suc d) (suc k))
    ∙ omega (
      arith,
      length-map (rest d) (λ (p : List ℕ). d ∷ p),
      h d (omega arith) (omega arith),
      length-led rest w v k (suc d) (λ j lo hi. h j (omega arith) (omega arith)) (λ j e. last j (omega arith)),
      suc-mul k w,
    )

length-going_on : (n m : ℕ) → length (going_on n m) ≡ ways n m
unfolding going_on ways
length-going_on zero m = refl
length-going_on (suc n) m =
    length-led (λ (d : ℕ). going_on n (max m d)) (ways n m) (ways n (suc m)) m 1
    (λ j lo hi. length-going_on n (max m j) ∙ ap (ways n) (omega arith))
    (λ j e. length-going_on n (max m j) ∙ ap (ways n) (omega arith))

length-patterns_to : (n : ℕ) → suc (length (patterns_to n)) ≡ first (suc n)
unfolding patterns_to first
length-patterns_to zero = refl
length-patterns_to (suc n) =
    omega (arith, length-append (patterns_to n) (going_on (suc n) 0), length-going_on (suc n) 0, length-patterns_to n)

pub count : length patterns ≡ 278
unfolding patterns first ways
count = let e : suc (length (patterns_to 6)) ≡ 279 = length-patterns_to 6 in omega arith

-- THE PLACE of a pattern among those of its length, and among all.
abbrev lists : Discrete (List ℕ)
lists = lists_discrete ℕ_discrete

index-cons : (d : ℕ) (p : List ℕ) (l : List (List ℕ)) → index lists (d ∷ p) (map (λ (q : List ℕ). d ∷ q) l) ≡ index lists p l
index-cons d p l = index-map lists lists (λ (q : List ℕ). d ∷ q) (λ x y e. cc) p l

-- A list with the first of the leading digits, and one with a later.
first_led : (rest : ℕ → List (List ℕ)) (w d j : ℕ) (p : List ℕ) (l : List (List ℕ)) → d ≡ j → In p (rest j)
    → index lists (j ∷ p) (map (λ (q : List ℕ). d ∷ q) (rest d) ++ l) ≡ (j - d) * w + index lists p (rest j)
first_led rest w d j p l e m =
    subst (λ (k : ℕ). index lists (j ∷ p) (map (λ (q : List ℕ). k ∷ q) (rest k) ++ l) ≡ (j - k) * w + index lists p (rest j)) (sym e)
    (index_left lists (j ∷ p) (map (λ (q : List ℕ). j ∷ q) (rest j)) l (in_map (λ (q : List ℕ). j ∷ q) p (rest j) m)
    ∙ index-cons j p (rest j)
    ∙ omega (arith, ap (λ (n : ℕ). n * w) (none j), zero-mul w))
  where
    none : (k : ℕ) → k - k ≡ 0
    none k = omega arith

later-led : (rest : ℕ → List (List ℕ)) (w d j : ℕ) (p : List ℕ) (l : List (List ℕ)) → d < j → length (rest d) ≡ w
    → index lists (j ∷ p) (map (λ (q : List ℕ). d ∷ q) (rest d) ++ l) ≡ w + index lists (j ∷ p) l
later-led rest w d j p l b e =
    index_right lists (j ∷ p) (map (λ (q : List ℕ). d ∷ q) (rest d)) l other
    ∙ ap (λ (n : ℕ). n + index lists (j ∷ p) l) (length-map (rest d) (λ (q : List ℕ). d ∷ q) ∙ e)
  where
    other : In (j ∷ p) (map (λ (q : List ℕ). d ∷ q) (rest d)) → ⊥
    other i =
        let s = map_in (λ (q : List ℕ). d ∷ q) (rest d) (j ∷ p) i in
        let f = s.2 in
        let g : j ≡ d = cc in
        omega arith

gap : (d j : ℕ) → d < j → j - d ≡ suc (j - suc d)
gap d j l = omega arith

index-led : (rest : ℕ → List (List ℕ)) (w k d j : ℕ) (p : List ℕ) → d ≤ j → j < d + k → In p (rest j)
    → ((i : ℕ) → d ≤ i → i < j → length (rest i) ≡ w) → index lists (j ∷ p) (led rest d k) ≡ (j - d) * w + index lists p (rest j)
unfolding led
index-led rest w zero d j p lo hi m h = let z : ⊥ = omega arith in absurd z
index-led rest w (suc k) d j p lo hi m h =
    ⊎_elim
    (λ (e : d ≡ j). first_led rest w d j p (led rest (suc d) k) e m)
    (λ (l : d < j).
    later-led rest w d j p (led rest (suc d) k) l (h d (omega arith) l)
    ∙ ap (λ (n : ℕ). w + n) (index-led rest w k (suc d) j p l (omega arith) m (λ i a b. h i (omega arith) b))
    ∙ omega (arith, ap (λ (n : ℕ). n * w) (gap d j l), suc-mul (j - suc d) w))
    (eq-or-lt_of_le lo)

rank_going_on : (p : List ℕ) (m c : ℕ) → T (appears m p) → rank_from m c p ≡ c + index lists p (going_on (length p) m)
unfolding going_on
rank_going_on [] m c t = omega (arith, pick_yes zero 1 (lists [] []) refl)
rank_going_on (d ∷ ds) m c t =
    let s = appears_parts m d ds t in
    let n = length ds in
    let hi = s.1 in
    rank_going_on ds (max m d) (c + (d - 1) * ways n m) s.2
    ∙ omega (
      arith,
      index-led (λ (k : ℕ). going_on n (max m k)) (ways n m) (suc m) 1 d ds s.0 (omega arith) (in_going_on ds (max m d) s.2)
          (λ i a b. length-going_on n (max m i) ∙ ap (ways n) (omega arith)),
    )

index-patterns_to : (p : List ℕ) (k : ℕ) → 1 ≤ length p → length p ≤ k → In p (going_on (length p) 0)
    → suc (index lists p (patterns_to k)) ≡ first (length p) + index lists p (going_on (length p) 0)
unfolding patterns_to
index-patterns_to p zero lo hi m = let z : ⊥ = omega arith in absurd z
index-patterns_to p (suc k) lo hi m =
    ⊎_elim
    (λ (e : length p ≡ suc k).
    subst (λ (n : ℕ). suc (index lists p (patterns_to k ++ going_on (suc k) 0)) ≡ first n + index lists p (going_on n 0)) (sym e)
    (omega (
      arith,
      index_right lists p (patterns_to k) (going_on (suc k) 0) (λ i. omega (arith, (patterns_to_in k p i).1)),
      length-patterns_to k,
    )))
    (λ (l : length p < suc k).
    ap suc (index_left lists p (patterns_to k) (going_on (suc k) 0) (in_patterns_to p (length p) k lo (omega arith) m))
    ∙ index-patterns_to p k lo (omega arith) m)
    (eq-or-lt_of_le hi)

pub rank_number : (p : List ℕ) → Pattern p → rank p ≡ number_of p
unfolding number_of patterns
rank_number p h =
    let m = in_going_on p 0 h.digits in
    rank_going_on p 0 (first (length p)) h.digits ∙ sym (index-patterns_to p 6 h.some h.most m)

-- The pattern's number is its place, and the count of those before it.
pub record Placed (p : List ℕ) : Type 0 where
  pub place : ℕ
  pub below : place < 278
  pub there : get_or patterns place [] ≡ p
  pub number : number_of p ≡ suc place
  pub counted : rank p ≡ suc place

pub placed : (p : List ℕ) → Pattern p → Placed p
unfolding number_of
placed p h =
    let m = listed p h in
    let k = index (lists_discrete ℕ_discrete) p patterns in
    let l : k < 278 = omega (arith, count, index-lt (lists_discrete ℕ_discrete) p patterns m) in
    let e = get_or-index (lists_discrete ℕ_discrete) p patterns [] m in
    record { place = k; below = l; there = e; number = refl; counted = rank_number p h }

-- A record's digits are by first appearance.
digits_appear : {A : Type 0} (d : Discrete A) (seen xs : List A) → T (appears (length seen) (digits_from d seen xs))
unfolding appears
digits_appear d seen [] = tt
digits_appear d seen (x ∷ xs) =
    let i = index d x seen in
    appears-cons (length seen) (suc i) (digits_from d (add d x seen) xs) (omega arith) (omega (arith, index-le d x seen))
    (subst (λ (n : ℕ). T (appears n (digits_from d (add d x seen) xs))) (length-add d x seen) (digits_appear d (add d x seen) xs))

pub pattern-appears : {A : Type 0} (d : Discrete A) (xs : List A) → T (appears 0 (pattern d xs))
pattern-appears d xs = subst (λ (p : List ℕ). T (appears 0 p)) (sym (pattern_from d xs)) (digits_appear d [] xs)

-- A record of one to six fields has a pattern of the table.
pub has-pattern : {A : Type 0} (d : Discrete A) (xs : List A) → 1 ≤ length xs → length xs ≤ 6 → Pattern (pattern d xs)
has-pattern d xs lo hi =
    let e = length-pattern d xs in
    record { some = omega arith; most = omega arith; digits = pattern-appears d xs }

-- Digits by first appearance are their own pattern: after digits up to m those seen are 1 to m.
record Upto (seen : List ℕ) (m : ℕ) : Type 0 where
  size : length seen ≡ m
  place : (e : ℕ) → 1 ≤ e → index ℕ_discrete e seen ≡ min (e - 1) m

upto_add : {seen : List ℕ} {m : ℕ} (d : ℕ) → 1 ≤ d → d ≤ suc m → Upto seen m → Upto (add ℕ_discrete d seen) (max m d)
upto_add {seen} {m} d lo hi u = record { size = size; place = λ e l. place e l (ℕ_discrete e d) (dec_lt e (suc m)) (u.place e l) }
  where
    here : index ℕ_discrete d seen ≡ min (d - 1) m
    here = u.place d lo

    size : length (add ℕ_discrete d seen) ≡ max m d
    size = omega (arith, here, length-add ℕ_discrete d seen, u.size)

    place : (e : ℕ) → 1 ≤ e → Dec (e ≡ d) → Dec (e < suc m) → index ℕ_discrete e seen ≡ min (e - 1) m
        → index ℕ_discrete e (add ℕ_discrete d seen) ≡ min (e - 1) (max m d)
    place e l (yes s) q there =
        ap (λ (k : ℕ). index ℕ_discrete k (add ℕ_discrete d seen)) s ∙ index-add_self ℕ_discrete d seen ∙ omega (arith, here)
    place e l (no n) (yes b) there = index-add ℕ_discrete d e seen (in_index ℕ_discrete e seen (omega (arith, u.size))) ∙ omega arith
    place e l (no n) (no b) there = index-add_other ℕ_discrete d e seen n (omega (arith, u.size)) ∙ omega (arith, size)

own_from : (seen p : List ℕ) (m : ℕ) → Upto seen m → T (appears m p) → digits_from ℕ_discrete seen p ≡ p
own_from seen [] m u t = refl
own_from seen (d ∷ ds) m u t =
    let s = appears_parts m d ds t in
    let lo = s.0 in
    let hi = s.1 in
    let here = u.place d lo in
    ap₂ ◌∷◌ (omega arith) (own_from (add ℕ_discrete d seen) ds (max m d) (upto_add d lo hi u) s.2)

pub appears_own : (p : List ℕ) → T (appears 0 p) → pattern ℕ_discrete p ≡ p
appears_own p t =
    pattern_from ℕ_discrete p ∙ own_from [] p 0 (record { size = refl; place = λ e l. omega arith }) t
