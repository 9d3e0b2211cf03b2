-- What a loop over the rows counts: the different values of the table, one number after the other. Assumes nothing.
use mathlib.Core.Path.{◌≡◌, refl, sym, ◌∙◌, ap, subst}
use mathlib.Core.Bool.{false≢true}
use mathlib.Core.Logic.{◌⊎◌, inl, inr}
use mathlib.Core.List.{List, [], ◌∷◌, ◌++◌, map}
use Prim.Native.Nat.{ℕ, zero, suc, ◌+◌, ◌-◌}
use native.Mathlib.Decide.{ℕ_discrete}
use native.Mathlib.Omega.{arith}
use lib.ListN.{length}
use Rattle.patterns.specs.Lists.{Numbered, numbered}
use Rattle.patterns.specs.Pattern.{pick, add, add_all}
use Rattle.patterns.proofs.PatternLaws.{add_all-has, add_self, add_keeps}
use Rattle.patterns.proofs.NumberedLaws.{numbered_items}
use Rattle.sheet.specs.Line.{Line}
use Rattle.chase.specs.Lists.{In, in?}
use Rattle.chase.specs.Rules.{row_lines}
use Rattle.chase.specs.Value.{Value, Value-discrete, table, missing}
use Rattle.chase.specs.Run.{row_value, row_record}
use Rattle.chase.specs.Counting.{NoTwo}
use Rattle.chase.proofs.ListLaws.{in_map, map_in, in_add, in_add_all, add_there}
use Rattle.carrying.specs.Carrying.{numbers_in, zeros, row_of, table_rows}
use Rattle.carrying.proofs.FilledLaws.{zeros-append, numbers_no_two}
use Rattle.growth.specs.Forecast.{fields_of, values_in, first_t}

module _ {A : Type 0} (d : Discrete A) where
  -- How many different ones there are.
  abbrev pub different : List A → ℕ
  different xs = length (add_all d xs [])

  pub add_all-append : (xs ys l : List A) → add_all d (xs ++ ys) l ≡ add_all d ys (add_all d xs l)
  add_all-append [] ys l = refl
  add_all-append (x ∷ xs) ys l = add_all-append xs ys (add d x l)

  add-longer : (x : A) (l : List A) → (In x l → ⊥) → length (add d x l) ≡ suc (length l)
  add-longer x [] h = refl
  add-longer x (y ∷ l) h = go (d x y) (add-longer x l (λ i. h (inr i)))
    where
      go : (p : Dec (x ≡ y)) → length (add d x l) ≡ suc (length l) → length (pick p (y ∷ l) (y ∷ add d x l)) ≡ suc (suc (length l))
      go (yes p) ih = absurd (h (inl p))
      go (no k) ih = ap suc ih

  -- One element more: it counts unless it stood before.
  pub different_old : (xs : List A) (x : A) → In x xs → different (xs ++ (x ∷ [])) ≡ different xs
  different_old xs x i = ap length (add_all-append xs (x ∷ []) [] ∙ add_there d x (add_all d xs []) (add_all-has d x xs [] i))

  pub different_new : (xs : List A) (x : A) → (In x xs → ⊥) → different (xs ++ (x ∷ [])) ≡ suc (different xs)
  different_new xs x h =
      ap length (add_all-append xs (x ∷ []) [])
      ∙ add-longer x (add_all d xs []) (λ i. elim (in_add_all d x xs [] i) [ inl j ↦ h j | inr k ↦ k ])

-- The numbers of some lines, one after the other.
abbrev pub numbers_of : List Line → List ℕ
numbers_of ls = numbers_in (map row_of ls)

-- What was seen of some rows, as values and as numbers, z of them 0: the values are as many more as there are zeros after the first.
record Seen (vs : List Value) (ns : List ℕ) (z : ℕ) : Type 0 where
  pub size : length vs ≡ length ns + (z - 1)
  pub value_in : (n : ℕ) → In (table (suc n)) vs → In (suc n) ns
  pub number_in : (n : ℕ) → In (suc n) ns → In (table (suc n)) vs
  pub zero_in : (z ≡ 0 → ⊥) → In 0 ns
  pub no_zero : z ≡ 0 → In 0 ns → ⊥

-- A number that is given.
seen_given : {vs : List Value} {ns : List ℕ} {z : ℕ} (n : ℕ) → Seen vs ns z → Seen (add Value-discrete (table (suc n)) vs) (add ℕ_discrete (suc n) ns) z
seen_given {vs} {ns} {z} n s =
    record {
      size = go (in? ℕ_discrete (suc n) ns);
      value_in = λ m i. elim (in_add Value-discrete (table (suc n)) (table (suc m)) vs i) [
        | inl e ↦ subst (λ (k : ℕ). In k (add ℕ_discrete (suc n) ns)) (let q : suc n ≡ suc m = cc in q) (add_self ℕ_discrete (suc n) ns)
        | inr j ↦ add_keeps ℕ_discrete (suc n) (suc m) ns (s.value_in m j)
      ];
      number_in = λ m i. elim (in_add ℕ_discrete (suc n) (suc m) ns i) [
        | inl e ↦ subst (λ (k : ℕ). In (table k) (add Value-discrete (table (suc n)) vs)) (sym e) (add_self Value-discrete (table (suc n)) vs)
        | inr j ↦ add_keeps Value-discrete (table (suc n)) (table (suc m)) vs (s.number_in m j)
      ];
      zero_in = λ h. add_keeps ℕ_discrete (suc n) 0 ns (s.zero_in h);
      no_zero = λ e i. elim (in_add ℕ_discrete (suc n) 0 ns i) [ inl q ↦ omega arith | inr j ↦ s.no_zero e j ];
    }
  where
    go : Dec (In (suc n) ns) → length (add Value-discrete (table (suc n)) vs) ≡ length (add ℕ_discrete (suc n) ns) + (z - 1)
    go (yes i) = rw (add_there Value-discrete (table (suc n)) vs (s.number_in n i), add_there ℕ_discrete (suc n) ns i) s.size
    go (no h) = omega (arith, s.size, add-longer Value-discrete (table (suc n)) vs (λ i. h (s.value_in n i)), add-longer ℕ_discrete (suc n) ns h)

-- One that is not.
seen_missing : {vs : List Value} {ns : List ℕ} {z : ℕ} (row field : ℕ) → (In (missing row field) vs → ⊥) → Seen vs ns z
    → Seen (add Value-discrete (missing row field) vs) (add ℕ_discrete 0 ns) (suc z)
seen_missing {vs} {ns} {z} row field new s =
    record {
      size = go (ℕ_discrete z 0);
      value_in = λ m i. elim (in_add Value-discrete (missing row field) (table (suc m)) vs i) [
        | inl e ↦ absurd (false≢true cc)
        | inr j ↦ add_keeps ℕ_discrete 0 (suc m) ns (s.value_in m j)
      ];
      number_in = λ m i. elim (in_add ℕ_discrete 0 (suc m) ns i) [
        | inl e ↦ absurd (omega arith)
        | inr j ↦ add_keeps Value-discrete (missing row field) (table (suc m)) vs (s.number_in m j)
      ];
      zero_in = λ h. add_self ℕ_discrete 0 ns;
      no_zero = λ e. absurd (omega arith);
    }
  where
    go : Dec (z ≡ 0) → length (add Value-discrete (missing row field) vs) ≡ length (add ℕ_discrete 0 ns) + (suc z - 1)
    go (yes e) = omega (arith, s.size, e, add-longer Value-discrete (missing row field) vs new, add-longer ℕ_discrete 0 ns (s.no_zero e))
    go (no h) = omega (arith, s.size, h, add-longer Value-discrete (missing row field) vs new, ap length (add_there ℕ_discrete 0 ns (s.zero_in h)))

-- The fields of a row, of which no missing value was seen.
seen_fields : {vs : List Value} {ns : List ℕ} {z : ℕ} (row : ℕ) (ps : List (Numbered ℕ)) → NoTwo (map (λ (p : Numbered ℕ). p.number) ps)
    → ((p : Numbered ℕ) → In p ps → In (missing row p.number) vs → ⊥) → Seen vs ns z
    → Seen (add_all Value-discrete (map (λ (p : Numbered ℕ). row_value row p.number p.item) ps) vs) (add_all ℕ_discrete (map (λ (p : Numbered ℕ). p.item) ps) ns)
    (z + zeros (map (λ (p : Numbered ℕ). p.item) ps))
seen_fields {vs} {ns} {z} row [] once new s = let e : z + 0 ≡ z = omega arith in subst (Seen vs ns) (sym e) s
seen_fields {vs} {ns} {z} row (p ∷ ps) once new s = go p.item refl (λ us ms y h t. seen_fields row ps once.1 h t)
  where
    Rest : List Value → List ℕ → ℕ → Type 0
    Rest us ms y =
        Seen (add_all Value-discrete (map (λ (p : Numbered ℕ). row_value row p.number p.item) ps) us) (add_all ℕ_discrete (map (λ (p : Numbered ℕ). p.item) ps) ms)
        (y + zeros (map (λ (p : Numbered ℕ). p.item) ps))

    -- What is added here is the missing value of no later field.
    later : (v : Value) → (v ≡ missing row p.number) ⊎ ((f : ℕ) → missing row f ≡ v → ⊥) → (q : Numbered ℕ) → In q ps → In (missing row q.number) (add Value-discrete v vs) → ⊥
    later v (inl e) q i j =
        elim (in_add Value-discrete v (missing row q.number) vs j) [
          | inl d ↦ once.0 (subst (λ (n : ℕ). In n (map (λ (p : Numbered ℕ). p.number) ps)) (let h : q.number ≡ p.number = cc (d, e) in h) (in_map (λ (p : Numbered ℕ). p.number) q ps i))
          | inr k ↦ new q (inr i) k
        ]
    later v (inr e) q i j = elim (in_add Value-discrete v (missing row q.number) vs j) [ inl d ↦ e q.number d | inr k ↦ new q (inr i) k ]

    go : (n : ℕ) → p.item ≡ n
        → ((us : List Value) (ms : List ℕ) (y : ℕ) → ((q : Numbered ℕ) → In q ps → In (missing row q.number) us → ⊥) → Seen us ms y → Rest us ms y)
        → Seen (add_all Value-discrete (map (λ (p : Numbered ℕ). row_value row p.number p.item) ps) (add Value-discrete (row_value row p.number p.item) vs))
        (add_all ℕ_discrete (map (λ (p : Numbered ℕ). p.item) ps) (add ℕ_discrete p.item ns)) (z + zeros (p.item ∷ map (λ (p : Numbered ℕ). p.item) ps))
    go zero e ih =
        let v = missing row p.number in
        let h : suc z + zeros (map (λ (p : Numbered ℕ). p.item) ps) ≡ z + suc (zeros (map (λ (p : Numbered ℕ). p.item) ps)) = omega arith in
        rw (e, ← h)
        (ih (add Value-discrete v vs) (add ℕ_discrete 0 ns) (suc z) (later v (inl refl)) (seen_missing row p.number (new p (inl refl)) s))
    go (suc n) e ih =
        rw e
        (ih (add Value-discrete (table (suc n)) vs) (add ℕ_discrete (suc n) ns) z (later (table (suc n)) (inr (λ f d. false≢true cc))) (seen_given n s))

-- A missing value of a row is that row's.
missing_row : (k f row field n : ℕ) → missing k f ≡ row_value row field n → k ≡ row
missing_row k f row field zero e = cc
missing_row k f row field (suc n) e = absurd (false≢true cc)

-- The rows, of which no missing value was seen.
seen_rows : {vs : List Value} {ns : List ℕ} {z : ℕ} (ls : List (Numbered Line)) → NoTwo (map (λ (l : Numbered Line). l.number) ls)
    → ((l : Numbered Line) (f : ℕ) → In l ls → In (missing l.number f) vs → ⊥) → Seen vs ns z
    → Seen (add_all Value-discrete (fields_of (map row_record ls)) vs) (add_all ℕ_discrete (numbers_of (map (λ (l : Numbered Line). l.item) ls)) ns)
    (z + zeros (numbers_of (map (λ (l : Numbered Line). l.item) ls)))
seen_rows {vs} {ns} {z} [] once new s = let e : z + 0 ≡ z = omega arith in subst (Seen vs ns) (sym e) s
seen_rows {vs} {ns} {z} (l ∷ ls) once new s =
    let k = l.number in
    let here = l.item.numbers in
    let rest = numbers_of (map (λ (l : Numbered Line). l.item) ls) in
    let row : Seen (add_all Value-discrete (row_record l).fields vs) (add_all ℕ_discrete here ns) (z + zeros here) =
    subst (λ (ms : List ℕ). Seen (add_all Value-discrete (row_record l).fields vs) (add_all ℕ_discrete ms ns) (z + zeros ms)) (numbered_items here)
    (seen_fields k (numbered here) (numbers_no_two here) (λ p i. new l p.number (inl refl)) s) in
    let all = seen_rows {vs = add_all Value-discrete (row_record l).fields vs} ls once.1 (λ m f i j. later m f i (in_add_all Value-discrete (missing m.number f) (row_record l).fields vs j)) row in
    let count : z + zeros here + zeros rest ≡ z + zeros (here ++ rest) = omega (arith, zeros-append here rest) in
    rw (add_all-append Value-discrete (row_record l).fields (fields_of (map row_record ls)) vs, add_all-append ℕ_discrete here rest ns, ← count) all
  where
    later : (m : Numbered Line) (f : ℕ) → In m ls → In (missing m.number f) (row_record l).fields ⊎ In (missing m.number f) vs → ⊥
    later m f i (inl j) =
        let t = map_in (λ (n : Numbered ℕ). row_value l.number n.number n.item) (numbered l.item.numbers) (missing m.number f) j in
        once.0
        (subst (λ (n : ℕ). In n (map (λ (l : Numbered Line). l.number) ls)) (missing_row m.number f l.number t.0.number t.0.item t.2)
        (in_map (λ (l : Numbered Line). l.number) m ls i))
    later m f i (inr j) = new m f (inr i) j

-- The first t is the count of the different numbers of the R lines, and one more for each 0 after the first.
pub first_by_numbers : (lines : List Line)
    → first_t lines ≡ different ℕ_discrete (numbers_in (table_rows lines)) + (zeros (numbers_in (table_rows lines)) - 1)
unfolding first_t values_in
first_by_numbers lines =
    let s = (seen_rows (numbered (row_lines lines)) (numbers_no_two (row_lines lines)) (λ l f i j. j) nothing_seen).size in
    s ∙ ap (λ (ls : List Line). different ℕ_discrete (numbers_of ls) + (0 + zeros (numbers_of ls) - 1)) (numbered_items (row_lines lines)) ∙ omega arith
  where
    nothing_seen : Seen [] [] 0
    nothing_seen = record { size = refl; value_in = λ n i. i; number_in = λ n i. i; zero_in = λ h. absurd (h refl); no_zero = λ e i. i }
