-- Visits: a rule on a record, all rules, all records. Assumes nothing.
use mathlib.Core.Path.{◌≡◌, refl, sym, ◌∙◌, ap, subst}
use mathlib.Core.Logic.{◌⊎◌, inl, inr}
use mathlib.Core.List.{List, [], ◌∷◌, ◌++◌, map}
use Prim.Native.Nat.{ℕ, zero, suc, ◌+◌, ◌-◌, ◌*◌, ◌≤◌, ◌<◌}
use native.Mathlib.Decide.{ℕ_discrete}
use native.Mathlib.Numerals.{add-one}
use native.Mathlib.Omega.{arith}
use lib.ListN.{length, get_or, get_elem?, set, length-append, length-set}
use mathlib.Core.Option.{Option as Maybe, some}
use Rattle.std.specs.Prelude.{Option, Some, None}
use lib.Seq.{get_or-set_same, get_or-set_other}
use Rattle.patterns.specs.Pattern.{pick}
use Rattle.patterns.proofs.PatternLaws.{pick_yes, pick_no}
use Rattle.chase.specs.Lists.{In, in?}
use Rattle.chase.specs.Rules.{Rule}
use Rattle.chase.specs.Making.{carried_values}
use Rattle.rules.specs.Table.{TableFits}
use Rattle.rules.proofs.RuleLaws.{row_fits}
use Rattle.carrying.specs.Carrying.{Row, Row-discrete, Pair, Pair-discrete, State, FiresOn, fires_on?, fresh_marks, pair_of, fired}
use Rattle.carrying.proofs.ListLaws.{begins-add_all, begins-length}
use Rattle.running.specs.Inner.Chains.{Chains}
use Rattle.chains.proofs.ChainLaws.{chains_alike}
use Rattle.running.specs.Inner.Held.{unpacked, row_at, bucket_at, rows_at, section, Stored, Grown, OrOver}
use Rattle.running.specs.Inner.Firing.{rule_at, row_no, RecordIn, with_made}
use Rattle.running.specs.Inner.Pairs.{pair_bucket, rule_of, record_of, IsPair, bucket_of_pair, RecordsIn, Noted, pairs_at}
use Rattle.running.specs.Inner.Visits.{state_at, Running, Over, Left, fired_once, kept_on, kept_rule, kept_rules, kept_visit, kept_after, keep_in, rules_from, rows_held, Ended}
use Rattle.running.specs.declared.visits.Counts.{Counts}
use Rattle.running.proofs.RecordLaws.{rows_at-length, section_same, pushed, pushed_size, pushed_beyond, pushed_chains}
use Rattle.running.proofs.FiringLaws.{stored_record}
use Rattle.running.proofs.PairLaws.{same_carried, carried_same}

-- ---- pairs as a list

abbrev pub pair_no : List ℕ → List ℕ → List ℕ → ℕ → Pair ℕ
pair_no table numbers index j = pair_of (suc (rule_of index j)) (rule_at table (rule_of index j)) (row_no numbers (record_of index j))

pub pairs_at-length : (table numbers index : List ℕ) (n : ℕ) → length (pairs_at table numbers index n) ≡ n
pairs_at-length table numbers index zero = refl
pairs_at-length table numbers index (suc n) =
    omega (arith, length-append (pairs_at table numbers index n) (pair_no table numbers index n ∷ []), pairs_at-length table numbers index n)

pub pairs_at_alike : (table a x b y : List ℕ) (n : ℕ) → ((j : ℕ) → j < n → (rule_of x j ≡ rule_of y j) × (row_at a (record_of x j) ≡ row_at b (record_of y j)))
    → pairs_at table a x n ≡ pairs_at table b y n
pairs_at_alike table a x b y zero e = refl
pairs_at_alike table a x b y (suc n) e =
    let h = e n (omega arith) in
    ap (λ (l : List (Pair ℕ)). l ++ (pair_no table a x n ∷ [])) (pairs_at_alike table a x b y n (λ j l. e j (omega arith)))
    ∙ ap (λ (k : ℕ). pairs_at table b y n ++ (pair_of (suc k) (rule_at table k) (row_no a (record_of x n)) ∷ [])) h.0
    ∙ ap (λ (r : List ℕ). pairs_at table b y n ++ (pair_of (suc (rule_of y n)) (rule_at table (rule_of y n)) (unpacked r) ∷ [])) h.1

in-front : {A : Type 0} (x : A) (xs ys : List A) → In x xs → In x (xs ++ ys)
in-front x [] ys i = absurd i
in-front x (z ∷ xs) ys (inl p) = inl p
in-front x (z ∷ xs) ys (inr i) = inr (in-front x xs ys i)

in_end : {A : Type 0} (x y : A) (xs : List A) → x ≡ y → In x (xs ++ (y ∷ []))
in_end x y [] e = inl e
in_end x y (z ∷ xs) e = inr (in_end x y xs e)

in_either : {A : Type 0} (x y : A) (xs : List A) → In x (xs ++ (y ∷ [])) → In x xs ⊎ (x ≡ y)
in_either x y [] (inl p) = inr p
in_either x y [] (inr i) = absurd i
in_either x y (z ∷ xs) (inl p) = inl (inl p)
in_either x y (z ∷ xs) (inr i) = elim (in_either x y xs i) [ inl j ↦ inl (inr j) | inr e ↦ inr e ]

pairs_at_in : (table numbers index : List ℕ) (n j : ℕ) → j < n → (p : Pair ℕ) → p ≡ pair_no table numbers index j → In p (pairs_at table numbers index n)
pairs_at_in table numbers index zero j h p e = absurd (omega arith)
pairs_at_in table numbers index (suc n) j h p e = go (ℕ_discrete j n) (λ l. pairs_at_in table numbers index n j l p e)
  where
    go : Dec (j ≡ n) → (j < n → In p (pairs_at table numbers index n)) → In p (pairs_at table numbers index n ++ (pair_no table numbers index n ∷ []))
    go (yes q) ih = in_end p (pair_no table numbers index n) (pairs_at table numbers index n) (e ∙ ap (pair_no table numbers index) q)
    go (no q) ih = in-front p (pairs_at table numbers index n) (pair_no table numbers index n ∷ []) (ih (omega arith))

in_pairs_at : (table numbers index : List ℕ) (n : ℕ) (p : Pair ℕ) → In p (pairs_at table numbers index n) → (j : ℕ) × (j < n) × (p ≡ pair_no table numbers index j)
in_pairs_at table numbers index zero p i = absurd i
in_pairs_at table numbers index (suc n) p i = go (in_either p (pair_no table numbers index n) (pairs_at table numbers index n) i) (λ k. in_pairs_at table numbers index n p k)
  where
    go : In p (pairs_at table numbers index n) ⊎ (p ≡ pair_no table numbers index n) → (In p (pairs_at table numbers index n) → (j : ℕ) × (j < n) × (p ≡ pair_no table numbers index j))
        → (j : ℕ) × (j < suc n) × (p ≡ pair_no table numbers index j)
    go (inl k) ih = let t = ih k in (t.0, omega (arith, t.1), t.2)
    go (inr e) ih = (n, omega arith, e)

-- ---- a pair that is there, or not

module _ {table numbers index : List ℕ} {rules : ℕ} {c : Counts} (run : Running table numbers index rules c)
    (fits : TableFits table rules) (r i : ℕ) (known : r < rules) (there : i < c.rows) (fires : FiresOn (rule_at table r) (row_no numbers i)) where
  narrow : length (rule_at table r).marks ≤ 6
  narrow = (row_fits table rules r fits known).fits.rule.marks.few

  pub record_in : RecordIn numbers i
  record_in = stored_record run.stored i there

  pub records_in : RecordsIn numbers index c.pairs
  records_in = record { each = λ j h. stored_record run.stored (record_of index j) (run.noted.records_there j h) }

  pub noted_room : Noted c.by table numbers index rules 4096 c.pairs
  noted_room =
      record {
        size = run.noted.size;
        rules_there = run.noted.rules_there;
        records_there = λ j h. omega (arith, run.noted.records_there j h, run.stored.few);
        fired = run.noted.fired;
        chain = run.noted.chain;
      }

  abbrev pair : Pair ℕ
  pair = pair_of (suc r) (rule_at table r) (row_no numbers i)

  pub pair_there : (j : ℕ) → j < c.pairs → IsPair table numbers index r i j → In pair (pairs_at table numbers index c.pairs)
  pair_there j h p =
      pairs_at_in table numbers index c.pairs j h pair
      (ap (λ (l : List ℕ). record { rule = suc r; carried = l })
      (sym (same_carried (rule_at table r) (records_in.each j h).packed record_in.packed
      (subst (λ (k : ℕ). FiresOn (rule_at table k) (row_no numbers (record_of index j))) p.rule (run.noted.fired j h)) fires narrow p.carried))
      ∙ ap (λ (k : ℕ). pair_of (suc k) (rule_at table k) (row_no numbers (record_of index j))) (sym p.rule))

  pub pair_nowhere : ((j : ℕ) → j < c.pairs → IsPair table numbers index r i j → ⊥) → In pair (pairs_at table numbers index c.pairs) → ⊥
  pair_nowhere none q =
      let t = in_pairs_at table numbers index c.pairs pair q in
      let e : suc r ≡ suc (rule_of index t.0) = ap (λ (p : Pair ℕ). p.rule) t.2 in
      let same : rule_of index t.0 ≡ r = omega arith in
      none t.0 t.1
      (record {
        rule = same;
        carried = carried_same (rule_at table r) (records_in.each t.0 t.1).packed record_in.packed
            (subst (λ (k : ℕ). FiresOn (rule_at table k) (row_no numbers (record_of index t.0))) same (run.noted.fired t.0 t.1)) fires narrow
            (ap (λ (k : ℕ). carried_values (rule_at table k) (row_no numbers (record_of index t.0)).numbers) (sym same) ∙ sym (ap (λ (p : Pair ℕ). p.carried) t.2));
      })

-- ---- records grown beside the pairs

module _ {table numbers index : List ℕ} {by rules rows pairs : ℕ} (noted : Noted by table numbers index rules rows pairs)
    {numbers' index' : List ℕ} {n : ℕ} {new : List Row} (g : Grown numbers index by rows numbers' index' n new) where
  same_rule : (j : ℕ) → rule_of index' j ≡ rule_of index j
  same_rule j = g.beyond (16384 + j) (omega arith)

  same_record : (j : ℕ) → record_of index' j ≡ record_of index j
  same_record j = g.beyond (20480 + j) (omega arith)

  same_row : (j : ℕ) → j < pairs → row_at numbers' (record_of index' j) ≡ row_at numbers (record_of index j)
  same_row j h = ap (row_at numbers') (same_record j) ∙ g.same (record_of index j) (noted.records_there j h)

  pub grown_pairs : pairs_at table numbers' index' pairs ≡ pairs_at table numbers index pairs
  grown_pairs = pairs_at_alike table numbers' index' numbers index pairs (λ j h. (same_rule j, same_row j h))

  pub grown_noted : Noted by table numbers' index' rules n pairs
  grown_noted =
      record {
        size = g.size;
        rules_there = λ j h. subst (λ (k : ℕ). k < rules) (sym (same_rule j)) (noted.rules_there j h);
        records_there = λ j h. omega (arith, same_record j, noted.records_there j h, g.more);
        fired = λ j h. subst (λ (k : ℕ). FiresOn (rule_at table k) (row_no numbers' (record_of index' j))) (sym (same_rule j))
            (subst (λ (l : List ℕ). FiresOn (rule_at table (rule_of index j)) (unpacked l)) (sym (same_row j h)) (noted.fired j h));
        chain = subst (λ (h : List ℕ). Chains (bucket_of_pair by table numbers' index') h (section 3 index') pairs) (sym (part 2 (omega arith) (omega arith)))
            (subst (λ (h : List ℕ). Chains (bucket_of_pair by table numbers' index') (section 2 index) h pairs) (sym (part 3 (omega arith) (omega arith)))
            (chains_alike (bucket_of_pair by table numbers index) (bucket_of_pair by table numbers' index') (section 2 index) (section 3 index) pairs
            (λ j h. ap (λ (k : ℕ). pair_bucket by (rule_at table k) k (row_at numbers (record_of index j))) (sym (same_rule j))
            ∙ ap (pair_bucket by (rule_at table (rule_of index' j)) (rule_of index' j)) (sym (same_row j h))) noted.chain));
      }
    where
      part : (c : ℕ) → 2 ≤ c → c ≤ 3 → section c index' ≡ section c index
      part c l m = section_same c index' index (omega (arith, g.size)) (omega (arith, noted.size)) (λ k h. g.beyond (4096 * c + k) (omega arith))

-- ---- a pair noted

abbrev pub noted_in : List ℕ → ℕ → ℕ → ℕ → ℕ → List ℕ
noted_in index count r i b = pushed (set (set index (16384 + count) r) (20480 + count) i) 2 count b

module _ {table numbers index : List ℕ} {rules : ℕ} {c : Counts} (run : Running table numbers index rules c)
    (r i b : ℕ) (known : r < rules) (there : i < c.rows) (fires : FiresOn (rule_at table r) (row_no numbers i))
    (free : (c.pairs ≡ 4096 → ⊥)) (small : b < 4096) (is : b ≡ pair_bucket c.by (rule_at table r) r (row_at numbers i)) where
  room : c.pairs < 4096
  room = omega (arith, free, run.noted.chain.small)

  abbrev one : List ℕ
  one = set index (16384 + c.pairs) r

  abbrev two : List ℕ
  two = set one (20480 + c.pairs) i

  two_size : length two ≡ 24576
  two_size = length-set one (20480 + c.pairs) i ∙ length-set index (16384 + c.pairs) r ∙ run.noted.size

  after_size : length (noted_in index c.pairs r i b) ≡ 24576
  after_size = pushed_size two 2 c.pairs b two_size (omega arith) room small

  two_other : (j : ℕ) → (j ≡ 16384 + c.pairs → ⊥) → (j ≡ 20480 + c.pairs → ⊥) → get_or two j 0 ≡ get_or index j 0
  two_other j g h = get_or-set_other one (20480 + c.pairs) j i 0 h ∙ get_or-set_other index (16384 + c.pairs) j r 0 g

  low_same : (j : ℕ) → j < 8192 → get_or (noted_in index c.pairs r i b) j 0 ≡ get_or index j 0
  low_same j h = pushed_beyond two 2 c.pairs b two_size (omega arith) room small j (inl (omega arith)) ∙ two_other j (λ e. omega arith) (λ e. omega arith)

  rule_old : (j : ℕ) → j < c.pairs → rule_of (noted_in index c.pairs r i b) j ≡ rule_of index j
  rule_old j h =
      pushed_beyond two 2 c.pairs b two_size (omega arith) room small (16384 + j) (inr (omega arith)) ∙ two_other (16384 + j) (λ e. omega arith) (λ e. omega (arith, room))

  record_old : (j : ℕ) → j < c.pairs → record_of (noted_in index c.pairs r i b) j ≡ record_of index j
  record_old j h =
      pushed_beyond two 2 c.pairs b two_size (omega arith) room small (20480 + j) (inr (omega arith)) ∙ two_other (20480 + j) (λ e. omega (arith, room)) (λ e. omega arith)

  rule_new : rule_of (noted_in index c.pairs r i b) c.pairs ≡ r
  rule_new =
      pushed_beyond two 2 c.pairs b two_size (omega arith) room small (16384 + c.pairs) (inr (omega arith))
      ∙ get_or-set_other one (20480 + c.pairs) (16384 + c.pairs) i 0 (λ e. omega arith) ∙ get_or-set_same index (16384 + c.pairs) r 0 (omega (arith, room, run.noted.size))

  record_new : record_of (noted_in index c.pairs r i b) c.pairs ≡ i
  record_new =
      pushed_beyond two 2 c.pairs b two_size (omega arith) room small (20480 + c.pairs) (inr (omega arith))
      ∙ get_or-set_same one (20480 + c.pairs) i 0 (omega (arith, room, run.noted.size, length-set index (16384 + c.pairs) r))

  pub noted_stored : Stored numbers (noted_in index c.pairs r i b) c.by c.rows
  noted_stored =
      record {
        room = run.stored.room;
        size = after_size;
        mixing = run.stored.mixing;
        few = run.stored.few;
        each = run.stored.each;
        chain = subst (λ (h : List ℕ). Chains (bucket_at c.by numbers) h (section 1 (noted_in index c.pairs r i b)) c.rows) (sym (part 0 (omega arith)))
            (subst (λ (h : List ℕ). Chains (bucket_at c.by numbers) (section 0 index) h c.rows) (sym (part 1 (omega arith))) run.stored.chain);
      }
    where
      part : (n : ℕ) → n ≤ 1 → section n (noted_in index c.pairs r i b) ≡ section n index
      part n l = section_same n (noted_in index c.pairs r i b) index (omega (arith, after_size)) (omega (arith, run.noted.size)) (λ k h. low_same (4096 * n + k) (omega arith))

  pub noted_pairs : pairs_at table numbers (noted_in index c.pairs r i b) (c.pairs + 1) ≡ pairs_at table numbers index c.pairs ++ (pair_of (suc r) (rule_at table r) (row_no numbers i) ∷ [])
  noted_pairs =
      ap (pairs_at table numbers (noted_in index c.pairs r i b)) (add-one c.pairs)
      ∙ ap (λ (l : List (Pair ℕ)). l ++ (pair_no table numbers (noted_in index c.pairs r i b) c.pairs ∷ []))
      (pairs_at_alike table numbers (noted_in index c.pairs r i b) numbers index c.pairs (λ j h. (rule_old j h, ap (row_at numbers) (record_old j h))))
      ∙ ap (λ (k : ℕ). pairs_at table numbers index c.pairs ++ (pair_of (suc k) (rule_at table k) (row_no numbers (record_of (noted_in index c.pairs r i b) c.pairs)) ∷ [])) rule_new
      ∙ ap (λ (k : ℕ). pairs_at table numbers index c.pairs ++ (pair_of (suc r) (rule_at table r) (row_no numbers k) ∷ [])) record_new

  pub noted_more : Noted c.by table numbers (noted_in index c.pairs r i b) rules c.rows (c.pairs + 1)
  noted_more =
      record {
        size = after_size;
        rules_there = λ j h. rule_low j h (ℕ_discrete j c.pairs);
        records_there = λ j h. record_low j h (ℕ_discrete j c.pairs);
        fired = λ j h. fired_at j h (ℕ_discrete j c.pairs);
        chain = pushed_chains two 2 c.pairs b two_size (omega arith) room small (bucket_of_pair c.by table numbers (noted_in index c.pairs r i b))
            (subst (λ (h : List ℕ). Chains (bucket_of_pair c.by table numbers (noted_in index c.pairs r i b)) h (section 3 two) c.pairs) (sym (part 2 (omega arith)))
            (subst (λ (h : List ℕ). Chains (bucket_of_pair c.by table numbers (noted_in index c.pairs r i b)) (section 2 index) h c.pairs) (sym (part 3 (omega arith)))
            (chains_alike (bucket_of_pair c.by table numbers index) (bucket_of_pair c.by table numbers (noted_in index c.pairs r i b)) (section 2 index) (section 3 index) c.pairs
            (λ j h. sym (ap (λ (k : ℕ). pair_bucket c.by (rule_at table k) k (row_at numbers (record_of (noted_in index c.pairs r i b) j))) (rule_old j h)
            ∙ ap (λ (k : ℕ). pair_bucket c.by (rule_at table (rule_of index j)) (rule_of index j) (row_at numbers k)) (record_old j h))) run.noted.chain)))
            (is ∙ sym (ap (λ (k : ℕ). pair_bucket c.by (rule_at table k) k (row_at numbers (record_of (noted_in index c.pairs r i b) c.pairs))) rule_new
            ∙ ap (λ (k : ℕ). pair_bucket c.by (rule_at table r) r (row_at numbers k)) record_new));
      }
    where
      part : (n : ℕ) → n ≤ 3 → section n two ≡ section n index
      part n l = section_same n two index (omega (arith, two_size)) (omega (arith, run.noted.size)) (λ k h. two_other (4096 * n + k) (λ e. omega arith) (λ e. omega arith))

      rule_low : (j : ℕ) → j < c.pairs + 1 → Dec (j ≡ c.pairs) → rule_of (noted_in index c.pairs r i b) j < rules
      rule_low j h (yes e) = subst (λ (k : ℕ). k < rules) (sym (ap (rule_of (noted_in index c.pairs r i b)) e ∙ rule_new)) known
      rule_low j h (no e) = subst (λ (k : ℕ). k < rules) (sym (rule_old j (omega arith))) (run.noted.rules_there j (omega arith))

      record_low : (j : ℕ) → j < c.pairs + 1 → Dec (j ≡ c.pairs) → record_of (noted_in index c.pairs r i b) j < c.rows
      record_low j h (yes e) = subst (λ (k : ℕ). k < c.rows) (sym (ap (record_of (noted_in index c.pairs r i b)) e ∙ record_new)) there
      record_low j h (no e) = subst (λ (k : ℕ). k < c.rows) (sym (record_old j (omega arith))) (run.noted.records_there j (omega arith))

      fired_at : (j : ℕ) → j < c.pairs + 1 → Dec (j ≡ c.pairs) → FiresOn (rule_at table (rule_of (noted_in index c.pairs r i b) j)) (row_no numbers (record_of (noted_in index c.pairs r i b) j))
      fired_at j h (yes e) =
          subst (λ (k : ℕ). FiresOn (rule_at table k) (row_no numbers (record_of (noted_in index c.pairs r i b) j))) (sym (ap (rule_of (noted_in index c.pairs r i b)) e ∙ rule_new))
          (subst (λ (k : ℕ). FiresOn (rule_at table r) (row_no numbers k)) (sym (ap (record_of (noted_in index c.pairs r i b)) e ∙ record_new)) fires)
      fired_at j h (no e) =
          subst (λ (k : ℕ). FiresOn (rule_at table k) (row_no numbers (record_of (noted_in index c.pairs r i b) j))) (sym (rule_old j (omega arith)))
          (subst (λ (k : ℕ). FiresOn (rule_at table (rule_of index j)) (row_no numbers k)) (sym (record_old j (omega arith))) (run.noted.fired j (omega arith)))

-- ---- a rule with fresh marks

module _ {table numbers index : List ℕ} {rules : ℕ} {c : Counts} (run : Running table numbers index rules c) (r i : ℕ) where
  abbrev pub before : State
  before = state_at table numbers index c

  abbrev pub pair_here : Pair ℕ
  pair_here = pair_of (suc r) (rule_at table r) (row_no numbers i)

  abbrev pub once_on : State
  once_on = fired_once (suc r) (rule_at table r) (row_no numbers i) before

  pub left_as : (s : State) → before ≡ s → Left table numbers rules c numbers index c s
  left_as s e =
      record {
        room = refl;
        size = run.stored.size;
        mixing = refl;
        more = omega arith;
        running = λ l. run;
        state = λ l. e;
        over = λ l. absurd (omega (arith, run.stored.few));
        same = λ k l. refl;
      }

  pub left_there : In pair_here (pairs_at table numbers index c.pairs) → Left table numbers rules c numbers index c once_on
  left_there q = left_as once_on (sym (pick_yes before (fired (suc r) (rule_at table r) (row_no numbers i) before) (in? Pair-discrete pair_here before.fired) q))

  module _ (new : In pair_here (pairs_at table numbers index c.pairs) → ⊥) where
    once_is : once_on ≡ fired (suc r) (rule_at table r) (row_no numbers i) before
    once_is = pick_no before (fired (suc r) (rule_at table r) (row_no numbers i) before) (in? Pair-discrete pair_here before.fired) new

    pub left_full : c.pairs ≡ 4096 → Left table numbers rules c numbers index (record { rows = 4097; pairs = c.pairs; next = c.next; by = c.by }) once_on
    left_full full =
        record {
          room = refl;
          size = run.stored.size;
          mixing = refl;
          more = omega (arith, run.stored.few);
          running = λ l. absurd (omega arith);
          state = λ l. absurd (omega arith);
          over = λ l. subst Over (sym once_is)
              (inr (omega (arith, length-append (pairs_at table numbers index c.pairs) (pair_here ∷ []), pairs_at-length table numbers index c.pairs)));
          same = λ k l. refl;
        }

    pub left_new : (b : ℕ) → r < rules → i < c.rows → FiresOn (rule_at table r) (row_no numbers i) → (c.pairs ≡ 4096 → ⊥) → b < 4096
        → b ≡ pair_bucket c.by (rule_at table r) r (row_at numbers i) → (f : ℕ) → f ≡ length (fresh_marks (rule_at table r)) → f ≤ 12
        → {numbers' index₁ index' : List ℕ} {n : ℕ} → index₁ ≡ noted_in index c.pairs r i b
        → Grown numbers index₁ c.by c.rows numbers' index' n (with_made c.next (rule_at table r) (row_no numbers i) (rows_at numbers c.rows))
        → Left table numbers rules c numbers' index' (record { rows = n; pairs = c.pairs + 1; next = c.next + f; by = c.by }) once_on
    left_new b known there fires free small is f fresh few {numbers'} {index₁} {index'} {n} e g₁ =
        record {
          room = g.room;
          size = g.size;
          mixing = refl;
          more = g.more;
          running = λ l. record {
            stored = g.stored l;
            noted = grown_noted noted g;
            low = omega (arith, run.low);
          };
          state = λ l. (λ k. record {
            rows = g.rows_are l k;
            next = ap (λ (x : ℕ). c.next + x) fresh k;
            fired = (grown_pairs noted g ∙ noted_pairs run r i b known there fires free small is) k;
          }) ∙ sym once_is;
          over = λ l. subst Over (sym once_is) (inl (g.over l));
          same = g.same;
        }
      where
        g : Grown numbers (noted_in index c.pairs r i b) c.by c.rows numbers' index' n (with_made c.next (rule_at table r) (row_no numbers i) (rows_at numbers c.rows))
        g = subst (λ (x : List ℕ). Grown numbers x c.by c.rows numbers' index' n (with_made c.next (rule_at table r) (row_no numbers i) (rows_at numbers c.rows))) e g₁

        noted : Noted c.by table numbers (noted_in index c.pairs r i b) rules c.rows (c.pairs + 1)
        noted = noted_more run r i b known there fires free small is

  pub stored_noted : (b : ℕ) → r < rules → i < c.rows → FiresOn (rule_at table r) (row_no numbers i) → (c.pairs ≡ 4096 → ⊥) → b < 4096
      → b ≡ pair_bucket c.by (rule_at table r) r (row_at numbers i) → {index₁ : List ℕ} → index₁ ≡ noted_in index c.pairs r i b → Stored numbers index₁ c.by c.rows
  stored_noted b known there fires free small is {index₁} e =
      subst (λ (x : List ℕ). Stored numbers x c.by c.rows) (sym e) (noted_stored run r i b known there fires free small is)

-- What is said of an answer follows from what was.
pub over_as : {Said Other : Counts → Type 0} (r : Option Counts) → ((d : Counts) → Said d → Other d) → OrOver rows_held Said r → OrOver rows_held Other r
over_as (Some d) f o = (o.0, f d o.1)
over_as None f o = (o.0, o.1, f o.0 o.2)

-- ---- any rule

kept_once : (k n : ℕ) (r : Rule) (w : Row) (s : State) → (k ≡ 0 → ⊥) → fired_once n r w s ≡ kept_on k n r w s
kept_once zero n r w s h = absurd (h refl)
kept_once (suc k) n r w s h = refl

kept_none : (k n : ℕ) (r : Rule) (w : Row) (s : State) → k ≡ 0
    → record { rows = with_made s.next r w s.rows; next = s.next; fired = s.fired } ≡ kept_on k n r w s
kept_none zero n r w s h = refl
kept_none (suc k) n r w s h = absurd (omega arith)

module _ {table numbers index : List ℕ} {rules : ℕ} {c : Counts} (run : Running table numbers index rules c) (keep r i : ℕ) where
  abbrev pub keyed_on : State
  keyed_on = kept_on keep (suc r) (rule_at table r) (row_no numbers i) (state_at table numbers index c)

  abbrev pub keyed_rule : State
  keyed_rule = kept_rule keep (suc r) (rule_at table r) (row_no numbers i) (state_at table numbers index c)

  pub left_once : {numbers' index' : List ℕ} {d : Counts} → (keep ≡ 0 → ⊥)
      → Left table numbers rules c numbers' index' d (fired_once (suc r) (rule_at table r) (row_no numbers i) (state_at table numbers index c))
      → Left table numbers rules c numbers' index' d keyed_on
  left_once {numbers'} {index'} {d} kept l =
      subst (Left table numbers rules c numbers' index' d)
      (kept_once keep (suc r) (rule_at table r) (row_no numbers i) (state_at table numbers index c) kept) l

  pub left_made : keep ≡ 0 → {numbers' index' : List ℕ} {n : ℕ}
      → Grown numbers index c.by c.rows numbers' index' n (with_made c.next (rule_at table r) (row_no numbers i) (rows_at numbers c.rows))
      → Left table numbers rules c numbers' index' (record { rows = n; pairs = c.pairs; next = c.next; by = c.by }) keyed_on
  left_made none {numbers'} {index'} {n} g =
      subst (Left table numbers rules c numbers' index' (record { rows = n; pairs = c.pairs; next = c.next; by = c.by }))
      (kept_none keep (suc r) (rule_at table r) (row_no numbers i) (state_at table numbers index c) none)
      (record {
        room = g.room;
        size = g.size;
        mixing = refl;
        more = g.more;
        running = λ l. record { stored = g.stored l; noted = grown_noted run.noted g; low = run.low };
        state = λ l. (λ k. record { rows = g.rows_are l k; next = c.next; fired = grown_pairs run.noted g k });
        over = λ l. inl (g.over l);
        same = g.same;
      })

  pub left_fires : {numbers' index' : List ℕ} {d : Counts} → FiresOn (rule_at table r) (row_no numbers i)
      → Left table numbers rules c numbers' index' d keyed_on → Left table numbers rules c numbers' index' d keyed_rule
  left_fires {numbers'} {index'} {d} fires l =
      subst (Left table numbers rules c numbers' index' d)
      (sym (pick_yes keyed_on (state_at table numbers index c) (fires_on? (rule_at table r) (row_no numbers i)) fires)) l

  pub left_idle : (FiresOn (rule_at table r) (row_no numbers i) → ⊥) → Left table numbers rules c numbers index c keyed_rule
  left_idle idle =
      left_as run r i keyed_rule (sym (pick_no keyed_on (state_at table numbers index c) (fires_on? (rule_at table r) (row_no numbers i)) idle))

-- What is left after both.
pub left_then : {table numbers : List ℕ} {rules : ℕ} {first : Counts} {numbers' index' : List ℕ} {c : Counts} {s : State} → Left table numbers rules first numbers' index' c s
    → {numbers'' index'' : List ℕ} {d : Counts} {t u : State} → Left table numbers' rules c numbers'' index'' d t → t ≡ u → Left table numbers rules first numbers'' index'' d u
left_then l m e =
    record {
      room = m.room ∙ l.room;
      size = m.size;
      mixing = m.mixing ∙ l.mixing;
      more = omega (arith, m.more, l.more);
      running = m.running;
      state = λ h. m.state h ∙ e;
      over = λ h. subst Over e (m.over h);
      same = λ j h. m.same j (omega (arith, l.more)) ∙ l.same j h;
    }

-- ---- all rules

-- What is too much stays so.
more_made : (next : ℕ) (r : Rule) (w : Row) (rows : List Row) → length rows ≤ length (with_made next r w rows)
more_made next r w rows =
    begins-length rows (with_made next r w rows) (begins-add_all Row-discrete (map (Rattle.carrying.specs.Carrying.row_made next r w) r.heads) rows)

over_fired : (n : ℕ) (r : Rule) (w : Row) (s : State) → Over s → Over (fired n r w s)
over_fired n r w s (inl h) = inl (omega (arith, more_made s.next r w s.rows))
over_fired n r w s (inr h) = inr (omega (arith, length-append s.fired (pair_of n r w ∷ [])))

over_kept : (k n : ℕ) (r : Rule) (w : Row) (s : State) → Over s → Over (kept_on k n r w s)
over_kept zero n r w s (inl h) = inl (omega (arith, more_made s.next r w s.rows))
over_kept zero n r w s (inr h) = inr h
over_kept (suc k) n r w s h = go (in? Pair-discrete (pair_of n r w) s.fired)
  where
    go : (p : Dec (In (pair_of n r w) s.fired)) → Over (pick p s (fired n r w s))
    go (yes p) = h
    go (no p) = over_fired n r w s h

over_rule : (k n : ℕ) (r : Rule) (w : Row) (s : State) → Over s → Over (kept_rule k n r w s)
over_rule k n r w s h = go (fires_on? r w)
  where
    go : (p : Dec (FiresOn r w)) → Over (pick p (kept_on k n r w s) s)
    go (yes p) = over_kept k n r w s h
    go (no p) = h

over_rules : (keep : ℕ → ℕ) (n : ℕ) (rs : List Rule) (w : Row) (s : State) → Over s → Over (kept_rules keep n rs w s)
over_rules keep n [] w s h = h
over_rules keep n (r ∷ rs) w s h = over_rules keep (suc n) rs w (kept_rule (keep n) (suc n) r w s) (over_rule (keep n) (suc n) r w s h)

-- The first r rules are visited; the others lead to the last state.
pub record Going (keep : ℕ → ℕ) (table numbers : List ℕ) (rules : ℕ) (first : Counts) (w : Row) (last : State) (numbers' index' : List ℕ) (c : Counts) (r : ℕ) : Type 0 where
  pub within : r ≤ rules
  pub few : c.rows ≤ 4096
  pub now : State
  pub left : Left table numbers rules first numbers' index' c now
  pub rest : kept_rules keep r (rules_from table r (rules - r)) w now ≡ last

pub going_begun : {keep : ℕ → ℕ} {table numbers index : List ℕ} {rules : ℕ} {c : Counts} (run : Running table numbers index rules c) (w : Row)
    → Going keep table numbers rules c w (kept_rules keep 0 (rules_from table 0 rules) w (state_at table numbers index c)) numbers index c 0
going_begun {keep} {table} {numbers} {index} {rules} {c} run w =
    record {
      within = omega arith;
      few = run.stored.few;
      now = state_at table numbers index c;
      left = left_as run 0 0 (state_at table numbers index c) refl;
      rest = ap (λ (k : ℕ). kept_rules keep 0 (rules_from table 0 k) w (state_at table numbers index c)) (let e : rules - 0 ≡ rules = omega arith in e);
    }

module _ {keep : ℕ → ℕ} {table numbers : List ℕ} {rules : ℕ} {first : Counts} {w : Row} {last : State} {numbers' index' : List ℕ} {c : Counts} {r : ℕ}
    (g : Going keep table numbers rules first w last numbers' index' c r) (i : ℕ) (there : i < first.rows) (is : row_no numbers i ≡ w) (more : r < rules) where
  same_here : row_no numbers' i ≡ w
  same_here = ap unpacked (g.left.same i there) ∙ is

  rest_here : kept_rules keep (r + 1) (rules_from table (r + 1) (rules - (r + 1))) w (kept_rule (keep r) (suc r) (rule_at table r) w g.now) ≡ last
  rest_here =
      let e : rules - r ≡ suc (rules - (r + 1)) = omega arith in
      ap (λ (k : ℕ). kept_rules keep k (rules_from table k (rules - (r + 1))) w (kept_rule (keep r) (suc r) (rule_at table r) w g.now)) (add-one r)
      ∙ sym (ap (λ (k : ℕ). kept_rules keep r (rules_from table r k) w g.now) e) ∙ g.rest

  -- A rule of another kind is passed over.
  pub going_idle : ((rule_at table r).kind ≡ w.kind → ⊥) → Going keep table numbers rules first w last numbers' index' c (r + 1)
  going_idle other =
      record {
        within = omega arith;
        few = g.few;
        now = g.now;
        left = g.left;
        rest =
            ap (kept_rules keep (r + 1) (rules_from table (r + 1) (rules - (r + 1))) w)
            (sym (pick_no (kept_on (keep r) (suc r) (rule_at table r) w g.now) g.now (fires_on? (rule_at table r) w) (λ f. other (sym f.0))))
            ∙ rest_here;
      }

  module _ {numbers'' index'' : List ℕ} {d : Counts}
      (l : Left table numbers' rules c numbers'' index'' d (kept_rule (keep r) (suc r) (rule_at table r) (row_no numbers' i) (state_at table numbers' index' c))) where
    next_is : kept_rule (keep r) (suc r) (rule_at table r) (row_no numbers' i) (state_at table numbers' index' c) ≡ kept_rule (keep r) (suc r) (rule_at table r) w g.now
    next_is = λ k. kept_rule (keep r) (suc r) (rule_at table r) (same_here k) (g.left.state g.few k)

    left_next : Left table numbers rules first numbers'' index'' d (kept_rule (keep r) (suc r) (rule_at table r) w g.now)
    left_next = left_then g.left l next_is

    pub going_more : d.rows ≤ 4096 → Going keep table numbers rules first w last numbers'' index'' d (r + 1)
    going_more h = record { within = omega arith; few = h; now = kept_rule (keep r) (suc r) (rule_at table r) w g.now; left = left_next; rest = rest_here }

    pub going_over : 4096 < d.rows → Left table numbers rules first numbers'' index'' d last
    going_over h =
        record {
          room = left_next.room;
          size = l.size;
          mixing = left_next.mixing;
          more = left_next.more;
          running = λ k. absurd (omega arith);
          state = λ k. absurd (omega arith);
          over = λ k. subst Over rest_here (over_rules keep (r + 1) (rules_from table (r + 1) (rules - (r + 1))) w (kept_rule (keep r) (suc r) (rule_at table r) w g.now) (left_next.over h));
          same = left_next.same;
        }

pub going_done : {keep : ℕ → ℕ} {table numbers : List ℕ} {rules : ℕ} {first : Counts} {w : Row} {last : State} {numbers' index' : List ℕ} {c : Counts} {r : ℕ}
    → Going keep table numbers rules first w last numbers' index' c r → rules ≤ r → Left table numbers rules first numbers' index' c last
going_done {keep} {table} {numbers} {rules} {first} {w} {last} {numbers'} {index'} {c} {r} g h =
    let e : rules - r ≡ 0 = omega arith in
    subst (Left table numbers rules first numbers' index' c) (sym (ap (λ (k : ℕ). kept_rules keep r (rules_from table r k) w g.now) e) ∙ g.rest) g.left

-- ---- all records

element_last : {A : Type 0} (xs : List A) (y : A) (i : ℕ) → i ≡ length xs → get_elem? (xs ++ (y ∷ [])) i ≡ some y
element_last [] y zero e = refl
element_last [] y (suc i) e = absurd (omega arith)
element_last (x ∷ xs) y zero e = absurd (omega arith)
element_last (x ∷ xs) y (suc i) e = element_last xs y i (omega arith)

element_front : {A : Type 0} (xs ys : List A) (i : ℕ) → i < length xs → get_elem? (xs ++ ys) i ≡ get_elem? xs i
element_front [] ys i h = absurd (omega arith)
element_front (x ∷ xs) ys zero h = refl
element_front (x ∷ xs) ys (suc i) h = element_front xs ys i (omega arith)

rows_at_element : (numbers : List ℕ) (n i : ℕ) → i < n → get_elem? (rows_at numbers n) i ≡ some (row_no numbers i)
rows_at_element numbers zero i h = absurd (omega arith)
rows_at_element numbers (suc n) i h = go (ℕ_discrete i n) (λ l. rows_at_element numbers n i l)
  where
    go : Dec (i ≡ n) → (i < n → get_elem? (rows_at numbers n) i ≡ some (row_no numbers i)) → get_elem? (rows_at numbers n ++ (row_no numbers n ∷ [])) i ≡ some (row_no numbers i)
    go (yes p) ih = element_last (rows_at numbers n) (row_no numbers n) i (p ∙ sym (rows_at-length numbers n)) ∙ ap (λ (k : ℕ). some (row_no numbers k)) (sym p)
    go (no q) ih = element_front (rows_at numbers n) (row_no numbers n ∷ []) i (omega (arith, rows_at-length numbers n)) ∙ ih (omega arith)

-- The first i records are visited.
pub record Visiting (fresh table numbers : List ℕ) (rules : ℕ) (first : Counts) (begin : State) (numbers' index' : List ℕ) (c : Counts) (i : ℕ) : Type 0 where
  pub few : c.rows ≤ 4096
  pub left : Left table numbers rules first numbers' index' c (kept_after (keep_in fresh) (rules_from table 0 rules) begin i)

pub visiting_begun : {fresh table numbers index : List ℕ} {rules : ℕ} {c : Counts} (run : Running table numbers index rules c)
    → Visiting fresh table numbers rules c (state_at table numbers index c) numbers index c 0
visiting_begun {fresh} {table} {numbers} {index} {rules} {c} run =
    record { few = run.stored.few; left = left_as run 0 0 (state_at table numbers index c) refl }

module _ {fresh table numbers : List ℕ} {rules : ℕ} {first : Counts} {begin : State} {numbers' index' : List ℕ} {c : Counts} {i : ℕ}
    (v : Visiting fresh table numbers rules first begin numbers' index' c i) (there : i < c.rows) {numbers'' index'' : List ℕ} {d : Counts}
    (l : Left table numbers' rules c numbers'' index'' d (kept_rules (keep_in fresh) 0 (rules_from table 0 rules) (row_no numbers' i) (state_at table numbers' index' c))) where
  visit_is : kept_rules (keep_in fresh) 0 (rules_from table 0 rules) (row_no numbers' i) (state_at table numbers' index' c) ≡ kept_after (keep_in fresh) (rules_from table 0 rules) begin (i + 1)
  visit_is =
      ap (λ (o : Maybe Row). kept_visit (keep_in fresh) (rules_from table 0 rules) o (state_at table numbers' index' c)) (sym (rows_at_element numbers' c.rows i there))
      ∙ ap (λ (s : State). kept_visit (keep_in fresh) (rules_from table 0 rules) (get_elem? s.rows i) s) (v.left.state v.few)
      ∙ ap (kept_after (keep_in fresh) (rules_from table 0 rules) begin) (sym (add-one i))

  visit_left : Left table numbers rules first numbers'' index'' d (kept_after (keep_in fresh) (rules_from table 0 rules) begin (i + 1))
  visit_left = left_then v.left l visit_is

  pub visiting_more : d.rows ≤ 4096 → Visiting fresh table numbers rules first begin numbers'' index'' d (i + 1)
  visiting_more h = record { few = h; left = visit_left }

  pub visiting_over : 4096 < d.rows → Ended table numbers rules fresh first numbers'' index'' d begin
  visiting_over h = record { visits = i + 1; left = visit_left; ended = λ k. absurd (omega arith) }

pub visiting_done : {fresh table numbers : List ℕ} {rules : ℕ} {first : Counts} {begin : State} {numbers' index' : List ℕ} {c : Counts} (i : ℕ)
    → Visiting fresh table numbers rules first begin numbers' index' c i → c.rows ≤ i → Ended table numbers rules fresh first numbers' index' c begin
visiting_done i v h = record { visits = i; left = v.left; ended = λ k. h }
