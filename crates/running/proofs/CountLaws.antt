-- Firings counted: pairs forgotten, those of one rule counted, those of all rules. Assumes nothing.
use mathlib.Core.Path.{◌≡◌, refl, sym, ◌∙◌, ap, subst}
use mathlib.Core.Bool.{true, false}
use Rattle.std.specs.Prelude.{Option, is_some}
use mathlib.Core.List.{List, [], ◌∷◌, ◌++◌}
use Prim.Native.Nat.{ℕ, suc, ◌+◌, ◌-◌, ◌*◌, ◌≤◌, ◌<◌}
use native.Mathlib.Numerals.{add-one}
use native.Mathlib.Omega.{arith}
use lib.ListN.{length}
use Rattle.patterns.specs.Pattern.{pick, add, add_all}
use Rattle.patterns.proofs.PatternLaws.{pick_yes, pick_no}
use Rattle.chase.specs.Rules.{Rule}
use Rattle.rules.specs.Table.{TableFits}
use Rattle.rules.specs.Inner.Bytes.{Part, Clear}
use Rattle.rules.proofs.PartLaws.{part-zeros}
use Rattle.carrying.specs.Carrying.{Row, Pair, Pair-discrete, FiresOn, fires_on?, pair_of}
use Rattle.carrying.specs.Inner.Keys.{pairs_on, firings_on}
use Rattle.running.specs.Inner.Chains.{Chains, FoundIn}
use Rattle.running.specs.Inner.Held.{bucket_at, row_at, rows_at, section, Stored}
use Rattle.running.specs.Inner.Firing.{rule_at, row_no, RecordIn}
use Rattle.running.specs.Inner.Pairs.{pair_bucket, IsPair, RecordsIn, InBucket, pairs_at}
use Rattle.running.specs.Inner.Visits.{Running, rules_from}
use Rattle.running.specs.Inner.Counted.{NoPairs}
use Rattle.running.specs.declared.visits.Counts.{Counts}
use Rattle.running.proofs.RecordLaws.{add_there, add_new, found_there, found_nowhere, section_cell, section-length, section_same}
use Rattle.running.proofs.FiringLaws.{add_all_last, stored_record}
use Rattle.running.proofs.VisitLaws.{pairs_at-length, records_in, noted_room, pair_there, pair_nowhere, noted_in, noted_stored, noted_pairs, noted_more}

-- ---- pairs forgotten

pub no_pairs : {before index : List ℕ} → length before ≡ 24576 → Part before 8192 4096 (λ k. 0) index → NoPairs index
no_pairs e p = record { size = p.whole ∙ e; empty = p.bytes }

pub stored_forgotten : {numbers before index : List ℕ} {by count : ℕ} → Stored numbers before by count → Part before 8192 4096 (λ k. 0) index → Stored numbers index by count
stored_forgotten {numbers} {before} {index} {by} {count} s p =
    record {
      room = s.room;
      size = p.whole ∙ s.size;
      mixing = s.mixing;
      few = s.few;
      each = s.each;
      chain = subst (λ (h : List ℕ). Chains (bucket_at by numbers) h (section 1 index) count) (sym (part 0 (omega arith)))
          (subst (λ (h : List ℕ). Chains (bucket_at by numbers) (section 0 before) h count) (sym (part 1 (omega arith))) s.chain);
    }
  where
    part : (n : ℕ) → n ≤ 1 → section n index ≡ section n before
    part n l = section_same n index before (omega (arith, p.whole, s.size)) (omega (arith, s.size)) (λ k h. p.below (4096 * n + k) (omega arith))

-- ---- one row more

module _ (n : ℕ) (r : Rule) (w : Row) where
  pairs_fires : FiresOn r w → (ws : List Row) → pairs_on n r (ws ++ (w ∷ [])) ≡ pairs_on n r ws ++ (pair_of n r w ∷ [])
  pairs_fires f [] = pick_yes (pair_of n r w ∷ []) [] (fires_on? r w) f
  pairs_fires f (v ∷ ws) = go (fires_on? r v) (pairs_fires f ws)
    where
      go : (p : Dec (FiresOn r v)) → pairs_on n r (ws ++ (w ∷ [])) ≡ pairs_on n r ws ++ (pair_of n r w ∷ [])
          → pick p (pair_of n r v ∷ pairs_on n r (ws ++ (w ∷ []))) (pairs_on n r (ws ++ (w ∷ []))) ≡ pick p (pair_of n r v ∷ pairs_on n r ws) (pairs_on n r ws) ++ (pair_of n r w ∷ [])
      go (yes p) ih = ap (λ (l : List (Pair ℕ)). pair_of n r v ∷ l) ih
      go (no p) ih = ih

  pairs_idle : (FiresOn r w → ⊥) → (ws : List Row) → pairs_on n r (ws ++ (w ∷ [])) ≡ pairs_on n r ws
  pairs_idle f [] = pick_no (pair_of n r w ∷ []) [] (fires_on? r w) f
  pairs_idle f (v ∷ ws) = ap (λ (l : List (Pair ℕ)). pick (fires_on? r v) (pair_of n r v ∷ l) l) (pairs_idle f ws)

-- The different pairs of rule r, by its number from 0, on the first i records.
abbrev pub pairs_of : List ℕ → List ℕ → ℕ → ℕ → List (Pair ℕ)
pairs_of table numbers r i = add_all Pair-discrete (pairs_on (suc r) (rule_at table r) (rows_at numbers i)) []

module _ (table numbers : List ℕ) (r i : ℕ) where
  pairs_add : FiresOn (rule_at table r) (row_no numbers i)
      → pairs_of table numbers r (i + 1) ≡ add Pair-discrete (pair_of (suc r) (rule_at table r) (row_no numbers i)) (pairs_of table numbers r i)
  pairs_add f =
      ap (pairs_of table numbers r) (add-one i)
      ∙ ap (λ (l : List (Pair ℕ)). add_all Pair-discrete l []) (pairs_fires (suc r) (rule_at table r) (row_no numbers i) f (rows_at numbers i))
      ∙ add_all_last Pair-discrete (pairs_on (suc r) (rule_at table r) (rows_at numbers i)) (pair_of (suc r) (rule_at table r) (row_no numbers i)) []

  pairs_stay : (FiresOn (rule_at table r) (row_no numbers i) → ⊥) → pairs_of table numbers r (i + 1) ≡ pairs_of table numbers r i
  pairs_stay f =
      ap (pairs_of table numbers r) (add-one i)
      ∙ ap (λ (l : List (Pair ℕ)). add_all Pair-discrete l []) (pairs_idle (suc r) (rule_at table r) (row_no numbers i) f (rows_at numbers i))

-- ---- one rule

abbrev pub counts : ℕ → ℕ → ℕ → Counts
counts count n by = record { rows = count; pairs = n; next = 0; by = by }

-- The n pairs that are noted are those of rule r on the first i records.
pub record Counting (table numbers index : List ℕ) (rules r count by n i : ℕ) : Type 0 where
  pub within : i ≤ count
  pub few : n ≤ i
  pub running : Running table numbers index rules (counts count n by)
  pub pairs : pairs_at table numbers index n ≡ pairs_of table numbers r i

pub counting_begun : (table : List ℕ) {numbers index : List ℕ} (rules r : ℕ) {by count : ℕ} → Stored numbers index by count → NoPairs index
    → Counting table numbers index rules r count by 0 0
counting_begun table {numbers} {index} rules r {by} {count} s none =
    record {
      within = omega arith;
      few = omega arith;
      running = record {
        stored = s;
        noted = record {
          size = s.size;
          rules_there = λ j h. absurd (omega arith);
          records_there = λ j h. absurd (omega arith);
          fired = λ j h. absurd (omega arith);
          chain = record {
            small = omega arith;
            heads_room = section-length 2 index (omega (arith, s.size));
            next_room = section-length 3 index (omega (arith, s.size));
            heads_are = λ b l. section_cell 2 index b l ∙ none.empty b l;
            next_are = λ i h. absurd (omega arith);
          };
        };
        low = omega arith;
      };
      pairs = refl;
    }

module _ {table numbers index : List ℕ} {rules r count by n i : ℕ} (k : Counting table numbers index rules r count by n i) (more : i < count) where
  pub counting_record : RecordIn numbers i
  counting_record = stored_record k.running.stored i more

  pub counting_idle : (FiresOn (rule_at table r) (row_no numbers i) → ⊥) → Counting table numbers index rules r count by n (i + 1)
  counting_idle f =
      record { within = omega arith; few = omega (arith, k.few); running = k.running; pairs = k.pairs ∙ sym (pairs_stay table numbers r i f) }

  module _ (fits : TableFits table rules) (known : r < rules) (fires : FiresOn (rule_at table r) (row_no numbers i)) where
    pub counting_records : RecordsIn numbers index n
    counting_records = records_in k.running fits r i known more fires

    pub counting_bucket : (b : ℕ) → b ≡ pair_bucket by (rule_at table r) r (row_at numbers i) → InBucket table numbers index rules n r i b
    counting_bucket b e = record { by = by; noted = noted_room k.running fits r i known more fires; is = e }

    pub counting_room : n < 4096
    counting_room = omega (arith, k.few, k.running.stored.few)

    abbrev here : Pair ℕ
    here = pair_of (suc r) (rule_at table r) (row_no numbers i)

    module _ (at : Option ℕ) (found : FoundIn (IsPair table numbers index r i) n at) where
      pub counting_there : is_some at ≡ true → Counting table numbers index rules r count by n (i + 1)
      counting_there other =
          let f = found_there (IsPair table numbers index r i) n at found other in
          record {
            within = omega arith;
            few = omega (arith, k.few);
            running = k.running;
            pairs = sym (add_there Pair-discrete here (pairs_at table numbers index n) (pair_there k.running fits r i known more fires f.0 f.1 f.2))
                ∙ ap (add Pair-discrete here) k.pairs ∙ sym (pairs_add table numbers r i fires);
          }

      pub counting_new : is_some at ≡ false → (b : ℕ) → b < 4096 → b ≡ pair_bucket by (rule_at table r) r (row_at numbers i)
          → Counting table numbers (noted_in index n r i b) rules r count by (n + 1) (i + 1)
      counting_new e b small is =
          record {
            within = omega arith;
            few = omega (arith, k.few);
            running = record {
              stored = noted_stored k.running r i b known more fires free small is;
              noted = noted_more k.running r i b known more fires free small is;
              low = omega arith;
            };
            pairs = noted_pairs k.running r i b known more fires free small is
                ∙ sym (add_new Pair-discrete here (pairs_at table numbers index n) (pair_nowhere k.running fits r i known more fires (found_nowhere (IsPair table numbers index r i) n at found e)))
                ∙ ap (add Pair-discrete here) k.pairs ∙ sym (pairs_add table numbers r i fires);
          }
        where
          free : n ≡ 4096 → ⊥
          free h = omega (arith, counting_room)

pub counting_as : {table numbers index index' : List ℕ} {rules r count by n n' i : ℕ} → Counting table numbers index rules r count by n i → index' ≡ index → n' ≡ n
    → Counting table numbers index' rules r count by n' i
counting_as {table} {numbers} {index} {index'} {rules} {r} {count} {by} {n} {n'} {i} k e f =
    subst (λ (m : ℕ). Counting table numbers index' rules r count by m i) (sym f) (subst (λ (l : List ℕ). Counting table numbers l rules r count by n i) (sym e) k)

pub counting_done : {table numbers index : List ℕ} {rules r count by n i : ℕ} → Counting table numbers index rules r count by n i → count ≤ i
    → (n ≡ length (pairs_of table numbers r count)) × (n ≤ 4096) × Stored numbers index by count
counting_done {table} {numbers} {index} {rules} {r} {count} {by} {n} {i} k l =
    let e : i ≡ count = omega (arith, k.within) in (
      sym (pairs_at-length table numbers index n) ∙ ap length k.pairs ∙ ap (λ (j : ℕ). length (pairs_of table numbers r j)) e,
      omega (arith, k.few, k.within, k.running.stored.few),
      k.running.stored,
    )

-- ---- all rules

-- The firings of the first r rules are counted; with those of the others they are all.
pub record Totalling (table numbers index : List ℕ) (rules count by n r : ℕ) : Type 0 where
  pub within : r ≤ rules
  pub few : n ≤ 4096 * r
  pub stored : Stored numbers index by count
  pub rest : n + firings_on (suc r) (rules_from table r (rules - r)) (rows_at numbers count) ≡ firings_on 1 (rules_from table 0 rules) (rows_at numbers count)

pub totalling_begun : (table : List ℕ) {numbers index : List ℕ} (rules : ℕ) {by count : ℕ} → Stored numbers index by count → Totalling table numbers index rules count by 0 0
totalling_begun table {numbers} {index} rules {by} {count} s =
    record {
      within = omega arith;
      few = omega arith;
      stored = s;
      rest =
          let e : rules - 0 ≡ rules = omega arith in
          let q = ap (λ (k : ℕ). firings_on 1 (rules_from table 0 k) (rows_at numbers count)) e in
          omega (arith, q);
    }

pub totalling_more : {table numbers index : List ℕ} {rules count by n r : ℕ} → Totalling table numbers index rules count by n r → r < rules → (m : ℕ)
    → m ≡ length (pairs_of table numbers r count) → m ≤ 4096 → {index' : List ℕ} → Stored numbers index' by count → Totalling table numbers index' rules count by (n + m) (r + 1)
totalling_more {table} {numbers} {index} {rules} {count} {by} {n} {r} t more m e few s =
    record {
      within = omega arith;
      few = omega (arith, t.few);
      stored = s;
      rest =
          let f : rules - r ≡ suc (rules - (r + 1)) = omega arith in
          let g = ap (λ (k : ℕ). firings_on (suc r) (rules_from table r k) (rows_at numbers count)) f in
          let h = ap (λ (k : ℕ). firings_on (suc k) (rules_from table k (rules - (r + 1))) (rows_at numbers count)) (add-one r) in
          omega (arith, g, h, e, t.rest);
    }

pub totalling_done : {table numbers index : List ℕ} {rules count by n r : ℕ} → Totalling table numbers index rules count by n r → rules ≤ r
    → n ≡ firings_on 1 (rules_from table 0 rules) (rows_at numbers count)
totalling_done {table} {numbers} {index} {rules} {count} {by} {n} {r} t l =
    let e : rules - r ≡ 0 = omega arith in
    let q = ap (λ (k : ℕ). firings_on (suc r) (rules_from table r k) (rows_at numbers count)) e in
    omega (arith, q, t.rest)

-- ---- all places cleared

pub all_clear : {before index : List ℕ} → length before ≡ 24576 → Part before 0 24576 (λ k. 0) index → Clear index 24576
all_clear e p = record { size = p.whole ∙ e; zeros = λ k. (part-zeros p (omega (arith, e, p.whole))).each k (omega arith) }
