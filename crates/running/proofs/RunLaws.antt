-- What a run in memory is of the sheet: how it begins, how it ends, and what it then answers. Assumes nothing.
use mathlib.Core.Path.{◌≡◌, refl, sym, ◌∙◌, ap, subst}
use mathlib.Core.Bool.{false≢true}
use mathlib.Core.Logic.{inl, inr}
use mathlib.Core.List.{List, ◌∷◌}
use Prim.Native.Nat.{ℕ, zero, suc, ◌+◌, ◌*◌, ◌≤◌, ◌<◌}
use native.Mathlib.Omega.{arith}
use lib.ListN.{length, get_or, drop}
use lib.Seq.{drop-drop}
use Rattle.patterns.specs.Outcome.{good, refused}
use Rattle.sheet.specs.Line.{Line}
use Rattle.sheet.specs.Write.{sheet_held}
use Rattle.chase.specs.Lists.{In}
use Rattle.chase.specs.Rules.{Rule, rules_of}
use Rattle.rules.proofs.SheetLaws.{held_lines}
use Rattle.rules.specs.Table.{good_lines, lines_in, rules_in, SheetHeld, table_rules}
use Rattle.carrying.specs.Carrying.{State, after, begins, table_rows}
use Rattle.carrying.specs.Contract.{record_limit, run, Ends}
use Rattle.carrying.specs.Inner.Keys.{key_after, firings_on}
use Rattle.carrying.proofs.SameRun.{same_run, firings_by_rule}
use Rattle.carrying.proofs.SheetMarks.{RightMarks, sheet_marks}
use Rattle.carrying.proofs.Theorems.{over, records_count, fresh_count}
use Rattle.running.specs.Held.{PackedRow, row_at, rows_at, records_fit}
use Rattle.running.specs.Run.{Ran, ended, records_over, number_over, line_wrong, room_wrong, Ended, Passes, Outgrows, RunMeets}
use Rattle.running.specs.Inner.Chains.{Chains}
use Rattle.running.specs.Inner.Held.{section, Stored}
use Rattle.running.specs.Inner.Firing.{rule_at}
use Rattle.running.specs.Inner.Pairs.{bucket_of_pair, Noted, pairs_at}
use Rattle.running.specs.Inner.Visits.{state_at, Running, MarksRight, Over, kept_after, keep_in, rules_from}
use Rattle.running.specs.Inner.Begun.{Begun, RanWith}
use Rattle.running.specs.declared.visits.Counts.{Counts}
use Rattle.running.proofs.RecordLaws.{rows_at-length, section_cell, section-length}
use Rattle.running.proofs.VisitLaws.{pairs_at-length}
use Rattle.running.proofs.KeepLaws.{each_from, Kept, kept_all, Marked, kept_keys}

-- ---- the sheet's rules

-- The rules of a table, from rule r on.
table_from : (table : List ℕ) (r n : ℕ) → table_rules (drop (64 * r) table) n ≡ rules_from table r n
table_from table r zero = refl
table_from table r (suc n) =
    ap (λ (l : List ℕ). rule_at table r ∷ table_rules l n) (drop-drop 64 (64 * r) table ∙ ap (λ (k : ℕ). drop k table) (let e : 64 * r + 64 ≡ 64 * suc r = omega arith in e))
    ∙ ap (λ (l : List Rule). rule_at table r ∷ l) (table_from table (suc r) n)

pub rules-from : (table : List ℕ) (n : ℕ) → rules_from table 0 n ≡ table_rules table n
rules-from table n = sym (table_from table 0 n)

in_from : (table : List ℕ) (n r k : ℕ) → k < n → In (rule_at table (r + k)) (rules_from table r n)
in_from table zero r k h = absurd (omega arith)
in_from table (suc n) r zero h = inl (ap (rule_at table) (let e : r + 0 ≡ r = omega arith in e))
in_from table (suc n) r (suc k) h =
    inr (subst (λ (j : ℕ). In (rule_at table j) (rules_from table (suc r) n)) (let e : suc r + k ≡ r + suc k = omega arith in e) (in_from table n (suc r) k (omega arith)))

pub marks-right : {numbers table : List ℕ} {rules : ℕ} → SheetHeld numbers → table_rules table rules ≡ rules_in numbers → MarksRight table rules
marks-right {numbers} {table} {rules} sheet same = record { body = λ r h. (right r h).body; heads = λ r h. (right r h).heads }
  where
    right : (r : ℕ) → r < rules → RightMarks (rule_at table r)
    right r h =
        sheet_marks (lines_in numbers) (held_lines sheet).1 (rule_at table r)
        (subst (λ (k : ℕ). In (rule_at table k) (rules_in numbers)) (let e : 0 + r ≡ r = omega arith in e)
        (subst (In (rule_at table (0 + r))) (rules-from table rules ∙ same) (in_from table rules 0 r h)))

pub held_good : {numbers : List ℕ} → SheetHeld numbers → sheet_held numbers ≡ good (lines_in numbers)
held_good sheet = sheet.holds ∙ ap good (sym (ap good_lines sheet.holds))

-- ---- the beginning

no_chains : (by : ℕ) (table numbers index : List ℕ) → length index ≡ 24576 → ((j : ℕ) → 8192 ≤ j → get_or index j 0 ≡ 0)
    → Chains (bucket_of_pair by table numbers index) (section 2 index) (section 3 index) 0
no_chains by table numbers index size none =
    record {
      small = omega arith;
      heads_room = section-length 2 index (omega arith);
      next_room = section-length 3 index (omega arith);
      heads_are = λ b h. section_cell 2 index b h ∙ none (4096 * 2 + b) (omega arith);
      next_are = λ i h. absurd (omega arith);
    }

no_pairs : (by : ℕ) (table numbers index : List ℕ) (rules rows : ℕ) → length index ≡ 24576 → ((j : ℕ) → 8192 ≤ j → get_or index j 0 ≡ 0)
    → Noted by table numbers index rules rows 0
no_pairs by table numbers index rules rows size none =
    record {
      size = size;
      rules_there = λ j h. absurd (omega arith);
      records_there = λ j h. absurd (omega arith);
      fired = λ j h. absurd (omega arith);
      chain = no_chains by table numbers index size none;
    }

module _ {lines before numbers index : List ℕ} {c : Counts} (table : List ℕ) (rules : ℕ) (b : Begun lines before numbers index c) where
  pub begun_running : Running table numbers index rules c
  begun_running =
      record {
        stored = b.rows_in.stored;
        noted = subst (Noted c.by table numbers index rules c.rows) (sym b.rows_in.pairs) (no_pairs c.by table numbers index rules c.rows b.rows_in.stored.size b.rows_in.no_pairs);
        low = omega (arith, b.low);
      }

  pub begun_state : state_at table numbers index c ≡ begins (table_rows (lines_in lines))
  begun_state = λ i. record { rows = b.rows_in.rows_are i; next = b.next i; fired = ap (pairs_at table numbers index) b.rows_in.pairs i }

-- ---- the end

-- Where a run has ended with the rows and the next number of the sheet's run.
module _ {lines : List ℕ} (rows : List ℕ) (d : Counts) (sheet : SheetHeld lines) (few : d.rows ≤ 4096) (k : ℕ)
    (done : d.rows ≤ k) (rows_are : rows_at rows d.rows ≡ (run (lines_in lines) k).rows) (next_is : d.next ≡ (run (lines_in lines) k).next) where
  size_is : d.rows ≡ length (run (lines_in lines) k).rows
  size_is = sym (rows_at-length rows d.rows) ∙ ap length rows_are

  ends : Ends (lines_in lines) k
  ends = omega (arith, size_is, done)

  outgrown : (before : List ℕ) → length rows ≡ length before → 100000000 < d.next → Outgrows lines before rows
  outgrown before room h =
      let f = fresh_count (lines_in lines) k ends in
      record {
        lines = lines_in lines;
        sheet = held_good sheet;
        records = length (run (lines_in lines) k).rows;
        counted = records_count (lines_in lines) k ends;
        few = omega (arith, size_is);
        fresh = f.0;
        made = f.1;
        large = omega (arith, h, next_is, f.2);
        room = room;
      }

  ended_so : (before : List ℕ) → length rows ≡ length before → d.next ≤ 100000000 → (n : ℕ) → (Ends (lines_in lines) k → n ≡ length (run (lines_in lines) k).fired) → records_fit before
      → ((i : ℕ) → i < d.rows → PackedRow (row_at rows i)) → Ended lines before rows d.rows n
  ended_so before room h n counted fits each =
      record {
        lines = lines_in lines;
        sheet = held_good sheet;
        visits = k;
        ends = ends;
        records_are = size_is;
        small = omega (arith, h, next_is);
        firings_are = counted ends;
        held = record { room = omega (arith, room, fits); few = few; each = each; are = rows_are };
        room = room;
      }

module _ {lines before table rows index : List ℕ} {rules least : ℕ} {d : Counts} (sheet : SheetHeld lines)
    (same : table_rules table rules ≡ rules_in lines) (w : RanWith lines before table rules least rows index d) where
  abbrev ls : List Line
  ls = lines_in lines

  abbrev k : ℕ
  k = w.ended.visits

  abbrev keep : ℕ → ℕ
  keep = keep_in w.fresh

  rules_are : rules_from table 0 rules ≡ rules_of ls
  rules_are = rules-from table rules ∙ same

  begin_is : state_at table w.numbers w.places w.first ≡ begins (table_rows ls)
  begin_is = begun_state table rules w.begun

  pub ran_room : length rows ≡ length before
  ran_room = w.ended.left.room ∙ w.begun.rows_in.room

  packed-rows : d.rows ≤ 4096 → (i : ℕ) → i < d.rows → PackedRow (row_at rows i)
  packed-rows few = (w.ended.left.running few).stored.each

  pub ran_stored : d.rows ≤ 4096 → Stored rows index d.by d.rows
  ran_stored few = (w.ended.left.running few).stored

  -- With all pairs kept.
  module _ (all : least ≡ 1) where
    run_is : kept_after keep (rules_from table 0 rules) (state_at table w.numbers w.places w.first) k ≡ run ls k
    run_is =
        kept_all keep (rules_from table 0 rules) (state_at table w.numbers w.places w.first)
        (each_from (Kept keep) table rules 0 (λ j l m. omega (arith, all, w.keeping.kept j (omega arith)))) k
        ∙ (λ i. after (rules_are i) (begin_is i) k)

    module _ (few : d.rows ≤ 4096) where
      state : state_at table rows index d ≡ run ls k
      state = w.ended.left.state few ∙ run_is

      pub noted_outgrows : 100000000 < d.next → Outgrows lines before rows
      noted_outgrows h = outgrown rows d sheet few k (w.ended.ended few) (ap (λ (s : State). s.rows) state) (ap (λ (s : State). s.next) state) before ran_room h

      pub noted_ended : d.next ≤ 100000000 → records_fit before → Ended lines before rows d.rows d.pairs
      noted_ended h fits =
          ended_so rows d sheet few k (w.ended.ended few) (ap (λ (s : State). s.rows) state) (ap (λ (s : State). s.next) state) before ran_room h d.pairs
          (λ e. sym (pairs_at-length table rows index d.pairs) ∙ ap (λ (s : State). length s.fired) state) fits (packed-rows few)

  -- With those of rules with fresh marks kept.
  module _ (marked : least ≡ 0) where
    keys_are : kept_after keep (rules_from table 0 rules) (state_at table w.numbers w.places w.first) k ≡ key_after (rules_of ls) (begins (table_rows ls)) k
    keys_are =
        kept_keys keep (rules_from table 0 rules) (state_at table w.numbers w.places w.first)
        (each_from (Marked keep) table rules 0 (λ j l m. omega (arith, marked, w.keeping.kept j (omega arith)))) k
        ∙ (λ i. key_after (rules_are i) (begin_is i) k)

    too_many : Over (key_after (rules_of ls) (begins (table_rows ls)) k) → record_limit < length (run ls k).rows
    too_many (inl h) = omega (arith, h, ap length (same_run ls k).0)
    too_many (inr h) = omega (arith, h, (same_run ls k).2)

    pub run_passes : 4096 < d.rows → Passes lines before rows
    run_passes h =
        record {
          lines = ls;
          sheet = held_good sheet;
          many = over ls k record_limit (too_many (subst Over keys_are (w.ended.left.over h)));
          room = ran_room;
        }

    module _ (few : d.rows ≤ 4096) where
      key_state : state_at table rows index d ≡ key_after (rules_of ls) (begins (table_rows ls)) k
      key_state = w.ended.left.state few ∙ keys_are

      key_rows : rows_at rows d.rows ≡ (run ls k).rows
      key_rows = ap (λ (s : State). s.rows) key_state ∙ (same_run ls k).0

      key_next : d.next ≡ (run ls k).next
      key_next = ap (λ (s : State). s.next) key_state ∙ (same_run ls k).1

      pub run_outgrows : 100000000 < d.next → Outgrows lines before rows
      run_outgrows h = outgrown rows d sheet few k (w.ended.ended few) key_rows key_next before ran_room h

      pub run_ended : d.next ≤ 100000000 → records_fit before → (n : ℕ) → n ≡ firings_on 1 (rules_from table 0 rules) (rows_at rows d.rows)
          → Ended lines before rows d.rows n
      run_ended h fits n counted =
          ended_so rows d sheet few k (w.ended.ended few) key_rows key_next before ran_room h n
          (λ e. counted ∙ (λ i. firings_on 1 (rules_are i) (key_rows i)) ∙ firings_by_rule ls k e) fits (packed-rows few)

-- What a run answers after another, on rows of the same length, it answers on the rows from before.
pub meets_before : {numbers : List ℕ} (before mid : List ℕ) → SheetHeld numbers → records_fit before → length mid ≡ length before → (now : List ℕ) (places : ℕ) → places ≡ 24576 → (more : ℕ)
    → more ≡ 24576 → (a : Ran) → RunMeets numbers mid now places a → RunMeets numbers before now more a
meets_before before mid sheet fits e now places p more q (ended n f) m = (
  fits,
  record {
    lines = m.1.lines;
    sheet = m.1.sheet;
    visits = m.1.visits;
    ends = m.1.ends;
    records_are = m.1.records_are;
    small = m.1.small;
    firings_are = m.1.firings_are;
    held = m.1.held;
    room = m.1.room ∙ e;
  },
)
meets_before before mid sheet fits e now places p more q records_over m = (fits, record { lines = m.1.lines; sheet = m.1.sheet; many = m.1.many; room = m.1.room ∙ e })
meets_before before mid sheet fits e now places p more q number_over m = (
  fits,
  record {
    lines = m.1.lines;
    sheet = m.1.sheet;
    records = m.1.records;
    counted = m.1.counted;
    few = m.1.few;
    fresh = m.1.fresh;
    made = m.1.made;
    large = m.1.large;
    room = m.1.room ∙ e;
  },
)
meets_before before mid sheet fits e now places p more q (line_wrong line) m =
    let z : good sheet.lines ≡ refused 8 line = sym sheet.holds ∙ m.1 in
    absurd (false≢true cc)
meets_before before mid sheet fits e now places p more q room_wrong m = absurd (elim m.0 [ inl h ↦ omega (arith, h, e, fits) | inr h ↦ h p ])
