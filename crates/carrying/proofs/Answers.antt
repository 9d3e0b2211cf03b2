-- The theorems on the contract of carrying out: one answer, each refusal on its condition alone, a good answer counts the chase; and what Judge's answer says of the run. Assumes nothing.
use mathlib.Core.Path.{◌≡◌, refl, sym, ◌∙◌, ap, subst}
use mathlib.Core.Logic.{◌⊎◌, inl, inr, ◌↔◌}
use mathlib.Core.List.{List}
use Prim.Native.Nat.{ℕ, suc, ◌+◌, ◌*◌, ◌≤◌}
use native.Mathlib.Decide.{dec_le}
use native.Mathlib.Omega.{arith}
use lib.ListN.{length}
use Rattle.patterns.specs.Outcome.{good}
use Rattle.columns.specs.Column.{largest_number}
use Rattle.sheet.specs.Line.{Line}
use Rattle.sheet.specs.Write.{sheet_held}
use Rattle.chase.specs.Lists.{In}
use Rattle.chase.specs.Rules.{rules_of}
use Rattle.chase.specs.Value.{Value, generation}
use Rattle.chase.specs.Making.{Record}
use Rattle.chase.specs.Run.{Reachable, rows_of}
use Rattle.chase.specs.Counting.{Count}
use Rattle.chase.specs.Judge.{Verdict, Judgement, judged, refuses as judge_refuses, step_limit, shape_limit, Left, Refuses as JudgeRefuses, short as judge_short, wrong as judge_wrong, many, JudgeMeets}
use Rattle.chase.proofs.CountLaws.{count_one}
use Rattle.chase.proofs.ListLaws.{map_in}
use Rattle.chase.proofs.RunLaws.{left_reachable}
use Rattle.chase.proofs.JudgeLaws.{verdict_settles}
use Rattle.chase.proofs.Theorems.{deepest_is_met}
use Rattle.carrying.specs.Carrying.{Row}
use Rattle.carrying.specs.Contract.{record_limit, record_room, Carried, carried, refuses, run, Ends, top, Taken, CarriedOut, Refuses, short, wrong, many_shapes, CarryMeets}
use Rattle.carrying.specs.Meaning.{meant, FiredWith, Made}
use Rattle.carrying.proofs.Theorems.{meaning, whole_chase, records_count, firings_count, fresh_count, largest-number, stated_generation, ends_within, settles_ends, ends_settles}
use Rattle.carrying.proofs.ContractLaws.{carried_out, judged_answered}
use Rattle.carrying.proofs.OneAnswer.{one_answer as one}

module _ (numbers before : List ℕ) where
  -- Two answers that meet the contract are the same, and so is what the lent records then hold.
  pub one_answer : (a b : Carried) (now then : List ℕ) → CarryMeets numbers before a now → CarryMeets numbers before b then → (a ≡ b) × (now ≡ then)
  one_answer = one numbers before

  -- So an answer that meets it is met by no other.
  pub only_answer : (b : Carried) (then : List ℕ) → CarryMeets numbers before b then → (a : Carried) (now : List ℕ)
      → CarryMeets numbers before a now ↔ ((a ≡ b) × (now ≡ then))
  only_answer b then m a now =
      (λ n. one_answer a b now then n m, λ s. subst (λ (l : List ℕ). CarryMeets numbers before a l) (sym s.1) (subst (λ (c : Carried). CarryMeets numbers before c then) (sym s.0) m))

  -- A refusal is given just if its condition holds.
  pub refused_just_if : (number line : ℕ) → Refuses numbers before number line
      → (a : Carried) (now : List ℕ) → CarryMeets numbers before a now ↔ ((a ≡ refuses number line) × (now ≡ before))
  refused_just_if number line r = only_answer (refuses number line) before (r, refl)

  -- The chase of a sheet within both limits: its records, its pairs of rule and carried values, and its fresh numbers, counted on from the table's largest value and its zeros.
  pub record Within (records firings : ℕ) : Type 0 where
    pub lines : List Line
    pub taken : Taken numbers before lines
    pub records_count : Count (Reachable (rules_of lines) (rows_of lines)) records
    pub few : records ≤ record_limit
    pub firings_count : Count (FiredWith (rules_of lines) (rows_of lines)) firings
    pub fresh : ℕ
    pub fresh_count : Count (Made (rules_of lines) (rows_of lines)) fresh
    pub small : top lines + fresh ≤ largest_number

  -- A good answer counts the records and the pairs of the chase,
  pub carried_is_within : (records firings : ℕ) (now : List ℕ) → CarryMeets numbers before (carried records firings) now → Within records firings
  carried_is_within records firings now c =
      let ls = c.lines in
      let fresh = fresh_count ls c.visits c.ends in
      record {
        lines = ls;
        taken = c.taken;
        records_count = subst (Count (Reachable (rules_of ls) (rows_of ls))) (sym c.records_are) (records_count ls c.visits c.ends);
        few = c.few;
        firings_count = subst (Count (FiredWith (rules_of ls) (rows_of ls))) (sym c.firings_are) (firings_count ls c.visits c.ends);
        fresh = fresh.0;
        fresh_count = fresh.1;
        small = omega (arith, fresh.2, c.small);
      }

  -- and it is given wherever the chase is within the limits.
  pub within_is_carried : (records firings : ℕ) → Within records firings → (now : List ℕ) × CarryMeets numbers before (carried records firings) now
  within_is_carried records firings w = go same_records same_firings (carried_out numbers before w.lines w.taken records ends few small)
    where
      ends : Ends w.lines records
      ends = ends_within w.lines w.records_count.list w.records_count.complete records (omega (arith, w.records_count.size))

      same_records : length (run w.lines records).rows ≡ records
      same_records =
          count_one (Reachable (rules_of w.lines) (rows_of w.lines)) (length (run w.lines records).rows) records
          (records_count w.lines records ends) w.records_count

      same_firings : length (run w.lines records).fired ≡ firings
      same_firings =
          count_one (FiredWith (rules_of w.lines) (rows_of w.lines)) (length (run w.lines records).fired) firings
          (firings_count w.lines records ends) w.firings_count

      few : length (run w.lines records).rows ≤ record_limit
      few = omega (arith, same_records, w.few)

      small : (run w.lines records).next ≤ suc largest_number
      small = omega (arith, w.small, largest-number w.lines records ends w.fresh w.fresh_count)

      go : {m f : ℕ} {then : List ℕ} → m ≡ records → f ≡ firings → CarriedOut numbers before m f then
          → (now : List ℕ) × CarriedOut numbers before records firings now
      go {m} {f} {then} p q c = (then, subst (λ (k : ℕ). CarriedOut numbers before records k then) q (subst (λ (k : ℕ). CarriedOut numbers before k f then) p c))

  -- Wherever Judge, lent its steps, has an answer, there is one.
  pub some_answer : (steps left : List ℕ) (j : Judgement) → 5 * step_limit ≤ length steps → JudgeMeets shape_limit numbers steps j left
      → (a : Carried) × ((now : List ℕ) × CarryMeets numbers before a now)
  some_answer steps left j lent m = go (dec_le record_room (length before)) j m
    where
      refuse : record_room ≤ length before → (number line : ℕ) → JudgeRefuses shape_limit numbers steps number line
          → (a : Carried) × ((now : List ℕ) × CarryMeets numbers before a now)
      refuse room number line (judge_short h) = absurd (omega arith)
      refuse room number line (judge_wrong k h e) = (refuses 8 k, (before, (wrong k room e, refl)))
      refuse room number line (many ls h e more) = (refuses 11 0, (before, (many_shapes ls room e more, refl)))

      go : Dec (record_room ≤ length before) → (j : Judgement) → JudgeMeets shape_limit numbers steps j left
          → (a : Carried) × ((now : List ℕ) × CarryMeets numbers before a now)
      go (no h) j m = (refuses 12 0, (before, (short (omega arith), refl)))
      go (yes room) (judged v) m = judged_answered numbers before steps left v m.1 room
      go (yes room) (judge_refuses number line) m = refuse room number line m.0

-- JUDGE'S ANSWER AND THE RUN

module _ (limit : ℕ) (numbers before : List ℕ) (v : Verdict) (now : List ℕ) (lines : List Line)
    (meets : JudgeMeets limit numbers before (judged v) now) (sheet : sheet_held numbers ≡ good lines) where
  -- "Settles" is answered exactly where the run ends.
  pub settles_is_ending : (v.verdict ≡ 1) ↔ ((k : ℕ) × Ends lines k)
  settles_is_ending =
      let (to, from) = verdict_settles limit numbers before v now lines meets.1 sheet in
      (λ p. let (d, b) = to p in settles_ends lines d b, λ e. from (ends_settles lines e.0 e.1))

  -- Then no number of the run ever means a value of a later generation than the deepest stated,
  pub judged_generation : v.verdict ≡ 1
      → (k : ℕ) (w : Row) (a : ℕ) → In w (run lines k).rows → In a w.numbers → generation (meaning lines k a) ≤ v.deepest
  judged_generation p = stated_generation lines v.deepest (deepest_is_met limit numbers before v now lines meets sheet p).0

  -- and where that is above 0, some number of the run that has ended means one of it.
  pub judged_deepest : v.verdict ≡ 1 → (k : ℕ) → Ends lines k
      → (v.deepest ≡ 0) ⊎ ((w : Row) × In w (run lines k).rows × ((a : ℕ) × In a w.numbers × (generation (meaning lines k a) ≡ v.deepest)))
  judged_deepest p k ends = go (deepest_is_met limit numbers before v now lines meets sheet p).1
    where
      go : (v.deepest ≡ 0) ⊎ ((value : Value) × Left (rules_of lines) (rows_of lines) value × (generation value ≡ v.deepest))
          → (v.deepest ≡ 0) ⊎ ((w : Row) × In w (run lines k).rows × ((a : ℕ) × In a w.numbers × (generation (meaning lines k a) ≡ v.deepest)))
      go (inl z) = inl z
      go (inr (value, left, deep)) =
          let (x, reachable, holds) = left_reachable (rules_of lines) (rows_of lines) value left in
          let (w, there, is) = map_in (meant (meaning lines k)) (run lines k).rows x ((whole_chase lines k ends).records x reachable) in
          let (a, among, means) = map_in (meaning lines k) w.numbers value (subst (λ (y : Record). In value y.fields) is holds) in
          inr (w, there, (a, among, ap generation (sym means) ∙ deep))
