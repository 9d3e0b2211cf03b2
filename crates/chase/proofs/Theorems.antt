-- The theorems on the chase that a reader relies on. Each stands first as a sentence; its proof cites the laws. Assumes nothing.
use mathlib.Core.Path.{◌≡◌, sym, ap, ◌∙◌}
use mathlib.Core.Bool.{false≢true}
use mathlib.Core.Logic.{◌↔◌, ◌⊎◌}
use mathlib.Core.List.{List, ◌∷◌, map}
use mathlib.Core.Option.{some}
use Prim.Native.Nat.{ℕ, ◌≤◌, ◌<◌}
use lib.ListN.{length}
use Rattle.sheet.specs.Line.{Line}
use Rattle.patterns.specs.Lists.{Numbered}
use Rattle.patterns.specs.Outcome.{good}
use Rattle.patterns.specs.Pattern.{numbers_pattern}
use Rattle.chase.specs.Lists.{In}
use Rattle.sheet.specs.Write.{sheet_held}
use Rattle.chase.specs.Rules.{Head, Rule, rules_of, nth}
use Rattle.chase.specs.Value.{Value, table, missing, generation}
use Rattle.chase.specs.Making.{Record, Agree, carried_values, Fires, fresh_of, made}
use Rattle.chase.specs.Run.{Firing, row_record, rows_of, start, fire, run, Fits, AllFit, Reachable}
use Rattle.chase.specs.Shape.{Shape, shape_of, Reached, Fired}
use Rattle.chase.specs.Filled.{FilledTable}
use Rattle.chase.specs.Counting.{NoTwo, Count, share}
use Rattle.chase.specs.Rounding.{Rounds}
use Rattle.chase.specs.Chase.{Instance, ChaseOf, FiniteDerivation, FairDerivation}
use Rattle.chase.specs.Simplification.{Derived, Counts}
use Rattle.chase.specs.Judge.{Verdict, Judgement, judged, refuses, Left, Bounded, Unbounded, JudgeMeets}
use Rattle.chase.proofs.MakingLaws.{agree_length}
use Rattle.chase.proofs.ShapeLaws.{fresh_of_injective, derived_reached, reached_derived, counts_fired, fired_counts}
use Rattle.chase.proofs.RunLaws.{start_no_two, fire_unfit, run_no_two, same_carried_made, nothing_more, run_reachable, reachable_run}
use Rattle.chase.proofs.PublishedLaws.{chase_reachable, reachable_chase, finite_reachable, reachable_finite, fair_reachable, reachable_fair}
use Rattle.chase.proofs.CountLaws.{count_iff, fired_below}
use Rattle.chase.proofs.AgreeLaws.{agree_places, places_agree}
use Rattle.chase.proofs.CertificateLaws.{not_both}
use Rattle.chase.proofs.FiniteLaws.{finite_bounded, bounded_finite}
use Rattle.chase.proofs.JudgeLaws.{verdict_settles, verdict_endless, verdict_deepest, right_share, figures_one, figures_same, judged_not_refused, refusal_one}
use Rattle.chase.proofs.RowLaws.{row-values_equal, rows_same, row-pattern}
use Rattle.chase.proofs.TwinLaws.{SameShapes, reached_by_shapes, fired_by_shapes, bounded_by_shapes, unbounded_by_shapes}
use Rattle.chase.proofs.FillLaws.{filled-table}
use Rattle.chase.proofs.AlikeLaws.{meets_alike}
use Rattle.chase.proofs.Share.{share_of_nothing, share_means}

-- FRESH NUMBERS

-- Two fresh numbers are equal exactly where rule, mark and carried values are.
pub fresh_fixed : (n m k l : ℕ) (cs ds : List Value) → (fresh_of n m cs ≡ fresh_of k l ds) ↔ ((n ≡ k) × (m ≡ l) × (cs ≡ ds))
fresh_fixed n m k l cs ds = (fresh_of_injective n m k l cs ds, λ s. let (p, q, r) = s in cc)

-- A fresh number equals no table value.
pub fresh_not_table : (n m k : ℕ) (cs : List Value) → fresh_of n m cs ≡ table k → ⊥
fresh_not_table n m k cs e = false≢true cc

-- A missing value equals no table value and no fresh number.
pub missing_not_table : (row field k : ℕ) → missing row field ≡ table k → ⊥
missing_not_table row field k e = false≢true cc

pub fresh_not_missing : (n m row field : ℕ) (cs : List Value) → fresh_of n m cs ≡ missing row field → ⊥
fresh_not_missing n m row field cs e = false≢true cc

-- Where a rule fires on two records with the same carried values, each of its H lines makes the same record of both.
pub same_carried_same_made : (n : ℕ) (r : Rule) (x y : Record) → Fires r x → Fires r y → carried_values r x.fields ≡ carried_values r y.fields
    → (h : Head) → In h r.heads → made n r x h ≡ made n r y h
same_carried_same_made = same_carried_made

-- ROWS

-- The values at two fields of a row are equal exactly where it is one field, or the numbers are equal and not 0.
pub values_of_a_row : (l : Numbered Line) (i j m n : ℕ) → nth l.item.numbers i ≡ some m → nth l.item.numbers j ≡ some n
    → (nth (row_record l).fields i ≡ nth (row_record l).fields j) ↔ ((i ≡ j) ⊎ ((m ≡ n) × (m ≡ 0 → ⊥)))
values_of_a_row l i j m n p q = row-values_equal l i j m n p q

-- Two rows are the same record exactly where they are equal and without 0.
pub rows_are_one_record : (k l : ℕ) (a b : Line) → (k ≡ l → ⊥)
    → (row_record (record { number = k; item = a }) ≡ row_record (record { number = l; item = b }))
    ↔ ((a.kind ≡ b.kind) × (a.numbers ≡ b.numbers) × (In 0 a.numbers → ⊥))
rows_are_one_record k l a b h = rows_same k l a b h

-- The pattern of a row is that of its numbers, as Pattern answers it.
pub pattern_of_a_row : (l : Numbered Line) → (shape_of (row_record l)).pattern ≡ numbers_pattern l.item.numbers
pattern_of_a_row l = row-pattern l

-- FIRING

-- There are as many fields as marks, and fields are equal wherever marks are.
abbrev pub EqualWhereMarksAre : {A : Type 0} → List ℕ → List A → Type 0
EqualWhereMarksAre marks fields = (length marks ≡ length fields) × ((i j : ℕ) → nth marks i ≡ nth marks j → nth fields i ≡ nth fields j)

-- Marks agree with fields, as a rule that fires asks, exactly where the fields are equal wherever the marks are.
pub agree_means : {A : Type 0} (marks : List ℕ) (fields : List A) → Agree marks fields ↔ EqualWhereMarksAre marks fields
agree_means marks fields = (
  λ a. (agree_length marks fields a, agree_places marks fields a),
  λ s. places_agree marks fields s.0 s.1,
)

-- RUNS

module _ (rules : List Rule) (rows : List Record) where
  -- A record is reachable exactly where some list of firings leaves it.
  pub runs_leave_the_reachable : (x : Record) → Reachable rules rows x ↔ ((firings : List Firing) × In x (run rules firings (start rows)))
  runs_leave_the_reachable x = (
    λ w. let s = reachable_run rules rows w in (s.firings, s.left),
    λ s. run_reachable rules rows s.0 x s.1,
  )

  -- Then some list of firings that all fit leaves it.
  pub fitting_runs_leave_the_reachable : (x : Record) → Reachable rules rows x
      → (firings : List Firing) × AllFit rules firings (start rows) × In x (run rules firings (start rows))
  fitting_runs_leave_the_reachable x w = let s = reachable_run rules rows w in (s.firings, s.fit, s.left)

  -- Whatever the firings, a run leaves each record once.
  pub runs_leave_each_once : (firings : List Firing) → NoTwo (run rules firings (start rows))
  runs_leave_each_once firings = run_no_two rules firings (start rows) (start_no_two rows)

-- A firing that does not fit changes nothing, and the run goes on.
pub misfit_changes_nothing : (rules : List Rule) (f : Firing) (firings : List Firing) (records : List Record) → (Fits rules f records → ⊥)
    → (fire rules f records ≡ records) × (run rules (f ∷ firings) records ≡ run rules firings records)
misfit_changes_nothing rules f firings records h =
    let e = fire_unfit rules f records h in
    (e, ap (run rules firings) e)

-- A firing with the rule and the carried values of an earlier one that fitted makes nothing more, whatever came between.
pub same_carried_nothing_more : (rules : List Rule) (f g : Firing) (records : List Record) (between : List Firing) (w : Fits rules f records)
    → f.rule ≡ g.rule → carried_values w.rule f.on.fields ≡ carried_values w.rule g.on.fields
    → fire rules g (run rules between (fire rules f records)) ≡ run rules between (fire rules f records)
same_carried_nothing_more = nothing_more

-- THE PUBLISHED CHASE

module _ (rules : List Rule) (rows : List Record) where
  -- The reachable records are those of the stages of document 002, section 3.
  pub reachable_in_stages : (x : Record) → Reachable rules rows x ↔ ChaseOf rules rows x
  reachable_in_stages x = (reachable_chase rules rows x, chase_reachable rules rows x)

  -- They are those that any finite derivation of document 000, definition 3.2, ends with.
  pub reachable_in_finite_derivations : (size : ℕ) (I : ℕ → Instance) → FiniteDerivation rules rows size I
      → (x : Record) → Reachable rules rows x ↔ I size x
  reachable_in_finite_derivations size I d x = (λ w. reachable_finite rules rows size I d w, finite_reachable rules rows size I d x)

  -- They are those that any fair derivation of that definition has at some time.
  pub reachable_in_fair_derivations : (I : ℕ → Instance) → FairDerivation rules rows I
      → (x : Record) → Reachable rules rows x ↔ ((i : ℕ) × I i x)
  reachable_in_fair_derivations I d x = (λ w. reachable_fair rules rows I d w, fair_reachable rules rows I d x)

-- SHAPES AND COUNTS

module _ (rules : List Rule) (rows : List Record) where
  -- The shapes that are reached are those that dynamic simplification derives (document 002).
  pub reached_are_derived : (s : Shape) → Reached rules rows s ↔ Derived rules rows s
  reached_are_derived s = (reached_derived rules rows s, derived_reached rules rows s)

  -- The rules that fire on some reachable record are those with a simplification that counts.
  pub fired_are_counted : (n : ℕ) → Fired rules rows n ↔ Counts rules rows n
  fired_are_counted n = (fired_counts rules rows n, counts_fired rules rows n)

  -- So there are as many shapes reached as derived,
  pub as_many_shapes : (n : ℕ) → Count (Reached rules rows) n ↔ Count (Derived rules rows) n
  as_many_shapes n = (
    count_iff (Reached rules rows) (Derived rules rows) n (reached_derived rules rows) (derived_reached rules rows),
    count_iff (Derived rules rows) (Reached rules rows) n (derived_reached rules rows) (reached_derived rules rows),
  )

  -- and as many rules fired as counted.
  pub as_many_rules : (n : ℕ) → Count (Fired rules rows) n ↔ Count (Counts rules rows) n
  as_many_rules n = (
    count_iff (Fired rules rows) (Counts rules rows) n (fired_counts rules rows) (counts_fired rules rows),
    count_iff (Counts rules rows) (Fired rules rows) n (counts_fired rules rows) (fired_counts rules rows),
  )

  -- No more rules are fired than there are.
  pub fired_at_most_all : (n : ℕ) → Count (Fired rules rows) n → n ≤ length rules
  fired_at_most_all n c = fired_below rules rows n c

-- FINITENESS

-- Some list has every reachable record.
abbrev pub FinitelyMany : List Rule → List Record → Type 0
FinitelyMany rules rows = (list : List Record) × ((x : Record) → Reachable rules rows x → In x list)

-- The chase is finite exactly where the generations have a bound. (Depths in document 000, definition 4.3 and proposition 5.2.)
pub finite_is_bounded : (rules : List Rule) (rows : List Record) → FinitelyMany rules rows ↔ ((deepest : ℕ) × Bounded rules rows deepest)
finite_is_bounded rules rows = (
  λ s. finite_bounded rules rows s.0 s.1,
  λ s. bounded_finite rules rows s.0 s.1,
)

-- Generations that have a bound are not without one.
pub bounded_not_unbounded : (rules : List Rule) (rows : List Record) (deepest : ℕ) → Bounded rules rows deepest → Unbounded rules rows → ⊥
bounded_not_unbounded rules rows deepest b u = not_both rules rows deepest b u

-- THE CONTRACT OF JUDGE

module _ (limit : ℕ) (numbers before : List ℕ) (v : Verdict) (now : List ℕ) (lines : List Line)
    (meets : JudgeMeets limit numbers before (judged v) now) (sheet : sheet_held numbers ≡ good lines) where
  -- "Settles" is answered exactly where the chase is finite, which is what document 000, theorem 7.5, characterizes.
  pub settles_is_finite : (v.verdict ≡ 1) ↔ FinitelyMany (rules_of lines) (rows_of lines)
  settles_is_finite =
      let (to, from) = verdict_settles limit numbers before v now lines meets.1 sheet in
      let (bounded, finite) = finite_is_bounded (rules_of lines) (rows_of lines) in
      (λ p. finite (to p), λ f. from (bounded f))

  -- "Endless" is answered exactly where the generations have no bound.
  pub endless_is_unbounded : (v.verdict ≡ 2) ↔ Unbounded (rules_of lines) (rows_of lines)
  endless_is_unbounded = verdict_endless limit numbers before v now lines meets.1 sheet

  -- With "settles" no run leaves a later generation than the deepest stated, and where that is above 0 some run leaves a number of it.
  pub deepest_is_met : v.verdict ≡ 1
      → Bounded (rules_of lines) (rows_of lines) v.deepest
      × ((v.deepest ≡ 0) ⊎ ((value : Value) × Left (rules_of lines) (rows_of lines) value × (generation value ≡ v.deepest)))
  deepest_is_met p = verdict_deepest limit numbers before v now lines meets.1 sheet p

  -- Without rules the share is 0.
  pub share_without_rules : length (rules_of lines) ≡ 0 → v.share ≡ 0
  share_without_rules e = right_share limit numbers before v now lines meets.1 sheet ∙ ap (share v.fired) e ∙ share_of_nothing v.fired

  -- With rules it is within a half of 100 × fired rules / rules, and even where it is just a half away. No other number is so (`share_means` in Share).
  pub share_is_nearest : 0 < length (rules_of lines) → Rounds v.fired (length (rules_of lines)) v.share
  share_is_nearest rules =
      (share_means v.fired (length (rules_of lines)) v.share rules).0 (right_share limit numbers before v now lines meets.1 sheet)

-- The figures that two verdicts have in common; the starting row and the steps are the program's choice.
pub record SameFigures (v w : Verdict) : Type 0 where
  pub verdict : v.verdict ≡ w.verdict
  pub deepest : v.deepest ≡ w.deepest
  pub shapes : v.shapes ≡ w.shapes
  pub fired : v.fired ≡ w.fired
  pub share : v.share ≡ w.share

-- Two answers with the same figures, or the same refusal.
abbrev pub SameAnswer : Judgement → Judgement → Type 0
SameAnswer (judged v) (judged w) = SameFigures v w
SameAnswer (judged v) (refuses m l) = ⊥
SameAnswer (refuses n k) (judged w) = ⊥
SameAnswer (refuses n k) (refuses m l) = (n ≡ m) × (k ≡ l)

-- Two answers that meet the contract for the same lent lines and steps have the same figures or are the same refusal.
pub judge_one : (limit : ℕ) (numbers before : List ℕ) (a b : Judgement) (now later : List ℕ) → JudgeMeets limit numbers before a now
    → JudgeMeets limit numbers before b later → SameAnswer a b
judge_one limit numbers before (judged v) (judged w) now later p q =
    let (verdict, deepest, shapes, fired, share) = figures_one limit numbers before v w now later p.1 q.1 in
    record { verdict = verdict; deepest = deepest; shapes = shapes; fired = fired; share = share }
judge_one limit numbers before (judged v) (refuses m l) now later p q = judged_not_refused limit numbers before v now m l p.0 p.1 q.0
judge_one limit numbers before (refuses n k) (judged w) now later p q = judged_not_refused limit numbers before w later n k q.0 q.1 p.0
judge_one limit numbers before (refuses n k) (refuses m l) now later p q = refusal_one limit numbers before n k m l p.0 q.0

-- TABLES OF THE SAME SHAPES

-- Reached shapes, fired rules, the bounds of generations, and whether there is one depend on the shapes of the rows alone.
module _ (rules : List Rule) (rows others : List Record) (same : SameShapes rows others) where
  pub same_reached : (s : Shape) → Reached rules rows s ↔ Reached rules others s
  same_reached = reached_by_shapes rules rows others same

  pub same_fired : (n : ℕ) → Fired rules rows n ↔ Fired rules others n
  same_fired = fired_by_shapes rules rows others same

  pub same_bounds : (d : ℕ) → Bounded rules rows d ↔ Bounded rules others d
  same_bounds = bounded_by_shapes rules rows others same

  pub same_unbounded : Unbounded rules rows ↔ Unbounded rules others
  same_unbounded = unbounded_by_shapes rules rows others same

-- So two sheets with the same rules whose rows have the same shapes have the same figures.
pub figures_by_shapes : (limit : ℕ) (numbers others before later : List ℕ) (ls ms : List Line) (v w : Verdict) (now then : List ℕ)
    → sheet_held numbers ≡ good ls → sheet_held others ≡ good ms → rules_of ls ≡ rules_of ms → SameShapes (rows_of ls) (rows_of ms)
    → JudgeMeets limit numbers before (judged v) now → JudgeMeets limit others later (judged w) then → SameFigures v w
figures_by_shapes limit numbers others before later ls ms v w now then p q rules same m n =
    let (verdict, deepest, shapes, fired, share) = figures_same limit numbers others before later ls ms v w now then p q rules same m.1 n.1 in
    record { verdict = verdict; deepest = deepest; shapes = shapes; fired = fired; share = share }

-- Where the rows have the same shapes one by one, every answer that Judge may give to the one sheet it may give to the other: refusal or figures, row, trail and loop.
pub answers_by_shapes : (limit : ℕ) (numbers others before : List ℕ) (ls ms : List Line) → sheet_held numbers ≡ good ls → sheet_held others ≡ good ms
    → rules_of ls ≡ rules_of ms → map shape_of (rows_of ls) ≡ map shape_of (rows_of ms) → (j : Judgement) (now : List ℕ)
    → JudgeMeets limit numbers before j now ↔ JudgeMeets limit others before j now
answers_by_shapes limit numbers others before ls ms p q rules shapes j now = (
  meets_alike limit numbers others before ls ms p q rules shapes j now,
  meets_alike limit others numbers before ms ls q p (sym rules) (sym shapes) j now,
)

-- So for Judge it is all one which numbers stand for what is not given: replacing each 0 of a row by a number that stands nowhere else there changes no answer.
pub zeros-filled : (limit : ℕ) (numbers others before : List ℕ) (ls ms : List Line) → sheet_held numbers ≡ good ls → sheet_held others ≡ good ms
    → rules_of ls ≡ rules_of ms → FilledTable ls ms → (j : Judgement) (now : List ℕ)
    → JudgeMeets limit numbers before j now ↔ JudgeMeets limit others before j now
zeros-filled limit numbers others before ls ms p q rules filled j now =
    answers_by_shapes limit numbers others before ls ms p q rules (filled-table ls ms filled) j now
