-- The numbers that are printed have columns: each figure of a verdict, and the line of each refusal. Assumes nothing.
use mathlib.Core.Path.{◌≡◌, refl, sym, ap, ◌∙◌}
use mathlib.Core.Bool.{Bool, true, false}
use mathlib.Core.Logic.{◌⊎◌, inl, inr}
use mathlib.Core.List.{List, [], ◌∷◌}
use mathlib.Core.Option.{Option, none, some}
use Prim.Native.Nat.{ℕ, zero, suc, ◌+◌, ◌≤◌}
use native.Mathlib.Omega.{arith}
use lib.Dec.{eqb}
use lib.ListN.{length, take, drop, length-append}
use Rattle.patterns.specs.Outcome.{refused}
use Rattle.sheet.specs.Line.{B, R, Line, render, text_of, in_range}
use Rattle.sheet.specs.Read.{read_of, text_limit}
use Rattle.sheet.specs.Write.{sheet_held}
use Rattle.sheet.proofs.Theorems.{refused_line, read-numbers}
use Rattle.sheet.proofs.Outcomes.{ReadRefused, read_of_refused}
use Rattle.sheet.proofs.Sheets.{sheet_held-lent, refused≢good}
use Rattle.chase.specs.Lists.{In}
use Rattle.chase.specs.Rules.{Head, Rule, rules_of, row_lines, nth}
use Rattle.chase.specs.Value.{Value, values, generation, deepest}
use Rattle.chase.specs.Making.{Record, made, fresh_of, value_of, carried_values}
use Rattle.chase.specs.Run.{rows_of}
use Rattle.chase.specs.Steps.{Step, made_by, after, last_of, last_to}
use Rattle.chase.specs.Judge.{Verdict, Right, SettlesAtOnce, Settles, Endless, Refuses, shape_limit, trail_limit}
use Rattle.chase.proofs.BoundLaws.{rows_of_tables}
use Rattle.chase.proofs.CountLaws.{element_below, fired_below}
use Rattle.chase.proofs.RowLaws.{rows_count}
use Rattle.chase.proofs.MakingLaws.{makes_in, value_of_in_fields, carried_values_in_fields}
use Rattle.chase.proofs.Share.{share_at_most_100}
use Rattle.chase.proofs.StepLaws.{nth_in}
use Rattle.report.specs.Report.{verdict_numbers, line_limit}
use Rattle.report.specs.Inner.Promises.{SheetLent}
use Rattle.report.proofs.Ranges.{in_range_all}

-- ---- the deepest generation is at most the trail's length

-- No value of a record has a later generation.
abbrev Within : ℕ → Record → Type 0
Within n x = (v : Value) → In v x.fields → generation v ≤ n

deepest_within : (n : ℕ) (vs : List Value) → ((v : Value) → In v vs → generation v ≤ n) → deepest (values vs) ≤ n
deepest_within n [] h = omega arith
deepest_within n (v ∷ vs) h = omega (arith, h v (inl refl), deepest_within n vs (λ w i. h w (inr i)))

-- A made record holds values one generation later at most.
made_within : (n k : ℕ) (r : Rule) (x : Record) (h : Head) → Within n x → Within (suc n) (made k r x h)
made_within n k r x h w v i = let s = makes_in r x.fields (fresh_of k) h.marks v i in go s.0 s.2
  where
    go : (m : ℕ) → (value_of r.marks x.fields m ≡ some v) ⊎ ((value_of r.marks x.fields m ≡ none) × (v ≡ fresh_of k m (carried_values r x.fields)))
        → generation v ≤ suc n
    go m (inl e) = omega (arith, w v (value_of_in_fields r.marks x.fields m v e))
    go m (inr e) =
        omega (
          arith,
          ap generation e.1,
          deepest_within n (carried_values r x.fields) (λ u j. w u (carried_values_in_fields r x.fields u j)),
        )

step_within : (n k : ℕ) (o : Option Rule) (h : ℕ) (x : Record) → Within n x → Within (suc n) (made_by k o h x)
step_within n k none h x w v i = omega (arith, w v i)
step_within n k (some r) h x w v i = go (nth r.heads h) refl
  where
    go : (o : Option Head) → nth r.heads h ≡ o → generation v ≤ suc n
    go none e = omega (arith, w v (rw e at i))
    go (some d) e = made_within n k r x d w v (rw e at i)

steps_within : (rules : List Rule) (n : ℕ) (x : Record) (ss : List Step) → Within n x → Within (n + length ss) (last_of rules x ss)
steps_within rules n x [] w v i = omega (arith, w v i)
steps_within rules n x (s ∷ ss) w v i =
    omega (arith, steps_within rules (suc n) (after rules s x) ss (step_within n s.rule (nth rules s.rule) s.head x w) v i)

-- A trail from a row makes no later generation than it has steps.
pub deepest_below_trail : (lines : List Line) (v : Verdict) (trail loop : List Step) → Settles (rules_of lines) (rows_of lines) v trail loop
    → v.deepest ≤ length trail
deepest_below_trail lines v trail loop s =
    let rows = rows_of lines in
    let l = s.line in
    let start : Within 0 s.first = λ u i. (let z = (rows_of_tables lines).zero s.first u (nth_in rows v.row s.first s.row) i in omega arith) in
    omega (arith, l.deep, steps_within (rules_of lines) 0 s.first trail start l.value (nth_in (last_of (rules_of lines) s.first trail).fields (last_to 0 trail) l.value l.ends))

-- ---- counts of a sheet's lines

few_rules : (lines : List Line) → length (rules_of lines) ≤ length lines
few_rules [] = omega arith
few_rules (l ∷ ls) = go (eqb l.letter B) refl (few_rules ls)
  where
    go : (t : Bool) → eqb l.letter B ≡ t → length (rules_of ls) ≤ length ls → length (rules_of (l ∷ ls)) ≤ suc (length ls)
    go true e h = rw e (omega (arith, h))
    go false e h = rw e (omega (arith, h))

few_row_lines : (lines : List Line) → length (row_lines lines) ≤ length lines
few_row_lines [] = omega arith
few_row_lines (l ∷ ls) = go (eqb l.letter R) refl (few_row_lines ls)
  where
    go : (t : Bool) → eqb l.letter R ≡ t → length (row_lines ls) ≤ length ls → length (row_lines (l ∷ ls)) ≤ suc (length ls)
    go true e h = rw e (omega (arith, h))
    go false e h = rw e (omega (arith, h))

few_rows : (lines : List Line) → length (rows_of lines) ≤ length lines
few_rows lines = omega (arith, rows_count lines, few_row_lines lines)

row_below : {A : Type 0} (xs : List A) (n : ℕ) (x : A) → nth xs n ≡ some x → n ≤ length xs
row_below xs zero x e = omega arith
row_below xs (suc n) x e = omega (arith, element_below xs n x e)

-- ---- the figures of a verdict

module _ (numbers before : List ℕ) (v : Verdict) (now : List ℕ) (sheet : SheetLent numbers) (r : Right shape_limit numbers before v now) where
  lines_few : length r.lines ≤ line_limit
  lines_few =
      let e = sym r.sheet ∙ ap sheet_held sheet.holds ∙ sheet_held-lent sheet.lines sheet.sheet in
      let same : r.lines ≡ sheet.lines = cc in
      omega (arith, ap length same, sheet.few)

  -- Verdict, deepest generation and row.
  abbrev Small : Type 0
  Small = (v.verdict ≤ 2) × (v.deepest ≤ trail_limit) × (v.row ≤ line_limit)

  small : Small
  small = go r.answer
    where
      go : SettlesAtOnce (rules_of r.lines) (rows_of r.lines) v (take v.trail r.steps) (drop v.trail r.steps)
          ⊎ (Settles (rules_of r.lines) (rows_of r.lines) v (take v.trail r.steps) (drop v.trail r.steps)
          ⊎ Endless (rules_of r.lines) (rows_of r.lines) v (take v.trail r.steps) (drop v.trail r.steps)) → Small
      go (inl s) = (omega (arith, s.verdict), omega (arith, s.deepest), omega (arith, s.row))
      go (inr (inl s)) = (
        omega (arith, s.verdict),
        omega (arith, deepest_below_trail r.lines v _ _ s, s.short),
        omega (arith, row_below (rows_of r.lines) v.row s.first s.row, few_rows r.lines, lines_few),
      )
      go (inr (inr s)) = (
        omega (arith, s.verdict),
        omega (arith, s.deepest),
        omega (arith, row_below (rows_of r.lines) v.row s.first s.row, few_rows r.lines, lines_few),
      )

  -- All of them have columns.
  pub figures_in_range : in_range (verdict_numbers v) ≡ true
  figures_in_range =
      let fired = fired_below (rules_of r.lines) (rows_of r.lines) v.fired r.fired in
      let rules = few_rules r.lines in
      let part = share_at_most_100 v.fired (length (rules_of r.lines)) fired in
      let few = lines_few in
      let (verdict, deepest, row) = small in
      in_range_all (verdict_numbers v)
      (omega arith, (omega arith, (omega (arith, r.within), (omega arith, (omega (arith, r.share_is), (omega arith, (omega (arith, r.room), (omega (arith, r.room), tt))))))))

-- ---- refusals

-- The lines of a sheet are not refused as none.
pub sheet_unrefused : {numbers : List ℕ} {n k : ℕ} → SheetLent numbers → sheet_held numbers ≡ refused n k → ⊥
sheet_unrefused sheet e = refused≢good (sym e ∙ ap sheet_held sheet.holds ∙ sheet_held-lent sheet.lines sheet.sheet)

-- Judge refuses a sheet's lines with no line.
pub refusal_small : (numbers before : List ℕ) (n k : ℕ) → SheetLent numbers → Refuses shape_limit numbers before n k → (n ≤ 12) × (k ≡ 0)
refusal_small numbers before n k sheet (Refuses.short h) = (omega arith, refl)
refusal_small numbers before n k sheet (Refuses.wrong line h e) = absurd (sheet_unrefused sheet e)
refusal_small numbers before n k sheet (Refuses.many lines h e m) = (omega arith, refl)

length-text_of : (ls : List Line) → length ls ≤ length (text_of ls)
unfolding render
length-text_of [] = omega arith
length-text_of (l ∷ ls) = omega (arith, length-append (render l) (text_of ls), length-text_of ls)

-- The line that Read's refusal names is at most the one after a text's last byte, or after the lent lines.
pub read_refusal_small : (text : List ℕ) (room n k : ℕ) → room ≤ line_limit → read_of text room ≡ refused n k → (n ≤ 7) × (k ≤ suc text_limit)
read_refusal_small text room n k few e = ((read-numbers text room n k e).1, go (read_of_refused text room n k e))
  where
    go : ReadRefused text room n k → k ≤ suc text_limit
    go (ReadRefused.long h p q) = omega arith
    go (ReadRefused.wrong h p) =
        let t = (refused_line text n k).0 p in
        omega (arith, t.after, ap length t.split, length-append (text_of t.lines) t.rest, length-text_of t.lines)
    go (ReadRefused.short h ls p q r s) = omega arith
