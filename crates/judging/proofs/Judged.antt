-- From what the functions that judge a sheet answer to the contract of Judge. Assumes nothing.
use mathlib.Core.Path.{◌≡◌, refl, sym, ◌∙◌, ap, subst}
use mathlib.Core.Bool.{Bool, true, false, cond}
use mathlib.Core.List.{List, [], ◌∷◌}
use Prim.Native.Nat.{ℕ, zero, suc, ◌*◌, ◌/◌, ◌%◌, ◌≤◌, ◌<◌}
use native.Mathlib.Decide.{dec_lt}
use native.Mathlib.Omega.{arith}
use lib.ListN.{length, get_or, replicate, length-replicate, get_or-replicate}
use Rattle.std.specs.Prelude.{Ok, Some}
use Rattle.patterns.specs.Outcome.{refused}
use Rattle.sheet.specs.Write.{sheet_held}
use Rattle.chase.specs.Rules.{Rule}
use Rattle.chase.specs.Counting.{share, MoreThan}
use Rattle.chase.specs.Simplification.{Derived}
use Rattle.chase.specs.Judge.{judged, refuses, JudgeMeets, shape_limit, short, wrong}
use Rattle.judging.specs.declared.answer.Counts.{Counts}
use Rattle.judging.specs.declared.Verdict.{Verdict}
use Rattle.judging.specs.Answer.{judge_says, verdict_of}
use Rattle.rules.specs.Table.{SheetHeld, lines_in, rules_in, rows_in, table_rules, TableFits}
use Rattle.judging.specs.Inner.Found.{fired_in, Searched}
use Rattle.judging.specs.Inner.Nodes.{at, back, Zeros, from_of, link_of}
use Rattle.judging.specs.Inner.Links.{Closed, Spreads}
use Rattle.judging.specs.Inner.Written.{Deepest, InTurn}
use Rattle.judging.specs.Inner.Trails.{Lent}
use Rattle.judging.specs.Inner.Facts.{Facts}
use Rattle.judging.specs.Inner.Judged.{Known, SaysEndless, Lines, SaysSettled}
use Rattle.judging.proofs.CodeLaws.{code_of_shape}
use Rattle.rules.proofs.SheetLaws.{rules_fit, held_lines}
use Rattle.rules.proofs.PartLaws.{zeros, zero_at}
use Rattle.rules.proofs.TableLaws.{table_count}
use Rattle.judging.proofs.FactLaws.{kept_closed, falls, in_line, in_turn, turn_below}
use Rattle.judging.proofs.Verdicts.{held_lines as sheet-lines, settles_at_once, settles, endless, too_many}

-- No more of n rules have fired than n.
pub fired_few : (n : ℕ) (fired : List Bool) → fired_in n fired ≤ n
fired_few zero fired = omega arith
fired_few (suc n) [] = omega arith
fired_few (suc n) (m ∷ ms) = go m (fired_few n ms)
  where
    go : (t : Bool) → fired_in n ms ≤ n → cond t (suc (fired_in n ms)) (fired_in n ms) ≤ suc n
    go true h = omega arith
    go false h = omega arith

-- A deepest node of so many shapes is within the grid.
pub deepest_within : {generations : List (List ℕ)} {link : ℕ → ℕ} {count x : ℕ} → count ≤ 512 → Deepest generations link (7 * count) x → x < 3584
deepest_within {count = count} {x = x} few deep = go (dec_lt 0 (7 * count))
  where
    go : Dec (0 < 7 * count) → x < 3584
    go (yes p) = omega (arith, deep.below p)
    go (no h) = omega (arith, deep.none (omega arith))

-- ---- refusals

pub steps-short : (numbers before : List ℕ) → length before < 20480 → JudgeMeets shape_limit numbers before (refuses 12 0) before
steps-short numbers before h = (short h, refl)

pub line-wrong : (numbers before : List ℕ) (line : ℕ) → 20480 ≤ length before → sheet_held numbers ≡ refused 8 line
    → JudgeMeets shape_limit numbers before (refuses 8 line) before
line-wrong numbers before line room e = (wrong line room e, refl)

-- ---- a sheet whose shapes are all found

module _ {numbers table : List ℕ} {rules : ℕ} {codes index : List ℕ} {ways : List (List ℕ)} {fired : List Bool} {count : ℕ}
    (known : Known numbers table rules codes index ways fired count) where
  pub rules_counted : length (rules_in numbers) ≡ rules
  rules_counted = ap (λ (l : List Rule). length l) (sym known.rules_are) ∙ table_count table rules

  pub found_closed : Closed (table_rules table rules) codes index count
  found_closed =
      rw known.rules_are
      (kept_closed (rules_in numbers) (rows_in numbers) codes index ways count code_of_shape known.kept known.whole)

  -- The generations are raised.
  module _ {generations : List (List ℕ)} {from link : ℕ → ℕ} {turning : ℕ} (spreads : Spreads (table_rules table rules) codes count generations from link turning) where
    facts : Facts (lines_in numbers) codes index ways fired count generations from link turning
    facts =
        record {
          fit = rules_fit (lines_in numbers) (held_lines known.sheet).1;
          kept = known.kept;
          whole = known.whole;
          fired_rules = known.fired_rules;
          spreads = rw (← known.rules_are) spreads;
        }

    pub writers_lent : (steps : List ℕ) → 20480 ≤ length steps → Lent steps ways count
    writers_lent steps room =
        record {
          falls = falls (lines_in numbers) codes index ways fired count generations from link turning facts;
          room = room;
        }

    pub lines_lead : turning ≡ 0 → Lines generations from count
    lines_lead settled =
        record {
          below = λ x raised. go x raised (dec_lt x (7 * count));
          lines = in_line (lines_in numbers) codes index ways fired count generations from link turning facts settled;
        }
      where
        go : (x : ℕ) → 0 < at generations x → Dec (x < 7 * count) → x < 7 * count
        go x raised (yes p) = p
        go x raised (no h) = absurd (omega (arith, spreads.outside x (omega arith)))

    pub turns_back : (y : ℕ) → turning ≡ suc y → (y < 7 * count) × InTurn from (7 * count) y
    turns_back y turns = (
      turn_below (lines_in numbers) codes index ways fired count generations from link turning facts y turns,
      in_turn (lines_in numbers) codes index ways fired count generations from link turning facts y turns,
    )

  -- The figures are those of the sheet.
  module _ {generations : List (List ℕ)} (raises : List (List ℕ)) {turning : ℕ}
      (spreads : Spreads (table_rules table rules) codes count generations (from_of raises) (link_of raises) turning) where
    module _ {counts : Counts} (shapes_are : counts.shapes ≡ count) (fired-are : counts.fired ≡ fired_in rules fired) (share-are : counts.share ≡ share counts.fired rules)
        (before after : List ℕ) (room : 20480 ≤ length before) (verdict : Verdict) where
      pub endless_right : (y : ℕ) → turning ≡ suc y → SaysEndless ways raises counts.shapes y counts before verdict after
          → JudgeMeets shape_limit numbers before (judge_says (Ok verdict)) after
      endless_right y turns said =
          let s = subst (λ (n : ℕ). SaysEndless ways raises n y counts before verdict after) shapes_are said in
          rw s.says
          (endless (lines_in numbers) codes index ways fired count generations (from_of raises) (link_of raises) turning (facts spreads) numbers before after
          (sheet-lines numbers known.sheet) room (verdict_of 2 s.figures) (s.shapes ∙ shapes_are) (s.fired_is ∙ fired-are ∙ ap (λ (n : ℕ). fired_in n fired) (sym rules_counted))
          (s.share_is ∙ share-are ∙ ap (λ (n : ℕ). share n rules) (sym s.fired_is) ∙ ap (share s.figures.fired) (sym rules_counted))
          y s.figures.turns s.figures.trail turns s.wrote.turn s.wrote.way refl s.deepest s.wrote.first refl refl s.wrote.steps)

      pub settled_right : turning ≡ 0 → SaysSettled ways generations raises counts.shapes counts before verdict after
          → JudgeMeets shape_limit numbers before (judge_says (Ok verdict)) after
      settled_right settled said = rw s.says (go (dec_lt 0 (at generations s.node)))
        where
          s : SaysSettled ways generations raises count counts before verdict after
          s = subst (λ (n : ℕ). SaysSettled ways generations raises n counts before verdict after) shapes_are said

          fired_are : s.figures.fired ≡ fired_in (length (rules_in numbers)) fired
          fired_are = s.fired_is ∙ fired-are ∙ ap (λ (n : ℕ). fired_in n fired) (sym rules_counted)

          share_is : s.figures.share ≡ share s.figures.fired (length (rules_in numbers))
          share_is = s.share_is ∙ share-are ∙ ap (λ (n : ℕ). share n rules) (sym s.fired_is) ∙ ap (share s.figures.fired) (sym rules_counted)

          go : Dec (0 < at generations s.node) → JudgeMeets shape_limit numbers before (judged (verdict_of 1 s.figures)) after
          go (yes p) =
              let w = s.raised p in
              settles (lines_in numbers) codes index ways fired count generations (from_of raises) (link_of raises) turning (facts spreads) numbers before after
              (sheet-lines numbers known.sheet) room (verdict_of 1 s.figures) (s.shapes ∙ shapes_are) fired_are share_is
              settled s.node w.links w.reaching (back (from_of raises) w.links s.node) s.deep p w.line refl w.way refl s.deepest w.first w.counted
              s.turns w.steps
          go (no h) =
              let none : at generations s.node ≡ 0 = omega arith in
              let f = s.flat none in
              settles_at_once (lines_in numbers) codes index ways fired count generations (from_of raises) (link_of raises) turning (facts spreads) numbers before after
              (sheet-lines numbers known.sheet) room (verdict_of 1 s.figures) (s.shapes ∙ shapes_are) fired_are share_is
              settled s.node s.deep none refl (s.deepest ∙ none) f.0 f.1 s.turns f.2

-- ---- what the search answers

module _ {numbers : List ℕ} (sheet : SheetHeld numbers) where
  pub shapes-over : (before : List ℕ) → 20480 ≤ length before → MoreThan (Derived (rules_in numbers) (rows_in numbers)) 512
      → JudgeMeets shape_limit numbers before (refuses 11 0) before
  shapes-over before room more = too_many (lines_in numbers) numbers before (sheet-lines numbers sheet) room more

  pub all_known : {table codes index : List ℕ} {ways : List (List ℕ)} {fired : List Bool} {rules count : ℕ} → Searched (rules_in numbers) (rows_in numbers) codes index ways fired (Some count)
      → TableFits table rules → table_rules table rules ≡ rules_in numbers → Known numbers table rules codes index ways fired count
  all_known (kept, whole, fired_rules) fits are =
      record { sheet = sheet; table_fits = fits; rules_are = are; kept = kept; whole = whole; fired_rules = fired_rules }

-- ---- grids of zeros

row_of_zeros : (n s : ℕ) → s < n → length (get_or (replicate n (zeros 7)) s []) ≡ 7
row_of_zeros n s l = ap (λ (r : List ℕ). length r) (get_or-replicate n s (zeros 7) [] l)

zero_in_grid : (n s k : ℕ) → get_or (get_or (replicate n (zeros 7)) s []) k 0 ≡ 0
zero_in_grid zero s k = refl
zero_in_grid (suc n) zero k = zero_at 7 k
zero_in_grid (suc n) (suc s) k = zero_in_grid n s k

pub zeros_are : (g : List (List ℕ)) → g ≡ replicate 512 (zeros 7) → Zeros g
unfolding at
zeros_are g e =
    record {
      grid = record { size = ap (λ (l : List (List ℕ)). length l) e ∙ length-replicate 512 (zeros 7); rows = λ s l. rw e (row_of_zeros 512 s l) };
      zero_at = λ v. rw e (zero_in_grid 512 (v / 7) (v % 7));
    }
