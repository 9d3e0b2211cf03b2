-- Every row of a run has a kind and a width of the sheet, and numbers that have columns; the firings are counted by such a number too. Assumes nothing.
use mathlib.Core.Path.{◌≡◌, refl, sym, subst, ap, ◌∙◌}
use mathlib.Core.Logic.{inl, inr}
use mathlib.Core.Bool.{Bool, true, false, cond}
use mathlib.Core.List.{List, [], ◌∷◌}
use Prim.Native.Nat.{ℕ, suc, ◌*◌, ◌≤◌}
use native.Mathlib.Omega.{arith}
use borrow.Author.Tests.{eqb-true}
use lib.Dec.{eqb}
use lib.ListN.{length, length-map}
use Rattle.patterns.specs.Pattern.{pick}
use Rattle.patterns.proofs.PatternLaws.{length-add_all}
use Rattle.columns.specs.Column.{largest_number}
use Rattle.sheet.specs.Line.{K, B, H, R, Line, in_range}
use Rattle.sheet.specs.Sheet.{IsSheet}
use Rattle.chase.specs.Lists.{In}
use Rattle.chase.specs.Rules.{Head, Rule, heads_of, rules_of, row_lines}
use Rattle.chase.specs.Making.{Record}
use Rattle.chase.specs.Run.{Reachable, row, made_from, rows_of}
use Rattle.chase.proofs.ListLaws.{in_map, all_of}
use Rattle.chase.proofs.RowLaws.{row-length, row_line as line-of-row}
use Rattle.chase.proofs.StepLaws.{nth_in}
use Rattle.rules.proofs.SheetLaws.{rules_few}
use Rattle.carrying.specs.Carrying.{Row, Pair-discrete, FiresOn, fires_on?, pair_of}
use Rattle.carrying.specs.Contract.{run, Ends}
use Rattle.carrying.specs.Meaning.{meant}
use Rattle.carrying.specs.Inner.Keys.{pairs_on, firings_on}
use Rattle.carrying.proofs.SameRun.{firings_by_rule}
use Rattle.carrying.proofs.Theorems.{meaning, one_to_one_renaming}
use Rattle.report.proofs.Ranges.{in_range_all}

-- ---- kinds and widths

-- Some line but a K line has this kind and so many numbers.
pub record Alike (lines : List Line) (kind size : ℕ) : Type 0 where
  pub line : Line
  pub there : In line lines
  pub other : line.letter ≡ K → ⊥
  pub kind_is : line.kind ≡ kind
  pub size_is : length line.numbers ≡ size

later : {ls : List Line} {kind size : ℕ} (l : Line) → Alike ls kind size → Alike (l ∷ ls) kind size
later l a = record { line = a.line; there = inr a.there; other = a.other; kind_is = a.kind_is; size_is = a.size_is }

head-line : (ls : List Line) (h : Head) → In h (heads_of ls) → Alike ls h.kind (length h.marks)
head-line [] h i = absurd i
head-line (l ∷ ls) h i = go (eqb l.letter H) refl (head-line ls h) i
  where
    go : (t : Bool) → eqb l.letter H ≡ t → (In h (heads_of ls) → Alike ls h.kind (length h.marks))
        → In h (cond t (record { kind = l.kind; marks = l.numbers } ∷ heads_of ls) []) → Alike (l ∷ ls) h.kind (length h.marks)
    go true e rest (inl p) =
        record {
          line = l;
          there = inl refl;
          other = λ k. omega (arith, eqb-true l.letter H e, k);
          kind_is = sym (ap (λ (x : Head). x.kind) p);
          size_is = sym (ap (λ (x : Head). length x.marks) p);
        }
    go true e rest (inr j) = later l (rest j)
    go false e rest j = absurd j

rule_line : (ls : List Line) (r : Rule) → In r (rules_of ls) → (h : Head) → In h r.heads → Alike ls h.kind (length h.marks)
rule_line [] r i h j = absurd i
rule_line (l ∷ ls) r i h j = go (eqb l.letter B) (λ k. rule_line ls r k h j) i
  where
    go : (t : Bool) → (In r (rules_of ls) → Alike ls h.kind (length h.marks))
        → In r (cond t (record { kind = l.kind; marks = l.numbers; heads = heads_of ls } ∷ rules_of ls) (rules_of ls)) → Alike (l ∷ ls) h.kind (length h.marks)
    go true rest (inl p) = later l (head-line ls h (subst (λ (q : Rule). In h q.heads) p j))
    go true rest (inr k) = later l (rest k)
    go false rest k = later l (rest k)

row_line : (ls : List Line) (w : Line) → In w (row_lines ls) → Alike ls w.kind (length w.numbers)
row_line [] w i = absurd i
row_line (l ∷ ls) w i = go (eqb l.letter R) refl (row_line ls w) i
  where
    go : (t : Bool) → eqb l.letter R ≡ t → (In w (row_lines ls) → Alike ls w.kind (length w.numbers))
        → In w (cond t (l ∷ row_lines ls) (row_lines ls)) → Alike (l ∷ ls) w.kind (length w.numbers)
    go true e rest (inl p) =
        record {
          line = l;
          there = inl refl;
          other = λ k. omega (arith, eqb-true l.letter R e, k);
          kind_is = sym (ap (λ (x : Line). x.kind) p);
          size_is = sym (ap (λ (x : Line). length x.numbers) p);
        }
    go true e rest (inr j) = later l (rest j)
    go false e rest j = later l (rest j)

reachable_alike : (lines : List Line) {x : Record} → Reachable (rules_of lines) (rows_of lines) x → Alike lines x.kind (length x.fields)
reachable_alike lines {x} (row i) =
    let (l, j, e) = line-of-row lines x i in
    let a = row_line lines l.item j in
    record {
      line = a.line;
      there = a.there;
      other = a.other;
      kind_is = a.kind_is ∙ sym (ap (λ (y : Record). y.kind) e);
      size_is = a.size_is ∙ sym (row-length l) ∙ sym (ap (λ (y : Record). length y.fields) e);
    }
reachable_alike lines (made_from n r h named from fires i) =
    let a = rule_line lines r (nth_in (rules_of lines) n r named) h i in
    record { line = a.line; there = a.there; other = a.other; kind_is = a.kind_is; size_is = a.size_is ∙ sym (length-map h.marks _) }

pub row_alike : (lines : List Line) (k : ℕ) (w : Row) → In w (run lines k).rows → Alike lines w.kind (length w.numbers)
row_alike lines k w i =
    let a = reachable_alike lines ((one_to_one_renaming lines k).reachable (meant (meaning lines k) w) (in_map (meant (meaning lines k)) w (run lines k).rows i)) in
    record { line = a.line; there = a.there; other = a.other; kind_is = a.kind_is; size_is = a.size_is ∙ length-map w.numbers (meaning lines k) }

-- ---- numbers

pub row_range : (lines : List Line) (k : ℕ) → (run lines k).next ≤ suc largest_number → (w : Row) → In w (run lines k).rows → w.kind ≤ 64
    → in_range (w.kind ∷ w.numbers) ≡ true
row_range lines k small w i low =
    in_range_all (w.kind ∷ w.numbers)
    (omega arith, all_of (λ (n : ℕ). n ≤ largest_number) w.numbers (λ a j. omega (arith, (one_to_one_renaming lines k).numbered w a i j)))

-- ---- firings

pairs_few : (n : ℕ) (r : Rule) (ws : List Row) → length (pairs_on n r ws) ≤ length ws
pairs_few n r [] = omega arith
pairs_few n r (w ∷ ws) = go (fires_on? r w) (pairs_few n r ws)
  where
    go : (d : Dec (FiresOn r w)) → length (pairs_on n r ws) ≤ length ws → length (pick d (pair_of n r w ∷ pairs_on n r ws) (pairs_on n r ws)) ≤ suc (length ws)
    go (yes f) h = omega arith
    go (no f) h = omega arith

firings_below : (n : ℕ) (rs : List Rule) (ws : List Row) → length ws ≤ 4096 → firings_on n rs ws ≤ 4096 * length rs
firings_below n [] ws few = omega arith
firings_below n (r ∷ rs) ws few =
    omega (arith, few, length-add_all Pair-discrete (pairs_on n r ws) [], pairs_few n r ws, firings_below (suc n) rs ws few)

pub firings_few : (lines : List Line) → IsSheet lines → (k : ℕ) → Ends lines k → length (run lines k).rows ≤ 4096 → length (run lines k).fired ≤ 99999999
firings_few lines sheet k ends few =
    omega (
      arith,
      firings_by_rule lines k ends,
      firings_below 1 (rules_of lines) (run lines k).rows few,
      rules_few lines sheet,
    )
