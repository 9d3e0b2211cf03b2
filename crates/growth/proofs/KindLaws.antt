-- The rows and the H lines of a sheet have declared kinds and widths. Assumes nothing.
use mathlib.Core.Path.{◌≡◌, refl, sym, ◌∙◌, ap, subst}
use mathlib.Core.Logic.{◌⊎◌, inl, inr}
use mathlib.Core.Bool.{Bool, true, false, cond, ◌&&◌, and-eq-true_iff, false≢true}
use mathlib.Core.List.{List, [], ◌∷◌}
use Prim.Native.Nat.{ℕ, ◌<◌}
use native.Mathlib.Omega.{arith}
use borrow.Author.Tests.{eqb-true, ltb-true}
use lib.Dec.{eqb, ltb}
use lib.ListN.{length, get_or}
use Rattle.sheet.specs.Line.{K, B, H, R, Line}
use Rattle.sheet.specs.Sheet.{width_of, kind_right, Continues, IsSheet}
use Rattle.sheet.proofs.Sheets.{refusal_passes}
use Rattle.chase.specs.Lists.{In}
use Rattle.chase.specs.Rules.{Head, Rule, heads_of, rules_of, row_lines}
use Rattle.chase.specs.Making.{Record, fresh_of}
use Rattle.chase.specs.Run.{rows_of, Reachable, row, made_from}
use Rattle.chase.proofs.RowLaws.{row-length, row_line}
use Rattle.chase.proofs.MakingLaws.{makes-length}
use Rattle.chase.proofs.StepLaws.{nth_in}
use Rattle.growth.specs.Forecast.{kind_lines, width_in}

-- A K line among some lines declares this kind and width.
pub record Declared (ls : List Line) (kind width : ℕ) : Type 0 where
  pub line : Line
  pub there : In line (kind_lines ls)
  pub kind_is : kind ≡ line.kind
  pub width_is : width ≡ width_in line

in_kind_lines : (ls : List Line) (l : Line) → In l ls → eqb l.letter K ≡ true → In l (kind_lines ls)
in_kind_lines [] l i e = absurd i
in_kind_lines (k ∷ ls) l i e = go (eqb k.letter K) refl i (λ j. in_kind_lines ls l j e)
  where
    go : (b : Bool) → eqb k.letter K ≡ b → (l ≡ k) ⊎ In l ls → (In l ls → In l (kind_lines ls)) → In l (cond b (k ∷ kind_lines ls) (kind_lines ls))
    go true q (inl p) ih = inl p
    go true q (inr j) ih = inr (ih j)
    go false q (inl p) ih = absurd (false≢true (sym q ∙ ap (λ (x : Line). eqb x.letter K) (sym p) ∙ e))
    go false q (inr j) ih = ih j

-- A width that is declared before stands in a K line before.
declared_before : (all before : List Line) → ((l : Line) → In l before → In l all) → (k : ℕ) → 0 < width_of before k → Declared all k (width_of before k)
declared_before all [] s k h = absurd (omega arith)
declared_before all (l ∷ before) s k h =
    go (eqb l.letter K) (eqb l.kind k) refl refl h (λ g. declared_before all before (λ m i. s m (inr i)) k g)
  where
    go : (a b : Bool) → eqb l.letter K ≡ a → eqb l.kind k ≡ b → 0 < cond (a && b) (get_or l.numbers 0 0) (width_of before k)
        → (0 < width_of before k → Declared all k (width_of before k)) → Declared all k (cond (a && b) (get_or l.numbers 0 0) (width_of before k))
    go true true p q h ih =
        record { line = l; there = in_kind_lines all l (s l (inl refl)) p; kind_is = sym (eqb-true l.kind k q); width_is = refl }
    go true false p q h ih = ih h
    go false b p q h ih = ih h

-- Any line but a K line has a declared kind and its width.
used_line : (before : List Line) (l : Line) → eqb l.letter K ≡ false → kind_right before l ≡ true
    → (0 < width_of before l.kind) × (length l.numbers ≡ width_of before l.kind)
unfolding kind_right
used_line before l k e =
    let w : ℕ = width_of before l.kind in
    let (some, same) = (and-eq-true_iff (ltb 0 w) (eqb (length l.numbers) w)).0 (rw k at e) in
    (ltb-true 0 w some, eqb-true (length l.numbers) w same)

lines_declared : (all before ls : List Line) → ((l : Line) → In l before → In l all) → ((l : Line) → In l ls → In l all) → Continues before ls
    → (l : Line) → In l ls → eqb l.letter K ≡ false → Declared all l.kind (length l.numbers)
lines_declared all before [] s t c l i other = absurd i
lines_declared all before (m ∷ ls) s t c l (inl p) other =
    let same = sym p in
    let u = used_line before m (ap (λ (x : Line). eqb x.letter K) same ∙ other) (refusal_passes before m c.1).kind in
    let d = declared_before all before s m.kind u.0 in
    subst (λ (x : Line). Declared all x.kind (length x.numbers)) same (rw u.1 d)
lines_declared all before (m ∷ ls) s t c l (inr i) other =
    lines_declared all (m ∷ before) ls (λ x j. elim j [ inl p ↦ subst (λ (y : Line). In y all) (sym p) (t m (inl refl)) | inr k ↦ s x k ])
    (λ x j. t x (inr j)) c.2 l i other

sheet_declared : (ls : List Line) → IsSheet ls → (l : Line) → In l ls → eqb l.letter K ≡ false → Declared ls l.kind (length l.numbers)
sheet_declared ls c l i other = lines_declared ls [] ls (λ x j. absurd j) (λ x j. j) c l i other

-- ---- where rows and H lines come from

row_lines_in : (ls : List Line) (l : Line) → In l (row_lines ls) → In l ls × (l.letter ≡ R)
row_lines_in [] l i = absurd i
row_lines_in (m ∷ ls) l i = go (eqb m.letter R) refl i (λ j. row_lines_in ls l j)
  where
    go : (b : Bool) → eqb m.letter R ≡ b → In l (cond b (m ∷ row_lines ls) (row_lines ls)) → (In l (row_lines ls) → In l ls × (l.letter ≡ R))
        → In l (m ∷ ls) × (l.letter ≡ R)
    go true q (inl p) ih = (inl p, ap (λ (x : Line). x.letter) p ∙ eqb-true m.letter R q)
    go true q (inr j) ih = let s = ih j in (inr s.0, s.1)
    go false q j ih = let s = ih j in (inr s.0, s.1)

-- The H line of a record that is made.
record HeadLine (ls : List Line) (h : Head) : Type 0 where
  line : Line
  there : In line ls
  letter : line.letter ≡ H
  kind : h.kind ≡ line.kind
  marks : h.marks ≡ line.numbers

head_later : (m : Line) (ls : List Line) (h : Head) → HeadLine ls h → HeadLine (m ∷ ls) h
head_later m ls h s = record { line = s.line; there = inr s.there; letter = s.letter; kind = s.kind; marks = s.marks }

heads_of_in : (ls : List Line) (h : Head) → In h (heads_of ls) → HeadLine ls h
heads_of_in [] h i = absurd i
heads_of_in (m ∷ ls) h i = go (eqb m.letter H) refl i (λ j. heads_of_in ls h j)
  where
    go : (b : Bool) → eqb m.letter H ≡ b → In h (cond b (record { kind = m.kind; marks = m.numbers } ∷ heads_of ls) [])
        → (In h (heads_of ls) → HeadLine ls h) → HeadLine (m ∷ ls) h
    go true q (inl p) ih =
        record {
          line = m;
          there = inl refl;
          letter = eqb-true m.letter H q;
          kind = ap (λ (x : Head). x.kind) p;
          marks = ap (λ (x : Head). x.marks) p;
        }
    go true q (inr j) ih = head_later m ls h (ih j)
    go false q j ih = absurd j

rules_of_in : (ls : List Line) (r : Rule) (h : Head) → In r (rules_of ls) → In h r.heads → HeadLine ls h
rules_of_in [] r h i j = absurd i
rules_of_in (m ∷ ls) r h i j = go (eqb m.letter B) i (λ k. rules_of_in ls r h k j)
  where
    go : (b : Bool) → In r (cond b (record { kind = m.kind; marks = m.numbers; heads = heads_of ls } ∷ rules_of ls) (rules_of ls))
        → (In r (rules_of ls) → HeadLine ls h) → HeadLine (m ∷ ls) h
    go true (inl p) ih = head_later m ls h (heads_of_in ls h (subst (λ (x : Rule). In h x.heads) p j))
    go true (inr k) ih = head_later m ls h (ih k)
    go false k ih = head_later m ls h (ih k)

-- ---- reachable records

-- A reachable record of a sheet has a declared kind and its width.
pub reachable_declared : (ls : List Line) → IsSheet ls → {x : Record} → Reachable (rules_of ls) (rows_of ls) x → Declared ls x.kind (length x.fields)
reachable_declared ls c (row {x = x} i) =
    let (l, j, is) = row_line ls x i in
    let (there, letter) = row_lines_in ls l.item j in
    let k = sheet_declared ls c l.item there (rw letter) in
    record {
      line = k.line;
      there = k.there;
      kind_is = ap (λ (y : Record). y.kind) is ∙ k.kind_is;
      width_is = ap (λ (y : Record). length y.fields) is ∙ row-length l ∙ k.width_is;
    }
reachable_declared ls c (made_from {x = x} n r h e w f i) =
    let s = rules_of_in ls r h (nth_in (rules_of ls) n r e) i in
    let k = sheet_declared ls c s.line s.there (rw s.letter) in
    record {
      line = k.line;
      there = k.there;
      kind_is = s.kind ∙ k.kind_is;
      width_is = makes-length r x.fields (fresh_of n) h.marks ∙ ap length s.marks ∙ k.width_is;
    }
