-- A sheet has at most 2,368 lines: its lines are counted by their letters. Assumes nothing.
use mathlib.Core.Path.{◌≡◌, refl, sym, subst}
use mathlib.Core.Logic.{◌⊎◌, inl, inr, ⊎_elim}
use mathlib.Core.Bool.{Bool, true, false, ◌||◌}
use mathlib.Core.List.{List, [], ◌∷◌}
use Prim.Native.Nat.{ℕ, suc, ◌+◌, ◌*◌, ◌<◌, ◌≤◌}
use native.Mathlib.Omega.{arith}
use borrow.Author.Tests.{eqb-true, ltb-true}
use lib.Dec.{eqb}
use lib.ListN.{length}
use Rattle.sheet.specs.Line.{K, B, H, R, Line, well_formed}
use Rattle.sheet.specs.Sheet.{letter_before, kind_before, in_place, room_for, lines_with, heads_before, refusal}
use Rattle.sheet.proofs.FormLaws.{letter_cases}
use Rattle.sheet.proofs.Sheets.{Passes, refusal_passes}
use Rattle.sheet.proofs.WidthLaws.{kind_declared}

-- The lines before, as counted by their letters: kinds rise to 64, a rule has two to five lines.
pub record Few (before : List Line) : Type 0 where
  pub rules : lines_with B before ≤ 256
  pub rows : lines_with R before ≤ 1024
  pub heads : heads_before before ≤ 4
  pub kinds : (letter_before before ≡ 0) ⊎ (letter_before before ≡ K) → (length before ≤ kind_before before) × (kind_before before ≤ 64)
  pub all : length before ≤ 64 + 5 * lines_with B before + lines_with R before
  pub rule : (letter_before before ≡ B) ⊎ (letter_before before ≡ H) → length before + 4 ≤ 64 + 5 * lines_with B before + lines_with R before + heads_before before

pub at_most_2368_lines : (before : List Line) → Few before → length before ≤ 2368
at_most_2368_lines before few = let a = few.all in let b = few.rules in let r = few.rows in omega arith

pub few_none : Few []
few_none =
    record {
      rules = omega arith;
      rows = omega arith;
      heads = omega arith;
      kinds = λ _. (omega arith, omega arith);
      all = omega arith;
      rule = ⊎_elim (λ q. absurd (omega arith)) (λ q. absurd (omega arith));
    }

eqb_either : (a b x y : ℕ) → (eqb a x || eqb b y) ≡ true → (a ≡ x) ⊎ (b ≡ y)
eqb_either a b x y e = go (eqb a x) refl e
  where
    go : (t : Bool) → eqb a x ≡ t → (t || eqb b y) ≡ true → (a ≡ x) ⊎ (b ≡ y)
    go true p e = inl (eqb-true a x p)
    go false p e = inr (eqb-true b y e)

module _ (before : List Line) (few : Few before) (kind : ℕ) (ns : List ℕ) where
  abbrev with : ℕ → Line
  with letter = record { letter = letter; kind = kind; numbers = ns }

  few_K : Passes before (with K) → Few (with K ∷ before)
  unfolding in_place
  few_K p =
      let d = kind_declared before (with K) refl p.kind in
      let r = d.rises in
      let k = (few.kinds (eqb_either (letter_before before) (letter_before before) 0 K p.place)).0 in
      let long : suc (length before) ≤ kind = omega arith in
      record {
        rules = few.rules;
        rows = few.rows;
        heads = omega arith;
        kinds = λ _. (long, d.high);
        all = omega arith;
        rule = ⊎_elim (λ q. absurd (omega arith)) (λ q. absurd (omega arith));
      }

  few_B : Passes before (with B) → Few (with B ∷ before)
  unfolding room_for
  few_B p =
      let r : lines_with B before < 256 = ltb-true (lines_with B before) 256 p.room in
      let a = few.all in
      record {
        rules = r;
        rows = few.rows;
        heads = omega arith;
        kinds = ⊎_elim (λ q. absurd (omega arith)) (λ q. absurd (omega arith));
        all = omega arith;
        rule = λ _. omega arith;
      }

  few_H : Passes before (with H) → Few (with H ∷ before)
  unfolding in_place room_for
  few_H p =
      let h : heads_before before < 4 = ltb-true (heads_before before) 4 p.room in
      let o = few.rule (eqb_either (letter_before before) (letter_before before) B H p.place) in
      record {
        rules = few.rules;
        rows = few.rows;
        heads = h;
        kinds = ⊎_elim (λ q. absurd (omega arith)) (λ q. absurd (omega arith));
        all = omega arith;
        rule = λ _. omega arith;
      }

  few_R : Passes before (with R) → Few (with R ∷ before)
  unfolding room_for
  few_R p =
      let r : lines_with R before < 1024 = ltb-true (lines_with R before) 1024 p.room in
      let a = few.all in
      record {
        rules = few.rules;
        rows = r;
        heads = omega arith;
        kinds = ⊎_elim (λ q. absurd (omega arith)) (λ q. absurd (omega arith));
        all = omega arith;
        rule = ⊎_elim (λ q. absurd (omega arith)) (λ q. absurd (omega arith));
      }

pub few_more : (before : List Line) (l : Line) → Few before → well_formed l ≡ true → refusal before l ≡ 0 → Few (l ∷ before)
few_more before l few formed passed =
    ⊎_elim (λ e. by K e (few_K before few l.kind l.numbers))
    (⊎_elim (λ e. by B e (few_B before few l.kind l.numbers))
    (⊎_elim (λ e. by H e (few_H before few l.kind l.numbers)) (λ e. by R e (few_R before few l.kind l.numbers))))
    (letter_cases l formed)
  where
    by :
        (letter : ℕ) → l.letter ≡ letter
        → (Passes before (record { letter = letter; kind = l.kind; numbers = l.numbers }) → Few (record { letter = letter; kind = l.kind; numbers = l.numbers } ∷ before))
        → Few (l ∷ before)
    by letter e f =
        subst (λ (a : ℕ). Passes before (record { letter = a; kind = l.kind; numbers = l.numbers }) → Few (record { letter = a; kind = l.kind; numbers = l.numbers } ∷ before))
        (sym e) f (refusal_passes before l passed)
