-- The marks of a rule are counted: what one mark more does to the states and to the counts, the marks of a line one by one, the H lines, and what the counts are at the end. Assumes nothing.
use mathlib.Core.Path.{◌≡◌, refl, sym, subst, ap, ◌∙◌}
use mathlib.Core.Logic.{◌⊎◌, inl, inr}
use mathlib.Core.List.{List, [], ◌∷◌, ◌++◌, append_assoc, append-nil}
use Prim.Native.Nat.{ℕ, zero, suc, ◌+◌, ◌-◌, ◌*◌, ◌≤◌, ◌<◌}
use native.Mathlib.Decide.{ℕ_discrete}
use native.Mathlib.Numerals.{add-one}
use native.Mathlib.Omega.{arith}
use lib.ListN.{length, get_or, take, set, length-set}
use lib.Seq.{get_or-set_same, get_or-set_other}
use Rattle.std.specs.Prelude.{replicate}
use Rattle.std.proofs.lemmas.List.{take_more, take_all, get_or-replicate}
use Rattle.sheet.specs.Line.{B, H}
use Rattle.chase.specs.Lists.{In, All}
use Rattle.chase.specs.Rules.{Rule, marks_of}
use Rattle.chase.specs.Making.{carried_marks}
use Rattle.chase.specs.Counting.{Count}
use Rattle.chase.proofs.ListLaws.{in_left, in_right, in_append}
use Rattle.chase.proofs.CountLaws.{pigeonhole, numbers_to, in_numbers_to, count_iff, count_one}
use Rattle.carrying.specs.Carrying.{fresh_marks}
use Rattle.growth.proofs.Theorems.{fresh_counts, carried_counts}
use Rattle.rules.specs.Table.{SheetHeld, MarksFit}
use Rattle.rules.specs.Inner.Bytes.{marks_at, heads_at, LineIn, head_count}
use Rattle.rules.proofs.SheetLaws.{size_held}
use Rattle.rules.proofs.PartLaws.{heads_each}
use Rattle.rules.proofs.TableLaws.{HeadsSeen, heads_begun, heads_done, heads_stop, heads_more, RuleHere, rule-here}
use Rattle.forecasting.specs.declared.marks.Mark.{Mark}
use Rattle.forecasting.specs.declared.marks.Mark.TheVariants.{Nowhere, InBody, InHead}
use Rattle.forecasting.specs.declared.marks.MarkCounts.{MarkCounts}
use Rattle.forecasting.specs.Inner.Marks.{StateOf, Counted, HeadsCounted, MarkMet}
use Rattle.forecasting.specs.Inner.Terms.{rule_here, MarksCounted}

-- ---- how many have something

abbrev NotIn : List ℕ → ℕ → Type 0
NotIn l m = In m l → ⊥

abbrev IsIn : List ℕ → ℕ → Type 0
IsIn l m = In m l

-- A mark is among those met and has Q.
abbrev Among : (ℕ → Type 0) → List ℕ → ℕ → Type 0
Among Q heads m = In m heads × Q m

-- Those of a list that has all of them are at most as many as it is long.
count_within : {P : ℕ → Type 0} {k : ℕ} → Count P k → (l : List ℕ) → ((m : ℕ) → P m → In m l) → k ≤ length l
count_within c l f = omega (arith, c.size, pigeonhole c.list l c.different (λ m i. f m (c.sound m i)))

in_last : (x m : ℕ) (l : List ℕ) → In x (l ++ (m ∷ [])) → In x l ⊎ (x ≡ m)
in_last x m l i = elim (in_append x l (m ∷ []) i) [ inl j ↦ inl j | inr j ↦ inr (elim j [ inl e ↦ e | inr k ↦ absurd k ]) ]

in_before : (x m : ℕ) (l : List ℕ) → (x ≡ m → ⊥) → In x (l ++ (m ∷ [])) → In x l
in_before x m l d i = elim (in_last x m l i) [ inl j ↦ j | inr e ↦ absurd (d e) ]

last-in : (m : ℕ) (l : List ℕ) → In m (l ++ (m ∷ []))
last-in m l = in_right m l (m ∷ []) (inl refl)

module _ (Q : ℕ → Type 0) where
  count_none : Count (Among Q []) 0
  count_none = record { list = []; different = tt; sound = λ m i. absurd i; complete = λ m p. p.0; size = refl }

  module _ (heads : List ℕ) (m : ℕ) {k : ℕ} (c : Count (Among Q heads) k) where
    -- One mark more that has Q and was not met counts.
    count_more : (In m heads → ⊥) → Q m → Count (Among Q (heads ++ (m ∷ []))) (k + 1)
    count_more d q =
        let e = c.size in
        record {
          list = m ∷ c.list;
          different = ((λ i. d (c.sound m i).0), c.different);
          sound = λ x i.
              elim i [
                | inl p ↦ subst (Among Q (heads ++ (m ∷ []))) (sym p) (last-in m heads, q)
                | inr j ↦ (in_left x heads (m ∷ []) (c.sound x j).0, (c.sound x j).1)
              ];
          complete = λ x p. elim (in_last x m heads p.0) [ inl j ↦ inr (c.complete x (j, p.1)) | inr e ↦ inl e ];
          size = omega arith;
        }

    -- Any other does not.
    count_same : (Q m → In m heads) → Count (Among Q (heads ++ (m ∷ []))) k
    count_same f =
        count_iff (Among Q heads) (Among Q (heads ++ (m ∷ []))) k (λ x p. (in_left x heads (m ∷ []) p.0, p.1))
        (λ x p.
        elim (in_last x m heads p.0) [ inl j ↦ (j, p.1) | inr e ↦ (subst (λ z. In z heads) (sym e) (f (subst Q e p.1)), p.1) ])
        c

-- ---- one mark more

-- The states once one mark's is set, where what is said of the others is still so.
states_set : (body heads body2 heads2 : List ℕ) (met : List Mark) (m : ℕ) (x : Mark) → length met ≡ 13 → m ≤ 12 → StateOf body2 heads2 m x
    → ((j : ℕ) (s : Mark) → (j ≡ m → ⊥) → StateOf body heads j s → StateOf body2 heads2 j s)
    → ((j : ℕ) → j ≤ 12 → StateOf body heads j (get_or met j Nowhere)) → (j : ℕ) → j ≤ 12 → StateOf body2 heads2 j (get_or (set met m x) j Nowhere)
states_set body heads body2 heads2 met m x size low here others states j h = go (ℕ_discrete j m)
  where
    go : Dec (j ≡ m) → StateOf body2 heads2 j (get_or (set met m x) j Nowhere)
    go (yes e) =
        subst (λ z. StateOf body2 heads2 z (get_or (set met m x) z Nowhere)) (sym e)
        (subst (StateOf body2 heads2 m) (sym (get_or-set_same met m x Nowhere (omega arith))) here)
    go (no d) = subst (StateOf body2 heads2 j) (sym (get_or-set_other met m j x Nowhere d)) (others j (get_or met j Nowhere) d (states j h))

pub counted_none : Counted [] [] (replicate 13 Nowhere) 0 0
counted_none =
    record {
      size = refl;
      small = λ m i. absurd i;
      states = λ m h.
          subst (StateOf [] [] m) (sym (get_or-replicate 13 m Nowhere Nowhere (omega arith)))
          (record { nowhere = λ e. ((λ i. i), λ i. i); in_body = λ e. absurd (grind arith); in_head = λ e. absurd (grind arith) });
      fresh_ones = count_none (NotIn []);
      carried_ones = count_none (IsIn []);
    }

-- A mark of the B line.
counted-body : {body : List ℕ} {met : List Mark} → Counted body [] met 0 0 → (m : ℕ) → m ≤ 12 → Counted (body ++ (m ∷ [])) [] (set met m InBody) 0 0
counted-body {body} {met} c m low =
    record {
      size = length-set met m InBody ∙ c.size;
      small = λ x i. absurd i;
      states = states_set body [] (body ++ (m ∷ [])) [] met m InBody c.size low
          (record { nowhere = λ e. absurd (grind arith); in_body = λ e. ((λ i. i), last-in m body); in_head = λ e. absurd (grind arith) })
          (λ j s d o.
          record {
            nowhere = λ e. ((λ i. i), λ i. (o.nowhere e).1 (in_before j m body d i));
            in_body = λ e. ((λ i. i), in_left j body (m ∷ []) (o.in_body e).1);
            in_head = o.in_head;
          })
          c.states;
      fresh_ones = count_none (NotIn (body ++ (m ∷ [])));
      carried_ones = count_none (IsIn (body ++ (m ∷ [])));
    }

module _ {body heads : List ℕ} {met : List Mark} {fresh carried : ℕ} (c : Counted body heads met fresh carried) where
  pub counted_few : (fresh ≤ 12) × (carried ≤ 12)
  counted_few =
      let from : (m : ℕ) → In m heads → In m (numbers_to 12) = λ m i. in_numbers_to 12 m (c.small m i).0 (c.small m i).1 in
      (count_within c.fresh_ones (numbers_to 12) (λ m p. from m p.0), count_within c.carried_ones (numbers_to 12) (λ m p. from m p.0))

  module _ (m : ℕ) (low : (1 ≤ m) × (m ≤ 12)) where
    -- A mark of an H line has been met afterwards, wherever it was met before.
    counted_head : {new old : ℕ} → Count (Among (NotIn body) (heads ++ (m ∷ []))) new → Count (Among (IsIn body) (heads ++ (m ∷ []))) old
        → Counted body (heads ++ (m ∷ [])) (set met m InHead) new old
    counted_head new old =
        record {
          size = length-set met m InHead ∙ c.size;
          small = λ x i. elim (in_last x m heads i) [ inl j ↦ c.small x j | inr e ↦ subst (λ z. (1 ≤ z) × (z ≤ 12)) (sym e) low ];
          states = states_set body heads body (heads ++ (m ∷ [])) met m InHead c.size low.1
              (record { nowhere = λ e. absurd (grind arith); in_body = λ e. absurd (grind arith); in_head = λ e. last-in m heads })
              (λ j s d o.
              record {
                nowhere = λ e. ((λ i. (o.nowhere e).0 (in_before j m heads d i)), (o.nowhere e).1);
                in_body = λ e. ((λ i. (o.in_body e).0 (in_before j m heads d i)), (o.in_body e).1);
                in_head = λ e. in_left j heads (m ∷ []) (o.in_head e);
              })
              c.states;
          fresh_ones = new;
          carried_ones = old;
        }

-- It counts as fresh, as carried, or not again.
counted_met : {body heads : List ℕ} {met : List Mark} {before after : MarkCounts} → Counted body heads met before.fresh before.carried
    → (m : ℕ) → (1 ≤ m) × (m ≤ 12) → MarkMet (get_or met m Nowhere) before after
    → Counted body (heads ++ (m ∷ [])) (set met m InHead) after.fresh after.carried
counted_met {body} {heads} {met} {before} {after} c m low a = go (get_or met m Nowhere) (c.states m low.1) a
  where
    as_counted : {new old : ℕ} → (after.fresh ≡ new) × (after.carried ≡ old) → Count (Among (NotIn body) (heads ++ (m ∷ []))) new
        → Count (Among (IsIn body) (heads ++ (m ∷ []))) old → Counted body (heads ++ (m ∷ [])) (set met m InHead) after.fresh after.carried
    as_counted e new old =
        counted_head c m low (subst (Count (Among (NotIn body) (heads ++ (m ∷ [])))) (sym e.0) new)
        (subst (Count (Among (IsIn body) (heads ++ (m ∷ [])))) (sym e.1) old)

    go : (s : Mark) → StateOf body heads m s → MarkMet s before after → Counted body (heads ++ (m ∷ [])) (set met m InHead) after.fresh after.carried
    go Nowhere state a =
        let (new, not) = state.nowhere refl in
        as_counted (a.nowhere refl) (count_more (NotIn body) heads m c.fresh_ones new not)
        (count_same (IsIn body) heads m c.carried_ones (λ i. absurd (not i)))
    go InBody state a =
        let (new, there) = state.in_body refl in
        as_counted (a.in_body refl) (count_same (NotIn body) heads m c.fresh_ones (λ i. absurd (i there)))
        (count_more (IsIn body) heads m c.carried_ones new there)
    go InHead state a =
        let met-before = state.in_head refl in
        as_counted (a.in_head refl) (count_same (NotIn body) heads m c.fresh_ones (λ i. met-before))
        (count_same (IsIn body) heads m c.carried_ones (λ i. met-before))

-- ---- the marks of a line one by one

-- Marks of a sheet are 1 to 12.
pub mark_low : {marks : List ℕ} (i : ℕ) → i < length marks → MarksFit marks → (1 ≤ get_or marks i 0) × (get_or marks i 0 ≤ 12)
mark_low {marks} i inside f = go marks i inside f.each
  where
    go : (ms : List ℕ) (i : ℕ) → i < length ms → All (λ m. (1 ≤ m) × (m ≤ 12)) ms → (1 ≤ get_or ms i 0) × (get_or ms i 0 ≤ 12)
    go [] i inside each = absurd (omega arith)
    go (m ∷ ms) zero inside each = each.0
    go (m ∷ ms) (suc i) inside each = go ms i (omega arith) each.1

-- The marks of a B line.
pub body_more : {marks : List ℕ} {i : ℕ} {met : List Mark} → Counted (take i marks) [] met 0 0 → i < length marks → MarksFit marks
    → Counted (take (i + 1) marks) [] (set met (get_or marks i 0) InBody) 0 0
body_more {marks} {i} c inside fits = rw (take_more marks i 0 inside) (counted-body c (get_or marks i 0) (mark_low i inside fits).1)

pub body_all : {marks these : List ℕ} {i : ℕ} {met : List Mark} → Counted (take i marks) [] met 0 0 → length marks ≤ i → marks ≡ these
    → Counted these [] met 0 0
body_all {marks} {i = i} {met} c over is = subst (λ l. Counted l [] met 0 0) (take_all i marks over ∙ is) c

-- The marks of an H line.
pub head_more : {numbers : List ℕ} {n h : ℕ} {marks : List ℕ} {i : ℕ} {met : List Mark} {before after : MarkCounts}
    → HeadsCounted numbers n h met before (take i marks) → i < length marks → MarksFit marks → MarkMet (get_or met (get_or marks i 0) Nowhere) before after
    → HeadsCounted numbers n h (set met (get_or marks i 0) InHead) after (take (i + 1) marks)
head_more {numbers} {n} {h} {marks} {i} {met} {before} {after} s inside fits a =
    record {
      counted =
          subst (λ l. Counted (marks_at numbers n) l (set met (get_or marks i 0) InHead) after.fresh after.carried)
          (append_assoc (marks_of (heads_at numbers (n + 1) h)) (take i marks) (get_or marks i 0 ∷ [])
          ∙ ap (λ (ms : List ℕ). marks_of (heads_at numbers (n + 1) h) ++ ms) (sym (take_more marks i 0 inside)))
          (counted_met s.counted (get_or marks i 0) (mark_low i inside fits) a);
    }

marks_next : (numbers : List ℕ) (h n : ℕ) → marks_of (heads_at numbers n (suc h)) ≡ marks_of (heads_at numbers n h) ++ marks_at numbers (n + h)
marks_next numbers zero n = append-nil (marks_at numbers n) ∙ ap (marks_at numbers) (let z : n ≡ n + 0 = omega arith in z)
marks_next numbers (suc h) n =
    ap (λ (ms : List ℕ). marks_at numbers n ++ ms)
    (marks_next numbers h (n + 1)
    ∙ ap (λ k. marks_of (heads_at numbers (n + 1) h) ++ marks_at numbers k) (let z : n + 1 + h ≡ n + suc h = omega arith in z))
    ∙ sym (append_assoc (marks_at numbers n) (marks_of (heads_at numbers (n + 1) h)) (marks_at numbers (n + suc h)))

-- All its marks are passed.
pub head_all : {numbers : List ℕ} {n h : ℕ} {met : List Mark} {c : MarkCounts} {marks : List ℕ} → HeadsCounted numbers n h met c marks
    → marks ≡ marks_at numbers (n + 1 + h) → HeadsCounted numbers n (h + 1) met c []
head_all {numbers} {n} {h} {met} {c} s e =
    record {
      counted =
          subst (λ l. Counted (marks_at numbers n) l met c.fresh c.carried)
          (ap (λ (ms : List ℕ). marks_of (heads_at numbers (n + 1) h) ++ ms) e
          ∙ sym (marks_next numbers h (n + 1))
          ∙ ap (λ k. marks_of (heads_at numbers (n + 1) k)) (sym (add-one h))
          ∙ sym (append-nil (marks_of (heads_at numbers (n + 1) (h + 1)))))
          s.counted;
    }

pub head_over : {numbers : List ℕ} {n h : ℕ} {met : List Mark} {c : MarkCounts} {marks : List ℕ} {i : ℕ} → HeadsCounted numbers n h met c (take i marks)
    → length marks ≤ i → marks ≡ marks_at numbers (n + 1 + h) → HeadsCounted numbers n (h + 1) met c []
head_over {marks = marks} {i} s over is = head_all s (take_all i marks over ∙ is)

-- ---- the H lines of a rule

-- The first h H lines of the rule at line n are passed.
pub record HeadsPassed (numbers : List ℕ) (n h : ℕ) (met : List Mark) (c : MarkCounts) : Type 0 where
  pub seen : HeadsSeen numbers (n + 1) (n + 1 + h)
  pub so_far : HeadsCounted numbers n h met c []

-- What is counted of a rule's marks, all passed, are its fresh and its carried marks.
fresh_counted : (r : Rule) {k : ℕ} → Count (Among (NotIn r.marks) (marks_of r.heads)) k → k ≡ length (fresh_marks r)
fresh_counted r {k} c =
    count_one (Among (NotIn r.marks) (marks_of r.heads)) k (length (fresh_marks r)) c (fresh_counts r)

carried_counted : (r : Rule) {k : ℕ} → Count (Among (IsIn r.marks) (marks_of r.heads)) k → k ≡ length (carried_marks r)
carried_counted r {k} c =
    count_one (Among (IsIn r.marks) (marks_of r.heads)) k (length (carried_marks r)) c
    (count_iff (λ m. In m r.marks × In m (marks_of r.heads)) (Among (IsIn r.marks) (marks_of r.heads)) (length (carried_marks r)) (λ m p. (p.1, p.0))
    (λ m p. (p.1, p.0)) (carried_counts r))

module _ {numbers : List ℕ} (n : ℕ) (asked : SheetHeld numbers × (8 * n < length numbers) × (get_or numbers (8 * n) 0 ≡ B)) where
  here : RuleHere asked.0 n
  here = rule-here asked.0 n asked.1 asked.2

  pub body_asks : LineIn numbers n × MarksFit (marks_at numbers n)
  body_asks = (omega (arith, here.next, size_held asked.0), here.fits.marks)

  pub heads_none : {met : List Mark} → Counted (marks_at numbers n) [] met 0 0 → HeadsPassed numbers n 0 met (record { fresh = 0; carried = 0 })
  heads_none s =
      record {
        seen = subst (HeadsSeen numbers (n + 1)) (let z : n + 1 ≡ n + 1 + 0 = omega arith in z) (heads_begun asked.0 (n + 1) here.next);
        so_far = record { counted = s };
      }

  module _ {h : ℕ} {met : List Mark} {c : MarkCounts} (p : HeadsPassed numbers n h met c) where
    module _ (inside : 8 * (n + 1 + h) < length numbers) (head : get_or numbers (8 * (n + 1 + h)) 0 ≡ H) where
      next_seen : HeadsSeen numbers (n + 1) (n + 1 + (h + 1))
      next_seen =
          subst (HeadsSeen numbers (n + 1)) (let z : n + 1 + h + 1 ≡ n + 1 + (h + 1) = omega arith in z) (heads_more asked.0 p.seen inside head)

      pub head_asks : LineIn numbers (n + 1 + h) × MarksFit (marks_at numbers (n + 1 + h)) × HeadsCounted numbers n h met c []
      head_asks =
          let s = next_seen in
          let within = s.inside in
          let same = s.same in (
            omega arith,
            (heads_each numbers (head_count numbers (n + 1)) (n + 1) h here.fits.heads (omega arith)).marks,
            p.so_far,
          )

      pub heads_next : {met2 : List Mark} {after : MarkCounts} → HeadsCounted numbers n (h + 1) met2 after [] → HeadsPassed numbers n (h + 1) met2 after
      heads_next s = record { seen = next_seen; so_far = s }

    heads_all : n + 1 + h - (n + 1) ≡ head_count numbers (n + 1) → MarksCounted numbers n c
    heads_all e =
        let r = rule_here numbers n in
        let all : Counted r.marks (marks_of r.heads) met c.fresh c.carried =
        subst (λ l. Counted r.marks l met c.fresh c.carried)
        (append-nil (marks_of (heads_at numbers (n + 1) h))
        ∙ ap (λ k. marks_of (heads_at numbers (n + 1) k)) (let z : h ≡ head_count numbers (n + 1) = omega arith in z))
        p.so_far.counted in
        record {
          fresh = fresh_counted r all.fresh_ones;
          carried = carried_counted r all.carried_ones;
          few_fresh = (counted_few all).0;
          few_carried = omega (arith, count_within all.carried_ones r.marks (λ m p. p.1), here.fits.marks.few);
        }

    pub heads_end : 8 * (n + 1 + h) < length numbers → (get_or numbers (8 * (n + 1 + h)) 0 ≡ H → ⊥) → MarksCounted numbers n c
    heads_end inside other = heads_all (heads_stop asked.0 p.seen inside other)

    pub lines_end : length numbers ≤ 8 * (n + 1 + h) → MarksCounted numbers n c
    lines_end out = heads_all (heads_done asked.0 p.seen out)
