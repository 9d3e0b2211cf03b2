-- The fresh marks of a rule of a sheet: those after the largest of its B line, up to the largest of all. Assumes nothing.
use mathlib.Core.Path.{◌≡◌, refl, sym, ◌∙◌, ap, subst}
use mathlib.Core.Bool.{Bool, true, false, cond, not, ◌&&◌, false≢true}
use mathlib.Core.Logic.{◌⊎◌, inl, inr}
use mathlib.Core.List.{List, [], ◌∷◌, ◌++◌}
use Prim.Native.Nat.{ℕ, zero, suc, ◌+◌, ◌-◌, ◌≤◌, ◌<◌, max}
use native.Mathlib.Decide.{ℕ_discrete, dec_le, dec_lt}
use native.Mathlib.Omega.{arith}
use lib.Dec.{eqb, leb, leb→le, T}
use borrow.Author.Tests.{eqb-true}
use lib.ListN.{length}
use Rattle.patterns.specs.Pattern.{pick, index}
use Rattle.sheet.specs.Line.{B, H, Line}
use Rattle.sheet.specs.Sheet.{top_mark, mark_before, marks_from, marks_right, Continues, IsSheet}
use Rattle.sheet.proofs.Sheets.{refusal_passes}
use Rattle.chase.specs.Lists.{In, largest}
use Rattle.chase.specs.Rules.{Rule, heads_of, rules_of, marks_of}
use Rattle.chase.specs.Making.{has, keep}
use Rattle.chase.proofs.MakingLaws.{has_in, in_has}
use Rattle.carrying.specs.Carrying.{rising, fresh_marks}
use Rattle.carrying.proofs.MarkLaws.{rising_in, rising_below, length-rising, is_fresh, fresh_in_lem, in_fresh, both, true_not, not-true, and_left, and_right}

true_T : (b : Bool) → b ≡ true → T b
true_T true e = tt
true_T false e = absurd (false≢true e)

-- A mark that is right after marks up to m, and the ones after it.
pub record MarksAfter (m n : ℕ) (ns : List ℕ) : Type 0 where
  pub from_one : 1 ≤ n
  pub to_next : n ≤ suc m
  pub others : marks_from (max m n) ns ≡ true

marks_after : (m n : ℕ) (ns : List ℕ) → marks_from m (n ∷ ns) ≡ true → MarksAfter m n ns
marks_after m n ns e =
    let a : (leb 1 n && leb n 12 && leb n (suc m)) ≡ true = and_left (leb 1 n && leb n 12 && leb n (suc m)) (marks_from (max m n) ns) e in
    let b : (leb 1 n && leb n 12) ≡ true = and_left (leb 1 n && leb n 12) (leb n (suc m)) a in
    record {
      from_one = leb→le 1 n (true_T (leb 1 n) (and_left (leb 1 n) (leb n 12) b));
      to_next = leb→le n (suc m) (true_T (leb n (suc m)) (and_right (leb 1 n && leb n 12) (leb n (suc m)) a));
      others = and_right (leb 1 n && leb n 12 && leb n (suc m)) (marks_from (max m n) ns) e;
    }

top_from : (m : ℕ) (ns : List ℕ) → m ≤ top_mark m ns
top_from m [] = omega arith
top_from m (n ∷ ns) = omega (arith, top_from (max m n) ns)

pub top_is : (m : ℕ) (ns : List ℕ) → top_mark m ns ≡ max m (largest ns)
top_is m [] = omega arith
top_is m (n ∷ ns) = top_is (max m n) ns ∙ omega arith

marks_low : (m : ℕ) (ns : List ℕ) → marks_from m ns ≡ true → (k : ℕ) → In k ns → (1 ≤ k) × (k ≤ top_mark m ns)
marks_low m [] e k i = absurd i
marks_low m (n ∷ ns) e k (inl p) =
    let a = marks_after m n ns e in
    (omega (arith, a.from_one, p), omega (arith, top_from (max m n) ns, p))
marks_low m (n ∷ ns) e k (inr i) = marks_low (max m n) ns (marks_after m n ns e).others k i

marks_all : (m : ℕ) (ns : List ℕ) → marks_from m ns ≡ true → (k : ℕ) → m < k → k ≤ top_mark m ns → In k ns
marks_all m [] e k l h = absurd (omega arith)
marks_all m (n ∷ ns) e k l h = go (dec_lt (max m n) k) (λ l'. marks_all (max m n) ns a.others k l' h)
  where
    a : MarksAfter m n ns
    a = marks_after m n ns e

    go : Dec (max m n < k) → (max m n < k → In k ns) → (k ≡ n) ⊎ In k ns
    go (yes p) ih = inr (ih p)
    go (no p) ih = inl (omega (arith, a.to_next))

-- What is kept of rising numbers.
keep_append : (p : ℕ → Bool) (xs ys : List ℕ) → keep p (xs ++ ys) ≡ keep p xs ++ keep p ys
keep_append p [] ys = refl
keep_append p (x ∷ xs) ys = go (p x) (keep_append p xs ys)
  where
    go : (b : Bool) → keep p (xs ++ ys) ≡ keep p xs ++ keep p ys
        → cond b (x ∷ keep p (xs ++ ys)) (keep p (xs ++ ys)) ≡ cond b (x ∷ keep p xs) (keep p xs) ++ keep p ys
    go true ih = ap (λ (l : List ℕ). x ∷ l) ih
    go false ih = ih

keep_all : (p : ℕ → Bool) (xs : List ℕ) → ((x : ℕ) → In x xs → p x ≡ true) → keep p xs ≡ xs
keep_all p [] h = refl
keep_all p (x ∷ xs) h = rw (h x (inl refl)) (ap (λ (l : List ℕ). x ∷ l) (keep_all p xs (λ y i. h y (inr i))))

keep-none : (p : ℕ → Bool) (xs : List ℕ) → ((x : ℕ) → In x xs → p x ≡ true → ⊥) → keep p xs ≡ []
keep-none p [] h = refl
keep-none p (x ∷ xs) h = go (p x) refl (keep-none p xs (λ y i. h y (inr i)))
  where
    go : (b : Bool) → p x ≡ b → keep p xs ≡ [] → cond b (x ∷ keep p xs) (keep p xs) ≡ []
    go true e ih = absurd (h x (inl refl) e)
    go false e ih = ih

rising-append : (k a b : ℕ) → rising k (a + b) ≡ rising k a ++ rising (k + a) b
rising-append k zero b =
    let e : 0 + b ≡ b = omega arith in
    let q : k ≡ k + 0 = omega arith in
    ap (rising k) e ∙ ap (λ (j : ℕ). rising j b) q
rising-append k (suc a) b =
    let e : suc a + b ≡ suc (a + b) = omega arith in
    let q : suc k + a ≡ k + suc a = omega arith in
    ap (rising k) e ∙ ap (λ (l : List ℕ). k ∷ l) (rising-append (suc k) a b) ∙ ap (λ (j : ℕ). k ∷ (rising (suc k) a ++ rising j b)) q

pub index-rising : (k n a : ℕ) → k ≤ a → a < k + n → index ℕ_discrete a (rising k n) ≡ a - k
index-rising k zero a l h = absurd (omega arith)
index-rising k (suc n) a l h = go (ℕ_discrete a k) (λ p q. index-rising (suc k) n a p q)
  where
    go : (p : Dec (a ≡ k)) → (suc k ≤ a → a < suc k + n → index ℕ_discrete a (rising (suc k) n) ≡ a - suc k)
        → pick p zero (suc (index ℕ_discrete a (rising (suc k) n))) ≡ a - k
    go (yes p) ih = omega arith
    go (no q) ih = omega (arith, ih (omega arith) (omega arith))

-- A rule whose marks are right: b is the largest of its B line, t the largest of all.
module _ (r : Rule) (body : marks_from 0 r.marks ≡ true) (heads : marks_from (top_mark 0 r.marks) (marks_of r.heads) ≡ true) where
  abbrev b : ℕ
  b = top_mark 0 r.marks

  abbrev t : ℕ
  t = top_mark b (marks_of r.heads)

  abbrev all : List ℕ
  all = marks_of r.heads

  pub fresh_above : (m : ℕ) → In m (fresh_marks r) → (b < m) × (m ≤ t)
  fresh_above m i =
      let s = fresh_in_lem r m i in
      let l = marks_low b all heads m s.0 in
      (go (dec_lt b m) s.1 l.0, l.1)
    where
      go : Dec (b < m) → (In m r.marks → ⊥) → 1 ≤ m → b < m
      go (yes p) h l = p
      go (no p) h l = absurd (h (marks_all 0 r.marks body m (omega (arith, l)) (omega arith)))

  above_fresh : (m : ℕ) → b < m → m ≤ t → In m (fresh_marks r)
  above_fresh m l h =
      in_fresh r m (marks_all b all heads m l h) (λ i. let p = marks_low 0 r.marks body m i in omega (arith, p.1))

  pub fresh_rising : fresh_marks r ≡ rising (suc b) (t - b)
  unfolding fresh_marks
  fresh_rising = go (dec_le b (largest all))
    where
      go : Dec (b ≤ largest all) → keep (is_fresh r) (rising 0 (suc (largest all))) ≡ rising (suc b) (t - b)
      go (yes p) =
          let e : suc (largest all) ≡ suc b + (largest all - b) = omega arith in
          let q : 0 + suc b ≡ suc b = omega arith in
          let z : largest all - b ≡ t - b = omega (arith, top_is b all) in
          ap (λ (n : ℕ). keep (is_fresh r) (rising 0 n)) e
          ∙ ap (keep (is_fresh r)) (rising-append 0 (suc b) (largest all - b) ∙ ap (λ (j : ℕ). rising 0 (suc b) ++ rising j (largest all - b)) q)
          ∙ keep_append (is_fresh r) (rising 0 (suc b)) (rising (suc b) (largest all - b))
          ∙ ap (λ (l : List ℕ). l ++ keep (is_fresh r) (rising (suc b) (largest all - b))) (keep-none (is_fresh r) (rising 0 (suc b)) low)
          ∙ keep_all (is_fresh r) (rising (suc b) (largest all - b)) high
          ∙ ap (rising (suc b)) z
        where
          low : (m : ℕ) → In m (rising 0 (suc b)) → is_fresh r m ≡ true → ⊥
          low m i e =
              let u = fresh_above m (in_fresh r m (has_in m all (and_left (has m all) (not (has m r.marks)) e))
              (λ j. not-true (has m r.marks) (and_right (has m all) (not (has m r.marks)) e) (in_has m r.marks j))) in
              omega (arith, u.0, rising_below 0 (suc b) m i)

          high : (m : ℕ) → In m (rising (suc b) (largest all - b)) → is_fresh r m ≡ true
          high m i =
              let u = fresh_in_lem r m (above_fresh m (omega (arith, rising_in (suc b) (largest all - b) m i))
              (omega (arith, rising_below (suc b) (largest all - b) m i, top_is b all, p))) in
              both (has m all) (not (has m r.marks)) (in_has m all u.0) (true_not (has m r.marks) (λ e. u.1 (has_in m r.marks e)))
      go (no p) =
          let z : t - b ≡ 0 = omega (arith, top_is b all) in
          keep-none (is_fresh r) (rising 0 (suc (largest all))) none ∙ sym (ap (rising (suc b)) z)
        where
          none : (m : ℕ) → In m (rising 0 (suc (largest all))) → is_fresh r m ≡ true → ⊥
          none m i e =
              let u = fresh_above m (in_fresh r m (has_in m all (and_left (has m all) (not (has m r.marks)) e))
              (λ j. not-true (has m r.marks) (and_right (has m all) (not (has m r.marks)) e) (in_has m r.marks j))) in
              omega (arith, u.0, rising_below 0 (suc (largest all)) m i, p)

  -- So many numbers are taken, and a fresh mark gets its distance past the B line's largest.
  pub fresh_length : length (fresh_marks r) ≡ t - b
  fresh_length = ap length fresh_rising ∙ length-rising (suc b) (t - b)

  pub fresh_place : (m : ℕ) → b < m → m ≤ t → index ℕ_discrete m (fresh_marks r) ≡ m - suc b
  fresh_place m l h = ap (index ℕ_discrete m) fresh_rising ∙ index-rising (suc b) (t - b) m l (omega arith)

-- The rules of a sheet are such.
marks_append : (m : ℕ) (xs ys : List ℕ) → marks_from m xs ≡ true → marks_from (top_mark m xs) ys ≡ true → marks_from m (xs ++ ys) ≡ true
marks_append m [] ys p q = q
marks_append m (x ∷ xs) ys p q =
    both (leb 1 x && leb x 12 && leb x (suc m)) (marks_from (max m x) (xs ++ ys))
    (and_left (leb 1 x && leb x 12 && leb x (suc m)) (marks_from (max m x) xs) p)
    (marks_append (max m x) xs ys (and_right (leb 1 x && leb x 12 && leb x (suc m)) (marks_from (max m x) xs) p) q)

body-line : (before : List Line) (l : Line) → l.letter ≡ B → marks_right before l ≡ true → marks_from 0 l.numbers ≡ true
unfolding marks_right
body-line before l p e = rw p at e

head-line : (before : List Line) (l : Line) → l.letter ≡ H → marks_right before l ≡ true → marks_from (mark_before before) l.numbers ≡ true
unfolding marks_right
head-line before l p e = rw p at e

mark_after_body : (before : List Line) (l : Line) → l.letter ≡ B → mark_before (l ∷ before) ≡ top_mark 0 l.numbers
mark_after_body before l p = rw p

mark_after_head : (before : List Line) (l : Line) → l.letter ≡ H → mark_before (l ∷ before) ≡ top_mark (mark_before before) l.numbers
mark_after_head before l p = rw p

heads_marks : (before ls : List Line) → Continues before ls → marks_from (mark_before before) (marks_of (heads_of ls)) ≡ true
heads_marks before [] c = refl
heads_marks before (l ∷ ls) c = go (eqb l.letter H) refl (heads_marks (l ∷ before) ls c.2)
  where
    go : (t : Bool) → eqb l.letter H ≡ t → marks_from (mark_before (l ∷ before)) (marks_of (heads_of ls)) ≡ true
        → marks_from (mark_before before) (marks_of (cond t (record { kind = l.kind; marks = l.numbers } ∷ heads_of ls) [])) ≡ true
    go true e ih =
        let is = eqb-true l.letter H e in
        marks_append (mark_before before) l.numbers (marks_of (heads_of ls)) (head-line before l is (refusal_passes before l c.1).marks)
        (subst (λ (m : ℕ). marks_from m (marks_of (heads_of ls)) ≡ true) (mark_after_head before l is) ih)
    go false e ih = refl

pub record RightMarks (r : Rule) : Type 0 where
  pub body : marks_from 0 r.marks ≡ true
  pub heads : marks_from (top_mark 0 r.marks) (marks_of r.heads) ≡ true

rules_right : (before ls : List Line) → Continues before ls → (r : Rule) → In r (rules_of ls) → RightMarks r
rules_right before [] c r i = absurd i
rules_right before (l ∷ ls) c r i = go (eqb l.letter B) refl i (λ j. rules_right (l ∷ before) ls c.2 r j)
  where
    go : (t : Bool) → eqb l.letter B ≡ t → In r (cond t (record { kind = l.kind; marks = l.numbers; heads = heads_of ls } ∷ rules_of ls) (rules_of ls))
        → (In r (rules_of ls) → RightMarks r) → RightMarks r
    go true e (inl p) ih =
        let is = eqb-true l.letter B e in
        subst RightMarks (sym p)
        (record {
          body = body-line before l is (refusal_passes before l c.1).marks;
          heads = subst (λ (m : ℕ). marks_from m (marks_of (heads_of ls)) ≡ true) (mark_after_body before l is) (heads_marks (l ∷ before) ls c.2);
        })
    go true e (inr j) ih = ih j
    go false e j ih = ih j

pub sheet_marks : (lines : List Line) → IsSheet lines → (r : Rule) → In r (rules_of lines) → RightMarks r
sheet_marks lines s r i = rules_right [] lines s r i
