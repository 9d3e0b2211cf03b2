-- The laws of written steps: ways and lines back, and steps put one after the other. Assumes nothing.
use mathlib.Core.Path.{◌≡◌, refl, sym, subst, ap, ◌∙◌}
use mathlib.Core.List.{List, [], ◌∷◌, ◌++◌, append_assoc}
use mathlib.Core.Logic.{◌⊎◌, inl, inr, ⊎_elim, by_cases}
use Prim.Native.Nat.{ℕ, zero, suc, ◌+◌, ◌-◌, ◌*◌, ◌/◌, ◌%◌, ◌≤◌, ◌<◌}
use native.Mathlib.Omega.{arith}
use native.Mathlib.Numerals.{add-one}
use native.Mathlib.Decide.{ℕ_discrete}
use borrow.Author.Count.{below_more}
use lib.ListN.{length, take, drop, length-append}
use lib.Seq.{paste-zero, take_all, take-append-le, take-take, drop_at, take_at, drop-drop, length-take-le, length-paste}
use Rattle.chase.specs.Steps.{Step, step_numbers}
use Rattle.chase.proofs.StepLaws.{length_numbers, numbers_append}
use Rattle.judging.specs.Inner.Found.{parent_at, maker_at, h_line_at}
use Rattle.judging.specs.Inner.Nodes.{at, back, from_of, link_of}
use Rattle.judging.specs.Inner.Written.{link_step, line_to, made_of, way_back, way_to, Falls, WayLength, put_steps, one_step, StaysBelow, InTurn, TurnLength, InLine, LineLength}
use Rattle.judging.specs.Inner.Trails.{WroteEndless, WroteSettled}
use Rattle.judging.proofs.WalkLaws.{back_after}
use Rattle.judging.proofs.Ways.{way_to-length}

-- Numbers put over a part of a list.

abbrev over : ℕ → List ℕ → List ℕ → List ℕ
over i xs d = take i d ++ xs ++ drop (i + length xs) d

module _ (d : List ℕ) (i : ℕ) (xs ys : List ℕ) (h : i + length xs + length ys ≤ length d) where
  tail_is : drop (i + length xs + length ys) d ≡ drop (i + length (xs ++ ys)) d
  tail_is = let e : i + length xs + length ys ≡ i + length (xs ++ ys) = omega (arith, length-append xs ys) in ap (λ n. drop n d) e

  over_before : over i xs (over (i + length xs) ys d) ≡ over i (xs ++ ys) d
  over_before =
      let e : List ℕ = drop (i + length xs + length ys) d in
      let cut : length (take (i + length xs) d) ≡ i + length xs = length-take-le (i + length xs) d (omega arith) in
      ap (λ f. take i f ++ xs ++ drop (i + length xs) f) (append_assoc (take (i + length xs) d) ys e)
      ∙ ap (λ f. f ++ xs ++ drop (i + length xs) (take (i + length xs) d ++ (ys ++ e)))
      (take-append-le i (take (i + length xs) d) (ys ++ e) (omega arith) ∙ take-take i (i + length xs) d (omega arith))
      ∙ ap (λ f. take i d ++ xs ++ f) (drop_at (take (i + length xs) d) (ys ++ e) (i + length xs) cut)
      ∙ sym (append_assoc (take i d ++ xs) ys e)
      ∙ ap (λ f. f ++ e) (append_assoc (take i d) xs ys)
      ∙ ap (λ f. take i d ++ (xs ++ ys) ++ f) tail_is

  over_after : over (i + length xs) ys (over i xs d) ≡ over i (xs ++ ys) d
  over_after =
      let e : List ℕ = drop (i + length xs) d in
      let size : length (take i d ++ xs) ≡ i + length xs = length-append (take i d) xs ∙ ap (λ n. n + length xs) (length-take-le i d (omega arith)) in
      ap (λ f. f ++ ys ++ drop (i + length xs + length ys) (take i d ++ xs ++ e)) (take_at (take i d ++ xs) e (i + length xs) size)
      ∙ ap (λ f. take i d ++ xs ++ ys ++ f)
      (sym (drop-drop (length ys) (i + length xs) (take i d ++ xs ++ e))
      ∙ ap (drop (length ys)) (drop_at (take i d ++ xs) e (i + length xs) size)
      ∙ drop-drop (length ys) (i + length xs) d
      ∙ tail_is)
      ∙ ap (λ f. f ++ drop (i + length (xs ++ ys)) d) (append_assoc (take i d) xs ys)

-- Steps as numbers.

put_over : (d : List ℕ) (a : ℕ) (ss : List Step) → put_steps d a ss ≡ over (5 * a) (step_numbers ss) d
put_over d a ss =
    ap (λ r. take (5 * a) d ++ r ++ drop (5 * a + 5 * length ss) d) (take_all (5 * length ss) (step_numbers ss) (omega (arith, length_numbers ss)))
    ∙ ap (λ n. take (5 * a) d ++ step_numbers ss ++ drop (5 * a + n) d) (sym (length_numbers ss))

pub put-none : (d : List ℕ) (a : ℕ) → put_steps d a [] ≡ d
put-none d a = sym (paste-zero d (5 * a) [])

pub length-put : (d : List ℕ) (a : ℕ) (ss : List Step) → 5 * (a + length ss) ≤ length d → length (put_steps d a ss) ≡ length d
length-put d a ss h = length-paste d (5 * a) (step_numbers ss) (5 * length ss) (omega arith) (omega (arith, length_numbers ss))

module _ (d : List ℕ) (a b : ℕ) (ss ts : List Step) (e : b ≡ a + length ss) (h : 5 * (b + length ts) ≤ length d) where
  place_is : 5 * b ≡ 5 * a + length (step_numbers ss)
  place_is = omega (arith, length_numbers ss)

  room_is : 5 * a + length (step_numbers ss) + length (step_numbers ts) ≤ length d
  room_is = omega (arith, length_numbers ss, length_numbers ts)

  together : over (5 * a) (step_numbers ss ++ step_numbers ts) d ≡ put_steps d a (ss ++ ts)
  together = ap (λ r. over (5 * a) r d) (sym (numbers_append ss ts)) ∙ sym (put_over d a (ss ++ ts))

  -- Steps put before others that stand.
  pub put_before : put_steps (put_steps d b ts) a ss ≡ put_steps d a (ss ++ ts)
  put_before =
      put_over (put_steps d b ts) a ss
      ∙ ap (λ r. over (5 * a) (step_numbers ss) r) (put_over d b ts ∙ ap (λ n. over n (step_numbers ts) d) place_is)
      ∙ over_before d (5 * a) (step_numbers ss) (step_numbers ts) room_is
      ∙ together

  -- Steps put after others that stand.
  pub put_after : put_steps (put_steps d a ss) b ts ≡ put_steps d a (ss ++ ts)
  put_after =
      put_over (put_steps d a ss) b ts
      ∙ ap (λ r. over (5 * b) (step_numbers ts) r) (put_over d a ss)
      ∙ ap (λ n. over n (step_numbers ts) (over (5 * a) (step_numbers ss) d)) place_is
      ∙ over_after d (5 * a) (step_numbers ss) (step_numbers ts) room_is
      ∙ together

-- Walks back.

pub length_line : (F K : ℕ → ℕ) (k x : ℕ) → length (line_to F K k x) ≡ k
length_line F K zero x = refl
length_line F K (suc k) x = length-append (line_to F K k (F x)) (link_step (F x) (K x) x ∷ []) ∙ omega (arith, length_line F K k (F x))

way_last : (ways : List (List ℕ)) (k s : ℕ) → way_back ways (suc k) s ≡ made_of ways (way_back ways k s)
way_last ways zero s = refl
way_last ways (suc k) s = way_last ways k (made_of ways s)

le-or-lt : (a b : ℕ) → (a ≤ b) ⊎ (b < a)
le-or-lt a b = by_cases (ℕ_discrete (a - b) 0) (λ (e : a - b ≡ 0). inl (omega arith)) (λ (e : a - b ≡ 0 → ⊥). inr (omega arith))

-- The way's length, counted from the shape.
pub record Counting (ways : List (List ℕ)) (count s x k : ℕ) : Type 0 where
  pub below : x < count
  pub falls : k + x ≤ s
  pub is : x ≡ way_back ways k s
  pub made : (j : ℕ) → j < k → 0 < parent_at ways (way_back ways j s)

pub counting : (ways : List (List ℕ)) (count s : ℕ) → s < count → Counting ways count s s 0
counting ways count s h = record { below = h; falls = omega arith; is = refl; made = λ j l. absurd (omega arith) }

module _ {ways : List (List ℕ)} {count s x k : ℕ} (f : Falls ways count) (c : Counting ways count s x k) where
  pub counting_next : (parent_at ways x ≡ 0 → ⊥) → Counting ways count s (parent_at ways x - 1) (k + 1)
  counting_next n =
      let low = f.before x c.below in
      let below = c.below in
      let falls = c.falls in
      let some : 0 < parent_at ways x = omega arith in
      record {
        below = omega arith;
        falls = omega arith;
        is = ap (made_of ways) c.is ∙ sym (way_last ways k s) ∙ ap (λ n. way_back ways n s) (sym (add-one k));
        made = below_more (λ j. 0 < parent_at ways (way_back ways j s)) k c.made (subst (λ y. 0 < parent_at ways y) c.is some);
      }

-- The way's steps, put from the last one on.
pub record PuttingWay (before : List ℕ) (ways : List (List ℕ)) (count s k : ℕ) (steps : List ℕ) (x left : ℕ) : Type 0 where
  pub below : x < count
  pub size : length steps ≡ length before
  pub room : 5 * left ≤ length steps
  pub made : (j : ℕ) → j < left → 0 < parent_at ways (way_back ways j x)
  pub rest : put_steps steps 0 (way_to ways left x) ≡ put_steps before 0 (way_to ways k s)
  pub start : way_back ways left x ≡ way_back ways k s

module _ {before : List ℕ} {ways : List (List ℕ)} {count s k : ℕ} {steps : List ℕ} {x left : ℕ} (f : Falls ways count)
    (p : PuttingWay before ways count s k steps x left) where
  way_next_at : (a : ℕ) → left ≡ suc a → (after : List ℕ) → after ≡ put_steps steps a (one_step (maker_at ways x) (h_line_at ways x) 0 0 0)
      → PuttingWay before ways count s k after (parent_at ways x - 1) a
  way_next_at a e after put =
      let low = f.before x p.below in
      let below = p.below in
      let room = p.room in
      let some = p.made 0 (omega arith) in
      let one : List Step = one_step (maker_at ways x) (h_line_at ways x) 0 0 0 in
      let way : List Step = way_to ways a (made_of ways x) in
      let same : length after ≡ length steps = ap length put ∙ length-put steps a one (omega arith) in
      record {
        below = omega arith;
        size = same ∙ p.size;
        room = omega arith;
        made = λ j l. p.made (suc j) (omega arith);
        rest =
            ap (λ r. put_steps r 0 way) put
            ∙ put_before steps 0 a way one (omega (arith, way_to-length ways a (made_of ways x))) (omega arith)
            ∙ ap (λ n. put_steps steps 0 (way_to ways n x)) (sym e)
            ∙ p.rest;
        start = ap (λ n. way_back ways n x) (sym e) ∙ p.start;
      }

  pub way_next : 0 < left → (after : List ℕ) → after ≡ put_steps steps (left - 1) (one_step (maker_at ways x) (h_line_at ways x) 0 0 0)
      → PuttingWay before ways count s k after (parent_at ways x - 1) (left - 1)
  way_next h = way_next_at (left - 1) (omega arith)

-- The links of a line, put from the last one on.
pub record PuttingLine (before : List ℕ) (first k : ℕ) (from link : ℕ → ℕ) (x : ℕ) (steps : List ℕ) (y left : ℕ) : Type 0 where
  pub stays : StaysBelow from left y
  pub size : length steps ≡ length before
  pub room : 5 * (first + left) ≤ length steps
  pub rest : put_steps steps first (line_to from link left y) ≡ put_steps before first (line_to from link k x)

module _ {before : List ℕ} {first k : ℕ} {from link : ℕ → ℕ} {x : ℕ} {steps : List ℕ} {y left : ℕ}
    (p : PuttingLine before first k from link x steps y left) where
  line_next_at : (a : ℕ) → left ≡ suc a → (u code : ℕ) → u ≡ from y → code ≡ link y → (after : List ℕ)
      → after ≡ put_steps steps (first + a) (one_step (code / 8 + 1) (code / 2 % 4 + 1) (u % 7) (y % 7) (code % 2))
      → PuttingLine before first k from link x after u a
  line_next_at a e u code ue ce after put =
      let room = p.room in
      let one : List Step = link_step (from y) (link y) y ∷ [] in
      let line : List Step = line_to from link a (from y) in
      let put' : after ≡ put_steps steps (first + a) one = rw (ue, ce) at put in
      let same : length after ≡ length steps = ap length put' ∙ length-put steps (first + a) one (omega arith) in
      record {
        stays = λ j l.
            subst (λ n. n < 3584) (sym (ap (back from j) ue ∙ back_after from j y)) (p.stays (suc j) (omega arith));
        size = same ∙ p.size;
        room = omega arith;
        rest =
            ap (λ v. put_steps after first (line_to from link a v)) ue
            ∙ ap (λ r. put_steps r first line) put'
            ∙ put_before steps first (first + a) line one (omega (arith, length_line from link a (from y))) (omega arith)
            ∙ ap (λ n. put_steps steps first (line_to from link n y)) (sym e)
            ∙ p.rest;
      }

  pub line_next : 0 < left → (u code : ℕ) → u ≡ from y → code ≡ link y → (after : List ℕ)
      → after ≡ put_steps steps (first + (left - 1)) (one_step (code / 8 + 1) (code / 2 % 4 + 1) (u % 7) (y % 7) (code % 2))
      → PuttingLine before first k from link x after u (left - 1)
  line_next h = line_next_at (left - 1) (omega arith)

  pub line_put : left ≤ 0 → steps ≡ put_steps before first (line_to from link k x)
  line_put h =
      let z : left ≡ 0 = omega arith in
      sym (put-none steps first) ∙ ap (λ n. put_steps steps first (line_to from link n y)) (sym z) ∙ p.rest

-- Lengths of turns and lines.

-- A walk of k links back from y that has not come back to y before.
pub record Turning (from : ℕ → ℕ) (y z k : ℕ) : Type 0 where
  pub some : 0 < k
  pub is : z ≡ back from k y
  pub first : (j : ℕ) → 0 < j → j < k → back from j y ≡ y → ⊥

pub turning : {from : ℕ → ℕ} {y : ℕ} (z : ℕ) → z ≡ from y → Turning from y z 1
turning z e = record { some = omega arith; is = e; first = λ j p l. absurd (omega arith) }

module _ {from : ℕ → ℕ} {n y : ℕ} (turn : InTurn from n y) {z k : ℕ} (t : Turning from y z k) where
  turn_few : k ≤ turn.period
  turn_few = ⊎_elim (λ h. h) (λ (h : turn.period < k). absurd (t.first turn.period turn.some h turn.closes)) (le-or-lt k turn.period)

  pub turned : z ≡ y → TurnLength from n y k
  turned e = let few = turn_few in let all = turn.few in record { some = t.some; few = omega arith; closes = sym t.is ∙ e; first = t.first }

-- The nodes of a turn are within the grid.
pub turn_stays : {from : ℕ → ℕ} {n y : ℕ} → InTurn from n y → n ≤ 3584 → (k : ℕ) → StaysBelow from k y
turn_stays turn few k j l = let h = turn.nodes j in omega arith

-- A walk of k links back from x that has not met generation 0 before.
pub record Lining (generations : List (List ℕ)) (from : ℕ → ℕ) (x y k : ℕ) : Type 0 where
  pub is : y ≡ back from k x
  pub high : (j : ℕ) → j < k → 0 < at generations (back from j x)

module _ {generations : List (List ℕ)} {from : ℕ → ℕ} {n x : ℕ} (line : InLine generations from n x) where
  -- Generation 0 is met after at most the line's steps.
  line_few : {k : ℕ} → ((j : ℕ) → j < k → 0 < at generations (back from j x)) → k ≤ line.steps
  line_few {k} high =
      let ends = line.ends in
      ⊎_elim (λ h. h) (λ (h : line.steps < k). let p = high line.steps h in absurd (omega arith)) (le-or-lt k line.steps)

  module _ {k : ℕ} (size : LineLength generations from n x k) where
    pub line_nodes : (j : ℕ) → j ≤ k → back from j x < n
    line_nodes j l = let few = line_few size.high in line.nodes j (omega arith)

    pub line_stays : n ≤ 3584 → StaysBelow from k x
    line_stays few j l = let h = line_nodes j l in omega arith

-- The start of a line.
pub record Starting (from : ℕ → ℕ) (k x y left : ℕ) : Type 0 where
  pub stays : StaysBelow from left y
  pub rest : back from left y ≡ back from k x

pub starting : {from : ℕ → ℕ} {k x : ℕ} → StaysBelow from k x → Starting from k x x k
starting h = record { stays = h; rest = refl }

module _ {from : ℕ → ℕ} {k x y left : ℕ} (s : Starting from k x y left) where
  pub start_node : y < 3584
  start_node = s.stays 0 (omega arith)

  pub start_next : (a : ℕ) → left ≡ suc a → (u : ℕ) → u ≡ from y → Starting from k x u a
  start_next a e u ue =
      record {
        stays = λ j l. subst (λ n. n < 3584) (sym (ap (back from j) ue ∙ back_after from j y)) (s.stays (suc j) (omega arith));
        rest = ap (back from a) ue ∙ back_after from a y ∙ ap (λ n. back from n y) (sym e) ∙ s.rest;
      }

  pub started : left ≤ 0 → y ≡ back from k x
  started h = let z : left ≡ 0 = omega arith in ap (λ n. back from n y) (sym z) ∙ s.rest

-- A way and a line, put one after the other.

module _
    (ways : List (List ℕ))
    (raises : List (List ℕ))
    (before : List ℕ)
    (reaching links s x : ℕ)
    (room : 5 * (reaching + links) ≤ length before)
    {middle after : List ℕ}
    (way-is : middle ≡ put_steps before 0 (way_to ways reaching s))
    (line_is : after ≡ put_steps middle reaching (line_to (from_of raises) (link_of raises) links x))
  where
    both_put : after ≡ put_steps before 0 (way_to ways reaching s ++ line_to (from_of raises) (link_of raises) links x)
    both_put =
        let way : List Step = way_to ways reaching s in
        let line : List Step = line_to (from_of raises) (link_of raises) links x in
        line_is
        ∙ ap (λ r. put_steps r reaching line) way-is
        ∙ put_after before 0 reaching way line (omega (arith, way_to-length ways reaching s))
        (omega (arith, length_line (from_of raises) (link_of raises) links x))

    pub wrote_endless : {count row : ℕ} → WayLength ways s reaching → TurnLength (from_of raises) (7 * count) x links → row ≡ maker_at ways (way_back ways reaching s)
        → s ≡ x / 7 → WroteEndless ways raises count x before row reaching links after
    wrote_endless way turn first e =
        record {
          way = subst (λ y. WayLength ways y reaching) e way;
          turn = turn;
          first = first ∙ ap (λ y. maker_at ways (way_back ways reaching y)) e;
          steps = both_put ∙ ap (λ y. put_steps before 0 (way_to ways reaching y ++ line_to (from_of raises) (link_of raises) links x)) e;
        }

    pub wrote_settled : {generations : List (List ℕ)} {count row start : ℕ} → InLine generations (from_of raises) (7 * count) x → LineLength generations (from_of raises) (7 * count) x links
        → start ≡ back (from_of raises) links x → s ≡ start / 7 → WayLength ways s reaching → row ≡ maker_at ways (way_back ways reaching s)
        → WroteSettled ways generations raises count x before row (reaching + links) after
    wrote_settled inline line start_is s-is way first =
        let e : s ≡ back (from_of raises) links x / 7 = s-is ∙ ap (λ y. y / 7) start_is in
        record {
          reaching = reaching;
          links = links;
          line = line;
          start_below = line_nodes inline line links (omega arith);
          way = subst (λ y. WayLength ways y reaching) e way;
          first = first ∙ ap (λ y. maker_at ways (way_back ways reaching y)) e;
          counted = refl;
          steps = both_put ∙ ap (λ y. put_steps before 0 (way_to ways reaching y ++ line_to (from_of raises) (link_of raises) links x)) e;
        }
