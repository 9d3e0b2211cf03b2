-- Laws of the chains, whatever has a bucket; and what is multiplied for a bucket. Assumes nothing.
use mathlib.Core.Path.{◌≡◌, refl, sym, ◌∙◌, ap, subst}
use mathlib.Core.List.{List}
use Prim.Native.Nat.{ℕ, zero, suc, ◌+◌, ◌*◌, ◌-◌, ◌≤◌, ◌<◌}
use native.Mathlib.Decide.{ℕ_discrete, dec_lt}
use native.Mathlib.Nat.{mul-le-mul_right}
use native.Mathlib.Omega.{arith}
use lib.ListN.{get_or, set, length-set}
use lib.Seq.{get_or-set_same, get_or-set_other}
use Rattle.chains.specs.Inner.Chains.{choose, last_in, Chains, FoundAt}

-- What is multiplied by a multiplier fits 64 bits.
pub product_small : (a b : ℕ) → a < 8589934592 → b < 2147483648 → a * b < 18446744073709551616
product_small a b h l =
    let m : a * b ≤ 8589934591 * b = mul-le-mul_right b (omega arith) in
    omega arith

module _ (bucket : ℕ → ℕ) (b : ℕ) where
  -- Where the last place is, and that none is after it.
  pub record LastAt (n i : ℕ) : Type 0 where
    pub below : i < n
    pub falls : bucket i ≡ b
    pub none_after : (j : ℕ) → i < j → j < n → bucket j ≡ b → ⊥

  pub last_some : (n at : ℕ) → last_in bucket b n ≡ at → 0 < at → LastAt n (at - 1)
  last_some zero at e h = absurd (omega arith)
  last_some (suc n) at e h = go (ℕ_discrete (bucket n) b) (λ k. last_some n at k h) e
    where
      go : (p : Dec (bucket n ≡ b)) → (last_in bucket b n ≡ at → LastAt n (at - 1)) → choose p (suc n) (last_in bucket b n) ≡ at → LastAt (suc n) (at - 1)
      go (yes p) ih k =
          let same : n ≡ at - 1 = omega arith in
          record { below = omega arith; falls = ap bucket (sym same) ∙ p; none_after = λ j l m. absurd (omega arith) }
      go (no q) ih k =
          let l = ih k in
          record { below = omega (arith, l.below); falls = l.falls; none_after = λ j u v e. none j u v e (ℕ_discrete j n) l.none_after }
        where
          none : (j : ℕ) → at - 1 < j → j < suc n → bucket j ≡ b → Dec (j ≡ n) → ((j : ℕ) → at - 1 < j → j < n → bucket j ≡ b → ⊥) → ⊥
          none j u v e (yes p) f = q (ap bucket (sym p) ∙ e)
          none j u v e (no p) f = f j u (omega arith) e

  pub last_none : (n : ℕ) → last_in bucket b n ≡ 0 → (j : ℕ) → j < n → bucket j ≡ b → ⊥
  last_none zero e j h = absurd (omega arith)
  last_none (suc n) e j h = go (ℕ_discrete (bucket n) b) (λ k l. last_none n k j l) e (ℕ_discrete j n)
    where
      go : (p : Dec (bucket n ≡ b)) → (last_in bucket b n ≡ 0 → j < n → bucket j ≡ b → ⊥) → choose p (suc n) (last_in bucket b n) ≡ 0 → Dec (j ≡ n) → bucket j ≡ b → ⊥
      go (yes p) ih k q f = omega arith
      go (no p) ih k (yes q) f = p (ap bucket (sym q) ∙ f)
      go (no p) ih k (no q) f = ih k (omega arith) f

  pub last_le : (n : ℕ) → last_in bucket b n ≤ n
  last_le zero = omega arith
  last_le (suc n) = go (ℕ_discrete (bucket n) b) (last_le n)
    where
      go : (p : Dec (bucket n ≡ b)) → last_in bucket b n ≤ n → choose p (suc n) (last_in bucket b n) ≤ suc n
      go (yes p) ih = omega arith
      go (no p) ih = omega arith

  pub last_here : (n : ℕ) → bucket n ≡ b → last_in bucket b (suc n) ≡ suc n
  last_here n e = go (ℕ_discrete (bucket n) b)
    where
      go : (p : Dec (bucket n ≡ b)) → choose p (suc n) (last_in bucket b n) ≡ suc n
      go (yes p) = refl
      go (no p) = absurd (p e)

  pub last_past : (n : ℕ) → (bucket n ≡ b → ⊥) → last_in bucket b (suc n) ≡ last_in bucket b n
  last_past n e = go (ℕ_discrete (bucket n) b)
    where
      go : (p : Dec (bucket n ≡ b)) → choose p (suc n) (last_in bucket b n) ≡ last_in bucket b n
      go (yes p) = absurd (e p)
      go (no p) = refl

-- A search among places, each in its bucket, for one that is what is looked for. All such are in bucket b.
module _ (bucket : ℕ → ℕ) (b : ℕ) (Is : ℕ → Type 0) where
  -- The places from `upto` on are others, and `at` is the next to look at.
  pub record Searching (count at : ℕ) : Type 0 where
    pub upto : ℕ
    pub within : upto ≤ count
    pub is : last_in bucket b upto ≡ at
    pub passed : (j : ℕ) → upto ≤ j → j < count → Is j → ⊥

  module _ {buckets places : ℕ} {heads next : List ℕ} {count : ℕ} (c : Chains buckets places bucket heads next count) where
    pub search_begin : (at : ℕ) → b < buckets → at ≡ get_or heads b 0 → Searching count at
    search_begin at h a =
        record { upto = count; within = omega arith; is = sym (c.heads_are b h) ∙ sym a; passed = λ j l m. absurd (omega arith) }

    module _ (falls : (j : ℕ) → Is j → bucket j ≡ b) (at : ℕ) (s : Searching count at) where
      pub search_place : 0 < at → at - 1 < count
      search_place h = omega (arith, (last_some bucket b s.upto at s.is h).below, s.within)

      pub search_next : 0 < at → (Is (at - 1) → ⊥) → (after : ℕ) → after ≡ get_or next (at - 1) 0 → Searching count after
      search_next h other after e =
          let l = last_some bucket b s.upto at s.is h in
          record {
            upto = at - 1;
            within = omega (arith, l.below, s.within);
            is = ap (λ (k : ℕ). last_in bucket k (at - 1)) (sym l.falls) ∙ sym (c.next_are (at - 1) (search_place h)) ∙ sym e;
            passed = λ j u v q. not_there l j u v q (ℕ_discrete j (at - 1));
          }
        where
          not_there : LastAt bucket b s.upto (at - 1) → (j : ℕ) → at - 1 ≤ j → j < count → Is j → Dec (j ≡ at - 1) → ⊥
          not_there l j u v q (yes p) = other (subst Is p q)
          not_there l j u v q (no p) = go (dec_lt j s.upto)
            where
              go : Dec (j < s.upto) → ⊥
              go (yes m) = l.none_after j (omega arith) m (falls j q)
              go (no m) = s.passed j (omega arith) v q

      pub search_less : 0 < at → (after : ℕ) → after ≡ get_or next (at - 1) 0 → after < at
      search_less h after e = omega (arith, e, c.next_are (at - 1) (search_place h), last_le bucket (bucket (at - 1)) (at - 1))

      pub found_here : 0 < at → Is (at - 1) → FoundAt Is count (at - 1)
      found_here h i =
          let l = search_place h in
          record { within = omega arith; there = λ m. i; nowhere = λ q. absurd (omega arith) }

      pub found_nowhere : at ≡ 0 → FoundAt Is count count
      found_nowhere e = record { within = omega arith; there = λ l. absurd (omega arith); nowhere = λ q j h i. go j h i (dec_lt j s.upto) }
        where
          go : (j : ℕ) → j < count → Is j → Dec (j < s.upto) → ⊥
          go j h i (yes m) = last_none bucket b s.upto (s.is ∙ e) j m (falls j i)
          go j h i (no m) = s.passed j (omega arith) h i

-- One place more.
pub chains_push : {buckets places : ℕ} (bucket : ℕ → ℕ) (heads next : List ℕ) (count b : ℕ) → Chains buckets places bucket heads next count → count < places
    → b ≡ bucket count → b < buckets → Chains buckets places bucket (set heads b (count + 1)) (set next count (get_or heads b 0)) (count + 1)
chains_push {buckets} bucket heads next count b c small e h =
    record {
      small = omega arith;
      heads_room = length-set heads b (count + 1) ∙ c.heads_room;
      next_room = length-set next count (get_or heads b 0) ∙ c.next_room;
      heads_are = λ k l. at_head k l (ℕ_discrete k b);
      next_are = λ i l. at_next i l (ℕ_discrete i count);
    }
  where
    more : suc count ≡ count + 1
    more = omega arith

    at_head : (k : ℕ) → k < buckets → Dec (k ≡ b) → get_or (set heads b (count + 1)) k 0 ≡ last_in bucket k (count + 1)
    at_head k l (yes p) =
        ap (λ (j : ℕ). get_or (set heads b (count + 1)) j 0) p ∙ get_or-set_same heads b (count + 1) 0 (omega (arith, c.heads_room)) ∙ sym more
        ∙ sym (last_here bucket k count (sym e ∙ sym p)) ∙ ap (last_in bucket k) more
    at_head k l (no p) =
        get_or-set_other heads b k (count + 1) 0 p ∙ c.heads_are k l ∙ sym (last_past bucket k count (λ q. p (sym q ∙ sym e)))
        ∙ ap (last_in bucket k) more

    at_next : (i : ℕ) → i < count + 1 → Dec (i ≡ count) → get_or (set next count (get_or heads b 0)) i 0 ≡ last_in bucket (bucket i) i
    at_next i l (yes p) =
        ap (λ (j : ℕ). get_or (set next count (get_or heads b 0)) j 0) p ∙ get_or-set_same next count (get_or heads b 0) 0 (omega (arith, c.next_room))
        ∙ c.heads_are b h ∙ ap (λ (k : ℕ). last_in bucket k count) e ∙ ap (λ (j : ℕ). last_in bucket (bucket j) j) (sym p)
    at_next i l (no p) = get_or-set_other next count i (get_or heads b 0) 0 p ∙ c.next_are i (omega arith)

-- Buckets that are alike below a number give the same last places, so a row written past the others leaves the chains as they are.
pub last_alike : (f g : ℕ → ℕ) (b n : ℕ) → ((j : ℕ) → j < n → f j ≡ g j) → last_in f b n ≡ last_in g b n
last_alike f g b zero h = refl
last_alike f g b (suc n) h = go (ℕ_discrete (f n) b) (ℕ_discrete (g n) b) (last_alike f g b n (λ j l. h j (omega arith)))
  where
    same : f n ≡ g n
    same = h n (omega arith)

    go : (p : Dec (f n ≡ b)) (q : Dec (g n ≡ b)) → last_in f b n ≡ last_in g b n → choose p (suc n) (last_in f b n) ≡ choose q (suc n) (last_in g b n)
    go (yes p) (yes q) ih = refl
    go (yes p) (no q) ih = absurd (q (sym same ∙ p))
    go (no p) (yes q) ih = absurd (p (same ∙ q))
    go (no p) (no q) ih = ih

pub chains_alike : {buckets places : ℕ} (f g : ℕ → ℕ) (heads next : List ℕ) (count : ℕ) → ((j : ℕ) → j < count → f j ≡ g j)
    → Chains buckets places f heads next count → Chains buckets places g heads next count
chains_alike f g heads next count h c =
    record {
      small = c.small;
      heads_room = c.heads_room;
      next_room = c.next_room;
      heads_are = λ b l. c.heads_are b l ∙ last_alike f g b count h;
      next_are = λ i l. c.next_are i l ∙ ap (λ (b : ℕ). last_in f b i) (h i l) ∙ last_alike f g (g i) i (λ j m. h j (omega arith));
    }
