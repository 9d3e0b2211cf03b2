-- A list filled from the front, and numbers of any width as bytes. Assumes nothing.
use mathlib.Core.Path.{◌≡◌, refl, sym, subst, ap, ap₂, ◌∙◌}
use mathlib.Core.List.{List, [], ◌∷◌, ◌++◌, append_assoc, append-nil}
use Prim.Native.Nat.{ℕ, zero, suc, ◌+◌, ◌-◌, ◌*◌, ◌/◌, ◌%◌, ◌<◌, ◌≤◌}
use native.Mathlib.Nat.{mul-suc, mul-zero, mul-add, mul-le-mul_left, div-div-eq-div-mul}
use native.Mathlib.Numerals.{add-one}
use native.Mathlib.Omega.{arith}
use borrow.Rule.Slice.PartMut.{put_mid}
use lib.ListN.{length, get_or, take, drop, length-append, length-drop, take-append-drop, drop_of_length-le}
use lib.Seq.{sets, sets-eq, length-sets, take-suc, drop-cons, drop-drop, drop-append-add, get_or-drop, take-add, take_at, length-take-le}
use Rattle.std.specs.Int.{w16, w32, to_le_bytes}
use Rattle.followup.specs.Bytes.{number, numbers_from, bytes_of, all_bytes}

-- ---- a list filled from the front

-- What was put at the front, and the rest as before.
pub record Filled (front before after : List ℕ) : Type 0 where
  pub size : length after ≡ length before
  pub same : after ≡ front ++ drop (length front) before

pub filled_none : (before : List ℕ) → Filled [] before before
filled_none before = record { size = refl; same = refl }

-- More stored right after the front.
pub filled_more :
    {front before after : List ℕ} (more : List ℕ) (at : ℕ) → length front ≡ at → at + length more ≤ length before → Filled front before after
    → Filled (front ++ more) before (sets after at more)
filled_more {front} {before} {after} more at e room f =
    let rest : drop (at + length more) after ≡ drop (length (front ++ more)) before =
    ap (drop (at + length more)) f.same ∙ ap (λ k. drop (k + length more) (front ++ drop (length front) before)) (sym e)
    ∙ drop-append-add front (drop (length front) before) (length more) ∙ drop-drop (length more) (length front) before
    ∙ ap (λ k. drop k before) (sym (length-append front more)) in
    let first : take at after ≡ front = ap (take at) f.same ∙ take_at front (drop (length front) before) at e in
    record {
      size = length-sets after at more ∙ f.size;
      same =
          sets-eq more after at (rw f.size room) ∙ ap (λ xs. xs ++ more ++ drop (at + length more) after) first
          ∙ ap (λ xs. front ++ more ++ xs) rest;
    }

-- ---- numbers from bytes

-- One byte more.
pub number_more :
    (w : ℕ) (bytes : List ℕ) (at next : ℕ) → next ≡ at + 1 → at < length bytes
    → number (take (suc w) (drop at bytes)) ≡ get_or bytes at 0 + 256 * number (take w (drop next bytes))
number_more w bytes at next e h =
    ap (λ l. number (take (suc w) l)) (drop-cons bytes at 0 h)
    ∙ ap (λ k. get_or bytes at 0 + 256 * number (take w (drop k bytes))) (sym (e ∙ add-one at))

pub length-numbers_from : (w n : ℕ) (bytes : List ℕ) → length (numbers_from w n bytes) ≡ n
length-numbers_from w zero bytes = refl
length-numbers_from w (suc n) bytes = ap suc (length-numbers_from w n (drop w bytes))

-- One number more.
pub numbers_from_more : (w n : ℕ) (bytes : List ℕ) → numbers_from w (suc n) bytes ≡ numbers_from w n bytes ++ (number (take w (drop (w * n) bytes)) ∷ [])
numbers_from_more w zero bytes = ap (λ k. number (take w (drop k bytes)) ∷ []) (sym (mul-zero w))
numbers_from_more w (suc n) bytes =
    let e : w + w * n ≡ w * suc n = omega (arith, mul-suc w n) in
    ap (λ ns. number (take w bytes) ∷ ns)
    (numbers_from_more w n (drop w bytes)
    ∙ ap (λ l. numbers_from w n (drop w bytes) ++ (number (take w l) ∷ [])) (drop-drop (w * n) w bytes ∙ ap (λ k. drop k bytes) e))

-- The first n numbers of the bytes stand at the front.
abbrev pub Decoded : ℕ → List ℕ → List ℕ → List ℕ → ℕ → Type 0
Decoded w bytes before after n = Filled (numbers_from w n bytes) before after

pub decoded-more :
    (w : ℕ) (bytes before after : List ℕ) (n v : ℕ) → n < length before → v ≡ number (take w (drop (w * n) bytes)) → Decoded w bytes before after n
    → Decoded w bytes before (sets after n (v ∷ [])) (n + 1)
decoded-more w bytes before after n v room e d =
    rw (add-one, numbers_from_more w n bytes, ← e) (filled_more (v ∷ []) n (length-numbers_from w n bytes) (omega arith) d)

pub decoded_all : (w : ℕ) (bytes before after : List ℕ) (n : ℕ) → Decoded w bytes before after n → after ≡ numbers_from w n bytes ++ drop n before
decoded_all w bytes before after n d = d.same ∙ ap (λ k. numbers_from w n bytes ++ drop k before) (length-numbers_from w n bytes)

-- All of a list that was filled.
pub decoded_whole : (w : ℕ) (bytes before after : List ℕ) (n i : ℕ) → i ≡ n → length before ≤ n → Decoded w bytes before after i → after ≡ numbers_from w n bytes
decoded_whole w bytes before after n i e h d =
    decoded_all w bytes before after i d ∙ ap (λ (l : List ℕ). numbers_from w i bytes ++ l) (drop_of_length-le before {i = i} (omega arith))
    ∙ append-nil (numbers_from w i bytes) ∙ ap (λ (k : ℕ). numbers_from w k bytes) e

-- The first n of a list that begins with the first n numbers of the bytes.
pub numbers_taken : (w n : ℕ) (bytes after rest : List ℕ) → after ≡ numbers_from w n bytes ++ rest → take n after ≡ numbers_from w n bytes
numbers_taken w n bytes after rest e = ap (take n) e ∙ take_at (numbers_from w n bytes) rest n (length-numbers_from w n bytes)

-- ---- bytes from numbers

pub length-bytes_of : (w n : ℕ) → length (bytes_of w n) ≡ w
length-bytes_of zero n = refl
length-bytes_of (suc w) n = ap suc (length-bytes_of w (n / 256))

pub length-all_bytes : (w : ℕ) (ns : List ℕ) → length (all_bytes w ns) ≡ w * length ns
length-all_bytes w [] = sym (mul-zero w)
length-all_bytes w (n ∷ ns) =
    length-append (bytes_of w n) (all_bytes w ns) ∙ omega (arith, length-bytes_of w n, length-all_bytes w ns, mul-suc w (length ns))

pub all_bytes-append : (w : ℕ) (ns ms : List ℕ) → all_bytes w (ns ++ ms) ≡ all_bytes w ns ++ all_bytes w ms
all_bytes-append w [] ms = refl
all_bytes-append w (n ∷ ns) ms = ap (λ l. bytes_of w n ++ l) (all_bytes-append w ns ms) ∙ sym (append_assoc (bytes_of w n) (all_bytes w ns) (all_bytes w ms))

-- Putting the first n numbers into bytes: the bytes of i of them stand at the front.
pub record Encoding (w : ℕ) (numbers before : List ℕ) (n : ℕ) (after : List ℕ) (i : ℕ) : Type 0 where
  pub upto : i ≤ n
  pub lent : n ≤ length numbers
  pub room : w * n ≤ length before
  pub filled : Filled (all_bytes w (take i numbers)) before after

length_encoded : (w i : ℕ) (numbers : List ℕ) → i ≤ length numbers → length (all_bytes w (take i numbers)) ≡ w * i
length_encoded w i numbers h = length-all_bytes w (take i numbers) ∙ ap (λ k. w * k) (length-take-le i numbers h)

module _ {w : ℕ} {numbers before : List ℕ} {n : ℕ} where
  pub encoding_begun : n ≤ length numbers → w * n ≤ length before → Encoding w numbers before n before 0
  encoding_begun lent room = record { upto = omega arith; lent = lent; room = room; filled = filled_none before }

  -- One number more.
  encoding-more :
      {after : List ℕ} {i : ℕ} {bytes : List ℕ} → bytes ≡ bytes_of w (get_or numbers i 0) → i < n → Encoding w numbers before n after i
      → Encoding w numbers before n (sets after (w * i) bytes) (i + 1)
  encoding-more {after} {i} {bytes} is h e =
      let v = get_or numbers i 0 in
      let front = take i numbers in
      let below : w * suc i ≤ w * n = mul-le-mul_left w (omega arith) in
      let one : all_bytes w (take (i + 1) numbers) ≡ all_bytes w front ++ bytes_of w v =
      rw (add-one i, take-suc numbers i 0 (omega arith), all_bytes-append w front (v ∷ []), append-nil (bytes_of w v)) in
      let fits : w * i + length (bytes_of w v) ≤ length before = omega (arith, length-bytes_of w v, mul-suc w i) in
      let filled = filled_more (bytes_of w v) (w * i) (length_encoded w i numbers (omega arith)) fits e.filled in
      record { upto = omega arith; lent = e.lent; room = e.room; filled = rw (one, is) filled }

  -- One number more, in a part of the bytes.
  pub encoding_part : {after : List ℕ} {i : ℕ} {part : List ℕ} (k : ℕ) → k ≡ w → part ≡ bytes_of w (get_or numbers i 0) → i < n → Encoding w numbers before n after i
      → Encoding w numbers before n (put_mid (w * i) k after part) (i + 1)
  encoding_part {after} {i} {part} k e is h enc =
      let size : length part ≡ w = ap length is ∙ length-bytes_of w (get_or numbers i 0) in
      let below : w * suc i ≤ w * n = mul-le-mul_left w (omega arith) in
      let room : w * i + length part ≤ length after = omega (arith, size, mul-suc w i, below, enc.room, enc.filled.size) in
      let end : w * i + length part ≡ w * i + k = omega (arith, size, e) in
      let same : sets after (w * i) part ≡ put_mid (w * i) k after part =
      sets-eq part after (w * i) room ∙ append_assoc (take (w * i) after) part (drop (w * i + length part) after)
      ∙ ap (λ (r : List ℕ). take (w * i) after ++ (part ++ r)) (ap (λ (j : ℕ). drop j after) end ∙ sym (drop-drop k (w * i) after)) in
      subst (λ (l : List ℕ). Encoding w numbers before n l (i + 1)) same (encoding-more is h enc)

  -- All of them.
  pub encoding_done : {after : List ℕ} {i : ℕ} → n ≤ i → Encoding w numbers before n after i → after ≡ all_bytes w (take n numbers) ++ drop (w * n) before
  encoding_done {after} {i} h e =
      let all : i ≡ n = omega arith in
      e.filled.same ∙ rw (all, length_encoded w n numbers e.lent)

-- The bytes of a number that has four, each by one division.
four_bytes : (v : ℕ) → v % 256 ∷ v / 256 % 256 ∷ v / 65536 % 256 ∷ v / 16777216 % 256 ∷ [] ≡ bytes_of 4 v
four_bytes v =
    let third : v / 65536 ≡ v / 256 / 256 = sym (div-div-eq-div-mul v 256 256) in
    rw (third, sym (div-div-eq-div-mul v 65536 256), third)

-- The standard library's bytes of a number.
pub le_two : (v : ℕ) → to_le_bytes w16 v ≡ bytes_of 2 v
le_two v = refl

pub le_four : (v : ℕ) → to_le_bytes w32 v ≡ bytes_of 4 v
le_four v = four_bytes v

-- ---- bytes that hold numbers

abbrev pub Bytes : List ℕ → Type 0
Bytes xs = (i : ℕ) → get_or xs i 0 < 256

-- The bytes of the number that bytes are.
number_back : (w : ℕ) (xs : List ℕ) → w ≤ length xs → Bytes xs → bytes_of w (number (take w xs)) ≡ take w xs
number_back zero xs h b = refl
number_back (suc w) [] h b = absurd (omega arith)
number_back (suc w) (x ∷ xs) h b =
    let v : ℕ = number (take w xs) in
    let low : (x + 256 * v) % 256 ≡ x = omega (arith, b 0) in
    let high : (x + 256 * v) / 256 ≡ v = omega (arith, b 0) in
    ap₂ (λ (p q : ℕ). p ∷ bytes_of w q) low high ∙ ap (λ (r : List ℕ). x ∷ r) (number_back w xs (omega arith) (λ i. b (suc i)))

-- The bytes of the numbers that bytes hold.
bytes_back : (w n : ℕ) (xs : List ℕ) → w * n ≤ length xs → Bytes xs → all_bytes w (numbers_from w n xs) ≡ take (w * n) xs
bytes_back w zero xs h b = ap (λ (k : ℕ). take k xs) (sym (mul-zero w))
bytes_back w (suc n) xs h b =
    let size : w + w * n ≡ w * suc n = omega (arith, mul-suc w n) in
    ap₂ (λ (x y : List ℕ). x ++ y) (number_back w xs (omega arith) b)
    (bytes_back w n (drop w xs) (omega (arith, length-drop w xs)) (λ i. rw get_or-drop (b (w + i))))
    ∙ sym (take-add w (w * n) xs) ∙ ap (λ (k : ℕ). take k xs) size

-- The numbers from place k on.
pub drop_numbers : (w k m : ℕ) (xs : List ℕ) → drop k (numbers_from w (k + m) xs) ≡ numbers_from w m (drop (w * k) xs)
drop_numbers w zero m xs =
    ap (λ (n : ℕ). numbers_from w n xs) (let e : 0 + m ≡ m = omega arith in e) ∙ ap (λ (n : ℕ). numbers_from w m (drop n xs)) (sym (mul-zero w))
drop_numbers w (suc k) m xs =
    let e : suc k + m ≡ suc (k + m) = omega arith in
    let d : w + w * k ≡ w * suc k = omega (arith, mul-suc w k) in
    ap (λ (n : ℕ). drop (suc k) (numbers_from w n xs)) e
    ∙ drop_numbers w k m (drop w xs)
    ∙ ap (numbers_from w m) (drop-drop (w * k) w xs ∙ ap (λ (n : ℕ). drop n xs) d)

-- New numbers at the front of lent bytes.
pub new_front : (w n : ℕ) (new before : List ℕ) → length new ≤ n → w * n ≤ length before → Bytes before
    → all_bytes w (new ++ drop (length new) (numbers_from w n before)) ++ drop (w * length (new ++ drop (length new) (numbers_from w n before))) before
    ≡ all_bytes w new ++ drop (w * length new) before
new_front w n new before h room b =
    let k : ℕ = length new in
    let m : ℕ = n - k in
    let ys : List ℕ = drop (w * k) before in
    let split : n ≡ k + m = omega arith in
    let parts : w * (k + m) ≡ w * k + w * m = mul-add w k m in
    let all : w * n ≡ w * k + w * m = ap (λ (j : ℕ). w * j) split ∙ parts in
    let later : drop k (numbers_from w n before) ≡ numbers_from w m ys = ap (λ (j : ℕ). drop k (numbers_from w j before)) split ∙ drop_numbers w k m before in
    let size : length (new ++ numbers_from w m ys) ≡ k + m = length-append new (numbers_from w m ys) ∙ ap (λ (j : ℕ). k + j) (length-numbers_from w m ys) in
    let long : w * m ≤ length ys = omega (arith, length-drop (w * k) before, all) in
    ap (λ (ns : List ℕ). all_bytes w (new ++ ns) ++ drop (w * length (new ++ ns)) before) later
    ∙ ap₂ (λ (x y : List ℕ). x ++ y)
    (all_bytes-append w new (numbers_from w m ys) ∙ ap (λ (r : List ℕ). all_bytes w new ++ r) (bytes_back w m ys long (λ i. rw get_or-drop (b (w * k + i)))))
    (ap (λ (j : ℕ). drop (w * j) before) size ∙ ap (λ (j : ℕ). drop j before) parts ∙ sym (drop-drop (w * m) (w * k) before))
    ∙ append_assoc (all_bytes w new) (take (w * m) ys) (drop (w * m) ys)
    ∙ ap (λ (r : List ℕ). all_bytes w new ++ r) (take-append-drop (w * m) ys)
