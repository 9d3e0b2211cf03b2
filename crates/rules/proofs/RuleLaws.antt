-- A rule of the table, as its bytes are read: marks, first places, H lines. Assumes nothing.
use mathlib.Core.Path.{◌≡◌, refl, sym, ◌∙◌, ap, subst}
use mathlib.Core.Logic.{◌⊎◌, inl, inr}
use mathlib.Core.List.{List}
use mathlib.Core.Option.{some}
use Prim.Native.Nat.{ℕ, zero, suc, ◌+◌, ◌-◌, ◌*◌, ◌≤◌, ◌<◌}
use native.Mathlib.Omega.{arith}
use lib.ListN.{length, get_or, take, drop, get_elem?, length-take, length-drop}
use lib.Seq.{get_or-take, get_or-drop, drop-drop}
use Rattle.patterns.proofs.ListLaws.{in_get_or}
use Rattle.chase.specs.Rules.{Head, nth}
use Rattle.chase.proofs.ListLaws.{all_in}
use Rattle.chase.proofs.StepLaws.{nth_in}
use Rattle.chase.proofs.CodedLaws.{body_width}
use Rattle.rules.specs.Table.{MarksFit, HeadFits, BytesFit, TableFits, heads_in, rule_in, row_bytes}
use Rattle.rules.proofs.TableLaws.{row_size}
use Rattle.rules.proofs.Sources.{first_some, body_place, place_within}
use Rattle.rules.proofs.FirstPlaces.{first_field}

-- A RULE'S BYTES.
pub rule_kind : (bytes : List ℕ) → get_or bytes 0 0 ≡ (rule_in bytes).kind
unfolding rule_in
rule_kind bytes = refl

-- The marks of a rule's body, as its bytes give them.
abbrev pub body_marks : List ℕ → List ℕ
body_marks bytes = (rule_in bytes).marks

-- What is known of the bytes of a rule of a table.
pub record RowFits (bytes : List ℕ) : Type 0 where
  pub size : length bytes ≡ 64
  pub fits : BytesFit bytes

pub row_fits : (table : List ℕ) (count r : ℕ) → TableFits table count → r < count → RowFits (row_bytes table r)
row_fits table count r f h =
    let few = f.few in
    record { size = row_size table r f.size (omega arith); fits = f.each r h }

-- Marks that bytes give: a width and as many bytes.
part_width : (w : ℕ) (l : List ℕ) → (w ≤ 6) ⊎ (6 < length l) → 6 ≤ length l → length (take w l) ≤ 6 → w ≡ length (take w l)
part_width w l (inl b) h e = omega (arith, length-take w l)
part_width w l (inr b) h e = omega (arith, length-take w l)

part_at : (w n : ℕ) (l : List ℕ) (i : ℕ) → i < length (take w (drop n l)) → get_or l (n + i) 0 ≡ get_or (take w (drop n l)) i 0
part_at w n l i h =
    sym (get_or-take w (drop n l) i 0 (omega (arith, length-take w (drop n l))) ∙ get_or-drop n l i 0)

pub mark_range : (marks : List ℕ) → MarksFit marks → (i : ℕ) → i < length marks → (1 ≤ get_or marks i 0) × (get_or marks i 0 ≤ 12)
mark_range marks f i h = all_in (λ m. (1 ≤ m) × (m ≤ 12)) (get_or marks i 0) marks f.each (in_get_or marks i 0 h)

-- The B line's width, a mark of it, and the first place of that mark, as they are read.
pub record Width (marks : List ℕ) (n : ℕ) : Type 0 where
  pub is : n ≡ length marks
  pub some : 1 ≤ n
  pub few : n ≤ 6

pub record Mark (marks : List ℕ) (i m : ℕ) : Type 0 where
  pub is : m ≡ get_or marks i 0
  pub some : 1 ≤ m
  pub few : m ≤ 12

width_of : {marks : List ℕ} {w n : ℕ} → MarksFit marks → w ≡ length marks → n ≡ w → Width marks n
width_of f w e = record { is = e ∙ w; some = omega (arith, f.some); few = omega (arith, f.few) }

mark_of : {marks : List ℕ} {i b m : ℕ} → MarksFit marks → i < length marks → b ≡ get_or marks i 0 → m ≡ b → Mark marks i m
mark_of {marks} {i} f h w e =
    let r = mark_range marks f i h in
    record { is = e ∙ w; some = omega arith; few = omega arith }

module _ (bytes : List ℕ) (size : length bytes ≡ 64) (f : BytesFit bytes) where
  pub body-width : get_or bytes 1 0 ≡ body_width (rule_in bytes)
  unfolding rule_in
  body-width =
      let l = length-drop 2 bytes in
      part_width (get_or bytes 1 0) (drop 2 bytes) (inr (omega arith)) (omega arith) f.rule.marks.few

  pub body_mark : (i : ℕ) → i < body_width (rule_in bytes) → get_or bytes (2 + i) 0 ≡ get_or (body_marks bytes) i 0
  unfolding rule_in
  body_mark i h = part_at (get_or bytes 1 0) 2 bytes i h

module _ {bytes : List ℕ} (row : RowFits bytes) where
  pub width_read : (n : ℕ) → n ≡ get_or bytes 1 0 → Width (body_marks bytes) n
  width_read n e = width_of row.fits.rule.marks (body-width bytes row.size row.fits) e

  pub mark_read : (i m : ℕ) → i < body_width (rule_in bytes) → m ≡ get_or bytes (2 + i) 0 → Mark (body_marks bytes) i m
  mark_read i m h e = mark_of row.fits.rule.marks h (body_mark bytes row.size row.fits i h) e

  -- The byte of a mark is its first place.
  pub place_read : (m n : ℕ) → m ≤ 12 → n ≡ get_or bytes (8 + m) 0 → n ≡ body_place (rule_in bytes) m
  place_read m n h e = e ∙ row.fits.places m h

  pub place_few : (m n : ℕ) → m ≤ 12 → n ≡ get_or bytes (8 + m) 0 → n ≤ 6
  place_few m n h e =
      let u = place_read m n h e in
      let v = place_within (rule_in bytes) m in
      omega (arith, row.fits.rule.marks.few)

  pub place-some : (i m n : ℕ) → i < body_width (rule_in bytes) → Mark (body_marks bytes) i m → n ≡ get_or bytes (8 + m) 0 → 1 ≤ n
  place-some i m n h r e =
      let u = place_read m n r.few e in
      let v = ap (λ (x : ℕ). body_place (rule_in bytes) x) r.is in
      omega (arith, first_some (body_marks bytes) i h)

  pub place_field : (i m n : ℕ) → Mark (body_marks bytes) i m → n ≡ get_or bytes (8 + m) 0 → n - 1 ≡ first_field (body_marks bytes) i
  place_field i m n r e = ap (λ (x : ℕ). x - 1) (place_read m n r.few e ∙ ap (λ (x : ℕ). body_place (rule_in bytes) x) r.is)

-- The H line that stands at a byte.
abbrev pub head_at : List ℕ → ℕ → Head
head_at bytes at = record { kind = get_or bytes at 0; marks = take (get_or bytes (at + 1) 0) (drop (at + 2) bytes) }

-- The marks of H line h, from 0, as the rule's bytes give them.
abbrev pub line_marks : List ℕ → ℕ → List ℕ
line_marks bytes h = (head_at bytes (32 + 8 * h)).marks

same_head : {k l : ℕ} {p q : List ℕ} → k ≡ l → p ≡ q → ◌≡◌ {A = Head} (record { kind = k; marks = p }) (record { kind = l; marks = q })
same_head e f = λ i. record { kind = e i; marks = f i }

head_first : (bytes : List ℕ) (b at : ℕ) → b ≡ at
    → ◌≡◌ {A = Head} (record { kind = get_or (drop b bytes) 0 0; marks = take (get_or (drop b bytes) 1 0) (drop 2 (drop b bytes)) }) (head_at bytes at)
head_first bytes b at e =
    same_head (get_or-drop b bytes 0 0 ∙ ap (λ (n : ℕ). get_or bytes n 0) (omega arith))
    (rw (get_or-drop b bytes 1 0, drop-drop 2 b bytes) (ap (λ (n : ℕ). take (get_or bytes (n + 1) 0) (drop (n + 2) bytes)) e))

pub heads-at : (bytes : List ℕ) (n b h : ℕ) → h < n → get_elem? (heads_in n (drop b bytes)) h ≡ some (head_at bytes (b + 8 * h))
heads-at bytes zero b h l = absurd (omega arith)
heads-at bytes (suc n) b zero l = ap some (head_first bytes b (b + 8 * 0) (omega arith))
heads-at bytes (suc n) b (suc h) l =
    rw (drop-drop 8 b bytes) (heads-at bytes n (b + 8) h (omega arith) ∙ ap (λ (k : ℕ). some (head_at bytes k)) (omega arith))

heads_in-length : (n : ℕ) (bytes : List ℕ) → length (heads_in n bytes) ≡ n
heads_in-length zero bytes = refl
heads_in-length (suc n) bytes = ap suc (heads_in-length n (drop 8 bytes))

pub heads_length : (bytes : List ℕ) → length (rule_in bytes).heads ≡ get_or bytes 28 0
unfolding rule_in
heads_length bytes = heads_in-length (get_or bytes 28 0) (drop 32 bytes)

module _ (bytes : List ℕ) (size : length bytes ≡ 64) (f : BytesFit bytes) where
  pub head-count : get_or bytes 28 0 ≡ length (rule_in bytes).heads
  head-count = sym (heads_length bytes)

  -- H line h, from 0.
  module _ (h : ℕ) (there : h < get_or bytes 28 0) where
    pub head_nth : nth (rule_in bytes).heads (suc h) ≡ some (head_at bytes (32 + 8 * h))
    unfolding rule_in
    head_nth = heads-at bytes (get_or bytes 28 0) 32 h there

    pub head_below : h < 4
    head_below = omega (arith, head-count, f.rule.few)

    pub head_fits : HeadFits (head_at bytes (32 + 8 * h))
    head_fits = all_in HeadFits (head_at bytes (32 + 8 * h)) (rule_in bytes).heads f.rule.heads (nth_in (rule_in bytes).heads (suc h) (head_at bytes (32 + 8 * h)) head_nth)

    pub head-width : get_or bytes (32 + 8 * h + 1) 0 ≡ length (line_marks bytes h)
    head-width =
        part_width (get_or bytes (32 + 8 * h + 1) 0) (drop (32 + 8 * h + 2) bytes)
        (inl (subst (λ (n : ℕ). get_or bytes n 0 ≤ 6) (omega arith) (f.widths h there)))
        (omega (arith, head_below, length-drop (32 + 8 * h + 2) bytes))
        head_fits.marks.few

    pub head_mark : (i : ℕ) → i < length (line_marks bytes h)
        → get_or bytes (32 + 8 * h + 2 + i) 0 ≡ get_or (line_marks bytes h) i 0
    head_mark i l = part_at (get_or bytes (32 + 8 * h + 1) 0) (32 + 8 * h + 2) bytes i l

module _ {bytes : List ℕ} (row : RowFits bytes) (h : ℕ) (there : h < get_or bytes 28 0) where
  pub head_width_read : (n : ℕ) → n ≡ get_or bytes (32 + 8 * h + 1) 0 → Width (line_marks bytes h) n
  head_width_read n e = width_of (head_fits bytes row.size row.fits h there).marks (head-width bytes row.size row.fits h there) e

  pub head_mark_read : (i m : ℕ) → i < length (line_marks bytes h) → m ≡ get_or bytes (32 + 8 * h + 2 + i) 0
      → Mark (line_marks bytes h) i m
  head_mark_read i m l e = mark_of (head_fits bytes row.size row.fits h there).marks l (head_mark bytes row.size row.fits h there i l) e
